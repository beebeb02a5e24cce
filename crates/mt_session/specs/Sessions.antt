-- What the program's state and the tasks of units say.
use Rattle.std.specs.Prelude.{◌≡◌, ◌≤◌, ℕ, List, [], ◌∷◌, ◌++◌, length, Option, Some, None}
use Rattle.std.specs.Str.{IsCharBoundary}
use Rattle.mt_term.specs.Trees.{Bytes}
use Rattle.mt_term.specs.TreeOf.{tree_of}
use Rattle.mt_term.specs.MetaOf.{body_of}
use Rattle.mt_term.specs.EnvironmentOf.{environment_of}
use Rattle.mt_term.specs.States.{Metavariable}
use Rattle.mt_term.specs.ScriptState.{Proof, State}
use Rattle.mt_env.specs.Environments.{EntriesBelow, declarations_in}
use Rattle.mt_resolver.specs.TableOf.{AreNamesOf}
use Rattle.mt_session.specs.declared.sessions.OpenProof.{OpenProof}
use Rattle.mt_session.specs.declared.sessions.Session.{Session}
use Rattle.mt_session.specs.declared.tasks.Task.{Task as ProgramTask}
use Rattle.mt_session.specs.declared.tasks.Task.TheVariants as task
use Rattle.mt_session.specs.Tasks.{Task, Order, Begin, Close, Rest, Finish, universes_of}
use Rattle.mt_session.specs.Ready.{goals_of, SoundState}

abbrev pub meta_in : OpenProof → Metavariable
meta_in p = record { context = []; ty = tree_of p.ty; body = body_of p.body }

-- the store: the metavariables of earlier proofs, and that of the open one
abbrev pub store_in : List Metavariable → Option OpenProof → List Metavariable
store_in ms None = ms
store_in ms (Some p) = ms ++ meta_in p ∷ []

-- an open proof whose first metavariable has this number
abbrev pub opened : ℕ → OpenProof → Proof
opened n p = record { name = p.name; ty = tree_of p.ty; root = n; goals = goals_of n (body_of p.body) }

abbrev pub proof_in : ℕ → Option OpenProof → Option Proof
proof_in n None = None
proof_in n (Some p) = Some (opened n p)

abbrev pub state_in : Session → State
state_in s = record { env = environment_of s.env; store = store_in s.metas s.proof; proof = proof_in (length s.metas) s.proof; units = s.units; place = s.place; notes = s.notes }

abbrev pub task_of : ProgramTask → Task
task_of (task.Order a b) = Order a b
task_of (task.Begin x T) = Begin x (tree_of T)
task_of (task.Close n T t) = Close n (tree_of T) (tree_of t)
task_of task.Rest = Rest
task_of (task.Finish x T b) = Finish x (tree_of T) (tree_of b)

-- the names and the entries in the pool that stand beside an environment are its own
pub record AreTables (s : Session) : Type 0 where
  pub names : AreNamesOf s.names s.env.entries
  pub entries : declarations_in s.pool s.held.entries ≡ s.env.entries
  pub graph : s.held.graph ≡ universes_of (environment_of s.env)
  pub below : EntriesBelow (length s.pool) s.held.entries

-- a state from which units of a text can be taken
pub record IsReady (text : Bytes) (s : Session) : Type 0 where
  pub tables : AreTables s
  pub sound : SoundState (state_in s)
  pub count : s.units ≤ s.place
  pub place : IsCharBoundary text s.place
