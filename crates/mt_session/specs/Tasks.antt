-- What a unit asks for that declares no entry, what the kernel says of it, and what it makes of a state.
use Rattle.std.specs.Prelude.{ℕ, zero, suc, ◌+◌, true, List, [], ◌∷◌, ◌++◌, length, drop, Option, Some, None}
use Rattle.mt_term.specs.Trees.{Tree, Bytes}
use Rattle.mt_term.specs.Declarations.{Declaration, Definition, Environment}
use Rattle.mt_term.specs.States.{Metavariable, Note, EntryNote, ConstraintNote}
use Rattle.mt_term.specs.ScriptState.{Proof, State}
use Rattle.mt_calculus.specs.SoundEnvironment.{with_entry}
use Rattle.mt_rules.specs.Charges.{Outcome, Done, Refused, Spent, Charged, give}
use Rattle.mt_rules.specs.KernelCheck.{check, check_type}
use Rattle.mt_universe.specs.Graphs.{Universes, declared}

pub data Task : Type 0 where
  -- a constraint: the first name is below the second
  Order : Bytes → Bytes → Task
  -- a proof of a statement begins
  Begin : Bytes → Tree → Task
  -- a goal, its statement, and the term that closes it
  Close : ℕ → Tree → Tree → Task
  -- nothing
  Rest : Task
  -- the proof ends, with its name, its statement and its term as a definition
  Finish : Bytes → Tree → Tree → Task

-- ---- the kernel

-- an outcome without its answer
abbrev pub passed : {A : Type 0} → Outcome A → Outcome (Unit {0})
passed (Done a left) = Done tt left
passed (Refused r left) = Refused r left
passed Spent = Spent

-- the kernel on what a unit asks for
abbrev pub judged : Environment → Task → Charged (Unit {0})
judged E (Order a b) = give tt
judged E (Begin x T) = λ n. passed (check_type E T n)
judged E (Close n T t) = check E t T
judged E Rest = give tt
judged E (Finish x T b) = check E b T

-- ---- the state

-- the names and constraints of an environment
abbrev pub universes_of : Environment → Universes
universes_of E = record { names = E.names; below = E.below }

abbrev pub with_universes : Environment → Universes → Environment
with_universes E g = record { entries = E.entries; names = g.names; below = g.below }

-- an open metavariable in the empty context
abbrev pub open_goal : Tree → Metavariable
open_goal T = record { context = []; ty = T; body = None }

-- the store where a metavariable has this body
abbrev pub with_body : ℕ → Tree → List Metavariable → List Metavariable
with_body n t [] = []
with_body zero t (m ∷ ms) = record { context = m.context; ty = m.ty; body = Some t } ∷ ms
with_body (suc n) t (m ∷ ms) = m ∷ with_body n t ms

abbrev pub proof_from : Bytes → Tree → ℕ → Proof
proof_from x T n = record { name = x; ty = T; root = n; goals = (n, true) ∷ [] }

-- the proof without its first goal
abbrev pub without_goal : Option Proof → Option Proof
without_goal None = None
without_goal (Some p) = Some (record { name = p.name; ty = p.ty; root = p.root; goals = drop 1 p.goals })

-- the state after one more unit, which ends at a place, with these parts
abbrev pub onward : State → ℕ → Environment → List Metavariable → Option Proof → List Note → State
onward s end E ms p notes = record { env = E; store = ms; proof = p; units = s.units + 1; place = end; notes = notes }

abbrev pub with_entry_noted : State → ℕ → Declaration → State
with_entry_noted s end d = onward s end (with_entry s.env d) s.store None (s.notes ++ EntryNote (length s.env.entries) ∷ [])

-- the state after a unit that ends at a place
abbrev pub changed : State → ℕ → Task → State
changed s end (Order a b) = onward s end (with_universes s.env (declared (universes_of s.env) a b)) s.store s.proof (s.notes ++ ConstraintNote (length s.env.below) ∷ [])
changed s end (Begin x T) = onward s end s.env (s.store ++ open_goal T ∷ []) (Some (proof_from x T (length s.store))) s.notes
changed s end (Close n T t) = onward s end s.env (with_body n t s.store) (without_goal s.proof) s.notes
changed s end Rest = onward s end s.env s.store s.proof s.notes
changed s end (Finish x T b) = with_entry_noted s end (Definition x T b)
