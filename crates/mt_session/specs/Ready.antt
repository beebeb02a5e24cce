-- What holds of each state of a run.
use Rattle.std.specs.Prelude.{◌≡◌, ℕ, Bool, true, List, [], ◌∷◌, ◌++◌, Option, Some, None, slice_get, drop}
use Rattle.mt_term.specs.Trees.{Tree, Sort}
use Rattle.mt_term.specs.declared.universes.Sort.{Sort as AnySort}
use Rattle.mt_calculus.specs.Typing.{Has, Strict}
use Rattle.mt_calculus.specs.SoundEnvironment.{SoundEnvironment}
use Rattle.mt_term.specs.Declarations.{Definition, Environment}
use Rattle.mt_term.specs.Naming.{named, naming}
use Rattle.mt_term.specs.States.{Metavariable}
use Rattle.mt_term.specs.Stores.{Mentions}
use Rattle.mt_term.specs.ScriptState.{Proof, State}
use Rattle.mt_term.specs.UniverseOrder.{acyclic}
use Rattle.mt_env.specs.Names.{Distinct}
use Rattle.mt_universe.specs.Graphs.{declared}
use Rattle.mt_session.specs.Tasks.{Task, Order, Begin, Close, Rest, Finish, universes_of, open_goal}

-- no metavariable stands in a term
abbrev pub MentionsNothing : Tree → Type 0
MentionsNothing t = (m : ℕ) → Mentions m t → ⊥

-- a metavariable in the empty context: its type has a sort, and its body has the type, by strict derivations
pub record IsTyped (E : Environment) (m : Metavariable) : Type 0 where
  pub context : m.context ≡ []
  pub sort : AnySort
  pub ty : Strict E [] (Has m.ty (Sort sort))
  pub body : (b : Tree) → m.body ≡ Some b → Strict E [] (Has b m.ty)

-- the goals of a proof whose first metavariable has this body, if it has one
abbrev pub goals_of : ℕ → Option Tree → List (ℕ × Bool)
goals_of n None = (n, true) ∷ []
goals_of n (Some b) = []

-- The first metavariable of a proof has its statement as its type, and is the goal where it is open; the proof's name is new.
pub record IsProofOf (E : Environment) (ms : List Metavariable) (p : Proof) : Type 0 where
  pub body : Option Tree
  pub is : slice_get ms p.root ≡ Some (record { context = []; ty = p.ty; body = body })
  pub goals : p.goals ≡ goals_of p.root body
  pub fresh : named E.entries p.name ≡ None

abbrev pub IsOpenProof : Environment → List Metavariable → Option Proof → Type 0
IsOpenProof E ms None = Unit {0}
IsOpenProof E ms (Some p) = IsProofOf E ms p

-- the terms of a state have strict derivations, and no name stands twice
pub record SoundState (s : State) : Type 0 where
  pub env : SoundEnvironment s.env
  pub names : Distinct (naming s.env.entries)
  pub metas : (n : ℕ) (m : Metavariable) → slice_get s.store n ≡ Some m → IsTyped s.env m
  pub proof : IsOpenProof s.env s.store s.proof

-- a term closes the goal of an open proof, its first metavariable
pub record ClosesGoal (s : State) (n : ℕ) (T t : Tree) : Type 0 where
  pub proof : Proof
  pub is_proof : s.proof ≡ Some proof
  pub root : proof.root ≡ n
  pub statement : proof.ty ≡ T
  pub last : drop 1 proof.goals ≡ []
  pub is : slice_get s.store n ≡ Some (open_goal T)
  pub term : MentionsNothing t

-- what a unit asks for fits a state
abbrev pub IsTaskOf : State → Task → Type 0
IsTaskOf s (Order a b) = (s.proof ≡ None) × (acyclic (declared (universes_of s.env) a b).below ≡ true)
IsTaskOf s (Begin x T) = (s.proof ≡ None) × MentionsNothing T × (named s.env.entries x ≡ None)
IsTaskOf s (Close n T t) = ClosesGoal s n T t
IsTaskOf s Rest = Unit {0}
IsTaskOf s (Finish x T b) = MentionsNothing T × MentionsNothing b × Distinct (naming (s.env.entries ++ Definition x T b ∷ []))
