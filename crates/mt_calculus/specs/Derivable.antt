-- Derivable states: what is printed of them has derivations with the open metavariables alone.
use Rattle.std.specs.Prelude.{◌≡◌, ℕ, true, List, [], Option, Some, None, slice_get}
use Rattle.mt_term.specs.Trees.{Tree, Meta, End}
use Rattle.mt_term.specs.Declarations.{Environment}
use Rattle.mt_term.specs.States.{Metavariable}
use Rattle.mt_term.specs.Stores.{Store, store_of, types_of}
use Rattle.mt_calculus.specs.Typing.{IsContext, IsType, Has, Holds}
use Rattle.mt_term.specs.Instances.{InstanceOf, InstanceOfStore}
use Rattle.mt_term.specs.Instancing.{instance, instances}
use Rattle.mt_calculus.specs.SoundEnvironment.{SoundEnvironment}
use Rattle.mt_calculus.specs.SoundInstances.{SoundByInstances}
use Rattle.mt_term.specs.ScriptState.{Proof, State}

-- An open metavariable over the instance of the store: what is printed of its context is a context,
-- and what is printed of its type is a type in it.
pub record DerivableGoal (E : Environment) (ms : List Metavariable) (S : Store) (m : Metavariable)
    : Type 0 where
  pub context : Holds E true S (types_of (instances ms m.context)) IsContext
  pub ty : Holds E true S (types_of (instances ms m.context)) (IsType (instance ms m.ty))

-- The term that is printed of an open proof is the instance of its first metavariable, and has the
-- statement, which is printed as it stands, as its type over the instance of the store; and so are
-- the goals, which are open metavariables, derivable.
pub record DerivableProof (E : Environment) (ms : List Metavariable) (p : Proof) : Type 0 where
  pub open_store : Store
  pub is_instance : InstanceOfStore (store_of ms) open_store
  pub is_term : InstanceOf (store_of ms) (Meta p.root End) (instance ms (Meta p.root End))
  pub is_statement : instance ms p.ty ≡ p.ty
  pub typed : Holds E true open_store [] (Has (instance ms (Meta p.root End)) p.ty)
  pub goals : (n : ℕ) (m : Metavariable) → slice_get ms n ≡ Some m → m.body ≡ None
      → DerivableGoal E ms open_store m

abbrev pub DerivableIfOpen : Environment → List Metavariable → Option Proof → Type 0
DerivableIfOpen E ms None = Unit {0}
DerivableIfOpen E ms (Some p) = DerivableProof E ms p

-- The environment is sound, the store is sound by instances, and the open proof is derivable.
pub record Derivable (s : State) : Type 0 where
  pub env : SoundEnvironment s.env
  pub store : SoundByInstances s.env (store_of s.store)
  pub proof : DerivableIfOpen s.env s.store s.proof
