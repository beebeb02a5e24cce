-- Stores that are sound by instances, as a derivable state has one.
use Rattle.std.specs.Prelude.{◌≡◌, ℕ, true, List, Some}
use Rattle.mt_term.specs.Trees.{Tree}
use Rattle.mt_term.specs.Declarations.{Environment}
use Rattle.mt_term.specs.Stores.{Declared, Store, Owned, Acyclic}
use Rattle.mt_calculus.specs.Typing.{IsContext, IsType, Has, Holds}
use Rattle.mt_term.specs.Instances.{InstanceOf, InstanceContext, InstanceOfStore}

-- A metavariable, open or assigned, is sound by instances over the instance of the store: the
-- instance of its context is a context, that of its type is a type in it, and that of a body of it
-- has that type in it.
pub record SoundInstance (E : Environment) (S S' : Store) (d : Declared) : Type 0 where
  pub context : List Tree
  pub is_context : InstanceContext S (d.context) context
  pub ty : Tree
  pub is_ty : InstanceOf S (d.ty) ty
  pub typed_context : Holds E true S' context IsContext
  pub typed_ty : Holds E true S' context (IsType ty)
  pub typed_body : (b : Tree) → d.body ≡ Some b
      → (v : Tree) × InstanceOf S b v × Holds E true S' context (Has v ty)

-- A store is sound by instances: no metavariable is below itself, and each is sound over the
-- instance of the store.
pub record SoundByInstances (E : Environment) (S : Store) : Type 0 where
  pub owned : Owned S
  pub acyclic : Acyclic S
  pub instance : Store
  pub is_instance : InstanceOfStore S instance
  pub metavariables : (n : ℕ) (d : Declared) → S.at n ≡ Some d → SoundInstance E S instance d
