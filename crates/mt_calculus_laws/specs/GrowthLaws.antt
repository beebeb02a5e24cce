-- The laws of larger environments and larger stores, and that of one instance, as statements.
use Rattle.std.specs.Prelude.{◌≡◌, ℕ, Some, slice_get}
use Rattle.mt_term.specs.declared.universes.UnivExpr.{UnivExpr}
use Rattle.mt_term.specs.Trees.{Tree}
use Rattle.mt_term.specs.Declarations.{Declaration, Environment}
use Rattle.mt_term.specs.Universes.{IsAtMost}
use Rattle.mt_term.specs.Stores.{Store}
use Rattle.mt_term.specs.StoreChanges.{Extends}
use Rattle.mt_calculus.specs.Conversion.{Conv, AtMost}
use Rattle.mt_term.specs.Instances.{InstanceOf}
use Rattle.mt_calculus.specs.SoundStore.{SoundStore}
use Rattle.mt_calculus.specs.SoundInstances.{SoundByInstances}

-- over any store, sound or not, a term has at most one instance
abbrev pub NoOtherInstanceLaw : Type 0
NoOtherInstanceLaw = (S : Store) (t u v : Tree) → InstanceOf S t u → InstanceOf S t v → u ≡ v

-- an environment with the same entries and further ones, and with at least the same order
pub record Enlarges (E E' : Environment) : Type 0 where
  pub entries : (c : ℕ) (d : Declaration) →
      slice_get (E.entries) c ≡ Some d → slice_get (E'.entries) c ≡ Some d
  pub order : (U V : UnivExpr) → IsAtMost (E.below) U V → IsAtMost (E'.below) U V

-- a sound store is sound in a larger environment
abbrev pub SoundStoreGrowthLaw : Type 0
SoundStoreGrowthLaw = (E E' : Environment) → Enlarges E E' → (S : Store) →
    SoundStore E S → SoundStore E' S

-- and so is one that is sound by instances
abbrev pub SoundInstancesGrowthLaw : Type 0
SoundInstancesGrowthLaw = (E E' : Environment) → Enlarges E E' → (S : Store) →
    SoundByInstances E S → SoundByInstances E' S

-- conversion, and the order of types, hold where further metavariables are declared or assigned
abbrev pub ConversionGrowthLaw : Type 0
ConversionGrowthLaw = (E : Environment) (S S' : Store) → Extends S S' → (t u : Tree) →
    (Conv E S t u → Conv E S' t u) × (AtMost E S t u → AtMost E S' t u)
