-- The laws over stores, as statements.
use mathlib.Core.Path.{ap}
use Rattle.std.specs.Prelude.{Bool, false, Option, ◌≡◌, ℕ, List, Some, None, true}
use Rattle.mt_term.specs.Trees.{Tree}
use Rattle.mt_term.specs.Declarations.{Environment}
use Rattle.mt_term.specs.Stores.{Declared, Store, AllMetasHeld, AllMetas, AllMetasOf, InStore}
use Rattle.mt_term.specs.Stores.{Reaches}
use Rattle.mt_calculus.specs.Typing.{Judgement, IsContext, IsType, Has, Stands, Holds}
use Rattle.mt_term.specs.Instances.{InstanceOf, InstanceContext, OpenInstance, InstanceOfStore}
use Rattle.mt_calculus.specs.SoundEnvironment.{SoundEnvironment}
use Rattle.mt_calculus.specs.SoundStore.{SoundStore}
use Rattle.mt_calculus.specs.SoundInstances.{SoundByInstances}
use Rattle.mt_term.specs.StoreChanges.{Puts, with_body}

-- the instance of a judgement
pub data InstanceJudgement (S : Store) : Judgement → Judgement → Type 0 where
  of_context : InstanceJudgement S IsContext IsContext
  of_type : {T U : Tree} → InstanceOf S T U → InstanceJudgement S (IsType T) (IsType U)
  of_has : {t u T U : Tree}
      → InstanceOf S t u
      → InstanceOf S T U
      → InstanceJudgement S (Has t T) (Has u U)
  of_stands : {t u : Tree} → InstanceOf S t u → InstanceJudgement S (Stands t) (Stands u)

-- over a sound store each term has one instance
abbrev pub OneInstanceLaw : Type 0
OneInstanceLaw =
    (E : Environment) (S : Store)
    → SoundEnvironment E
    → SoundStore E S
    → (t : Tree)
    → (u : Tree) × InstanceOf S t u × ((v : Tree) → InstanceOf S t v → v ≡ u)

-- a judgement over a sound store holds, as instance, over the instance of the store
abbrev pub InstanceLaw : Type 0
InstanceLaw =
    (E : Environment) (S S' : Store)
    → SoundEnvironment E
    → SoundStore E S
    → InstanceOfStore S S'
    → (Γ Γ' : List Tree) (J J' : Judgement)
    → InstanceContext S Γ Γ'
    → InstanceJudgement S J J'
    → Holds E true S Γ J
    → Holds E true S' Γ' J'

-- a sound store is sound by instances
abbrev pub SoundInstancesLaw : Type 0
SoundInstancesLaw =
    (E : Environment) (S : Store) → SoundEnvironment E → SoundStore E S → SoundByInstances E S

-- a new open metavariable, whose context is a context and whose type is a type in it, keeps a store
-- sound
abbrev pub DeclareLaw : Type 0
DeclareLaw =
    (E : Environment) (S S' : Store)
    → SoundEnvironment E
    → SoundStore E S
    → (n : ℕ) (d : Declared)
    → S.at n ≡ None
    → d.body ≡ None
    → AllMetasOf (InStore S) (d.context)
    → AllMetas (InStore S) (d.ty)
    → Holds E true S (d.context) IsContext
    → Holds E true S (d.context) (IsType (d.ty))
    → Puts S n d S' → SoundStore E S'

-- the assignment of an open metavariable, to a term of its type that does not reach it, keeps a
-- store sound
abbrev pub AssignLaw : Type 0
AssignLaw =
    (E : Environment) (S S' : Store)
    → SoundEnvironment E
    → SoundStore E S
    → (n : ℕ) (d : Declared) (v : Tree)
    → S.at n ≡ Some d
    → d.body ≡ None
    → AllMetas (InStore S) v
    → (Reaches S v n → ⊥)
    → Holds E true S (d.context) (Has v (d.ty))
    → Puts S n (with_body d v) S'
    → SoundStore E S'

-- a metavariable without its body, where it is kept
abbrev pub kept_as : Bool → Declared → Option Declared
kept_as true d = Some (record { context = d.context; ty = d.ty; body = None })
kept_as false d = Some d

abbrev pub without_body : Bool → Option Declared → Option Declared
without_body p None = None
without_body p (Some d) = kept_as p d

-- A store without the bodies of the metavariables that are kept. Its instances unfold the others
-- alone.
abbrev pub outside : Store → (ℕ → Bool) → Store
outside S kept =
    record {
      at = λ n. without_body (kept n) (S.at n);
      bound = S.bound;
      none = λ n h. ap (without_body (kept n)) (S.none n h);
    }

-- a set has all that its members' contexts, types and bodies mention
abbrev pub ClosedSet : Store → (ℕ → Bool) → Type 0
ClosedSet S kept =
    (n : ℕ) (d : Declared) → kept n ≡ true → S.at n ≡ Some d → AllMetasHeld (λ m. kept m ≡ true) d

-- the second store has the metavariables that are kept as they are, and of the others the open ones
-- alone, with the instances of their contexts and types
pub record UnfoldedStore (S : Store) (kept : ℕ → Bool) (S' : Store) : Type 0 where
  pub same : (n : ℕ) → kept n ≡ true → S'.at n ≡ S.at n
  pub absent : (n : ℕ) → S.at n ≡ None → S'.at n ≡ None
  pub assigned : (n : ℕ) (d : Declared) (b : Tree)
      → kept n ≡ false
      → S.at n ≡ Some d
      → d.body ≡ Some b
      → S'.at n ≡ None
  pub opened : (n : ℕ) (d : Declared)
      → kept n ≡ false
      → S.at n ≡ Some d
      → d.body ≡ None
      → (c : Declared) × (S'.at n ≡ Some c) × OpenInstance (outside S kept) d c

-- a judgement over a sound store holds where the assigned metavariables outside a closed set are
-- unfolded
abbrev pub UnfoldLaw : Type 0
UnfoldLaw =
    (E : Environment) (S S' : Store)
    → SoundEnvironment E
    → SoundStore E S
    → (kept : ℕ → Bool)
    → ClosedSet S kept
    → UnfoldedStore S kept S'
    → (Γ Γ' : List Tree) (J J' : Judgement)
    → InstanceContext (outside S kept) Γ Γ'
    → InstanceJudgement (outside S kept) J J'
    → Holds E true S Γ J
    → Holds E true S' Γ' J'
