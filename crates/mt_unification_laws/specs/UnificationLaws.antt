-- The laws of unification, as statements.
use Rattle.std.specs.Prelude.{◌≡◌, ℕ, List, [], Some, true, slice_get}
use Rattle.std.specs.Bool.{Decides}
use Rattle.mt_term.specs.Trees.{Tree}
use Rattle.mt_term.specs.Declarations.{Hypothesis, Environment}
use Rattle.mt_term.specs.Reasons.{Reason, Mismatch}
use Rattle.mt_term.specs.States.{Metavariable, Hint}
use Rattle.mt_rules.specs.Charges.{Done, Refused}
use Rattle.mt_term.specs.Stores.{Owned, Acyclic, AllMetas, InStore, Reaches, store_of}
use Rattle.mt_term.specs.StoreChanges.{Extends}
use Rattle.mt_calculus.specs.Typing.{Stands, Holds}
use Rattle.mt_calculus.specs.SoundEnvironment.{SoundEnvironment}
use Rattle.mt_calculus.specs.SoundStore.{SoundStore}
use Rattle.mt_rules.specs.Inference.{context_types}
use Rattle.mt_rules_laws.specs.AllowanceLaws.{GoesByAllowance}
use Rattle.mt_rules_laws.specs.ReductionLaws.{Compared}
use Rattle.mt_term.specs.declared.modes.Mode.{Mode}
use Rattle.mt_unification_rules.specs.Reach.{reaches}
use Rattle.mt_unification_rules.specs.Placeholders.{Metas}
use Rattle.mt_unification_laws.specs.ProperStores.{Proper, Own, OwnContext, MetaFreeEnvironment, MetaFreeHints}
use Rattle.mt_unification_laws.specs.TypedHints.{SoundHints}
use Rattle.mt_unification_rules.specs.Unification.{unify}

-- what is not spent at an allowance is the same at a greater one, with as much more left; and never more is left than was given
abbrev pub UnificationAllowanceLaw : Type 0
UnificationAllowanceLaw = (E : Environment) (H : List Hint) (ms : Metas) (Γ : List Hypothesis) (mode : Mode) (t u : Tree) → GoesByAllowance (unify E H ms Γ mode t u)

-- a refusal shows the two terms in their context
abbrev pub UnificationRefusalLaw : Type 0
UnificationRefusalLaw = (E : Environment) (H : List Hint) (ms : Metas) (Γ : List Hypothesis) (mode : Mode) (t u : Tree) (r : Reason) (n l : ℕ) → unify E H ms Γ mode t u n ≡ Refused r l → r ≡ Mismatch Γ t u []

-- a metavariable is kept: it has the same context, names too, and the same type, and its body if it has one
pub record KeptMeta (m m' : Metavariable) : Type 0 where
  pub context : m'.context ≡ m.context
  pub ty : m'.ty ≡ m.ty
  pub body : (b : Tree) → m.body ≡ Some b → m'.body ≡ Some b

-- a store grows: each metavariable is kept at its place
abbrev pub Grows : Metas → Metas → Type 0
Grows ms ms' = (n : ℕ) (m : Metavariable) → slice_get ms n ≡ Some m → (m' : Metavariable) × (slice_get ms' n ≡ Some m') × KeptMeta m m'

-- the new store has each metavariable of the old one
abbrev pub UnificationGrowthLaw : Type 0
UnificationGrowthLaw = (E : Environment) (H : List Hint) (ms ms' : Metas) (Γ : List Hypothesis) (mode : Mode) (t u : Tree) (n l : ℕ) → unify E H ms Γ mode t u n ≡ Done ms' l → Grows ms ms'

-- Over a sound environment, with sound hints, and over a sound store, where both terms stand in the context, the new store is sound and extends the old one,
-- and over it the terms are convertible, or the first is at most the second, by the mode.
abbrev pub UnificationLaw : Type 0
UnificationLaw = (E : Environment) → SoundEnvironment E → (H : List Hint) → SoundHints E H → (ms ms' : Metas) (Γ : List Hypothesis) (mode : Mode) (t u : Tree) (n l : ℕ) → SoundStore E (store_of ms)
    → Holds E true (store_of ms) (context_types Γ) (Stands t) → Holds E true (store_of ms) (context_types Γ) (Stands u) → unify E H ms Γ mode t u n ≡ Done ms' l
    → SoundStore E (store_of ms') × Extends (store_of ms) (store_of ms') × Compared E (store_of ms') mode t u

-- over a store that mentions its own metavariables alone, none of them below itself, the test says exactly what is reached
abbrev pub ReachTestLaw : Type 0
ReachTestLaw = (ms : Metas) → Owned (store_of ms) → Acyclic (store_of ms) → (t : Tree) → AllMetas (InStore (store_of ms)) t → (n : ℕ) → Decides (reaches ms t n) (Reaches (store_of ms) t n)

-- Where environment and hints mention no metavariable, and context and terms those of the store alone, unification keeps a store proper. Nothing is asked of types.
abbrev pub UnificationProperLaw : Type 0
UnificationProperLaw = (E : Environment) → MetaFreeEnvironment E → (H : List Hint) → MetaFreeHints H → (ms ms' : Metas) (Γ : List Hypothesis) (mode : Mode) (t u : Tree) (n l : ℕ)
    → Proper ms → OwnContext ms Γ → Own ms t → Own ms u → unify E H ms Γ mode t u n ≡ Done ms' l → Proper ms'
