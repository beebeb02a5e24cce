-- The laws of refinement, as statements.
use Rattle.std.specs.Prelude.{◌≡◌, ℕ, List, true, Option, Some}
use Rattle.mt_term.specs.Trees.{Tree}
use Rattle.mt_term.specs.Declarations.{Hypothesis}
use Rattle.mt_term.specs.Reasons.{Reason}
use Rattle.mt_rules.specs.Charges.{Done, Refused}
use Rattle.mt_term.specs.Stores.{store_of}
use Rattle.mt_term.specs.StoreChanges.{Extends}
use Rattle.mt_calculus.specs.Conversion.{AtMost}
use Rattle.mt_calculus.specs.Typing.{IsContext, IsType, Has, Holds}
use Rattle.mt_calculus.specs.SoundStore.{SoundStore}
use Rattle.mt_rules.specs.Inference.{context_types}
use Rattle.mt_rules_laws.specs.AllowanceLaws.{GoesByAllowance}
use Rattle.mt_unification_rules.specs.Placeholders.{Metas, Typed}
use Rattle.mt_unification_laws.specs.UnificationLaws.{Grows}
use Rattle.mt_term_parser.specs.Written.{Written}
use Rattle.mt_resolver.specs.Resolution.{Found, Faults}
use Rattle.mt_refinement_rules.specs.Settings.{Setting}
use Rattle.mt_unification_laws.specs.ProperStores.{Proper, Own, OwnContext}
use Rattle.mt_refinement_laws.specs.ProperSettings.{MetaFreeSetting}
use Rattle.mt_refinement_laws.specs.SoundSettings.{SoundSetting}
use Rattle.mt_refinement_laws.specs.Meets.{Meets}
use Rattle.mt_refinement_laws.specs.Places.{IsPlaceIn}
use Rattle.mt_refinement_rules.specs.Refinement.{refine}

-- what is not spent at an allowance is the same at a greater one, with as much more left; and never more is left than was given
abbrev pub RefinementAllowanceLaw : Type 0
RefinementAllowanceLaw = (S : Setting) (ms : Metas) (Γ : List Hypothesis) (w : Written) (o : Option Tree) → GoesByAllowance (refine S ms Γ w o)

-- the new store has each metavariable of the old one
abbrev pub RefinementGrowthLaw : Type 0
RefinementGrowthLaw = (S : Setting) (ms : Metas) (Γ : List Hypothesis) (w : Written) (o : Option Tree) (t : Typed) (n l : ℕ) → refine S ms Γ w o n ≡ Done (Found t) l → Grows ms t.store

-- In a sound setting and over a sound store, in a context, against a type in it where one is expected: the new store is sound and extends the old one,
-- and over it the term has the type, which is at most the expected one.
abbrev pub RefinementLaw : Type 0
RefinementLaw = (S : Setting) → SoundSetting S → (ms : Metas) (Γ : List Hypothesis) (w : Written) (o : Option Tree) (t : Typed) (n l : ℕ) → SoundStore S.env (store_of ms)
    → Holds S.env true (store_of ms) (context_types Γ) IsContext → ((U : Tree) → o ≡ Some U → Holds S.env true (store_of ms) (context_types Γ) (IsType U)) → refine S ms Γ w o n ≡ Done (Found t) l
    → SoundStore S.env (store_of t.store) × Extends (store_of ms) (store_of t.store) × Holds S.env true (store_of t.store) (context_types Γ) (Has t.term t.ty) × ((U : Tree) → o ≡ Some U → AtMost S.env (store_of t.store) t.ty U)

-- a refusal has a place, which is that of the raw term or of one that stands in it
abbrev pub RefinementPlaceLaw : Type 0
RefinementPlaceLaw = (S : Setting) (ms : Metas) (Γ : List Hypothesis) (w : Written) (o : Option Tree) (r : Reason) (n l : ℕ)
    → (refine S ms Γ w o n ≡ Refused r l → ⊥) × ((at : ℕ) → refine S ms Γ w o n ≡ Done (Faults r at) l → IsPlaceIn w at)

-- Where the setting mentions no metavariable, and context and expected type those of the store alone, refinement keeps a store proper, and its term and type mention metavariables of the new store alone.
-- Nothing is asked of types.
abbrev pub RefinementProperLaw : Type 0
RefinementProperLaw = (S : Setting) → MetaFreeSetting S → (ms : Metas) (Γ : List Hypothesis) (w : Written) (o : Option Tree) (t : Typed) (n l : ℕ)
    → Proper ms → OwnContext ms Γ → ((U : Tree) → o ≡ Some U → Own ms U) → refine S ms Γ w o n ≡ Done (Found t) l → Proper t.store × Own t.store t.term × Own t.store t.ty

-- what is found, whatever is known of the setting and the store: the store grows; it is proper where the old one is; and it is sound, with the term typed, where the old one is sound
pub record Refined (S : Setting) (ms : Metas) (Γ : List Hypothesis) (o : Option Tree) (t : Typed) : Type 0 where
  pub grows : Grows ms t.store
  pub proper : MetaFreeSetting S → Proper ms → OwnContext ms Γ → ((U : Tree) → o ≡ Some U → Own ms U) → Proper t.store × Own t.store t.term × Own t.store t.ty
  pub sound : SoundSetting S → SoundStore S.env (store_of ms) → Holds S.env true (store_of ms) (context_types Γ) IsContext → ((U : Tree) → o ≡ Some U → Holds S.env true (store_of ms) (context_types Γ) (IsType U))
      → SoundStore S.env (store_of t.store) × Extends (store_of ms) (store_of t.store) × Holds S.env true (store_of t.store) (context_types Γ) (Has t.term t.ty) × ((U : Tree) → o ≡ Some U → AtMost S.env (store_of t.store) t.ty U)

-- refinement meets its laws: it goes by its allowance, what is found is as told, and a refusal stands at a place in the raw term
abbrev pub RefinementMeetsLaw : Type 0
RefinementMeetsLaw = (S : Setting) (ms : Metas) (Γ : List Hypothesis) (w : Written) (o : Option Tree) → Meets (Refined S ms Γ o) (λ r at. IsPlaceIn w at) (refine S ms Γ w o)
