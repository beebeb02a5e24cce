-- The laws of weak heads, comparison and inference over derivations, as statements.
use Rattle.std.specs.Prelude.{◌≡◌, ℕ, List, [], true, Some}
use Rattle.mt_term.specs.Trees.{Tree, Sort}
use Rattle.mt_term.specs.Declarations.{Hypothesis, Environment}
use Rattle.mt_term.specs.declared.universes.Sort.{Sort as AnySort}
use Rattle.mt_term.specs.declared.modes.Mode.{Mode}
use Rattle.mt_term.specs.declared.modes.Mode.TheVariants.{Equal, AtMost as InOrder}
use Rattle.mt_rules.specs.Charges.{Done}
use Rattle.mt_term.specs.Stores.{Store, Mentions}
use Rattle.mt_calculus.specs.Contraction.{Contracts}
use Rattle.mt_calculus.specs.Conversion.{Conv, AtMost}
use Rattle.mt_calculus.specs.Typing.{IsContext, Has, Holds, Strict}
use Rattle.mt_calculus.specs.SoundEnvironment.{SoundEnvironment}
use Rattle.mt_calculus.specs.SoundStore.{SoundStore}
use Rattle.mt_rules.specs.WeakHead.{whd, step, normal}
use Rattle.mt_rules.specs.Comparison.{convert}
use Rattle.mt_rules.specs.Inference.{infer, context_types}
use Rattle.mt_rules.specs.KernelCheck.{check_type, check}

-- a term is reached from another by contractions
pub data ReachedFrom (E : Environment) (S : Store) (t : Tree) : Tree → Type 0 where
  itself : ReachedFrom E S t t
  further : {u v : Tree} → ReachedFrom E S t u → Contracts E S u v → ReachedFrom E S t v

-- what a yes of the comparison means
abbrev pub Compared : Environment → Store → Mode → Tree → Tree → Type 0
Compared E S Equal t u = Conv E S t u
Compared E S InOrder t u = AtMost E S t u

-- the weak head, what a step makes, and the normal form are reached by contractions
abbrev pub WeakHeadLaw : Type 0
WeakHeadLaw =
    (E : Environment) (S : Store) (t u : Tree) (n l : ℕ)
    → whd E S t n ≡ Done u l
    → ReachedFrom E S t u

abbrev pub StepLaw : Type 0
StepLaw =
    (E : Environment) (S : Store) (t u : Tree) (n l : ℕ)
    → step E S t n ≡ Done (Some u) l
    → ReachedFrom E S t u

abbrev pub NormalFormLaw : Type 0
NormalFormLaw =
    (E : Environment) (S : Store) (t u : Tree) (n l : ℕ)
    → normal E S t n ≡ Done u l
    → ReachedFrom E S t u

-- a yes of the comparison gives conversion, or the order of types
abbrev pub ComparisonLaw : Type 0
ComparisonLaw =
    (E : Environment) (S : Store) (mode : Mode) (t u : Tree) (n l : ℕ)
    → convert E S mode t u n ≡ Done true l
    → Compared E S mode t u

-- over a sound environment and a sound store, in a context, the inferred type is a type of the term
abbrev pub InferenceLaw : Type 0
InferenceLaw =
    (E : Environment)
    → SoundEnvironment E
    → (S : Store)
    → SoundStore E S
    → (Γ : List Hypothesis) (t u : Tree) (n l : ℕ)
    → Holds E true S (context_types Γ) IsContext
    → infer E S Γ t n ≡ Done u l
    → Holds E true S (context_types Γ) (Has t u)

-- by a strict derivation, where no metavariable stands in the term and the context is one by a
-- strict derivation
abbrev pub StrictInferenceLaw : Type 0
StrictInferenceLaw =
    (E : Environment)
    → SoundEnvironment E
    → (S : Store) (Γ : List Hypothesis) (t u : Tree) (n l : ℕ)
    → Strict E (context_types Γ) IsContext
    → ((m : ℕ) → Mentions m t → ⊥)
    → infer E S Γ t n ≡ Done u l
    → Strict E (context_types Γ) (Has t u)

-- over a sound environment the kernel's checks of terms without metavariables give strict
-- derivations
abbrev pub TypeCheckLaw : Type 0
TypeCheckLaw =
    (E : Environment)
    → SoundEnvironment E
    → (ty : Tree) (s : AnySort) (n l : ℕ)
    → ((m : ℕ) → Mentions m ty → ⊥)
    → check_type E ty n ≡ Done s l
    → Strict E [] (Has ty (Sort s))

abbrev pub CheckLaw : Type 0
CheckLaw =
    (E : Environment)
    → SoundEnvironment E
    → (term ty : Tree) (z : Unit {0}) (n l : ℕ)
    → ((m : ℕ) → Mentions m term → ⊥)
    → ((m : ℕ) → Mentions m ty → ⊥)
    → check E term ty n ≡ Done z l
    → (s : AnySort) × Strict E [] (Has ty (Sort s)) × Strict E [] (Has term ty)
