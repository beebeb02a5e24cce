-- What unification gives over a sound store, as the rules for it speak of it.
use Rattle.std.specs.Prelude.{List, true}
use Rattle.mt_term.specs.Trees.{Tree}
use Rattle.mt_term.specs.Declarations.{Hypothesis, Environment}
use Rattle.mt_term.specs.declared.modes.Mode.{Mode}
use Rattle.mt_term.specs.declared.modes.Mode.TheVariants.{Equal}
use Rattle.mt_rules.specs.Charges.{Charged}
use Rattle.mt_term.specs.Stores.{store_of}
use Rattle.mt_term.specs.StoreChanges.{Extends}
use Rattle.mt_calculus.specs.Typing.{Judgement, Stands, Holds}
use Rattle.mt_calculus.specs.SoundEnvironment.{SoundEnvironment}
use Rattle.mt_calculus.specs.SoundStore.{SoundStore}
use Rattle.mt_rules.specs.Inference.{context_types}
use Rattle.mt_calculus_laws.proofs.Steps.{ClosedEnv}
use Rattle.mt_calculus_laws.proofs.EnvironmentLaws.{closed_environment}
use Rattle.mt_rules_laws.proofs.ComparisonSoundness.{Fit, as_fit}
use Rattle.mt_rules_laws.proofs.Yields.{Yields}
use Rattle.mt_unification_rules.specs.Placeholders.{Metas}
use Rattle.mt_unification_rules.specs.Unification.{Question}
use Rattle.mt_unification_laws.proofs.Later.{extends_same, holds_later}

module _ (E : Environment) (env : SoundEnvironment E) where
  pub closed : ClosedEnv E
  closed = closed_environment E env

  -- a term stands in a context
  abbrev pub StandsIn : Metas → List Hypothesis → Tree → Type 0
  StandsIn ms Γ t = Holds E true (store_of ms) (context_types Γ) (Stands t)

  -- what a yes gives
  pub record Ok (ms ms' : Metas) (mode : Mode) (t u : Tree) : Type 0 where
    pub sound : SoundStore E (store_of ms')
    pub extends : Extends (store_of ms) (store_of ms')
    pub fit : Fit E (store_of ms') mode t u

  abbrev pub Told : Question → Metas → Type 0
  Told (ms, Γ, mode, t, u) ms' = SoundStore E (store_of ms) → StandsIn ms Γ t → StandsIn ms Γ u → Ok ms ms' mode t u

  -- a judgement over a sound store holds over a later one
  pub moved : (ms ms' : Metas) → SoundStore E (store_of ms) → Extends (store_of ms) (store_of ms') → (Γ : List Tree) (J : Judgement) → Holds E true (store_of ms) Γ J → Holds E true (store_of ms') Γ J
  moved ms ms' z x Γ J h = holds_later E closed (store_of ms) (store_of ms') z.owned x Γ J h

  pub nothing_new : (ms : Metas) (mode : Mode) (t u : Tree) → SoundStore E (store_of ms) → Fit E (store_of ms) mode t u → Ok ms ms mode t u
  nothing_new ms mode t u z f = record { sound = z; extends = extends_same (store_of ms); fit = f }

  pub as_mode : (ms ms' : Metas) (mode : Mode) (t u : Tree) → Ok ms ms' Equal t u → Ok ms ms' mode t u
  as_mode ms ms' mode t u r = record { sound = r.sound; extends = r.extends; fit = as_fit E (store_of ms') mode r.fit }

  -- what a question gives
  pub asked : (again : Question → Charged Metas) → ((q : Question) → Yields (again q) (Told q)) → (ms : Metas) (Γ : List Hypothesis) (mode : Mode) (t u : Tree) → SoundStore E (store_of ms) → StandsIn ms Γ t → StandsIn ms Γ u
      → Yields (again (ms, Γ, mode, t, u)) (λ ms'. Ok ms ms' mode t u)
  asked again ih ms Γ mode t u z h j n a r e = ih (ms, Γ, mode, t, u) n a r e z h j
