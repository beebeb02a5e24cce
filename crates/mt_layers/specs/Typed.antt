-- What an inferred type gives.
use Rattle.std.specs.Prelude.{ℕ, true, List}
use Rattle.mt_term.specs.Trees.{Tree}
use Rattle.mt_term.specs.Declarations.{Hypothesis, Environment}
use Rattle.mt_rules.specs.Inference.{context_types}
use Rattle.mt_calculus.specs.SoundEnvironment.{SoundEnvironment}
use Rattle.mt_calculus.specs.SoundStore.{SoundStore}
use Rattle.mt_term.specs.Stores.{Store, Mentions}
use Rattle.mt_calculus.specs.Typing.{IsContext, Has, Holds, Strict}

-- Over a sound environment: over a sound store, in a context, the type is one of the term; by a
-- strict derivation over no store, where the context is one by a strict derivation and no
-- metavariable stands in the term.
pub record IsTyped (E : Environment) (S : Store) (Γ : List Hypothesis) (t u : Tree) : Type 0 where
  pub typed : SoundEnvironment E
      → SoundStore E S
      → Holds E true S (context_types Γ) IsContext
      → Holds E true S (context_types Γ) (Has t u)
  pub strict : SoundEnvironment E
      → Strict E (context_types Γ) IsContext
      → ((m : ℕ) → Mentions m t → ⊥)
      → Strict E (context_types Γ) (Has t u)
