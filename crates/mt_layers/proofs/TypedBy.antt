-- An inferred type is one by derivations.
use Rattle.std.proofs.Common.{◌≡◌, ℕ, List, [], None, slice_get, ap, sym, ◌∙◌}
use Rattle.mt_term.specs.Trees.{Tree}
use Rattle.mt_term.specs.Declarations.{Hypothesis, Environment}
use Rattle.mt_rules.specs.Charges.{Done}
use Rattle.mt_rules.specs.Inference.{infer}
use Rattle.mt_calculus.specs.SoundStore.{SoundStore}
use Rattle.mt_term.specs.Stores.{Store}
use Rattle.mt_term.proofs.Options.{none_some}
use Rattle.mt_rules_laws.proofs.ReductionTheorems.{inference_law, strict_inference_law}
use Rattle.mt_store.specs.declared.metavariables.HeldMeta.{HeldMeta}
use Rattle.mt_store.specs.Held.{store_in}
use Rattle.mt_store.proofs.HeldLaws.{store_none}
use Rattle.mt_layers.specs.Typed.{IsTyped}

-- a store without metavariables is sound
pub no_metavariables : (E : Environment) (p : List Tree) (ms : List HeldMeta) → ms ≡ [] → SoundStore E (store_in p ms)
no_metavariables E p ms e = record { owned = λ n d f. absurd (none_some (sym (none n) ∙ f)); metavariables = λ n d f. absurd (none_some (sym (none n) ∙ f)) }
  where
    none : (n : ℕ) → (store_in p ms).at n ≡ None
    none n = store_none p ms n (ap (λ (v : List HeldMeta). slice_get v n) e)

pub typed_by : (E : Environment) (S : Store) (Γ : List Hypothesis) (t u : Tree) (n l : ℕ) → infer E S Γ t n ≡ Done u l → IsTyped E S Γ t u
typed_by E S Γ t u n l e = record {
  typed = λ sound stored c. inference_law E sound S stored Γ t u n l c e;
  strict = λ sound c free. strict_inference_law E sound S Γ t u n l c free e;
}
