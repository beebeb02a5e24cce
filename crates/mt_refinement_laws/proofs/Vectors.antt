-- What `…` yields: what the rest of the application does, wherever placeholders lead.
use Rattle.std.specs.Prelude.{◌≡◌, refl, ℕ, zero, suc, List, Option, Some, None}
use Rattle.mt_term.specs.Trees.{Tree}
use Rattle.mt_term.specs.Declarations.{Hypothesis}
use Rattle.mt_term.specs.Reasons.{Reason}
use Rattle.mt_term.specs.Stores.{store_of}
use Rattle.mt_rules.specs.WeakHead.{whd}
use Rattle.mt_rules.specs.Inference.{Product}
use Rattle.mt_rules_laws.proofs.Yields.{Yields, fixed_yields}
use Rattle.mt_resolver.specs.Resolution.{Resolution}
use Rattle.mt_refinement_rules.specs.Placed.{Placed, faults, tried}
use Rattle.mt_unification_rules.specs.Placeholders.{Typed, placeholder}
use Rattle.mt_refinement_rules.specs.Settings.{Setting}
use Rattle.mt_refinement_rules.specs.Finishing.{on_argument}
use Rattle.mt_refinement_rules.specs.Binders.{product_in}
use Rattle.mt_refinement_rules.specs.Applications.{Rest, on_product, placeholders, one_more, by_vector}
use Rattle.mt_refinement_laws.proofs.PlacedYields.{IfFound, Finds, finds_nothing, charge_finds, by_finds, then_finds, try_finds}

-- functions that have a property I, with what is known of their weak heads, get placeholders and keep it; with it the rest of the application yields Q
module _ (S : Setting) (Γ : List Hypothesis) (place : ℕ) (I : Typed → Type 0) (Head : Typed → Tree → Type 0) (Q : Typed → Type 0)
    (heads : (f : Typed) → I f → Yields (whd S.env (store_of f.store) f.ty) (Head f))
    (keeps : (f : Typed) → I f → (u : Tree) → Head f u → (p : Product) → product_in u ≡ Some p → I (on_argument f p (placeholder f.store Γ p.dom))) where
  module _ (r : Reason) (at : ℕ) where
    placeholders_find : (j : ℕ) (rest : Rest) → ((f : Typed) → I f → Finds (rest f) Q) → (f : Typed) → I f → Finds (placeholders S Γ place (faults r at) j rest f) Q
    placeholders_find zero rest h f i = h f i
    placeholders_find (suc j) rest h f i = then_finds (Head f) Q _ _ (by_finds (Head f) place _ (heads f i)) (λ u g. one u g (product_in u) refl (placeholders_find j rest h))
      where
        one : (u : Tree) → Head f u → (p : Option Product) → product_in u ≡ p → ((f : Typed) → I f → Finds (placeholders S Γ place (faults r at) j rest f) Q) → Finds (on_product Γ (faults r at) (placeholders S Γ place (faults r at) j rest) f p) Q
        one u g (Some p) e more = charge_finds Q _ (more _ (keeps f i u g p e))
        one u g None e more = finds_nothing Q r at

    one_more_finds : (rest : Rest) → ((f : Typed) → I f → Finds (rest f) Q) → (f : Typed) → I f → (again : ℕ → Placed Typed) → ((j : ℕ) → Finds (again j) Q) → (j : ℕ) → Finds (one_more S Γ place rest f r at again j) Q
    one_more_finds rest h f i again g j = placeholders_find (suc j) (λ e. tried (rest e) (λ s p. again (suc j))) (λ e k. try_finds Q (rest e) _ (h e k) (λ s p. g (suc j))) f i

  pub vector_finds : (rest : Rest) → ((f : Typed) → I f → Finds (rest f) Q) → (f : Typed) → I f → Finds (by_vector S Γ place rest f) Q
  vector_finds rest h f i =
      try_finds Q (rest f) _ (h f i) (λ r at.
      record { yields = fixed_yields ℕ (λ j. Resolution Typed) (one_more S Γ place rest f r at) (λ j. IfFound Q) (λ again g j. (one_more_finds r at rest h f i again (λ k. record { yields = g k }) j).yields) zero })
