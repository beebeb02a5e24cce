-- Applications, and `…` among their arguments, over a sound store.
use Rattle.std.specs.Prelude.{◌≡◌, ℕ, List, true, Option, Some, None}
use Rattle.std.proofs.Common.{subst}
use Rattle.mt_term.specs.Trees.{Tree, Prod}
use Rattle.mt_term.specs.Declarations.{Hypothesis}
use Rattle.mt_term.specs.Stores.{store_of}
use Rattle.mt_calculus.specs.Conversion.{same, conv}
use Rattle.mt_calculus.specs.Typing.{Has, k_of, k_dom}
use Rattle.mt_rules.specs.Inference.{Product, context_types}
use Rattle.mt_rules_laws.specs.ReductionLaws.{ReachedFrom}
use Rattle.mt_calculus_laws.proofs.Known.{known}
use Rattle.mt_unification_rules.specs.Placeholders.{Typed, placeholder}
use Rattle.mt_refinement_rules.specs.Settings.{Setting}
use Rattle.mt_refinement_laws.specs.SoundSettings.{SoundSetting}
use Rattle.mt_refinement_rules.specs.Finishing.{Refinement, on_argument}
use Rattle.mt_refinement_rules.specs.Binders.{product_in}
use Rattle.mt_refinement_rules.specs.Applications.{Rest, by_argument, by_vector, by_application}
use Rattle.mt_refinement_laws.proofs.PlacedYields.{by_finds, then_finds}
use Rattle.mt_refinement_laws.proofs.Vectors.{vector_finds}
use Rattle.mt_refinement_laws.proofs.MatchTypes.{product_yields, head_yields}
use Rattle.mt_refinement_laws.proofs.SoundEnds.{placeholder_ok, on_argument_ok, product_in_is, Over, Ok, Sound, SoundRest, has_reached, head_finds}

module _ (S : Setting) (good : SoundSetting S) where
  pub by_argument_sound : (Γ : List Hypothesis) (o : Option Tree) (place : ℕ) (a : Refinement) (rest : Rest) → Sound S.env good.env a → SoundRest S.env good.env Γ o rest → SoundRest S.env good.env Γ o (by_argument S Γ place a rest)
  by_argument_sound Γ o place a rest h j ms f z t r =
      then_finds (ReachedFrom S.env (store_of f.store) f.ty) (Ok S.env good.env ms Γ o) _ _ (head_finds S.env good.env place f.store f.ty) (λ u q.
      then_finds (λ p. u ≡ Prod p.name p.dom p.cod) (Ok S.env good.env ms Γ o) _ _ (by_finds (λ p. u ≡ Prod p.name p.dom p.cod) place _ (product_yields u)) (λ p e.
      let g : Over S.env good.env f.store Γ (Has f.term (Prod p.name p.dom p.cod)) = has_reached S.env good.env (store_of f.store) (context_types Γ) f.term f.ty (Prod p.name p.dom p.cod) r.typed (subst (ReachedFrom S.env (store_of f.store) f.ty) e q) in
      then_finds (Ok S.env good.env f.store Γ (Some p.dom)) (Ok S.env good.env ms Γ o) _ _ (h f.store Γ (Some p.dom) r.sound (known S.env true r.typed).0 (k_dom (k_of g))) (λ v k.
      j ms (on_argument f p v) z t (on_argument_ok S.env good.env ms Γ f p v r g k))))

  pub by_vector_sound : (Γ : List Hypothesis) (o : Option Tree) (place : ℕ) (rest : Rest) → SoundRest S.env good.env Γ o rest → SoundRest S.env good.env Γ o (by_vector S Γ place rest)
  by_vector_sound Γ o place rest h ms f z t r =
      vector_finds S Γ place (Ok S.env good.env ms Γ None) (λ g u. ReachedFrom S.env (store_of g.store) g.ty u) (Ok S.env good.env ms Γ o) (λ g i. head_yields S.env (store_of g.store) g.ty) keeps rest (λ g i. h ms g z t i) f r
    where
      keeps : (g : Typed) → Ok S.env good.env ms Γ None g → (u : Tree) → ReachedFrom S.env (store_of g.store) g.ty u → (p : Product) → product_in u ≡ Some p → Ok S.env good.env ms Γ None (on_argument g p (placeholder g.store Γ p.dom))
      keeps g i u q p e =
          let k : Over S.env good.env g.store Γ (Has g.term (Prod p.name p.dom p.cod)) = has_reached S.env good.env (store_of g.store) (context_types Γ) g.term g.ty (Prod p.name p.dom p.cod) i.typed (subst (ReachedFrom S.env (store_of g.store) g.ty) (product_in_is u p e) q) in
          let a = placeholder_ok S.env good.env g.store Γ p.dom i.sound (k_dom (k_of k)) in
          on_argument_ok S.env good.env ms Γ g p (placeholder g.store Γ p.dom) i k (record { sound = a.sound; extends = a.extends; typed = a.typed; fits = conv same })

  pub by_application_sound : (m : Refinement) (rest : List Hypothesis → Option Tree → Rest) → Sound S.env good.env m → ((Γ : List Hypothesis) (o : Option Tree) → SoundRest S.env good.env Γ o (rest Γ o)) → Sound S.env good.env (by_application m rest)
  by_application_sound m rest h j ms Γ o z c t = then_finds (Ok S.env good.env ms Γ None) (Ok S.env good.env ms Γ o) _ _ (h ms Γ None z c tt) (λ f r. j Γ o ms f z t r)
