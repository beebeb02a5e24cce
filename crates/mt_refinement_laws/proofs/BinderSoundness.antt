-- Abstractions, products and casts over a sound store.
use Rattle.std.specs.Prelude.{◌≡◌, refl, ℕ, List, ◌∷◌, true, Option, Some, None}
use Rattle.std.proofs.Common.{sym, subst}
use Rattle.mt_term.specs.Trees.{Bytes, Tree, Sort, Prod, Lam}
use Rattle.mt_term.specs.Declarations.{Hypothesis}
use Rattle.mt_term.specs.UniverseForms.{sort_of_product}
use Rattle.mt_term.specs.Stores.{store_of}
use Rattle.mt_term.specs.StoreChanges.{Extends}
use Rattle.mt_calculus.specs.Conversion.{Conv, same, back, chain, prods, AtMost, conv, on, cod}
use Rattle.mt_calculus.specs.Typing.{IsContext, IsType, Has, Holds, c_cons, t_prod, t_lam, t_sub, k_sort, k_dom, k_cod}
use Rattle.mt_calculus.specs.SoundStore.{SoundStore}
use Rattle.mt_rules.specs.Inference.{Product, context_types}
use Rattle.mt_rules_laws.specs.ReductionLaws.{ReachedFrom}
use Rattle.mt_calculus_laws.proofs.Steps.{ClosedEnv}
use Rattle.mt_calculus_laws.proofs.EnvironmentLaws.{closed_environment}
use Rattle.mt_rules_laws.proofs.InferenceParts.{product_sort}
use Rattle.mt_rules_laws.proofs.Yields.{some_is, nothing}
use Rattle.mt_unification_rules.specs.Placeholders.{Metas, Typed}
use Rattle.mt_unification_laws.proofs.Later.{extends_same, extends_twice, holds_later, in_place, reached_conv}
use Rattle.mt_refinement_rules.specs.Placed.{Placed}
use Rattle.mt_refinement_rules.specs.Settings.{Setting}
use Rattle.mt_refinement_laws.specs.SoundSettings.{SoundSetting}
use Rattle.mt_refinement_rules.specs.Finishing.{Refinement, Sorted}
use Rattle.mt_refinement_rules.specs.Binders.{product_in, expected_product, abstracted, over_type, by_abstraction, over_domain, by_bare_abstraction, by_product, by_cast}
use Rattle.mt_refinement_laws.proofs.PlacedYields.{Finds, finds, finds_nothing, by_finds, then_finds, so_finds, in_store_finds}
use Rattle.mt_refinement_laws.proofs.SoundEnds.{product_in_is, Over, moved, conv_moved, TypeIn, Fits, type_moved, Later, Ok, OkType, from_later, Sound, reached_type, Same, same_yields, head_finds, ends, as_type_sound}

module _ (S : Setting) (good : SoundSetting S) where
  closed : ClosedEnv S.env
  closed = closed_environment S.env good.env

  abbrev under_name : Bytes → Tree → List Hypothesis → List Hypothesis
  under_name x A Γ = record { name = x; ty = A } ∷ Γ

  -- the product over x:A that an expected type of the body makes
  abbrev product_over : Bytes → Tree → Option Tree → Option Tree
  product_over x A None = None
  product_over x A (Some B) = Some (Prod x A B)

  abstracted_sound : (x : Bytes) (A : Tree) (b : Refinement) → Sound S.env good.env b → (ms : Metas) (Γ : List Hypothesis) (o : Option Tree) → SoundStore S.env (store_of ms) → Over S.env good.env ms Γ IsContext → Over S.env good.env ms Γ (IsType A) → TypeIn S.env good.env ms (under_name x A Γ) o → Finds (abstracted x A b ms Γ o) (Ok S.env good.env ms Γ (product_over x A o))
  abstracted_sound x A b h ms Γ o z c a t =
      then_finds (Ok S.env good.env ms (under_name x A Γ) o) (Ok S.env good.env ms Γ (product_over x A o)) _ _ (h ms (under_name x A Γ) o z (c_cons c a) t) (λ u r.
      finds (Ok S.env good.env ms Γ (product_over x A o)) (record { store = u.store; term = Lam x A u.term; ty = Prod x A u.ty })
      (record { sound = r.sound; extends = r.extends; typed = t_lam (moved S.env good.env ms u.store z r.extends Γ (IsType A) a) r.typed; fits = over u o r.fits }))
    where
      over : (u : Typed) (o : Option Tree) → Fits S.env good.env u.store o u.ty → Fits S.env good.env u.store (product_over x A o) (Prod x A u.ty)
      over u None f = tt
      over u (Some B) f = cod f

  -- a product that is expected
  abbrev Expected : Metas → Option Tree → Option Product → Type 0
  Expected ms o None = Unit {0}
  Expected ms o (Some p) = (U : Tree) × (o ≡ Some U) × ReachedFrom S.env (store_of ms) U (Prod p.name p.dom p.cod)

  expected_product_finds : (at : ℕ) (ms : Metas) (o : Option Tree) → Finds (expected_product S at ms o) (Expected ms o)
  expected_product_finds at ms None = finds (Expected ms None) None tt
  expected_product_finds at ms (Some U) = then_finds (ReachedFrom S.env (store_of ms) U) (Expected ms (Some U)) _ _ (head_finds S.env good.env at ms U) (λ u r. finds (Expected ms (Some U)) (product_in u) (go u r (product_in u) refl))
    where
      go : (u : Tree) → ReachedFrom S.env (store_of ms) U u → (p : Option Product) → product_in u ≡ p → Expected ms (Some U) p
      go u r None e = tt
      go u r (Some p) e = (U, refl, subst (ReachedFrom S.env (store_of ms) U) (product_in_is u p e) r)

  -- the parts of an expected product
  expected_type : (ms : Metas) (Γ : List Hypothesis) (o : Option Tree) (U : Tree) (p : Product) → TypeIn S.env good.env ms Γ o → o ≡ Some U → ReachedFrom S.env (store_of ms) U (Prod p.name p.dom p.cod) → Over S.env good.env ms Γ (IsType (Prod p.name p.dom p.cod))
  expected_type ms Γ None U p h e r = nothing e
  expected_type ms Γ (Some V) U p h e r = reached_type S.env good.env (store_of ms) (context_types Γ) U (Prod p.name p.dom p.cod) (subst (λ T. Over S.env good.env ms Γ (IsType T)) (some_is e) h) r

  fits_by : (ms : Metas) (o : Option Tree) (U T : Tree) → o ≡ Some U → AtMost S.env (store_of ms) T U → Fits S.env good.env ms o T
  fits_by ms None U T e f = tt
  fits_by ms (Some V) U T e f = subst (AtMost S.env (store_of ms) T) (sym (some_is e)) f

  -- against a product with a convertible domain
  to_expected : (ms ms1 : Metas) (Γ : List Hypothesis) (o : Option Tree) (x : Bytes) (A U : Tree) (p : Product) (t : Typed) → SoundStore S.env (store_of ms) → Later S.env good.env ms ms1 → o ≡ Some U → ReachedFrom S.env (store_of ms) U (Prod p.name p.dom p.cod) → Conv S.env (store_of ms1) A p.dom → Ok S.env good.env ms1 Γ (Some (Prod x A p.cod)) t → Ok S.env good.env ms Γ o t
  to_expected ms ms1 Γ o x A U p t z k e r c ok =
      let x' : Extends (store_of ms) (store_of t.store) = extends_twice (store_of ms) (store_of ms1) (store_of t.store) k.extends ok.extends in
      let a : Conv S.env (store_of t.store) U (Prod p.name p.dom p.cod) = conv_moved S.env good.env ms t.store z x' U (Prod p.name p.dom p.cod) (reached_conv S.env (store_of ms) r) in
      let b : Conv S.env (store_of t.store) A p.dom = conv_moved S.env good.env ms1 t.store k.sound ok.extends A p.dom c in
      record { sound = ok.sound; extends = x'; typed = ok.typed; fits = fits_by t.store o U t.ty e (on ok.fits (conv (chain (prods b same) (back a)))) }

  over_type_sound : (at : ℕ) (x : Bytes) (place : ℕ) (b : Refinement) → Sound S.env good.env b → (A : Sorted) (Γ : List Hypothesis) (o : Option Tree) → SoundStore S.env (store_of A.store) → Over S.env good.env A.store Γ IsContext → Over S.env good.env A.store Γ (IsType A.term) → TypeIn S.env good.env A.store Γ o → (p : Option Product) → Expected A.store o p
      → Finds (over_type S at x place b A Γ o p) (Ok S.env good.env A.store Γ o)
  over_type_sound at x place b h A Γ o z c a t (Some p) q =
      let U = q.0 in
      let e = q.1 in
      let d : Over S.env good.env A.store Γ (IsType (Prod p.name p.dom p.cod)) = expected_type A.store Γ o U p t e q.2 in
      then_finds (Same S good A.store A.term p.dom) (Ok S.env good.env A.store Γ o) _ _ (in_store_finds (Same S good A.store A.term p.dom) A.store _ (by_finds (Same S good A.store A.term p.dom) place _ (same_yields S good A.store Γ A.term p.dom z a (k_dom d)))) (λ ms r.
      let a' : Over S.env good.env ms Γ (IsType A.term) = moved S.env good.env A.store ms z r.extends Γ (IsType A.term) a in
      let d' : Over S.env good.env ms Γ (IsType p.dom) = moved S.env good.env A.store ms z r.extends Γ (IsType p.dom) (k_dom d) in
      let b' : Holds S.env true (store_of ms) (p.dom ∷ context_types Γ) (IsType p.cod) = holds_later S.env closed (store_of A.store) (store_of ms) z.owned r.extends (p.dom ∷ context_types Γ) (IsType p.cod) (k_cod d) in
      let b'' : Over S.env good.env ms (under_name x A.term Γ) (IsType p.cod) = in_place S.env closed (store_of ms) (context_types Γ) p.dom A.term (IsType p.cod) r.sound.owned d' a' (back r.fit) b' in
      let k : Later S.env good.env A.store ms = record { sound = r.sound; extends = r.extends } in
      so_finds (Ok S.env good.env ms Γ (Some (Prod x A.term p.cod))) (Ok S.env good.env A.store Γ o) _ (λ u ok. to_expected A.store ms Γ o x A.term U p u z k e q.2 r.fit ok)
      (abstracted_sound x A.term b h ms Γ (Some p.cod) r.sound (moved S.env good.env A.store ms z r.extends Γ IsContext c) a' b''))
  over_type_sound at x place b h A Γ o z c a t None q =
      then_finds (Ok S.env good.env A.store Γ None) (Ok S.env good.env A.store Γ o) _ _ (abstracted_sound x A.term b h A.store Γ None z c a tt) (λ u r. ends S good at A.store Γ o u z t r)

  -- from a later store
  since : (ms ms' : Metas) (Γ : List Hypothesis) (o : Option Tree) (m : Placed Typed) → Extends (store_of ms) (store_of ms') → Finds m (Ok S.env good.env ms' Γ o) → Finds m (Ok S.env good.env ms Γ o)
  since ms ms' Γ o m x h = so_finds (Ok S.env good.env ms' Γ o) (Ok S.env good.env ms Γ o) m (λ t r. from_later S.env good.env ms ms' Γ o t x r) h

  pub by_abstraction_sound : (at : ℕ) (x : Bytes) (place : ℕ) (A b : Refinement) → Sound S.env good.env A → Sound S.env good.env b → Sound S.env good.env (by_abstraction S at x place A b)
  by_abstraction_sound at x place A b h j ms Γ o z c t =
      then_finds (OkType S.env good.env ms Γ) (Ok S.env good.env ms Γ o) _ _ (as_type_sound S good place A h ms Γ z c) (λ T r.
      let t' = type_moved S.env good.env ms T.store z r.extends Γ o t in
      since ms T.store Γ o _ r.extends (
      then_finds (Expected T.store o) (Ok S.env good.env T.store Γ o) _ _ (expected_product_finds at T.store o) (λ p q.
      over_type_sound at x place b j T Γ o r.sound (moved S.env good.env ms T.store z r.extends Γ IsContext c) (k_sort r.typed) t' p q)))

  over_domain_sound : (at : ℕ) (x : Bytes) (b : Refinement) → Sound S.env good.env b → (ms : Metas) (Γ : List Hypothesis) (o : Option Tree) → SoundStore S.env (store_of ms) → Over S.env good.env ms Γ IsContext → TypeIn S.env good.env ms Γ o → (p : Option Product) → Expected ms o p → Finds (over_domain at x b ms Γ p) (Ok S.env good.env ms Γ o)
  over_domain_sound at x b h ms Γ o z c t (Some p) q =
      let d : Over S.env good.env ms Γ (IsType (Prod p.name p.dom p.cod)) = expected_type ms Γ o q.0 p t q.1 q.2 in
      so_finds (Ok S.env good.env ms Γ (Some (Prod x p.dom p.cod))) (Ok S.env good.env ms Γ o) _ (λ u ok. to_expected ms ms Γ o x p.dom q.0 p u z (record { sound = z; extends = extends_same (store_of ms) }) q.1 q.2 same ok)
      (abstracted_sound x p.dom b h ms Γ (Some p.cod) z c (k_dom d) (k_cod d))
  over_domain_sound at x b h ms Γ o z c t None q = finds_nothing (Ok S.env good.env ms Γ o) _ at

  pub by_bare_abstraction_sound : (at : ℕ) (x : Bytes) (b : Refinement) → Sound S.env good.env b → Sound S.env good.env (by_bare_abstraction S at x b)
  by_bare_abstraction_sound at x b h ms Γ o z c t = then_finds (Expected ms o) (Ok S.env good.env ms Γ o) _ _ (expected_product_finds at ms o) (λ p q. over_domain_sound at x b h ms Γ o z c t p q)

  pub by_product_sound : (at : ℕ) (x : Bytes) (place : ℕ) (A : Refinement) (place' : ℕ) (B : Refinement) → Sound S.env good.env A → Sound S.env good.env B → Sound S.env good.env (by_product S at x place A place' B)
  by_product_sound at x place A place' B h j ms Γ o z c t =
      then_finds (OkType S.env good.env ms Γ) (Ok S.env good.env ms Γ o) _ _ (as_type_sound S good place A h ms Γ z c) (λ T r.
      let Δ = under_name x T.term Γ in
      then_finds (OkType S.env good.env T.store Δ) (Ok S.env good.env ms Γ o) _ _ (as_type_sound S good place' B j T.store Δ r.sound (c_cons (moved S.env good.env ms T.store z r.extends Γ IsContext c) (k_sort r.typed))) (λ U q.
      let a : Over S.env good.env U.store Γ (Has T.term (Sort T.sort)) = moved S.env good.env T.store U.store r.sound q.extends Γ (Has T.term (Sort T.sort)) r.typed in
      ends S good at ms Γ o (record { store = U.store; term = Prod x T.term U.term; ty = Sort (sort_of_product T.sort U.sort) }) z t
      (record { sound = q.sound; extends = extends_twice (store_of ms) (store_of T.store) (store_of U.store) r.extends q.extends; typed = t_prod a q.typed (product_sort T.sort U.sort); fits = tt })))

  pub by_cast_sound : (at : ℕ) (m : Refinement) (place : ℕ) (A : Refinement) → Sound S.env good.env m → Sound S.env good.env A → Sound S.env good.env (by_cast S at m place A)
  by_cast_sound at m place A h j ms Γ o z c t =
      then_finds (OkType S.env good.env ms Γ) (Ok S.env good.env ms Γ o) _ _ (as_type_sound S good place A j ms Γ z c) (λ T r.
      then_finds (Ok S.env good.env T.store Γ (Some T.term)) (Ok S.env good.env ms Γ o) _ _ (h T.store Γ (Some T.term) r.sound (moved S.env good.env ms T.store z r.extends Γ IsContext c) (k_sort r.typed)) (λ u q.
      ends S good at ms Γ o (record { store = u.store; term = u.term; ty = T.term }) z t
      (record { sound = q.sound; extends = extends_twice (store_of ms) (store_of T.store) (store_of u.store) r.extends q.extends; typed = t_sub q.typed q.fits (moved S.env good.env T.store u.store r.sound q.extends Γ (IsType T.term) (k_sort r.typed)); fits = tt })))
