-- Names, constructors by their numbers, sorts and placeholders over a sound store.
use Rattle.std.specs.Prelude.{◌≡◌, refl, ℕ, List, true, Option, Some, None, option_map}
use Rattle.std.proofs.Common.{sym, ap, subst}
use Rattle.mt_term.specs.Trees.{Bytes, Tree, Var, Sort, Const, Ind, Con}
use Rattle.mt_term.specs.Declarations.{Hypothesis, Constructor, constructor_at}
use Rattle.mt_term.specs.declared.universes.Sort.{Sort as AnySort}
use Rattle.mt_term.specs.UniverseForms.{sort_above}
use Rattle.mt_rules.specs.Charges.{give}
use Rattle.mt_term.specs.Stores.{store_of}
use Rattle.mt_calculus.specs.Conversion.{same, conv}
use Rattle.mt_calculus.specs.Typing.{IsContext, Has}
use Rattle.mt_calculus.specs.SoundStore.{SoundStore}
use Rattle.mt_rules.specs.Inference.{found, a_sort, in_range, constructor_type, context_types, infer}
use Rattle.mt_rules_laws.proofs.InferenceParts.{above_has}
use Rattle.mt_rules_laws.proofs.ReductionTheorems.{inference_law}
use Rattle.mt_rules_laws.proofs.Yields.{Yields, gives, refuses, nothing}
use Rattle.mt_unification_rules.specs.Placeholders.{Metas, placeholder}
use Rattle.mt_unification_laws.proofs.Later.{extends_same}
use Rattle.mt_term_parser.specs.declared.raw.RawSort.{RawSort}
use Rattle.mt_resolver.specs.Resolution.{meant, or_unbound, resolved_sort}
use Rattle.mt_refinement_rules.specs.Placed.{by}
use Rattle.mt_refinement_rules.specs.Settings.{Setting}
use Rattle.mt_refinement_laws.specs.SoundSettings.{SoundSetting}
use Rattle.mt_refinement_rules.specs.Finishing.{names_of}
use Rattle.mt_refinement_rules.specs.Heads.{declared_type_of, with_declared_type, by_name, or_no_position, by_numbers, by_sort}
use Rattle.mt_refinement_rules.specs.Placeholders.{by_placeholder}
use Rattle.mt_refinement_laws.proofs.PlacedYields.{IfFound, finds, finds_nothing, answers, by_finds, then_finds, on_any}
use Rattle.mt_refinement_laws.proofs.MatchTypes.{sort_yields}
use Rattle.mt_refinement_laws.proofs.SoundEnds.{placeholder_ok, Over, Ok, Sound, ends}

in_range_yields : (o : Option AnySort) → Yields (in_range o) (λ T. (r : AnySort) × (o ≡ Some r) × (T ≡ Sort r))
in_range_yields None = refuses (λ T. (r : AnySort) × (None ≡ Some r) × (T ≡ Sort r)) _
in_range_yields (Some s) = gives (λ T. (r : AnySort) × (Some s ≡ Some r) × (T ≡ Sort r)) (Sort s) (s, refl, refl)

module _ (S : Setting) (good : SoundSetting S) where
  declared_has : (ms : Metas) (Γ : List Hypothesis) (t T : Tree) → SoundStore S.env (store_of ms) → Over S.env good.env ms Γ IsContext → declared_type_of S.env Γ t ≡ Some T → Over S.env good.env ms Γ (Has t T)
  unfolding infer
  declared_has ms Γ (Var i) T z c e = inference_law S.env good.env (store_of ms) z Γ (Var i) T 1 0 c (ap (λ o. found o 0) e)
  declared_has ms Γ (Const d) T z c e = inference_law S.env good.env (store_of ms) z Γ (Const d) T 1 0 c (ap (λ o. found o 0) e)
  declared_has ms Γ (Ind d) T z c e = inference_law S.env good.env (store_of ms) z Γ (Ind d) T 1 0 c (ap (λ o. found o 0) e)
  declared_has ms Γ (Con d k) T z c e = inference_law S.env good.env (store_of ms) z Γ (Con d k) T 1 0 c (ap (λ o. found o 0) e)
  declared_has ms Γ t T z c e = nothing e

  abbrev Pair : Metas → List Hypothesis → Tree × Tree → Type 0
  Pair ms Γ h = Over S.env good.env ms Γ (Has h.0 h.1)

  named_has : (at : ℕ) (x : Bytes) (ms : Metas) (Γ : List Hypothesis) → SoundStore S.env (store_of ms) → Over S.env good.env ms Γ IsContext → (o : Option Tree) → IfFound (Pair ms Γ) (or_unbound x at (with_declared_type S.env Γ o))
  named_has at x ms Γ z c None = tt
  named_has at x ms Γ z c (Some t) = go (declared_type_of S.env Γ t) refl
    where
      go : (o : Option Tree) → declared_type_of S.env Γ t ≡ o → IfFound (Pair ms Γ) (or_unbound x at (option_map (λ T. (t, T)) o))
      go None e = tt
      go (Some T) e = declared_has ms Γ t T z c e

  nothing_new : (ms : Metas) (Γ : List Hypothesis) (t T : Tree) → SoundStore S.env (store_of ms) → Over S.env good.env ms Γ (Has t T) → Ok S.env good.env ms Γ None (record { store = ms; term = t; ty = T })
  nothing_new ms Γ t T z h = record { sound = z; extends = extends_same (store_of ms); typed = h; fits = tt }

  pub by_name_sound : (at : ℕ) (x : Bytes) → Sound S.env good.env (by_name S at x)
  by_name_sound at x ms Γ o z c h =
      then_finds (Pair ms Γ) (Ok S.env good.env ms Γ o) (give (or_unbound x at (with_declared_type S.env Γ (meant S.env (names_of Γ) x)))) _ (answers (Pair ms Γ) _ (named_has at x ms Γ z c (meant S.env (names_of Γ) x))) (λ p q.
      ends S good at ms Γ o (record { store = ms; term = p.0; ty = p.1 }) z h (nothing_new ms Γ p.0 p.1 z q))

  pub by_numbers_sound : (at e k : ℕ) → Sound S.env good.env (by_numbers S at e k)
  by_numbers_sound at e k ms Γ o z c h =
      then_finds P (Ok S.env good.env ms Γ o) (give (or_no_position at (constructor_at S.env.entries e k))) _ (answers P _ (go (constructor_at S.env.entries e k) refl)) (λ d q.
      ends S good at ms Γ o (record { store = ms; term = Con e k; ty = d.ty }) z h (nothing_new ms Γ (Con e k) d.ty z q))
    where
      P : Constructor → Type 0
      P d = Over S.env good.env ms Γ (Has (Con e k) d.ty)

      go : (o : Option Constructor) → constructor_at S.env.entries e k ≡ o → IfFound P (or_no_position at o)
      go None q = tt
      go (Some d) q = declared_has ms Γ (Con e k) d.ty z c (ap constructor_type q)

  pub by_sort_sound : (at : ℕ) (s : RawSort) → Sound S.env good.env (by_sort S at s)
  by_sort_sound at s ms Γ o z c h =
      on_any (Ok S.env good.env ms Γ o) (give (resolved_sort S.env.names at s)) _ (λ t.
      then_finds (λ r. t ≡ Sort r) (Ok S.env good.env ms Γ o) (by at (a_sort t)) _ (by_finds (λ r. t ≡ Sort r) at (a_sort t) (sort_yields t)) (λ r e.
      then_finds (λ T. (q : AnySort) × (sort_above r ≡ Some q) × (T ≡ Sort q)) (Ok S.env good.env ms Γ o) (by at (in_range (sort_above r))) _ (by_finds (λ T. (q : AnySort) × (sort_above r ≡ Some q) × (T ≡ Sort q)) at (in_range (sort_above r)) (in_range_yields (sort_above r))) (λ T q.
      let a : Over S.env good.env ms Γ (Has (Sort r) (Sort q.0)) = above_has S.env true (store_of ms) (context_types Γ) r q.0 c q.1 in
      ends S good at ms Γ o (record { store = ms; term = t; ty = T }) z h (nothing_new ms Γ t T z (subst (λ u. Over S.env good.env ms Γ (Has u T)) (sym e) (subst (λ U. Over S.env good.env ms Γ (Has (Sort r) U)) (sym q.2) a))))))

  pub by_placeholder_sound : (at : ℕ) → Sound S.env good.env (by_placeholder at)
  by_placeholder_sound at ms Γ None z c h = finds_nothing (Ok S.env good.env ms Γ None) _ at
  by_placeholder_sound at ms Γ (Some T) z c h =
      let r = placeholder_ok S.env good.env ms Γ T z h in
      finds (Ok S.env good.env ms Γ (Some T)) (placeholder ms Γ T) (record { sound = r.sound; extends = r.extends; typed = r.typed; fits = conv same })
