-- Refinement over a sound store leaves a sound store, and gives a term of the type that it gives, which is at most the expected one.
use Rattle.std.specs.Prelude.{◌≡◌, refl, ℕ, List, Bool, true, false, if◌then◌else◌, Option, Some, None}
use Rattle.std.proofs.Common.{subst}
use Rattle.mt_term.specs.Trees.{Tree}
use Rattle.mt_term.specs.Declarations.{Hypothesis}
use Rattle.mt_term.specs.Stores.{store_of}
use Rattle.mt_calculus.specs.Conversion.{AtMost}
use Rattle.mt_calculus.specs.Typing.{IsType, Holds}
use Rattle.mt_rules.specs.Inference.{context_types}
use Rattle.mt_rules_laws.proofs.Yields.{some_is, nothing}
use Rattle.mt_term_parser.specs.Written as raw
use Rattle.mt_term_parser.specs.Written.{Written, Form, Arguments, Cases, Term, Absent, Given, NoArgument, Argument, NoCase, Case}
use Rattle.mt_resolver.specs.Resolution.{Found}
use Rattle.mt_refinement_rules.specs.Settings.{Setting}
use Rattle.mt_refinement_laws.specs.SoundSettings.{SoundSetting}
use Rattle.mt_refinement_rules.specs.Applications.{Rest}
use Rattle.mt_refinement_rules.specs.Refinement.{place_of, is_vector, refined, refined_form, refined_arguments, refined_bodies, refine}
use Rattle.mt_refinement_laws.specs.RefinementLaws.{RefinementLaw}
use Rattle.mt_refinement_laws.proofs.PlacedYields.{finds_nothing, charge_finds}
use Rattle.mt_refinement_laws.proofs.SoundEnds.{TypeIn, Fits, Ok, Sound, SoundRest, ends}
use Rattle.mt_refinement_laws.proofs.HeadSoundness.{by_name_sound, by_numbers_sound, by_sort_sound, by_placeholder_sound}
use Rattle.mt_refinement_laws.proofs.BinderSoundness.{by_abstraction_sound, by_bare_abstraction_sound, by_product_sound, by_cast_sound}
use Rattle.mt_refinement_laws.proofs.ApplicationSoundness.{by_argument_sound, by_vector_sound, by_application_sound}
use Rattle.mt_refinement_laws.proofs.MatchSoundness.{SoundBodies, no_body_sound, one_body_sound, written_return_sound, expected_return_sound, by_match_sound}

module _ (S : Setting) (good : SoundSetting S) where
  either : (Γ : List Hypothesis) (o : Option Tree) (b : Bool) (m m' : Rest) → SoundRest S.env good.env Γ o m → SoundRest S.env good.env Γ o m' → SoundRest S.env good.env Γ o (if b then m else m')
  either Γ o true m m' h j = h
  either Γ o false m m' h j = j

  mutual
    refined_sound : (w : Written) → Sound S.env good.env (refined S w)
    refined_sound (Term at f) ms Γ o z c t = charge_finds (Ok S.env good.env ms Γ o) _ (form_sound at f ms Γ o z c t)

    form_sound : (at : ℕ) (f : Form) → Sound S.env good.env (refined_form S at f)
    form_sound at (raw.Name x) = by_name_sound S good at x
    form_sound at (raw.Con e k) = by_numbers_sound S good at e k
    form_sound at raw.Hole = by_placeholder_sound S good at
    form_sound at raw.Vector = λ ms Γ o z c t. finds_nothing (Ok S.env good.env ms Γ o) _ at
    form_sound at (raw.Sort s) = by_sort_sound S good at s
    form_sound at (raw.Lam x Absent b) = by_bare_abstraction_sound S good at x _ (refined_sound b)
    form_sound at (raw.Lam x (Given A) b) = by_abstraction_sound S good at x (place_of A) _ _ (refined_sound A) (refined_sound b)
    form_sound at (raw.Prod x A B) = by_product_sound S good at x (place_of A) _ (place_of B) _ (refined_sound A) (refined_sound B)
    form_sound at (raw.App f args) = by_application_sound S good _ _ (refined_sound f) (arguments_sound at args)
    form_sound at (raw.Match c Absent arms) = by_match_sound S good at _ _ arms _ (refined_sound c) (expected_return_sound S good at) (bodies_sound at arms)
    form_sound at (raw.Match c (Given R) arms) = by_match_sound S good at _ _ arms _ (refined_sound c) (written_return_sound S good _ (refined_sound R)) (bodies_sound at arms)
    form_sound at (raw.Cast m T) = by_cast_sound S good at _ (place_of T) _ (refined_sound m) (refined_sound T)

    arguments_sound : (at : ℕ) (args : Arguments) (Γ : List Hypothesis) (o : Option Tree) → SoundRest S.env good.env Γ o (refined_arguments S at args Γ o)
    arguments_sound at NoArgument Γ o = λ ms f z t r. ends S good at ms Γ o f z t r
    arguments_sound at (Argument a args) Γ o = either Γ o (is_vector a) _ _ (by_vector_sound S good Γ o (place_of a) _ (arguments_sound at args Γ o)) (by_argument_sound S good Γ o (place_of a) _ _ (refined_sound a) (arguments_sound at args Γ o))

    bodies_sound : (at : ℕ) (arms : Cases) → SoundBodies S good arms (refined_bodies S at arms)
    bodies_sound at NoCase = no_body_sound S good
    bodies_sound at (Case x xs b arms) = one_body_sound S good at x xs b arms _ _ (refined_sound b) (bodies_sound at arms)

pub refinement_law : RefinementLaw
unfolding refine
refinement_law S good ms Γ w o t n l z c h e =
    let r : Ok S.env good.env ms Γ o t = (refined_sound S good w ms Γ o z c (type_in o h)).yields n (Found t) l e in
    (r.sound, r.extends, r.typed, at_most o r.fits)
  where
    type_in : (o : Option Tree) → ((U : Tree) → o ≡ Some U → Holds S.env true (store_of ms) (context_types Γ) (IsType U)) → TypeIn S.env good.env ms Γ o
    type_in None h = tt
    type_in (Some U) h = h U refl

    at_most : (o : Option Tree) → Fits S.env good.env t.store o t.ty → (U : Tree) → o ≡ Some U → AtMost S.env (store_of t.store) t.ty U
    at_most None f U e = nothing e
    at_most (Some V) f U e = subst (AtMost S.env (store_of t.store) t.ty) (some_is e) f
