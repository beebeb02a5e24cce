-- The laws over derivations, from a sound environment.
use Rattle.std.proofs.Common.{Bool, false, true≢false, ◌≡◌, ℕ, zero, suc, List, ◌∷◌, Some, refl, sym, ◌∙◌, subst}
use Rattle.mt_term.specs.Trees.{Tree}
use Rattle.mt_term.specs.Substitution.{ren}
use Rattle.mt_term.specs.Declarations.{Environment}
use Rattle.mt_term.specs.Stores.{Declared, Store, no_store, Owned}
use Rattle.mt_calculus.specs.Typing.{Look, here, there, Insert, put, keep, ins, Judgement, IsContext, IsType, ren_judgement, Holds, c_cons}
use Rattle.mt_calculus_laws.specs.Laws.{ContextLaw, WeakeningLaw, SubstitutionLaw, OneTermLaw, GrowthLaw, StrictLaw, ScopeLaw, ExtensionLaw, RenumberingLaw}
use Rattle.mt_term.proofs.Subst.{ren_ren}
use Rattle.mt_calculus_laws.proofs.Steps.{ClosedEnv}
use Rattle.mt_calculus_laws.proofs.Images.{Num, act, Given, number}
use Rattle.mt_term.proofs.Options.{none_some}
use Rattle.mt_calculus_laws.proofs.Known.{Inv, known}
use Rattle.mt_calculus_laws.proofs.Renames.{numbers_law, larger_store}
use Rattle.mt_calculus_laws.proofs.Laws.{renaming, under_list, instance_one, extension}
use Rattle.mt_calculus_laws.proofs.Grow.{grows}
use Rattle.mt_calculus_laws.proofs.Plain.{plain}
use Rattle.mt_calculus_laws.proofs.EnvironmentLaws.{plain_entries, closed_environment}

pub context_law : ContextLaw
context_law E w S Γ J h = (known E w h).0

-- a variable's place with one more hypothesis
look_put : {A : Tree} {Δ : List Tree} {k : ℕ} {Γ Γ' : List Tree} → Insert A Δ k Γ Γ' → (i : ℕ) (T : Tree) → Look Γ i T → Look Γ' (ins k i) (ren (ins k) T)
look_put put i T l = there l
look_put (keep {k = k} {B = B} {Γ' = Γ'} h) i T here = subst (Look (ren (ins k) B ∷ Γ') zero) (ren_ren suc (ins k) B ∙ sym (ren_ren (ins (suc k)) suc B)) here
look_put (keep {k = k} {B = B} {Γ' = Γ'} h) i T (there {i = j} {T = U} l) = subst (Look (ren (ins k) B ∷ Γ') (suc (ins k j))) (ren_ren suc (ins k) U ∙ sym (ren_ren (ins (suc k)) suc U)) (there (look_put h j U l))

module _ (E : Environment) (w : Bool) (closed : ClosedEnv E) (S : Store) (own : Owned S) where
  put_context : {A : Tree} {Δ : List Tree} {k : ℕ} {Γ Γ' : List Tree} → Insert A Δ k Γ Γ' → Holds E w S Δ (IsType A) → Inv E w S Γ → Holds E w S Γ' IsContext
  put_context put a v = c_cons (known E w a).0 a
  put_context {A = A} {Δ = Δ} (keep {k = k} {B = B} {Γ = Γ} {Γ' = Γ'} h) a v =
      let c = put_context h a v.2 in
      c_cons c (renaming E w closed S Γ Γ' (ins k) (IsType B) own c (look_put h) v.1)

  pub put_in : {A : Tree} {Δ : List Tree} {k : ℕ} {Γ Γ' : List Tree} → Insert A Δ k Γ Γ' → Holds E w S Δ (IsType A) → (J : Judgement) → Holds E w S Γ J → Holds E w S Γ' (ren_judgement (ins k) J)
  put_in {k = k} {Γ = Γ} {Γ' = Γ'} h a J d = renaming E w closed S Γ Γ' (ins k) J own (put_context h a (known E w d).1) (look_put h) d

pub weakening_law : WeakeningLaw
weakening_law E sound w S own A Δ k Γ Γ' J h a d = put_in E w (closed_environment E sound) S own h a J d

pub substitution_law : SubstitutionLaw
substitution_law E sound w S own Γ Δ s J c fits d = under_list E w (closed_environment E sound) S Γ Δ s J own c fits d

pub one_term_law : OneTermLaw
one_term_law E sound w S own Γ A a J h d = instance_one E w (closed_environment E sound) S Γ A a J own (known E w h).0 h d

pub growth_law : GrowthLaw
growth_law E E' more wider w S Γ J h = grows E E' more wider w w (λ e. e) h

none_owned : Owned no_store
none_owned n d e = absurd (none_some e)

pub strict_law : StrictLaw
strict_law E sound w S Γ J h =
    larger_store E w (closed_environment E sound) no_store S none_owned (λ n d e. absurd (none_some e)) Γ J (grows E E (λ c d e. e) (λ U V e. e) false w (λ e. absurd (true≢false (sym e))) h)

pub scope_law : ScopeLaw
scope_law E sound Γ J h =
    let env = plain_entries E sound in
    (plain E env (λ n. refl) (known E false h).0, plain E env (λ n. refl) h)

pub extension_law : ExtensionLaw
extension_law E sound w S S' own ext Γ J h = extension E w (closed_environment E sound) S S' own ext Γ J h

pub renumbering_law : RenumberingLaw
renumbering_law E sound w S S' own μ image Γ J h =
    numbers_law E w (closed_environment E sound) S (λ n. Num (μ n)) S' (record { owned = own; images = images }) (λ n. (μ n, refl)) Γ J h
  where
    images : (n : ℕ) (d : Declared) → S.at n ≡ Some d → Given E w false S' (act (λ n. Num (μ n))) d (Num (μ n))
    images n d e = let r = image n d e in number {c = r.0} r.1 (r.2.context) (r.2.ty) (r.2.body)
