-- The laws: weakening, and substitution.
use Rattle.std.proofs.Common.{Bool, false, ◌≡◌, ℕ, zero, suc, List, ◌∷◌, Some, refl, sym, ap, ap₂, ◌∙◌, subst, subst₂}
use Rattle.mt_term.proofs.Subst.{ups_var, ren_sub_all, ren_sub_arms, tr_ren, ren_sub, sub_id}
use Rattle.mt_calculus_laws.proofs.Steps.{ClosedEnv}
use Rattle.mt_calculus_laws.proofs.Images.{Image, Num, act, Given, number, Over}
use Rattle.mt_calculus_laws.proofs.Renames.{Numbers, numbers_law, larger_store, Fits}
use Rattle.mt_calculus_laws.proofs.Substs.{Vals, subs_law}
use Rattle.mt_calculus_laws.proofs.Renames.{id_over, id_numbers, context_id, judgement_id}
use Rattle.mt_term.specs.Trees.{Tree, Trees, Var, Meta}
use Rattle.mt_term.specs.Substitution.{up_rens, ren, sub, one, fill, beyond}
use Rattle.mt_term.specs.Declarations.{Environment}
use Rattle.mt_term.specs.Stores.{Declared, Store, Owned}
use Rattle.mt_term.specs.StoreChanges.{Extends}
use Rattle.mt_calculus.specs.Typing.{Look, here, there, Judgement, IsContext, IsType, Has, Stands, Fitting, Body, ren_judgement, Holds, c_cons, t_var}
use Rattle.mt_calculus_laws.specs.Laws.{tr_judgement, tr_context}

module _ (E : Environment) (free : Bool) (closed : ClosedEnv E) where
  -- values that are variables
  abbrev IsVar : Store → List Tree → Tree → Tree → Type 0
  IsVar S Θ t T = (j : ℕ) × (t ≡ Var j) × Look Θ j T

  ren_judgement_sub : (ξ : ℕ → ℕ) (J : Judgement) → tr_judgement Meta (λ i. Var (ξ i)) J ≡ ren_judgement ξ J
  ren_judgement_sub ξ IsContext = refl
  ren_judgement_sub ξ (IsType T) = ap IsType (ren_sub ξ T)
  ren_judgement_sub ξ (Has t T) = ap₂ Has (ren_sub ξ t) (ren_sub ξ T)
  ren_judgement_sub ξ (Stands t) = ap Stands (ren_sub ξ t)
  ren_judgement_sub ξ (Fitting e R ps k bs) = λ i. Fitting e (ren_sub ξ R i) (ren_sub_all ξ ps i) k (ren_sub_arms ξ bs i)
  ren_judgement_sub ξ (Body e p R c T xs b) = λ i. Body e p (ren_sub ξ R i) (ren_sub ξ c i) (ren_sub ξ T i) xs ((ap (λ τ. sub τ b) (ups_var xs ξ) ∙ ren_sub (up_rens xs ξ) b) i)

  -- Variables for variables.
  pub renaming : (S : Store) (Γ Θ : List Tree) (ξ : ℕ → ℕ) (J : Judgement) → Owned S → Holds E free S Θ IsContext → ((i : ℕ) (T : Tree) → Look Γ i T → Look Θ (ξ i) (ren ξ T)) → Holds E free S Γ J → Holds E free S Θ (ren_judgement ξ J)
  renaming S Γ Θ ξ J own c v d = subst (Holds E free S Θ) (ren_judgement_sub ξ J)
      (subs_law E free closed IsVar
      (λ S Θ t T c h. subst (λ u. Holds E free S Θ (Has u T)) (sym h.1) (t_var c h.2))
      (λ S Θ A t T own c a h. (suc h.0, ap (ren suc) h.1, there h.2))
      (λ S Θ A c. (zero, refl, here))
      (λ S S' Θ t T own keeps h. h)
      S Γ Num (λ i. Var (ξ i)) S Θ J (id_over E free closed S S own (λ n d e. e)) (id_numbers E free closed S S) own c v' d)
    where
      v0 : Vals E free IsVar S Γ (λ i. Var (ξ i)) Θ
      v0 i T l = (ξ i, refl, subst (Look Θ (ξ i)) (sym (ren_sub ξ T)) (v i T l))

      v' : Vals E free IsVar S (tr_context (act Num) Γ) (λ i. Var (ξ i)) Θ
      v' = subst (λ Δ. Vals E free IsVar S Δ (λ i. Var (ξ i)) Θ) (sym (context_id E free closed Γ)) v0

  pub weakening : (S : Store) (Γ : List Tree) (A : Tree) (J : Judgement) → Owned S → Holds E free S Γ IsContext → Holds E free S Γ (IsType A) → Holds E free S Γ J → Holds E free S (A ∷ Γ) (ren_judgement suc J)
  weakening S Γ A J own c a d = renaming S Γ (A ∷ Γ) suc J own (c_cons c a) (λ i T l. there l) d

  -- values with a type
  abbrev HasType : Store → List Tree → Tree → Tree → Type 0
  HasType S Θ t T = Holds E free S Θ (Has t T)

  -- Substitution, together with new numbers for the metavariables.
  pub substitution_over : (S : Store) (Γ : List Tree) (μ : ℕ → Image) (σ : ℕ → Tree) (S' : Store) (Θ : List Tree) (J : Judgement) → Over E free false S μ S' → Numbers S μ S' → Owned S' → Holds E free S' Θ IsContext → ((i : ℕ) (T : Tree) → Look (tr_context (act μ) Γ) i T → Holds E free S' Θ (Has (σ i) (sub σ T))) → Holds E free S Γ J → Holds E free S' Θ (tr_judgement (act μ) σ J)
  substitution_over = subs_law E free closed HasType
      (λ S Θ t T c h. h)
      (λ S Θ A t T own c a h. weakening S Θ A (Has t T) own c a h)
      (λ S Θ A c. t_var c here)
      (λ S S' Θ t T own keeps h. larger_store E free closed S S' own keeps Θ (Has t T) h)

  pub substitution : (S : Store) (Γ Θ : List Tree) (σ : ℕ → Tree) (J : Judgement) → Owned S → Holds E free S Θ IsContext → ((i : ℕ) (T : Tree) → Look Γ i T → Holds E free S Θ (Has (σ i) (sub σ T))) → Holds E free S Γ J → Holds E free S Θ (tr_judgement Meta σ J)
  substitution S Γ Θ σ J own c v d = substitution_over S Γ Num σ S Θ J (id_over E free closed S S own (λ n d e. e)) (id_numbers E free closed S S) own c (subst (λ Δ. (i : ℕ) (T : Tree) → Look Δ i T → Holds E free S Θ (Has (σ i) (sub σ T))) (sym (context_id E free closed Γ)) v) d

  -- a list of terms, each with the type of its hypothesis under the earlier ones
  pub under_list : (S : Store) (Γ Θ : List Tree) (s : Trees) (J : Judgement) → Owned S → Holds E free S Θ IsContext → Fits E free S Θ s Γ → Holds E free S Γ J → Holds E free S Θ (tr_judgement Meta (fill s beyond) J)
  under_list S Γ Θ s J own c fits d = substitution S Γ Θ (fill s beyond) J own c fits d

  -- one term
  pub instance_one : (S : Store) (Γ : List Tree) (A a : Tree) (J : Judgement) → Owned S → Holds E free S Γ IsContext → Holds E free S Γ (Has a A) → Holds E free S (A ∷ Γ) J → Holds E free S Γ (tr_judgement Meta (one a) J)
  instance_one S Γ A a J own c h d = substitution S (A ∷ Γ) Γ (one a) J own c v d
    where
      v : (i : ℕ) (T : Tree) → Look (A ∷ Γ) i T → Holds E free S Γ (Has (one a i) (sub (one a) T))
      v zero T here = subst (λ U. Holds E free S Γ (Has a U)) (sym (tr_ren Meta (one a) suc A ∙ sub_id A)) h
      v (suc i) T (there {T = U} l) = subst (λ V. Holds E free S Γ (Has (Var i) V)) (sym (tr_ren Meta (one a) suc U ∙ sub_id U)) (t_var c l)

-- A store that extends another.
pub extension : (E : Environment) (free : Bool) (closed : ClosedEnv E) (S S' : Store) → Owned S → Extends S S' → (Γ : List Tree) (J : Judgement) → Holds E free S Γ J → Holds E free S' Γ J
extension E free closed S S' own ext Γ J d = subst₂ (λ Δ C. Holds E free S' Δ C) (context_id E free closed Γ) (judgement_id E free closed J) (numbers_law E free closed S Num S' (record { owned = own; images = images }) (id_numbers E free closed S S') Γ J d)
  where
    images : (n : ℕ) (d : Declared) → S.at n ≡ Some d → Given E free false S' (act Num) d (Num n)
    images n d e =
        let r = ext n d e in
        number r.1 (r.2.context ∙ sym (context_id E free closed d.context)) (r.2.ty ∙ sym (sub_id d.ty)) (λ b k. r.2.body b k ∙ ap Some (sym (sub_id b)))
