-- A judgement over a sound store holds where the assigned metavariables outside a closed set are unfolded.
use Rattle.std.proofs.Common.{Bool, true, false, ◌≡◌, ◌⊎◌, inl, inr, ℕ, List, ◌∷◌, Option, Some, None, refl, sym, ap, ap₂, ◌∙◌, subst₂}
use Rattle.mt_term.specs.Trees.{Tree, Trees, Arms, Var, Prod, Lam, App, Match, Meta, Item, Arm}
use Rattle.mt_term.specs.Substitution.{tr, tr_all, tr_arms, under}
use Rattle.mt_term.specs.Declarations.{Environment}
use Rattle.mt_term.specs.Stores.{Declared, Store, Owned, body_of}
use Rattle.mt_calculus.specs.Typing.{Judgement, IsType, Has, Stands, Holds}
use Rattle.mt_calculus_laws.specs.Laws.{tr_judgement, tr_context}
use Rattle.mt_term.specs.Instances.{InstanceOf, inst_var, inst_sort, inst_prod, inst_lam, inst_app, inst_const, inst_ind, inst_con, inst_match, inst_open, inst_assigned, InstanceAll, inst_end, inst_item, InstanceArms, inst_no_arm, inst_arm, InstanceContext, inst_empty, inst_hypothesis}
use Rattle.mt_calculus_laws.specs.StoreLaws.{InstanceJudgement, of_context, of_type, of_has, of_stands, without_body, outside as erased, UnfoldedStore, UnfoldLaw}
use Rattle.mt_term.proofs.Subst.{up_id, ups_id}
use Rattle.mt_calculus_laws.proofs.Steps.{ClosedEnv}
use Rattle.mt_calculus_laws.proofs.Images.{act_on, act, body_tr, decl_tr, decl_agree}
use Rattle.mt_term.proofs.Options.{none_some}
use Rattle.mt_calculus_laws.proofs.Renames.{decl_id, larger_store}
use Rattle.mt_calculus_laws.proofs.Instance.{Ranked, Shut, inst, inst_store, inst_open as open_is, inst_value, image_absent, kept_num, inst_inv, inst_owned}
use Rattle.mt_calculus_laws.proofs.Below.{cases, unfolding_law}
use Rattle.mt_term.proofs.ReachLaws.{RankedAll}
use Rattle.mt_calculus_laws.proofs.SoundStoreLaws.{Ranks, to_ranks}
use Rattle.mt_calculus_laws.proofs.EnvironmentLaws.{closed_environment}

module _ (S : Store) (r : ℕ → ℕ) (own : Owned S) (all : RankedAll S r) (kept : ℕ → Bool) (shut : Shut S kept) where
  falls : Ranked S r
  falls n d b e h = (all n d e).body b h

  abbrev image : ℕ → Trees → Tree
  image = act (inst S r kept)

  abbrev E° : Store
  E° = erased S kept

  abbrev Case : Option Declared → ℕ → Type 0
  Case o n = ((body_of o ≡ None) → (s : Trees) → image n s ≡ Meta n s) × ((b : Tree) → body_of o ≡ Some b → (s : Trees) → image n s ≡ under s (tr image Var b))

  meta_image : (n : ℕ) → Case (E°.at n) n
  meta_image n = go (kept n) refl (S.at n) refl
    where
      open_case : (d : Declared) → S.at n ≡ Some d → (o : Option Tree) → d.body ≡ o → kept n ≡ false → Case (Some d) n
      open_case d e None h p = (λ q s. ap (λ i. act_on i s) (open_is S r kept n d e h).0, λ b q s. absurd (none_some (sym h ∙ q)))
      open_case d e (Some v) h p = (λ q s. absurd (none_some (sym q ∙ h)), λ b q s. ap (λ i. act_on i s) (inst_value S r kept falls own shut n d b e q p))

      go : (p : Bool) → kept n ≡ p → (o : Option Declared) → S.at n ≡ o → Case (without_body p o) n
      go p k None e = (λ q s. ap (λ i. act_on i s) (image_absent S r kept falls own shut n e), λ b q s. absurd (none_some q))
      go true k (Some d) e = (λ q s. ap (λ i. act_on i s) (kept_num S r kept n k), λ b q s. absurd (none_some q))
      go false k (Some d) e = open_case d e (d.body) refl k

  mutual
    instance_is : {t u : Tree} → InstanceOf E° t u → tr image Var t ≡ u
    instance_is inst_var = refl
    instance_is inst_sort = refl
    instance_is (inst_prod {x = x} {B = B} a b) = ap₂ (Prod x) (instance_is a) (ap (λ σ. tr image σ B) up_id ∙ instance_is b)
    instance_is (inst_lam {x = x} {b = B} a b) = ap₂ (Lam x) (instance_is a) (ap (λ σ. tr image σ B) up_id ∙ instance_is b)
    instance_is (inst_app f a) = ap₂ App (instance_is f) (instance_is a)
    instance_is inst_const = refl
    instance_is inst_ind = refl
    instance_is inst_con = refl
    instance_is (inst_match {e = e} p c bs) = λ i. Match e (instance_is p i) (instance_is c i) (arms_is bs i)
    instance_is (inst_open {n = n} {s = s} h a) = (meta_image n).0 h (tr_all image Var s) ∙ ap (Meta n) (all_is a)
    instance_is (inst_assigned {n = n} {s = s} {b = b} h v a) = (meta_image n).1 b h (tr_all image Var s) ∙ ap₂ under (all_is a) (instance_is v)

    all_is : {t u : Trees} → InstanceAll E° t u → tr_all image Var t ≡ u
    all_is inst_end = refl
    all_is (inst_item a s) = ap₂ Item (instance_is a) (all_is s)

    arms_is : {t u : Arms} → InstanceArms E° t u → tr_arms image Var t ≡ u
    arms_is inst_no_arm = refl
    arms_is (inst_arm {xs = xs} {b = b} a s) = ap₂ (Arm xs) (ap (λ σ. tr image σ b) (ups_id xs) ∙ instance_is a) (arms_is s)

  context_is : {Γ Δ : List Tree} → InstanceContext E° Γ Δ → tr_context image Γ ≡ Δ
  context_is inst_empty = refl
  context_is (inst_hypothesis c a) = ap₂ ◌∷◌ (instance_is a) (context_is c)

  judgement_is : {J J' : Judgement} → InstanceJudgement E° J J' → tr_judgement image Var J ≡ J'
  judgement_is of_context = refl
  judgement_is (of_type h) = ap IsType (instance_is h)
  judgement_is (of_has h g) = ap₂ Has (instance_is h) (instance_is g)
  judgement_is (of_stands h) = ap Stands (instance_is h)

  module _ (E : Environment) (closed : ClosedEnv E) (T : Store) (u : UnfoldedStore S kept T) where
    kept_image : (n : ℕ) (d : Declared) → kept n ≡ true → S.at n ≡ Some d → decl_tr image d ≡ d
    kept_image n d p e = decl_agree (λ m. kept m ≡ true) image Meta (λ m s q. ap (λ i. act_on i s) (kept_num S r kept m q)) d (shut n d p e) ∙ decl_id E true closed d

    has : (n : ℕ) (c : Declared) → (inst_store S r kept).at n ≡ Some c → T.at n ≡ Some c
    has n c e = let z = inst_inv S r kept falls own shut n c e in go z.0 z.1 z.2 z.3 (cases (kept n))
      where
        as_kept : (d : Declared) → S.at n ≡ Some d → c ≡ decl_tr image d → kept n ≡ true → T.at n ≡ Some c
        as_kept d g q p = u.same n p ∙ g ∙ ap Some (sym (q ∙ kept_image n d p g))

        go : (d : Declared) → S.at n ≡ Some d → c ≡ decl_tr image d → (kept n ≡ true) ⊎ (d.body ≡ None) → (kept n ≡ true) ⊎ (kept n ≡ false) → T.at n ≡ Some c
        go d g q (inl p) k = as_kept d g q p
        go d g q (inr h) (inl p) = as_kept d g q p
        go d g q (inr h) (inr p) =
            let z = u.opened n d p g h in
            let bs : c.body ≡ (z.0).body = ap (λ (a : Declared). a.body) q ∙ ap (body_tr image) h ∙ sym (z.2.opened) in
            z.1 ∙ ap Some (sym (λ j. record { context = (ap (λ (a : Declared). a.context) q ∙ context_is (z.2.context)) j; ty = (ap (λ (a : Declared). a.ty) q ∙ instance_is (z.2.ty)) j; body = bs j }))

pub unfold_law : UnfoldLaw
unfold_law E S S' env sound kept shut u Γ Γ' J J' c j h =
    let closed = closed_environment E env in
    let k : Ranks E S = to_ranks E S sound closed in
    let f : ℕ → Trees → Tree = act (inst S k.rank kept) in
    let owned : Owned (inst_store S k.rank kept) = inst_owned S k.rank kept (falls S k.rank (sound.owned) k.falls kept shut) (sound.owned) shut in
    larger_store E true closed (inst_store S k.rank kept) S' owned (has S k.rank (sound.owned) k.falls kept shut E closed S' u) Γ' J'
    (subst₂ (λ Δ K. Holds E true (inst_store S k.rank kept) Δ K) (context_is S k.rank (sound.owned) k.falls kept shut c) (judgement_is S k.rank (sound.owned) k.falls kept shut j)
    (unfolding_law E true closed S k.rank (sound.owned) k.falls k.sound kept shut Γ J h))
