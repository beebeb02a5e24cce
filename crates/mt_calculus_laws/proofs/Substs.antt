-- Images of variables: renaming of variables, and the law of substitution.
use Rattle.std.proofs.Common.{Bool, false, true, ◌≡◌, ℕ, zero, suc, List, [], ◌∷◌, length, Some, refl, sym, ap, ap₂, ◌∙◌, subst, subst₂, ◌≤◌, max, arith}
use mathlib.Core.Path.{fun_ext}
use Rattle.mt_term.proofs.Subst.{ups_up_rens, ren_ups, tr_ren_all, tr_ren_arms, ren_tr_all, ren_tr_arms, count_tr, up_shift, Steady, steady_natural, meta_steady, tr_ren, ren_tr, sub_tr, tr_under, tr_filled, sub_id}
use Rattle.mt_calculus_laws.proofs.Steps.{Tracks, ClosedEnv}
use Rattle.mt_calculus_laws.proofs.Moves.{Kind, Goes, Motion, moves}
use Rattle.mt_calculus_laws.proofs.Agree.{context_agree, judgement_agree, look_tr, insert_tr, unlook, length_tr}
use Rattle.mt_calculus_laws.proofs.Images.{Image, act_on, act, act_steady, Over, fresh_image, fresh_same, Fr, fr_low, fr_widens, fr_over, widens_owned, top_of, top_judgement, back_down}
use Rattle.mt_calculus_laws.proofs.Follow.{over_tracks}
use Rattle.mt_calculus_laws.proofs.Renames.{exact_given, Numbers, numbers_fresh, no_term, in_tr, number_parts, numbers_law, larger_store, Fits}
use Rattle.mt_term.specs.Trees.{Tree, Trees, Bytes, Var, Prod, Lam, Meta}
use Rattle.mt_term.specs.Substitution.{up_ren, up_rens, ren, then_as, up, ups, tr, tr_all, sub, one, fill, beyond, under, count}
use Rattle.mt_term.specs.Declarations.{Environment}
use Rattle.mt_term.specs.Stores.{Declared, Store, AllMetasOf, Owned}
use Rattle.mt_calculus.specs.Typing.{Look, here, there, ins, Insert, put, keep, Judgement, IsContext, IsType, Has, Stands, Fitting, Body, ren_judgement, JudgementMetas, Widens, In, Holds, c_cons, k_cod_at, k_lam_at, k_drop}
use Rattle.mt_calculus_laws.specs.Laws.{tr_judgement, tr_context}

-- terms
-- f, and then a substitution
pub after : (μ : ℕ → Image) (σ : ℕ → Tree) (t : Tree) → sub σ (tr (act μ) Var t) ≡ tr (act μ) σ t
after μ σ t = sub_tr (act μ) (act_steady μ) σ Var t

-- all but the k newest
abbrev pub past : ℕ → (ℕ → Tree) → ℕ → Tree
past zero σ = σ
past (suc k) σ = past k (λ i. σ (suc i))

-- one more at place k, which is variable 0
abbrev pub put_in : ℕ → (ℕ → Tree) → ℕ → Tree
put_in zero τ = then_as (Var zero) τ
put_in (suc k) τ = then_as (τ zero) (put_in k (λ i. τ (suc i)))

put_in_ins : (k : ℕ) (τ : ℕ → Tree) (i : ℕ) → put_in k τ (ins k i) ≡ τ i
put_in_ins zero τ i = refl
put_in_ins (suc k) τ zero = refl
put_in_ins (suc k) τ (suc i) = put_in_ins k (λ j. τ (suc j)) i

past_shift : (k : ℕ) (σ : ℕ → Tree) → past k (λ i. ren suc (σ i)) ≡ (λ (i : ℕ). ren suc (past k σ i))
past_shift zero σ = refl
past_shift (suc k) σ = past_shift k (λ i. σ (suc i))

judgement_after_ren : (f : ℕ → Trees → Tree) (σ : ℕ → Tree) (ξ : ℕ → ℕ) (J : Judgement) → tr_judgement f σ (ren_judgement ξ J) ≡ tr_judgement f (λ i. σ (ξ i)) J
judgement_after_ren f σ ξ IsContext = refl
judgement_after_ren f σ ξ (IsType T) = ap IsType (tr_ren f σ ξ T)
judgement_after_ren f σ ξ (Has t T) = ap₂ Has (tr_ren f σ ξ t) (tr_ren f σ ξ T)
judgement_after_ren f σ ξ (Stands t) = ap Stands (tr_ren f σ ξ t)
judgement_after_ren f σ ξ (Fitting e R ps k bs) = λ i. Fitting e (tr_ren f σ ξ R i) (tr_ren_all f σ ξ ps i) k (tr_ren_arms f σ ξ bs i)
judgement_after_ren f σ ξ (Body e p R c T xs b) = λ i. Body e p (tr_ren f σ ξ R i) (tr_ren f σ ξ c i) (tr_ren f σ ξ T i) xs ((tr_ren f (ups xs σ) (up_rens xs ξ) b ∙ ap (λ τ. tr f τ b) (ups_up_rens xs σ ξ)) i)

judgement_ren_tr : (f : ℕ → Trees → Tree) → Steady f → (σ : ℕ → Tree) (ξ : ℕ → ℕ) (J : Judgement) → ren_judgement ξ (tr_judgement f σ J) ≡ tr_judgement f (λ i. ren ξ (σ i)) J
judgement_ren_tr f st σ ξ IsContext = refl
judgement_ren_tr f st σ ξ (IsType T) = ap IsType (ren_tr f (steady_natural f st) σ ξ T)
judgement_ren_tr f st σ ξ (Has t T) = ap₂ Has (ren_tr f (steady_natural f st) σ ξ t) (ren_tr f (steady_natural f st) σ ξ T)
judgement_ren_tr f st σ ξ (Stands t) = ap Stands (ren_tr f (steady_natural f st) σ ξ t)
judgement_ren_tr f st σ ξ (Fitting e R ps k bs) = let n = steady_natural f st in λ i. Fitting e (ren_tr f n σ ξ R i) (ren_tr_all f n σ ξ ps i) k (ren_tr_arms f n σ ξ bs i)
judgement_ren_tr f st σ ξ (Body e p R c T xs b) = let n = steady_natural f st in λ i. Body e p (ren_tr f n σ ξ R i) (ren_tr f n σ ξ c i) (ren_tr f n σ ξ T i) xs ((ren_tr f n (ups xs σ) (up_rens xs ξ) b ∙ ap (λ τ. tr f τ b) (ren_ups xs σ ξ)) i)

-- b under σ and then at σ 0
at_first : (f : ℕ → Trees → Tree) → Steady f → (σ : ℕ → Tree) (b : Tree) → sub (one (σ zero)) (tr f (up (λ i. σ (suc i))) b) ≡ tr f σ b
at_first f st σ b = sub_tr f st (one (σ zero)) (up (λ i. σ (suc i))) b ∙ ap (λ τ. tr f τ b) (fun_ext go)
  where
    go : (i : ℕ) → sub (one (σ zero)) (up (λ j. σ (suc j)) i) ≡ σ i
    go zero = refl
    go (suc i) = tr_ren Meta (one (σ zero)) suc (σ (suc i)) ∙ sub_id (σ (suc i))

-- b[a], renamed
pub ren_one : (ξ : ℕ → ℕ) (a b : Tree) → sub (one (ren ξ a)) (ren (up_ren ξ) b) ≡ ren ξ (sub (one a) b)
ren_one ξ a b = tr_ren Meta (one (ren ξ a)) (up_ren ξ) b ∙ ap (λ τ. sub τ b) (fun_ext go) ∙ sym (ren_tr Meta (steady_natural Meta meta_steady) (one a) ξ b)
  where
    go : (i : ℕ) → one (ren ξ a) (up_ren ξ i) ≡ ren ξ (one a i)
    go zero = refl
    go (suc i) = refl

module _ (E : Environment) (free : Bool) (Val : Store → List Tree → Tree → Tree → Type 0) where
  abbrev pub Vals : Store → List Tree → (ℕ → Tree) → List Tree → Type 0
  Vals S Γ σ Θ = (i : ℕ) (T : Tree) → Look Γ i T → Val S Θ (σ i) (sub σ T)

  pub data Subs : Store → List Tree → (ℕ → Trees → Tree) → (ℕ → Tree) → Store → List Tree → Type 0 where
    by : {S S' : Store} {Γ Θ : List Tree} (μ : ℕ → Image) (σ : ℕ → Tree) → Over E free false S μ S' → Numbers S μ S' → Owned S' → Holds E free S' Θ IsContext → Vals S' (tr_context (act μ) Γ) σ Θ → Subs S Γ (act μ) σ S' Θ

  -- tails
  tail_vals : (S : Store) (Γ Θ : List Tree) (A : Tree) (σ : ℕ → Tree) → Vals S (A ∷ Γ) σ Θ → Vals S Γ (λ i. σ (suc i)) Θ
  tail_vals S Γ Θ A σ v i T l = subst (Val S Θ (σ (suc i))) (tr_ren Meta σ suc T) (v (suc i) (ren suc T) (there l))

  past_vals : (S : Store) (Θ : List Tree) {A : Tree} {Δ : List Tree} {k : ℕ} {Γ Γ' : List Tree} → Insert A Δ k Γ Γ' → (σ : ℕ → Tree) → Vals S Γ σ Θ → Vals S Δ (past k σ) Θ
  past_vals S Θ put σ v = v
  past_vals S Θ (keep {B = B} {Γ = Γ} i) σ v = past_vals S Θ i (λ j. σ (suc j)) (tail_vals S Γ Θ B σ v)

  put_vals : (S : Store) (Θ : List Tree) {A : Tree} {Δ : List Tree} {k : ℕ} {Γ Γ' : List Tree} → Insert A Δ k Γ Γ' → (τ : ℕ → Tree) → Vals S Γ τ Θ → Val S Θ (Var zero) (sub (past k τ) A) → Vals S Γ' (put_in k τ) Θ
  put_vals S Θ {A = A} put τ v w zero T here = subst (Val S Θ (Var zero)) (sym (tr_ren Meta (then_as (Var zero) τ) suc A)) w
  put_vals S Θ put τ v w (suc i) T (there {T = U} l) = subst (Val S Θ (τ i)) (sym (tr_ren Meta (then_as (Var zero) τ) suc U)) (v i U l)
  put_vals S Θ (keep {k = k} {B = B} {Γ = Γ} i) τ v w zero T here =
      let e1 = tr_ren Meta (put_in (suc k) τ) suc (ren (ins k) B) in
      let e2 = tr_ren Meta (put_in k (λ j. τ (suc j))) (ins k) B in
      let e3 = ap (λ ρ. sub ρ B) (fun_ext (put_in_ins k (λ j. τ (suc j)))) in
      subst (Val S Θ (τ zero)) (tr_ren Meta τ suc B ∙ sym (e1 ∙ e2 ∙ e3)) (v zero (ren suc B) here)
  put_vals S Θ (keep {k = k} {B = B} {Γ = Γ} i) τ v w (suc j) T (there {T = U} l) =
      subst (Val S Θ (put_in k (λ j. τ (suc j)) j)) (sym (tr_ren Meta (put_in (suc k) τ) suc U)) (put_vals S Θ i (λ j. τ (suc j)) (tail_vals S Γ Θ B τ v) w j U l)

module _ (E : Environment) (free : Bool) (closed : ClosedEnv E) (Val : Store → List Tree → Tree → Tree → Type 0)
    (typed : (S : Store) (Θ : List Tree) (t T : Tree) → Holds E free S Θ IsContext → Val S Θ t T → Holds E free S Θ (Has t T))
    (weak : (S : Store) (Θ : List Tree) (A t T : Tree) → Owned S → Holds E free S Θ IsContext → Holds E free S Θ (IsType A) → Val S Θ t T → Val S (A ∷ Θ) (ren suc t) (ren suc T))
    (newest : (S : Store) (Θ : List Tree) (A : Tree) → Holds E free S (A ∷ Θ) IsContext → Val S (A ∷ Θ) (Var zero) (ren suc A))
    (wider : (S S' : Store) (Θ : List Tree) (t T : Tree) → Owned S → ((n : ℕ) (d : Declared) → S.at n ≡ Some d → S'.at n ≡ Some d) → Val S Θ t T → Val S' Θ t T)
  where
    abbrev K : Kind
    K = Subs E free Val

    abbrev Vs : Store → List Tree → (ℕ → Tree) → List Tree → Type 0
    Vs = Vals E free Val

    tracks : (S : Store) (Γ : List Tree) (f : ℕ → Trees → Tree) (σ : ℕ → Tree) (S' : Store) (Θ : List Tree) → K S Γ f σ S' Θ → Tracks E S f S'
    tracks S Γ f σ S' Θ (by μ τ o x own c v) = over_tracks E free closed false S μ S' o

    empty : (S : Store) → Goes E free K S [] IsContext
    empty S f σ S' Θ (by μ τ o x own c v) = c

    hypothesis : (S : Store) (Γ : List Tree) (A : Tree) → Goes E free K S Γ IsContext → Goes E free K S Γ (IsType A) → Goes E free K S (A ∷ Γ) IsContext
    hypothesis S Γ A gc ga f σ S' Θ (by μ τ o x own c v) = c

    variable : (S : Store) (Γ : List Tree) (i : ℕ) (T : Tree) → Goes E free K S Γ IsContext → Look Γ i T → Goes E free K S Γ (Has (Var i) T)
    variable S Γ i T g l f σ S' Θ (by μ τ o x own c v) =
        subst (λ U. Holds E free S' Θ (Has (τ i) U)) (after μ τ T) (typed S' Θ (τ i) (sub τ (tr (act μ) Var T)) c (v i (tr (act μ) Var T) (look_tr (act μ) (act_steady μ) l)))

    up_vals : (S' : Store) (Γ Θ : List Tree) (A : Tree) (σ : ℕ → Tree) → Owned S' → Holds E free S' Θ IsContext → Holds E free S' Θ (IsType (sub σ A)) → Vs S' Γ σ Θ → Vs S' (A ∷ Γ) (up σ) (sub σ A ∷ Θ)
    up_vals S' Γ Θ A σ own c h v zero T here = subst (Val S' (sub σ A ∷ Θ) (Var zero)) (sym (up_shift σ A)) (newest S' Θ (sub σ A) (c_cons c h))
    up_vals S' Γ Θ A σ own c h v (suc i) T (there {T = U} l) = subst (Val S' (sub σ A ∷ Θ) (ren suc (σ i))) (sym (up_shift σ U)) (weak S' Θ (sub σ A) (σ i) (sub σ U) own c h (v i U l))

    binder : (S : Store) (Γ : List Tree) (f : ℕ → Trees → Tree) (σ : ℕ → Tree) (S' : Store) (Θ : List Tree) (A : Tree) → K S Γ f σ S' Θ → Holds E free S' Θ (IsType (tr f σ A)) → K S (A ∷ Γ) f (up σ) S' (tr f σ A ∷ Θ)
    binder S Γ f σ S' Θ A (by μ τ o x own c v) h =
        let e : sub τ (tr (act μ) Var A) ≡ tr (act μ) τ A = after μ τ A in
        subst (λ C. K S (A ∷ Γ) (act μ) (up τ) S' (C ∷ Θ)) e
        (let h' = subst (λ C. Holds E free S' Θ (IsType C)) (sym e) h in
        by μ (up τ) o x own (c_cons c h') (up_vals S' (tr_context (act μ) Γ) Θ (tr (act μ) Var A) τ own c h' v))

    terms : (S : Store) (Γ : List Tree) (n : ℕ) (s : Trees) (t : Tree) → Holds E free S Γ (Stands (Meta n s)) → Goes E free K S Γ (Stands (Meta n s)) → In t s → Goes E free K S Γ (Stands t)
    terms S Γ n s t d g i f σ S' Θ (by μ τ o x own c v) = number_parts E free S μ S' x Θ n (tr_all (act μ) τ s) (tr (act μ) τ t) (g (act μ) τ S' Θ (by μ τ o x own c v)) (in_tr (act μ) τ i)

    meta : (S : Store) (Γ : List Tree) (n : ℕ) (s : Trees) (d : Declared) → S.at n ≡ Some d → Holds E free S (d.context) IsContext → Goes E free K S (d.context) IsContext → Holds E free S (d.context) (IsType (d.ty)) → Goes E free K S (d.context) (IsType (d.ty)) → count s ≡ length (d.context) → Goes E free K S Γ IsContext → ((i : ℕ) (T : Tree) → Look (d.context) i T → Goes E free K S Γ (Has (fill s beyond i) (under s T))) → Goes E free K S Γ (Has (Meta n s) (under s (d.ty)))
    meta S Γ n s d e dc gc dt gt len gΓ ts f σ S' Θ (by μ τ o x own c v) =
        let Δ : List Tree = tr_context (act μ) (d.context) in
        let len' : count (tr_all (act μ) τ s) ≡ length Δ = count_tr (act μ) τ s ∙ len ∙ sym (length_tr (act μ) (d.context)) in
        subst (λ T. Holds E free S' Θ (Has (act μ n (tr_all (act μ) τ s)) T)) (sym (tr_under (act μ) (act_steady μ) τ s (d.ty)))
        (exact_given E free S μ S' x n d (μ n) refl (o.images n d e) Θ (tr_all (act μ) τ s) c (numbers_law E free closed S μ S' o x (d.context) IsContext dc) (numbers_law E free closed S μ S' o x (d.context) (IsType (d.ty)) dt) len' fits)
      where
        fits : Fits E free S' Θ (tr_all (act μ) τ s) (tr_context (act μ) (d.context))
        fits i T l =
            let r = unlook (act μ) (act_steady μ) (d.context) i T l in
            let h = ts i r.0 r.1 (act μ) τ S' Θ (by μ τ o x own c v) in
            let h2 = subst₂ (λ a b. Holds E free S' Θ (Has a b)) (ap (λ (ρ : ℕ → Tree). ρ i) (tr_filled (act μ) τ s)) (tr_under (act μ) (act_steady μ) τ s r.0) h in
            subst (λ U. Holds E free S' Θ (Has (fill (tr_all (act μ) τ s) beyond i) (under (tr_all (act μ) τ s) U))) (sym r.2) h2

    -- the newest variable's image, typed
    first_val : (μ : ℕ → Image) (S' : Store) (Γ Θ : List Tree) (A : Tree) (τ : ℕ → Tree) → Vs S' (tr_context (act μ) (A ∷ Γ)) τ Θ → Val S' Θ (τ zero) (tr (act μ) (λ i. τ (suc i)) A)
    first_val μ S' Γ Θ A τ v = subst (Val S' Θ (τ zero)) (tr_ren Meta τ suc (tr (act μ) Var A) ∙ after μ (λ i. τ (suc i)) A) (v zero (ren suc (tr (act μ) Var A)) here)

    tails : (S : Store) (Γ : List Tree) (A : Tree) (μ : ℕ → Image) (τ : ℕ → Tree) (S' : Store) (Θ : List Tree) → Over E free false S μ S' → Numbers S μ S' → Owned S' → Holds E free S' Θ IsContext → Vs S' (tr_context (act μ) (A ∷ Γ)) τ Θ → K S Γ (act μ) (λ i. τ (suc i)) S' Θ
    tails S Γ A μ τ S' Θ o x own c v = by μ (λ i. τ (suc i)) o x own c (tail_vals E free Val S' (tr_context (act μ) Γ) Θ (tr (act μ) Var A) τ v)

    -- a product that is a type, at a term of its domain
    at_term : (S : Store) (Θ : List Tree) (y : Bytes) (A B a : Tree) → Owned S → Holds E free S Θ IsContext → Val S Θ a A → Holds E free S Θ (IsType (Prod y A B)) → Holds E free S Θ (IsType (sub (one a) B))
    at_term S Θ y A B a own c v h = k_cod_at h (typed S Θ a A c v)

    codomain : (S : Store) (Γ : List Tree) (x : Bytes) (A B : Tree) → Goes E free K S Γ (IsType (Prod x A B)) → Goes E free K S (A ∷ Γ) (IsType B)
    codomain S Γ y A B g f σ S' Θ (by μ τ o x own c v) =
        let h = g (act μ) (λ i. τ (suc i)) S' Θ (tails S Γ A μ τ S' Θ o x own c v) in
        subst (λ T. Holds E free S' Θ (IsType T)) (at_first (act μ) (act_steady μ) τ B) (at_term S' Θ y (tr (act μ) (λ i. τ (suc i)) A) (tr (act μ) (up (λ i. τ (suc i))) B) (τ zero) own c (first_val μ S' Γ Θ A τ v) h)

    inner : (S : Store) (Γ : List Tree) (x : Bytes) (A b : Tree) → Goes E free K S Γ (Stands (Lam x A b)) → Goes E free K S (A ∷ Γ) (Stands b)
    inner S Γ y A b g f σ S' Θ (by μ τ o x own c v) =
        let h = g (act μ) (λ i. τ (suc i)) S' Θ (tails S Γ A μ τ S' Θ o x own c v) in
        subst (λ T. Holds E free S' Θ (Stands T)) (at_first (act μ) (act_steady μ) τ b) (k_lam_at h (typed S' Θ (τ zero) _ c (first_val μ S' Γ Θ A τ v)))

    shift_vals : (S' : Store) (Γ Θ : List Tree) (C : Tree) (σ : ℕ → Tree) → Owned S' → Holds E free S' Θ IsContext → Holds E free S' Θ (IsType C) → Vs S' Γ σ Θ → Vs S' Γ (λ i. ren suc (σ i)) (C ∷ Θ)
    shift_vals S' Γ Θ C σ own c h v i T l = subst (Val S' (C ∷ Θ) (ren suc (σ i))) (ren_tr Meta (steady_natural Meta meta_steady) σ suc T) (weak S' Θ C (σ i) (sub σ T) own c h (v i T l))

    drops : (S : Store) (Γ Γ' Δ : List Tree) (k : ℕ) (A : Tree) (J : Judgement) → free ≡ true → Insert A Δ k Γ Γ' → Goes E free K S Δ (IsType A) → Goes E free K S Γ' IsContext → Goes E free K S Γ' (ren_judgement (ins k) J) → Goes E free K S Γ J
    drops S Γ Γ' Δ k A J yes' i ga gc gj f σ S' Θ (by μ τ o x own c v) =
        let i' = insert_tr (act μ) (act_steady μ) i in
        let Aμ : Tree = tr (act μ) Var A in
        let C : Tree = sub (past k τ) Aμ in
        let h : Holds E free S' Θ (IsType C) = subst (λ T. Holds E free S' Θ (IsType T)) (sym (after μ (past k τ) A)) (ga (act μ) (past k τ) S' Θ (by μ (past k τ) o x own c (past_vals E free Val S' Θ i' τ v))) in
        let ρ : ℕ → Tree = λ j. ren suc (τ j) in
        let new : Val S' (C ∷ Θ) (Var zero) (sub (past k ρ) Aμ) = subst (Val S' (C ∷ Θ) (Var zero)) (ren_tr Meta (steady_natural Meta meta_steady) (past k τ) suc Aμ ∙ sym (ap (λ π. sub π Aμ) (past_shift k τ))) (newest S' Θ C (c_cons c h)) in
        let v' : Vs S' (tr_context (act μ) Γ') (put_in k ρ) (C ∷ Θ) = put_vals E free Val S' (C ∷ Θ) i' ρ (shift_vals S' (tr_context (act μ) Γ) Θ C τ own c h v) new in
        let j = gj (act μ) (put_in k ρ) S' (C ∷ Θ) (by μ (put_in k ρ) o x own (c_cons c h) v') in
        let e : tr_judgement (act μ) (put_in k ρ) (ren_judgement (ins k) J) ≡ ren_judgement suc (tr_judgement (act μ) τ J) = judgement_after_ren (act μ) (put_in k ρ) (ins k) J ∙ ap (λ π. tr_judgement (act μ) π J) (fun_ext (put_in_ins k ρ)) ∙ sym (judgement_ren_tr (act μ) (act_steady μ) τ suc J) in
        k_drop yes' put h (c_cons c h) (subst (Holds E free S' (C ∷ Θ)) e j)

    narrows : (S S⁺ : Store) (Γ : List Tree) (J : Judgement) → free ≡ true → Widens S S⁺ → AllMetasOf (λ n. S.at n ≡ S⁺.at n) Γ → JudgementMetas (λ n. S.at n ≡ S⁺.at n) J → Goes E free K S⁺ Γ J → Goes E free K S Γ J
    narrows S S⁺ Γ J yes' w own claim g f σ S' Θ (by μ τ o x own' c v) =
        let B : ℕ = max (S'.bound) (max (top_of Θ) (top_judgement (tr_judgement (act μ) τ J))) in
        let big : S'.bound ≤ B = omega arith in
        let F : Store = Fr E free false S S⁺ w μ S' o B big in
        let ν : ℕ → Image = fresh_image S S⁺ μ B in
        let same : (n : ℕ) (s : Trees) → S.at n ≡ S⁺.at n → act ν n s ≡ act μ n s = λ n s p. ap (λ i. act_on i s) (fresh_same S S⁺ μ B n p) in
        let wide = fr_widens E free false S S⁺ w μ S' o B big in
        let keeps : (n : ℕ) (d : Declared) → S'.at n ≡ Some d → F.at n ≡ Some d = wide.keeps in
        let o' = fr_over E free false S S⁺ w μ S' o B big (λ n d u T Γ e e' h. absurd (no_term S μ S' x n e')) in
        let x' = numbers_fresh S S⁺ μ B S' F x in
        let v0 : Vs F (tr_context (act μ) Γ) τ Θ = λ i T l. wider S' F Θ (τ i) (sub τ T) own' keeps (v i T l) in
        let v' : Vs F (tr_context (act ν) Γ) τ Θ = subst (λ Δ. Vs F Δ τ Θ) (sym (context_agree (λ n. S.at n ≡ S⁺.at n) (act ν) (act μ) same Γ own)) v0 in
        let h : Holds E free F Θ (tr_judgement (act ν) τ J) = g (act ν) τ F Θ (by ν τ o' x' (widens_owned S' F wide own') (larger_store E free closed S' F own' keeps Θ IsContext c) v') in
        back_down E free S' F Θ (tr_judgement (act μ) τ J) B wide (fr_low E free false S S⁺ w μ S' o B big) (omega arith) (omega arith) yes'
        (subst (Holds E free F Θ) (judgement_agree (λ n. S.at n ≡ S⁺.at n) (act ν) (act μ) same τ J claim) h)

    subs_motion : Motion E free K
    subs_motion = record { tracks = tracks; empty = empty; hypothesis = hypothesis; variable = variable; binder = binder; meta = meta; terms = terms; codomain = codomain; inner = inner; drops = drops; narrows = narrows }

    pub subs_law : (S : Store) (Γ : List Tree) (μ : ℕ → Image) (σ : ℕ → Tree) (S' : Store) (Θ : List Tree) (J : Judgement) → Over E free false S μ S' → Numbers S μ S' → Owned S' → Holds E free S' Θ IsContext → Vs S' (tr_context (act μ) Γ) σ Θ → Holds E free S Γ J → Holds E free S' Θ (tr_judgement (act μ) σ J)
    subs_law S Γ μ σ S' Θ J o x own c v d = moves E free closed K subs_motion d (act μ) σ S' Θ (by μ σ o x own c v)
