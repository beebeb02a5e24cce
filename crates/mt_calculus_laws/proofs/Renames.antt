-- Images of metavariables, with the variables as they are.
use Rattle.std.proofs.Common.{Bool, false, true≢false, true, ◌≡◌, ℕ, suc, List, [], ◌∷◌, length, Option, Some, None, refl, sym, ap, ap₂, ◌∙◌, subst, subst₂, ◌≤◌, ◌+◌, max, arith}
use Rattle.mt_term.proofs.Subst.{sub_id_all, sub_id_arms, ups_id, count_tr, Steady, tr_under, tr_filled, up_id, sub_id}
use Rattle.mt_calculus_laws.proofs.Steps.{Tracks, ClosedEnv}
use Rattle.mt_calculus_laws.proofs.Moves.{Kind, Goes, Motion, moves}
use Rattle.mt_calculus_laws.proofs.Agree.{context_agree, judgement_agree, judgement_shift, look_tr, insert_tr, unlook, length_tr}
use Rattle.mt_calculus_laws.proofs.Images.{Wrap, IsTerm, loose_number, loose_term, Image, Num, Put, either_one, body_tr, act_on, act, act_steady, decl_tr, Given, number, term, Over, fresh_image, fresh_same, Fr, fr_low, fr_widens, fr_over, Larger, top_of, top_judgement, back_down}
use Rattle.mt_term.proofs.Options.{none_some, some_inj}
use Rattle.mt_calculus_laws.proofs.Follow.{over_tracks}
use Rattle.mt_term.specs.Trees.{Tree, Trees, Bytes, Var, Prod, Lam, Meta}
use Rattle.mt_term.specs.Substitution.{up, tr, tr_all, sub, fill, beyond, under, count}
use Rattle.mt_term.specs.Declarations.{Environment}
use Rattle.mt_term.specs.Stores.{Declared, Store, AllMetasOf, Owned}
use Rattle.mt_calculus.specs.Typing.{Look, ins, Insert, Judgement, IsContext, IsType, Has, Stands, Fitting, Body, ren_judgement, JudgementMetas, Widens, In, first, later, Holds, c_empty, c_cons, t_var, t_meta, k_cod, k_terms, k_lam_body, k_drop}
use Rattle.mt_calculus_laws.specs.Laws.{tr_judgement, tr_context}

module _ (E : Environment) (free : Bool) (l : Bool) (Extra : Store → (ℕ → Image) → Store → Type 0) where
  pub data Keeps : Store → List Tree → (ℕ → Trees → Tree) → (ℕ → Tree) → Store → List Tree → Type 0 where
    by : {S S' : Store} {Γ : List Tree} (μ : ℕ → Image) → Over E free l S μ S' → Extra S μ S' → Keeps S Γ (act μ) Var S' (tr_context (act μ) Γ)

-- the terms of a metavariable fit its context
abbrev pub Fits : Environment → Bool → Store → List Tree → Trees → List Tree → Type 0
Fits E free S Θ s Γ = (i : ℕ) (T : Tree) → Look Γ i T → Holds E free S Θ (Has (fill s beyond i) (under s T))

-- the image of a metavariable has the image of its type
abbrev pub Uses : Environment → Bool → Store → (ℕ → Trees → Tree) → Declared → Image → Type 0
Uses E free S f d i = (Θ : List Tree) (s : Trees) → Holds E free S Θ IsContext → Holds E free S (tr_context f (d.context)) IsContext → Holds E free S (tr_context f (d.context)) (IsType (tr f Var (d.ty))) → count s ≡ length (tr_context f (d.context)) → Fits E free S Θ s (tr_context f (d.context)) → Holds E free S Θ (Has (act_on i s) (under s (tr f Var (d.ty))))

pub body_inv : (f : ℕ → Trees → Tree) (o : Option Tree) (b : Tree) → body_tr f o ≡ Some b → (a : Tree) × (o ≡ Some a) × (tr f Var a ≡ b)
body_inv f None b e = absurd (none_some e)
body_inv f (Some a) b e = (a, refl, some_inj e)

pub number_used : (E : Environment) (free : Bool) (S : Store) (f : ℕ → Trees → Tree) (d : Declared) (m : ℕ) (c : Declared) → S.at m ≡ Some c → c.context ≡ tr_context f (d.context) → c.ty ≡ tr f Var (d.ty) → Uses E free S f d (Num m)
number_used E free S f d m c h g1 g2 Θ s k dc dt len fits =
    subst (λ T. Holds E free S Θ (Has (Meta m s) (under s T))) g2
    (t_meta k h (subst (λ Δ. Holds E free S Δ IsContext) (sym g1) dc) (subst₂ (λ Δ T. Holds E free S Δ (IsType T)) (sym g1) (sym g2) dt) (len ∙ ap length (sym g1)) (subst (λ Δ. Fits E free S Θ s Δ) (sym g1) fits))

module _ (E : Environment) (free : Bool) (closed : ClosedEnv E) (l : Bool) (Extra : Store → (ℕ → Image) → Store → Type 0)
    (extra : (S S⁺ : Store) (w : Widens S S⁺) (μ : ℕ → Image) (S' : Store) (over : Over E free l S μ S') (B : ℕ) (big : S'.bound ≤ B) → Extra S μ S' → Extra S⁺ (fresh_image S S⁺ μ B) (Fr E free l S S⁺ w μ S' over B big))
    (larger : (S S⁺ : Store) (w : Widens S S⁺) (μ : ℕ → Image) (S' : Store) (over : Over E free l S μ S') (B : ℕ) (big : S'.bound ≤ B) → Extra S μ S' → Larger E free l S S⁺ w μ S' over B big)
    (given : (S : Store) (μ : ℕ → Image) (S' : Store) → Extra S μ S' → (n : ℕ) (d : Declared) → S.at n ≡ Some d → (i : Image) → μ n ≡ i → Given E free l S' (act μ) d i → Uses E free S' (act μ) d i)
    (parts : (S : Store) (μ : ℕ → Image) (S' : Store) → Over E free l S μ S' → Extra S μ S' → (Γ : List Tree) (n : ℕ) (s : Trees) (t : Tree) → Holds E free S Γ (Stands (Meta n s)) → Holds E free S' (tr_context (act μ) Γ) (Stands (act μ n (tr_all (act μ) Var s))) → In t s → Holds E free S' (tr_context (act μ) Γ) (Stands (tr (act μ) Var t)))
  where
    abbrev K : Kind
    K = Keeps E free l Extra

    tracks : (S : Store) (Γ : List Tree) (f : ℕ → Trees → Tree) (σ : ℕ → Tree) (S' : Store) (Θ : List Tree) → K S Γ f σ S' Θ → Tracks E S f S'
    tracks S Γ f σ S' Θ (by μ o x) = over_tracks E free closed l S μ S' o

    empty : (S : Store) → Goes E free K S [] IsContext
    empty S f σ S' Θ (by μ o x) = c_empty

    hypothesis : (S : Store) (Γ : List Tree) (A : Tree) → Goes E free K S Γ IsContext → Goes E free K S Γ (IsType A) → Goes E free K S (A ∷ Γ) IsContext
    hypothesis S Γ A c a f σ S' Θ (by μ o x) = c_cons (c (act μ) Var S' (tr_context (act μ) Γ) (by μ o x)) (a (act μ) Var S' (tr_context (act μ) Γ) (by μ o x))

    variable : (S : Store) (Γ : List Tree) (i : ℕ) (T : Tree) → Goes E free K S Γ IsContext → Look Γ i T → Goes E free K S Γ (Has (Var i) T)
    variable S Γ i T c l f σ S' Θ (by μ o x) = t_var (c (act μ) Var S' (tr_context (act μ) Γ) (by μ o x)) (look_tr (act μ) (act_steady μ) l)

    binder : (S : Store) (Γ : List Tree) (f : ℕ → Trees → Tree) (σ : ℕ → Tree) (S' : Store) (Θ : List Tree) (A : Tree) → K S Γ f σ S' Θ → Holds E free S' Θ (IsType (tr f σ A)) → K S (A ∷ Γ) f (up σ) S' (tr f σ A ∷ Θ)
    binder S Γ f σ S' Θ A (by μ o x) h = subst (λ τ. K S (A ∷ Γ) (act μ) τ S' (tr (act μ) Var A ∷ tr_context (act μ) Γ)) (sym up_id) (by μ o x)

    terms : (S : Store) (Γ : List Tree) (n : ℕ) (s : Trees) (t : Tree) → Holds E free S Γ (Stands (Meta n s)) → Goes E free K S Γ (Stands (Meta n s)) → In t s → Goes E free K S Γ (Stands t)
    terms S Γ n s t d g i f σ S' Θ (by μ o x) = parts S μ S' o x Γ n s t d (g (act μ) Var S' (tr_context (act μ) Γ) (by μ o x)) i

    meta : (S : Store) (Γ : List Tree) (n : ℕ) (s : Trees) (d : Declared) → S.at n ≡ Some d → Holds E free S (d.context) IsContext → Goes E free K S (d.context) IsContext → Holds E free S (d.context) (IsType (d.ty)) → Goes E free K S (d.context) (IsType (d.ty)) → count s ≡ length (d.context) → Goes E free K S Γ IsContext → ((i : ℕ) (T : Tree) → Look (d.context) i T → Goes E free K S Γ (Has (fill s beyond i) (under s T))) → Goes E free K S Γ (Has (Meta n s) (under s (d.ty)))
    meta S Γ n s d e dc gc dt gt len c ts f σ S' Θ (by μ o x) =
        let Δ : List Tree = tr_context (act μ) (d.context) in
        let st : Steady (act μ) = act_steady μ in
        let own : K S (d.context) (act μ) Var S' Δ = by μ o x in
        let here_ok : K S Γ (act μ) Var S' (tr_context (act μ) Γ) = by μ o x in
        let s' : Trees = tr_all (act μ) Var s in
        let len' : count s' ≡ length Δ = count_tr (act μ) Var s ∙ len ∙ sym (length_tr (act μ) (d.context)) in
        subst (λ T. Holds E free S' (tr_context (act μ) Γ) (Has (act μ n s') T)) (sym (tr_under (act μ) st Var s (d.ty)))
        (given S μ S' x n d e (μ n) refl (o.images n d e) (tr_context (act μ) Γ) s' (c (act μ) Var S' _ here_ok) (gc (act μ) Var S' Δ own) (gt (act μ) Var S' Δ own) len' fits)
      where
        fits : Fits E free S' (tr_context (act μ) Γ) (tr_all (act μ) Var s) (tr_context (act μ) (d.context))
        fits i T l =
            let r = unlook (act μ) (act_steady μ) (d.context) i T l in
            let h = ts i r.0 r.1 (act μ) Var S' (tr_context (act μ) Γ) (by μ o x) in
            let h2 = subst₂ (λ a b. Holds E free S' (tr_context (act μ) Γ) (Has a b)) (ap (λ (τ : ℕ → Tree). τ i) (tr_filled (act μ) Var s)) (tr_under (act μ) (act_steady μ) Var s r.0) h in
            subst (λ U. Holds E free S' (tr_context (act μ) Γ) (Has (fill (tr_all (act μ) Var s) beyond i) (under (tr_all (act μ) Var s) U))) (sym r.2) h2

    codomain : (S : Store) (Γ : List Tree) (x : Bytes) (A B : Tree) → Goes E free K S Γ (IsType (Prod x A B)) → Goes E free K S (A ∷ Γ) (IsType B)
    codomain S Γ y A B g f σ S' Θ (by μ o x) =
        let h = g (act μ) Var S' (tr_context (act μ) Γ) (by μ o x) in
        subst (λ τ. Holds E free S' (tr_context (act μ) (A ∷ Γ)) (IsType (tr (act μ) τ B))) up_id (k_cod h)

    inner : (S : Store) (Γ : List Tree) (x : Bytes) (A b : Tree) → Goes E free K S Γ (Stands (Lam x A b)) → Goes E free K S (A ∷ Γ) (Stands b)
    inner S Γ y A b g f σ S' Θ (by μ o x) =
        let h = g (act μ) Var S' (tr_context (act μ) Γ) (by μ o x) in
        subst (λ τ. Holds E free S' (tr_context (act μ) (A ∷ Γ)) (Stands (tr (act μ) τ b))) up_id (k_lam_body h)

    drops : (S : Store) (Γ Γ' Δ : List Tree) (k : ℕ) (A : Tree) (J : Judgement) → free ≡ true → Insert A Δ k Γ Γ' → Goes E free K S Δ (IsType A) → Goes E free K S Γ' IsContext → Goes E free K S Γ' (ren_judgement (ins k) J) → Goes E free K S Γ J
    drops S Γ Γ' Δ k A J yes' i a c j f σ S' Θ (by μ o x) =
        k_drop yes' (insert_tr (act μ) (act_steady μ) i) (a (act μ) Var S' (tr_context (act μ) Δ) (by μ o x)) (c (act μ) Var S' (tr_context (act μ) Γ') (by μ o x))
        (subst (Holds E free S' (tr_context (act μ) Γ')) (judgement_shift (act μ) (act_steady μ) (ins k) J) (j (act μ) Var S' (tr_context (act μ) Γ') (by μ o x)))

    narrows : (S S⁺ : Store) (Γ : List Tree) (J : Judgement) → free ≡ true → Widens S S⁺ → AllMetasOf (λ n. S.at n ≡ S⁺.at n) Γ → JudgementMetas (λ n. S.at n ≡ S⁺.at n) J → Goes E free K S⁺ Γ J → Goes E free K S Γ J
    narrows S S⁺ Γ J yes' w own claim g f σ S' Θ (by μ o x) =
        let B : ℕ = max (S'.bound) (max (top_of (tr_context (act μ) Γ)) (top_judgement (tr_judgement (act μ) Var J))) in
        let big : S'.bound ≤ B = omega arith in
        let F : Store = Fr E free l S S⁺ w μ S' o B big in
        let ν : ℕ → Image = fresh_image S S⁺ μ B in
        let same : (n : ℕ) (s : Trees) → S.at n ≡ S⁺.at n → act ν n s ≡ act μ n s = λ n s p. ap (λ i. act_on i s) (fresh_same S S⁺ μ B n p) in
        let h : Holds E free F (tr_context (act ν) Γ) (tr_judgement (act ν) Var J) = g (act ν) Var F (tr_context (act ν) Γ) (by ν (fr_over E free l S S⁺ w μ S' o B big (larger S S⁺ w μ S' o B big x)) (extra S S⁺ w μ S' o B big x)) in
        back_down E free S' F (tr_context (act μ) Γ) (tr_judgement (act μ) Var J) B (fr_widens E free l S S⁺ w μ S' o B big) (fr_low E free l S S⁺ w μ S' o B big) (omega arith) (omega arith) yes'
        (subst₂ (λ Δ C. Holds E free F Δ C) (context_agree (λ n. S.at n ≡ S⁺.at n) (act ν) (act μ) same Γ own) (judgement_agree (λ n. S.at n ≡ S⁺.at n) (act ν) (act μ) same Var J claim) h)

    keeps_motion : Motion E free K
    keeps_motion = record { tracks = tracks; empty = empty; hypothesis = hypothesis; variable = variable; binder = binder; meta = meta; terms = terms; codomain = codomain; inner = inner; drops = drops; narrows = narrows }

    pub keeps_law : (S : Store) (μ : ℕ → Image) (S' : Store) → Over E free l S μ S' → Extra S μ S' → (Γ : List Tree) (J : Judgement) → Holds E free S Γ J → Holds E free S' (tr_context (act μ) Γ) (tr_judgement (act μ) Var J)
    keeps_law S μ S' o x Γ J d = moves E free closed K keeps_motion d (act μ) Var S' (tr_context (act μ) Γ) (by μ o x)

-- Each metavariable is given a number.
abbrev pub Numbers : Store → (ℕ → Image) → Store → Type 0
Numbers S μ S' = (n : ℕ) → (m : ℕ) × (μ n ≡ Num m)

either_num : (o p : Option Declared) (k : ℕ) (i : Image) → ((m : ℕ) × (i ≡ Num m)) → (m : ℕ) × (either_one o p (Num k) i ≡ Num m)
either_num None None k i r = r
either_num None (Some d) k i r = (k, refl)
either_num (Some d) p k i r = r

pub numbers_fresh : (S S⁺ : Store) (μ : ℕ → Image) (B : ℕ) (S' F : Store) → Numbers S μ S' → Numbers S⁺ (fresh_image S S⁺ μ B) F
numbers_fresh S S⁺ μ B S' F x n = either_num (S.at n) (S⁺.at n) (suc (B + n)) (μ n) (x n)

pub no_term : (S : Store) (μ : ℕ → Image) (S' : Store) → Numbers S μ S' → (n : ℕ) → IsTerm (μ n) → ⊥
no_term S μ S' x n e = let r = x n in subst IsTerm r.1 e

pub exact_given : (E : Environment) (free : Bool) (S : Store) (μ : ℕ → Image) (S' : Store) → Numbers S μ S' → (n : ℕ) (d : Declared) (i : Image) → μ n ≡ i → Given E free false S' (act μ) d i → Uses E free S' (act μ) d i
exact_given E free S μ S' x n d (Num m) g (number {c = c} h g1 g2 g3) = number_used E free S' (act μ) d m c h g1 g2
exact_given E free S μ S' x n d (Put u) g (term h k a) = absurd (no_term S μ S' x n (subst IsTerm (sym g) tt))
exact_given E free S μ S' x n d (Num m) g (loose_number z e g1 g2 g3) = absurd (true≢false (sym z))
exact_given E free S μ S' x n d (Wrap Δ u) g (loose_term z g1 g2 h g3 p a) = absurd (true≢false (sym z))

pub in_tr : (f : ℕ → Trees → Tree) (σ : ℕ → Tree) {t : Tree} {s : Trees} → In t s → In (tr f σ t) (tr_all f σ s)
in_tr f σ first = first
in_tr f σ (later i) = later (in_tr f σ i)

pub number_parts : (E : Environment) (free : Bool) (S : Store) (μ : ℕ → Image) (S' : Store) → Numbers S μ S' → (Θ : List Tree) (n : ℕ) (s : Trees) (t : Tree) → Holds E free S' Θ (Stands (act μ n s)) → In t s → Holds E free S' Θ (Stands t)
number_parts E free S μ S' x Θ n s t h i = let r = x n in k_terms (subst (λ j. Holds E free S' Θ (Stands (act_on j s))) r.1 h) i

module _ (E : Environment) (free : Bool) (closed : ClosedEnv E) where
  pub numbers_law : (S : Store) (μ : ℕ → Image) (S' : Store) → Over E free false S μ S' → Numbers S μ S' → (Γ : List Tree) (J : Judgement) → Holds E free S Γ J → Holds E free S' (tr_context (act μ) Γ) (tr_judgement (act μ) Var J)
  numbers_law = keeps_law E free closed false Numbers
      (λ S S⁺ w μ S' o B big x. numbers_fresh S S⁺ μ B S' (Fr E free false S S⁺ w μ S' o B big) x)
      (λ S S⁺ w μ S' o B big x n d u T Γ e g h. absurd (no_term S μ S' x n g))
      (λ S μ S' x n d e i g h. exact_given E free S μ S' x n d i g h)
      (λ S μ S' o x Γ n s t d h i. number_parts E free S μ S' x (tr_context (act μ) Γ) n (tr_all (act μ) Var s) (tr (act μ) Var t) h (in_tr (act μ) Var i))

  pub judgement_id : (J : Judgement) → tr_judgement Meta Var J ≡ J
  judgement_id IsContext = refl
  judgement_id (IsType T) = ap IsType (sub_id T)
  judgement_id (Has t T) = ap₂ Has (sub_id t) (sub_id T)
  judgement_id (Stands t) = ap Stands (sub_id t)
  judgement_id (Fitting e R ps k bs) = λ i. Fitting e (sub_id R i) (sub_id_all ps i) k (sub_id_arms bs i)
  judgement_id (Body e p R c T xs b) = λ i. Body e p (sub_id R i) (sub_id c i) (sub_id T i) xs ((ap (λ τ. sub τ b) (ups_id xs) ∙ sub_id b) i)

  pub context_id : (Γ : List Tree) → tr_context Meta Γ ≡ Γ
  context_id [] = refl
  context_id (A ∷ Γ) = ap₂ ◌∷◌ (sub_id A) (context_id Γ)

  pub body_id : (o : Option Tree) → body_tr Meta o ≡ o
  body_id None = refl
  body_id (Some b) = ap Some (sub_id b)

  pub decl_id : (d : Declared) → decl_tr Meta d ≡ d
  decl_id d = λ i. record { context = context_id d.context i; ty = sub_id d.ty i; body = body_id d.body i }

  -- the identity
  pub id_over : (S S' : Store) → Owned S → ((n : ℕ) (d : Declared) → S.at n ≡ Some d → S'.at n ≡ Some d) → Over E free false S Num S'
  id_over S S' own keeps = record { owned = own; images = λ n d e. number (keeps n d e) (sym (context_id d.context)) (sym (sub_id d.ty)) (λ b k. k ∙ ap Some (sym (sub_id b))) }

  pub id_numbers : (S S' : Store) → Numbers S Num S'
  id_numbers S S' n = (n, refl)

  -- A judgement holds over a larger store.
  pub larger_store : (S S' : Store) → Owned S → ((n : ℕ) (d : Declared) → S.at n ≡ Some d → S'.at n ≡ Some d) → (Γ : List Tree) (J : Judgement) → Holds E free S Γ J → Holds E free S' Γ J
  larger_store S S' own keeps Γ J d = subst₂ (λ Δ C. Holds E free S' Δ C) (context_id Γ) (judgement_id J) (numbers_law S Num S' (id_over S S' own keeps) (id_numbers S S') Γ J d)
