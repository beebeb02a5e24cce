-- The law of exchange, for a store of open metavariables.
use Rattle.std.proofs.Common.{◌⊎◌, inl, inr, eq-or-lt_of_le, le_of_suc-le-suc, le_of_eq, Bool, false, true≢false, true, ◌≡◌, ℕ, zero, suc, List, [], ◌∷◌, length, Option, Some, None, refl, sym, ap, ◌∙◌, subst, ◌≤◌, ◌<◌, ◌+◌, arith}
use Rattle.mt_term.proofs.Subst.{sub_id}
use Rattle.mt_calculus_laws.proofs.Steps.{Reduces, done, more, also, within_all, ReducesArms, done_arms, within_arm, within_later, ReducesIn, done_all, within_item, within_rest, ClosedEnv, contracts_tr}
use Rattle.mt_calculus_laws.proofs.Agree.{context_metas}
use Rattle.mt_calculus_laws.proofs.Images.{some_of, is_some_at, widens_owned, fr_keeps, lets, ty_at, ContextReduces, nil, cons, under_metas, Wrap, loose_number, loose_term, Image, Num, Put, either_one, act_on, act, Given, number, term, Over, Fr, fr_widens}
use Rattle.mt_term.proofs.Options.{none_some}
use Rattle.mt_calculus_laws.proofs.Follow.{match_reduces, also_arms, over_tracks, meta_tracks, lets_done, reduces_ren, two, also_all}
use Rattle.mt_term.proofs.Subst.{one_shift}
use Rattle.mt_calculus_laws.proofs.Known.{Inv, known}
use Rattle.mt_calculus_laws.proofs.Renames.{judgement_id, Fits, Uses, number_used, keeps_law, in_tr, larger_store}
use Rattle.mt_calculus_laws.proofs.Laws.{weakening, substitution, under_list}
use Rattle.mt_term.specs.Trees.{Tree, Trees, Arms, Var, Sort, Prod, Lam, App, Const, Ind, Con, Match, Meta, End, Item, NoArm, Arm}
use Rattle.mt_term.specs.Substitution.{ren, then_as, up, ups, tr, tr_all, tr_arms, sub, fill, beyond, under, count}
use Rattle.mt_term.specs.Declarations.{Environment}
use Rattle.mt_term.specs.Stores.{Declared, Store, AllMetas, AllMetasIn, AllMetasHeld, InStore, Owned}
use Rattle.mt_calculus.specs.Contraction.{Contracts, beta, in_dom, in_cod, in_type, in_body, in_fun, in_arg, ContractsIn, in_first}
use Rattle.mt_calculus.specs.Conversion.{Conv, same, back, chain, reduct, conv}
use Rattle.mt_calculus.specs.Typing.{Look, here, there, Judgement, IsContext, IsType, Has, Stands, Widens, In, first, later, Holds, c_empty, c_cons, t_var, t_lam, t_app, t_meta, t_sub, k_of, k_type_reduct, k_reduct, k_arg, k_terms}
use Rattle.mt_calculus_laws.specs.Laws.{tr_judgement, tr_context}

module _ (E : Environment) (free : Bool) (closed : ClosedEnv E) where
  pub type_steps : {S : Store} {Γ : List Tree} {t u : Tree} → Reduces E S t u → Holds E free S Γ (IsType t) → Holds E free S Γ (IsType u)
  type_steps done h = h
  type_steps (more c r) h = type_steps r (k_type_reduct h c)

  pub stands_steps : {S : Store} {Γ : List Tree} {t u : Tree} → Reduces E S t u → Holds E free S Γ (Stands t) → Holds E free S Γ (Stands u)
  stands_steps done h = h
  stands_steps (more c r) h = stands_steps r (k_reduct h c)

  red_conv : {S : Store} {t u : Tree} → Reduces E S t u → Conv E S t u
  red_conv done = same
  red_conv (more c r) = chain (reduct c) (red_conv r)

  has_steps : {S : Store} {Γ : List Tree} {t T U : Tree} → Reduces E S T U → Holds E free S Γ (Has t T) → Holds E free S Γ (Has t U)
  has_steps r h = t_sub h (conv (red_conv r)) (type_steps r (k_of h))

  pub red_under : (S : Store) (s : Trees) {t u : Tree} → Reduces E S t u → Reduces E S (under s t) (under s u)
  red_under S s done = done
  red_under S s (more c r) = also (contracts_tr E closed S Meta S (meta_tracks E S) c (fill s beyond)) (red_under S s r)

  -- a context and what it contracts to
  look_back : (S : Store) {Γ Δ : List Tree} → ContextReduces E S Γ Δ → (i : ℕ) (T : Tree) → Look Δ i T → (U : Tree) × Look Γ i U × Reduces E S U T
  look_back S nil i T l = elim l [ ]
  look_back S (cons {A = A} c r) i T here = (ren suc A, here, reduces_ren E closed S suc r)
  look_back S (cons c r) i T (there {T = V} l) = let p = look_back S c _ V l in (ren suc p.0, there p.1, reduces_ren E closed S suc p.2)

  step_context : (S : Store) → Owned S → (Γ Δ : List Tree) (A B : Tree) → Reduces E S A B → Holds E free S Γ IsContext → Holds E free S Γ (IsType A) → Holds E free S Δ IsContext × ((J : Judgement) → Holds E free S Γ J → Holds E free S Δ J) → Holds E free S (B ∷ Δ) IsContext × ((J : Judgement) → Holds E free S (A ∷ Γ) J → Holds E free S (B ∷ Δ) J)
  step_context S own Γ Δ A B r c a ih = (c', over)
    where
      a' : Holds E free S Δ (IsType A)
      a' = ih.1 (IsType A) a

      b : Holds E free S Δ (IsType B)
      b = type_steps r a'

      c' : Holds E free S (B ∷ Δ) IsContext
      c' = c_cons ih.0 b

      v : (i : ℕ) (T : Tree) → Look (A ∷ Γ) i T → Holds E free S (B ∷ Δ) (Has (Var i) (sub Var T))
      v i T here = subst (λ U. Holds E free S (B ∷ Δ) (Has (Var zero) U)) (sym (sub_id (ren suc A))) (t_sub (t_var c' here) (conv (back (red_conv (reduces_ren E closed S suc r)))) (weakening E free closed S Δ B (IsType A) own ih.0 b a'))
      v i T (there {i = j} {T = V} l) = subst (λ U. Holds E free S (B ∷ Δ) (Has (Var (suc j)) U)) (sym (sub_id (ren suc V))) (weakening E free closed S Δ B (Has (Var j) V) own ih.0 b (ih.1 (Has (Var j) V) (t_var c l)))

      over : (J : Judgement) → Holds E free S (A ∷ Γ) J → Holds E free S (B ∷ Δ) J
      over J h = subst (Holds E free S (B ∷ Δ)) (judgement_id E free closed J) (substitution E free closed S (A ∷ Γ) (B ∷ Δ) Var J own c' v h)

  pub context_steps : (S : Store) → Owned S → {Γ Δ : List Tree} → ContextReduces E S Γ Δ → Inv E free S Γ → Holds E free S Δ IsContext × ((J : Judgement) → Holds E free S Γ J → Holds E free S Δ J)
  context_steps S own nil v = (c_empty, λ J h. h)
  context_steps S own (cons {Γ = Γ} {Δ = Δ} {A = A} {B = B} c r) v = step_context S own Γ Δ A B r v.0 v.1 (context_steps S own c v.2)

  reduces_length : (S : Store) {Γ Δ : List Tree} → ContextReduces E S Γ Δ → length Γ ≡ length Δ
  reduces_length S nil = refl
  reduces_length S (cons c r) = ap suc (reduces_length S c)

  fits_steps : (S : Store) (Θ : List Tree) (s : Trees) {Γ Δ : List Tree} → ContextReduces E S Γ Δ → Fits E free S Θ s Γ → Fits E free S Θ s Δ
  fits_steps S Θ s c fits i T l = let p = look_back S c i T l in has_steps (red_under S s p.2) (fits i p.0 p.1)

  pub look_ty : (Γ : List Tree) (k : ℕ) → k < length Γ → Look Γ k (ty_at Γ k)
  look_ty [] k h = absurd (omega arith)
  look_ty (A ∷ Γ) zero h = here
  look_ty (A ∷ Γ) (suc k) h = there (look_ty Γ k (omega arith))

  -- the trace keeps the type
  lets_has : (S : Store) (Θ : List Tree) (s : Trees) (Δ : List Tree) (r R : Tree) → Owned S → Holds E free S Θ IsContext → Fits E free S Θ s Δ → Holds E free S Θ (Has r R) → (k : ℕ) → k ≤ length Δ → Holds E free S Θ (Has (lets k s Δ r) R)
  lets_has S Θ s Δ r R own c fits h zero le = h
  lets_has S Θ s Δ r R own c fits h (suc k) le =
      let A : Tree = under s (ty_at Δ k) in
      let a : Holds E free S Θ (Has (fill s beyond k) A) = fits k (ty_at Δ k) (look_ty Δ k le) in
      let t : Holds E free S Θ (IsType A) = k_of a in
      let ih : Holds E free S Θ (Has (lets k s Δ r) R) = lets_has S Θ s Δ r R own c fits h k (omega arith) in
      let g = t_app (t_lam {x = []} t (weakening E free closed S Θ A (Has (lets k s Δ r) R) own c t ih)) a in
      subst (λ T. Holds E free S Θ (Has (lets (suc k) s Δ r) T)) (one_shift (fill s beyond k) R) g

  -- and shows each term
  lets_show : (S : Store) (Θ : List Tree) (s : Trees) (Δ : List Tree) (r : Tree) (k i : ℕ) → i < k → Holds E free S Θ (Stands (lets k s Δ r)) → Holds E free S Θ (Stands (fill s beyond i))
  lets_show S Θ s Δ r zero i lt h = absurd (omega arith)
  lets_show S Θ s Δ r (suc k) i lt h = go (λ l. lets_show S Θ s Δ r k i l inside) (eq-or-lt_of_le (le_of_suc-le-suc lt))
    where
      inside : Holds E free S Θ (Stands (lets k s Δ r))
      inside = k_reduct h (subst (Contracts E S (lets (suc k) s Δ r)) (one_shift (fill s beyond k) (lets k s Δ r)) beta)

      go : (i < k → Holds E free S Θ (Stands (fill s beyond i))) → (i ≡ k) ⊎ (i < k) → Holds E free S Θ (Stands (fill s beyond i))
      go ih (inl e) = subst (λ j. Holds E free S Θ (Stands (fill s beyond j))) (sym e) (k_arg h)
      go ih (inr l) = ih l

  -- a term of a list, by its place
  fill_far : (s : Trees) (σ : ℕ → Tree) (i : ℕ) → fill s σ (count s + i) ≡ σ i
  fill_far End σ i = ap σ (omega arith)
  fill_far (Item t s) σ i = ap (fill s (then_as t σ)) (omega arith) ∙ fill_far s (then_as t σ) (suc i)

  pub place_of : (s : Trees) (σ : ℕ → Tree) (t : Tree) → In t s → (i : ℕ) × (i < count s) × (fill s σ i ≡ t)
  place_of End σ t i = elim i [ ]
  place_of (Item u s) σ t first = (count s, omega arith, ap (fill s (then_as u σ)) (omega arith) ∙ fill_far s (then_as u σ) 0)
  place_of (Item u s) σ t (later i) = let p = place_of s (then_as u σ) t i in (p.0, omega (arith, p.1), p.2)

  -- The traced image.
  abbrev pub NotPut : Image → Type 0
  NotPut (Num m) = Unit {0}
  NotPut (Put u) = ⊥
  NotPut (Wrap Δ u) = Unit {0}

  abbrev pub Traced : Store → (ℕ → Image) → Store → Type 0
  Traced S μ S' = Owned S' × ((n : ℕ) → NotPut (μ n))

  traced_given : (S : Store) (μ : ℕ → Image) (S' : Store) → Traced S μ S' → (d : Declared) (i : Image) → NotPut i → Given E free true S' (act μ) d i → Uses E free S' (act μ) d i
  traced_given S μ S' x d (Num m) p (number {c = c} h g1 g2 g3) Θ s k dc dt len fits = number_used E free S' (act μ) d m c h g1 g2 Θ s k dc dt len fits
  traced_given S μ S' x d (Put u) p g Θ s k dc dt len fits = absurd p
  traced_given S μ S' x d (Num m) p (loose_number {c = c} z h g1 g2 g3) Θ s k dc dt len fits =
      let f : ℕ → Trees → Tree = act μ in
      let m2 = context_steps S' x.0 g1 (known E free dc).1 in
      let fits' : Fits E free S' Θ s (c.context) = fits_steps S' Θ s g1 fits in
      let b = t_meta k h m2.0 (type_steps g2 (m2.1 (IsType (tr f Var (d.ty))) dt)) (len ∙ reduces_length S' g1) fits' in
      t_sub b (conv (back (red_conv (red_under S' s g2)))) (under_list E free closed S' (tr_context f (d.context)) Θ s (IsType (tr f Var (d.ty))) x.0 k fits dt)
  traced_given S μ S' x d (Wrap Δ u) p (loose_term {T = T} z g1 g2 h g3 q a) Θ s k dc dt len fits =
      let f : ℕ → Trees → Tree = act μ in
      let fits' : Fits E free S' Θ s Δ = fits_steps S' Θ s g1 fits in
      let b = under_list E free closed S' Δ Θ s (Has u T) x.0 k fits' h in
      let n : count s ≤ length Δ = le_of_eq (len ∙ reduces_length S' g1) in
      t_sub (lets_has S' Θ s Δ (under s u) (under s T) x.0 k fits' b (count s) n) (conv (back (red_conv (red_under S' s g2)))) (under_list E free closed S' (tr_context f (d.context)) Θ s (IsType (tr f Var (d.ty))) x.0 k fits dt)

  pub either_not : (o p : Option Declared) (k : ℕ) (i : Image) → NotPut i → NotPut (either_one o p (Num k) i)
  either_not None None k i r = r
  either_not None (Some d) k i r = tt
  either_not (Some d) p k i r = r

  traced_parts : (S' : Store) (Θ : List Tree) (i : Image) → NotPut i → (s : Trees) (t : Tree) → Holds E free S' Θ (Stands (act_on i s)) → In t s → Holds E free S' Θ (Stands t)
  traced_parts S' Θ (Num m) p s t h i = k_terms h i
  traced_parts S' Θ (Put u) p s t h i = absurd p
  traced_parts S' Θ (Wrap Δ u) p s t h i = let q = place_of s beyond t i in subst (λ v. Holds E free S' Θ (Stands v)) q.2 (lets_show S' Θ s Δ (under s u) (count s) q.0 q.1 h)

  pub traced_law : (S : Store) (μ : ℕ → Image) (S' : Store) → Over E free true S μ S' → Traced S μ S' → (Γ : List Tree) (J : Judgement) → Holds E free S Γ J → Holds E free S' (tr_context (act μ) Γ) (tr_judgement (act μ) Var J)
  traced_law = keeps_law E free closed true Traced
      (λ S S⁺ w μ S' o B big x. (widens_owned S' (Fr E free true S S⁺ w μ S' o B big) (fr_widens E free true S S⁺ w μ S' o B big) x.0, λ n. either_not (S.at n) (S⁺.at n) (suc (B + n)) (μ n) (x.1 n)))
      (λ S S⁺ w μ S' o B big x n d u T Γ e g h. larger_store E free closed S' (Fr E free true S S⁺ w μ S' o B big) x.0 (fr_keeps E free true S S⁺ w μ S' o B big) Γ (Has u T) h)
      (λ S μ S' x n d e i g h. traced_given S μ S' x d i (subst NotPut g (x.1 n)) h)
      (λ S μ S' o x Γ n s t d h i. traced_parts S' (tr_context (act μ) Γ) (μ n) (x.1 n) (tr_all (act μ) Var s) (tr (act μ) Var t) h (in_tr (act μ) Var i))

  -- The plain image, by way of the traced one.
  abbrev wrapped : (ℕ → Trees → Tree) → Option Declared → Image → Image
  wrapped f o (Num m) = Num m
  wrapped f None (Put u) = Wrap [] u
  wrapped f (Some d) (Put u) = Wrap (tr_context f (d.context)) u
  wrapped f o (Wrap Δ u) = Wrap Δ u

  abbrev traced : Store → (ℕ → Image) → ℕ → Image
  traced S μ n = wrapped (act μ) (S.at n) (μ n)

  wrapped_steps : (S' : Store) (f : ℕ → Trees → Tree) (o : Option Declared) (i : Image) (s : Trees) → Reduces E S' (act_on (wrapped f o i) s) (act_on i s)
  wrapped_steps S' f None (Num m) s = done
  wrapped_steps S' f (Some d) (Num m) s = done
  wrapped_steps S' f None (Put u) s = lets_done E closed S' (count s) s [] (under s u)
  wrapped_steps S' f (Some d) (Put u) s = lets_done E closed S' (count s) s (tr_context f (d.context)) (under s u)
  wrapped_steps S' f None (Wrap Δ u) s = done
  wrapped_steps S' f (Some d) (Wrap Δ u) s = done

  wrapped_not : (f : ℕ → Trees → Tree) (o : Option Declared) (i : Image) → NotPut (wrapped f o i)
  wrapped_not f None (Num m) = tt
  wrapped_not f (Some d) (Num m) = tt
  wrapped_not f None (Put u) = tt
  wrapped_not f (Some d) (Put u) = tt
  wrapped_not f None (Wrap Δ u) = tt
  wrapped_not f (Some d) (Wrap Δ u) = tt

  module _ (S' : Store) (f g : ℕ → Trees → Tree) (k : (n : ℕ) (s : Trees) → Reduces E S' (f n s) (g n s)) (kg : (n : ℕ) (s t : Trees) → ContractsIn E S' s t → Reduces E S' (g n s) (g n t)) where
    mutual
      pub steps_tr : (σ : ℕ → Tree) (t : Tree) → Reduces E S' (tr f σ t) (tr g σ t)
      steps_tr σ (Var i) = done
      steps_tr σ (Sort s) = done
      steps_tr σ (Prod x A B) = two E closed S' (Prod x) (λ a b c. in_dom) (λ a b c. in_cod) (steps_tr σ A) (steps_tr (up σ) B)
      steps_tr σ (Lam x A b) = two E closed S' (Lam x) (λ a b c. in_type) (λ a b c. in_body) (steps_tr σ A) (steps_tr (up σ) b)
      steps_tr σ (App t a) = two E closed S' App (λ a b c. in_fun) (λ a b c. in_arg) (steps_tr σ t) (steps_tr σ a)
      steps_tr σ (Const c) = done
      steps_tr σ (Ind e) = done
      steps_tr σ (Con e k) = done
      steps_tr σ (Match e R c bs) = match_reduces e (steps_tr σ R) (steps_tr σ c) (steps_tr_arms σ bs)
      steps_tr σ (Meta n s) = also (k n (tr_all f σ s)) (within_all (g n) (kg n) (steps_tr_all σ s))

      pub steps_tr_all : (σ : ℕ → Tree) (s : Trees) → ReducesIn E S' (tr_all f σ s) (tr_all g σ s)
      steps_tr_all σ End = done_all
      steps_tr_all σ (Item t s) = also_all (within_item (λ v. Item v (tr_all f σ s)) (λ a b. in_first) (steps_tr σ t)) (within_rest (tr g σ t) (steps_tr_all σ s))

      pub steps_tr_arms : (σ : ℕ → Tree) (bs : Arms) → ReducesArms E S' (tr_arms f σ bs) (tr_arms g σ bs)
      steps_tr_arms σ NoArm = done_arms
      steps_tr_arms σ (Arm xs b bs) = also_arms (within_arm xs (tr_arms f σ bs) (steps_tr (ups xs σ) b)) (within_later xs (tr g (ups xs σ) b) (steps_tr_arms σ bs))

    pub context_tr : (Γ : List Tree) → ContextReduces E S' (tr_context f Γ) (tr_context g Γ)
    context_tr [] = nil
    context_tr (A ∷ Γ) = cons (context_tr Γ) (steps_tr Var A)

  abbrev Opens : Store → (ℕ → Image) → Store → Type 0
  Opens S μ S' = Owned S' × ((n : ℕ) (d : Declared) → S.at n ≡ Some d → d.body ≡ None)

  module _ (S : Store) (μ : ℕ → Image) (S' : Store) (o : Over E free false S μ S') (x : Opens S μ S') where
    toward : (n : ℕ) (s : Trees) → Reduces E S' (act (traced S μ) n s) (act μ n s)
    toward n s = wrapped_steps S' (act μ) (S.at n) (μ n) s

    kept : (n : ℕ) (s t : Trees) → ContractsIn E S' s t → Reduces E S' (act μ n s) (act μ n t)
    kept = (over_tracks E free closed false S μ S' o).terms

    own_metas : (n : ℕ) (s : Trees) → InStore S n → AllMetasIn (InStore S') s → AllMetas (InStore S') (act μ n s)
    own_metas n s p q = let r = some_of (S.at n) p in go r.0 (μ n) (o.images n r.0 r.1)
      where
        go : (d : Declared) (i : Image) → Given E free false S' (act μ) d i → AllMetas (InStore S') (act_on i s)
        go d (Num m) (number {c = c} e g1 g2 g3) = (is_some_at e, q)
        go d (Put u) (term h b a) = under_metas (InStore S') s u q a
        go d (Num m) (loose_number z e g1 g2 g3) = absurd (true≢false (sym z))
        go d (Wrap Δ u) (loose_term z g1 g2 h g3 p a) = absurd (true≢false (sym z))

    traced_over : Over E free true S (traced S μ) S'
    traced_over = record { owned = o.owned; images = images }
      where
        go : (d : Declared) → AllMetasHeld (InStore S) d → d.body ≡ None → (i : Image) → Given E free false S' (act μ) d i → Given E free true S' (act (traced S μ)) d (wrapped (act μ) (Some d) i)
        go d a b (Num m) (number {c = c} e g1 g2 g3) = loose_number {c = c} refl e (subst (ContextReduces E S' (tr_context (act (traced S μ)) (d.context))) (sym g1) (context_tr S' (act (traced S μ)) (act μ) toward kept (d.context))) (subst (Reduces E S' (tr (act (traced S μ)) Var (d.ty))) (sym g2) (steps_tr S' (act (traced S μ)) (act μ) toward kept Var (d.ty))) b
        go d a b (Put u) (term h k q) = loose_term refl (context_tr S' (act (traced S μ)) (act μ) toward kept (d.context)) (steps_tr S' (act (traced S μ)) (act μ) toward kept Var (d.ty)) h (λ c k. absurd (none_some (sym b ∙ k))) (context_metas (InStore S) (InStore S') (act μ) own_metas (d.context) a.context) q
        go d a b (Num m) (loose_number z e g1 g2 g3) = absurd (true≢false (sym z))
        go d a b (Wrap Δ u) (loose_term z g1 g2 h g3 p q) = absurd (true≢false (sym z))

        images : (n : ℕ) (d : Declared) → S.at n ≡ Some d → Given E free true S' (act (traced S μ)) d (traced S μ n)
        images n d e = subst (λ p. Given E free true S' (act (traced S μ)) d (wrapped (act μ) p (μ n))) (sym e) (go d (o.owned n d e) (x.1 n d e) (μ n) (o.images n d e))

    traced_on : Traced S (traced S μ) S'
    traced_on = (x.0, λ n. wrapped_not (act μ) (S.at n) (μ n))

    -- what stands under the traced image stands under the plain one
    plain_stands : (Γ : List Tree) (t : Tree) → Holds E free S Γ (Stands t) → Holds E free S' (tr_context (act μ) Γ) (Stands (tr (act μ) Var t))
    plain_stands Γ t h =
        let ν : ℕ → Image = traced S μ in
        let r : Holds E free S' (tr_context (act ν) Γ) (Stands (tr (act ν) Var t)) = traced_law S ν S' traced_over traced_on Γ (Stands t) h in
        let c = context_steps S' x.0 (context_tr S' (act ν) (act μ) toward kept Γ) (known E free r).1 in
        stands_steps (steps_tr S' (act ν) (act μ) toward kept Var t) (c.1 (Stands (tr (act ν) Var t)) r)

  pub plain_given : (S : Store) (μ : ℕ → Image) (S' : Store) → Owned S' → (d : Declared) (i : Image) → Given E free false S' (act μ) d i → Uses E free S' (act μ) d i
  plain_given S μ S' own d (Num m) (number {c = c} h g1 g2 g3) Θ s k dc dt len fits = number_used E free S' (act μ) d m c h g1 g2 Θ s k dc dt len fits
  plain_given S μ S' own d (Put u) (term h b a) Θ s k dc dt len fits = under_list E free closed S' (tr_context (act μ) (d.context)) Θ s (Has u (tr (act μ) Var (d.ty))) own k fits h
  plain_given S μ S' own d (Num m) (loose_number z e g1 g2 g3) Θ s k dc dt len fits = absurd (true≢false (sym z))
  plain_given S μ S' own d (Wrap Δ u) (loose_term z g1 g2 h g3 p q) Θ s k dc dt len fits = absurd (true≢false (sym z))

  opens_still : (S S⁺ : Store) → Widens S S⁺ → ((n : ℕ) (d : Declared) → S.at n ≡ Some d → d.body ≡ None) → (n : ℕ) (d : Declared) → S⁺.at n ≡ Some d → d.body ≡ None
  opens_still S S⁺ w h n d e = go (S.at n) refl
    where
      go : (p : Option Declared) → S.at n ≡ p → d.body ≡ None
      go None g = w.opens n d g e
      go (Some c) g = h n d (g ∙ sym (w.keeps n c g) ∙ e)

  -- Exchange: each open metavariable of S is given a number or a term of its type.
  pub exchange : (S : Store) (μ : ℕ → Image) (S' : Store) → Over E free false S μ S' → Owned S' → ((n : ℕ) (d : Declared) → S.at n ≡ Some d → d.body ≡ None) → (Γ : List Tree) (J : Judgement) → Holds E free S Γ J → Holds E free S' (tr_context (act μ) Γ) (tr_judgement (act μ) Var J)
  exchange S μ S' over own opens Γ J d = keeps_law E free closed false Opens
      (λ S S⁺ w μ S' o B big x. (widens_owned S' (Fr E free false S S⁺ w μ S' o B big) (fr_widens E free false S S⁺ w μ S' o B big) x.0, opens_still S S⁺ w x.1))
      (λ S S⁺ w μ S' o B big x n d u T Γ e g h. larger_store E free closed S' (Fr E free false S S⁺ w μ S' o B big) x.0 (fr_keeps E free false S S⁺ w μ S' o B big) Γ (Has u T) h)
      (λ S μ S' x n d e i g h. plain_given S μ S' x.0 d i h)
      (λ S μ S' o x Γ n s t d h i. plain_stands S μ S' o x Γ t (k_terms d i))
      S μ S' over (own, opens) Γ J d
