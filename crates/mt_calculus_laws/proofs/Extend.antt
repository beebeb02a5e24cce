-- The assignment of an open metavariable keeps the store sound (each declaration over the part of lower numbers).
use Rattle.std.proofs.Common.{eqb, true≢false, Bool, false, true, ◌≡◌, ℕ, zero, suc, List, Option, Some, None, refl, sym, ap, ◌∙◌, subst, subst₂, ◌≤◌, ◌<◌, ◌+◌, ◌≢◌, max, arith, ◌⊎◌, inl, inr}
use Rattle.mt_calculus_laws.proofs.Steps.{ClosedEnv}
use Rattle.mt_calculus_laws.proofs.Agree.{weaker_judgement, both_metas, both_of, context_agree, judgement_agree}
use Rattle.mt_term.proofs.ReachLaws.{weaker, weaker_of, either, RankedAll}
use Rattle.mt_calculus_laws.proofs.Images.{decl_agree, some_of, is_some_at, act_on, act, decl_tr, body_tr}
use Rattle.mt_term.proofs.Options.{none_some, some_inj}
use Rattle.mt_calculus_laws.proofs.Renames.{context_id, judgement_id, decl_id, larger_store}
use Rattle.mt_calculus_laws.proofs.Laws.{extension}
use Rattle.mt_calculus_laws.proofs.Instance.{choose, Shut, Ranked, inst, inst_store, inst_absent, inst_kept, inst_inv, inst_owned, kept_num}
use Rattle.mt_calculus_laws.proofs.Below.{SoundBelow, below, below_inv, below_has, unfolding_law, cases}
use Rattle.std.proofs.lemmas.Bool.Decides.{eqb_tells}
use Rattle.mt_term.specs.Trees.{Tree, Trees, Var, Meta}
use Rattle.mt_term.specs.Declarations.{Environment}
use Rattle.mt_term.specs.Stores.{Declared, Store, AllMetas, AllMetasOf, AllMetasHeld, InStore, Owned}
use Rattle.mt_term.specs.StoreChanges.{Kept, Extends}
use Rattle.mt_calculus.specs.Typing.{Judgement, IsContext, IsType, Has, JudgementMetas, Widens, Holds, k_metas}
use Rattle.mt_calculus_laws.specs.Laws.{tr_judgement, tr_context}

abbrev pub only_if : {A : Type 0} → Bool → Option A → Option A
only_if true o = o
only_if false o = None

-- the part of a store that a shut set holds
module _ (E : Environment) (closed : ClosedEnv E) (S : Store) (own : Owned S) (r : ℕ → ℕ) (all : RankedAll S r) (sound : (n : ℕ) (d : Declared) → S.at n ≡ Some d → SoundBelow E true S r n d) (P : ℕ → Bool) (shut : Shut S P) where
  ranked : Ranked S r
  ranked n d b e h = (all n d e).body b h

  abbrev part_at : ℕ → Option Declared
  part_at m = only_if (P m) (S.at m)

  part_none : (m : ℕ) → S.bound ≤ m → part_at m ≡ None
  part_none m h = go (P m)
    where
      go : (b : Bool) → only_if b (S.at m) ≡ None
      go true = S.none m h
      go false = refl

  pub part : Store
  part = record { at = part_at; bound = S.bound; none = part_none }

  part_is : (m : ℕ) → part.at m ≡ part_at m
  unfolding part
  part_is m = refl

  only_inv : (b : Bool) (o : Option Declared) (c : Declared) → only_if b o ≡ Some c → (b ≡ true) × (o ≡ Some c)
  only_inv true o c e = (refl, e)
  only_inv false o c e = absurd (none_some e)

  pub part_inv : (m : ℕ) (c : Declared) → part.at m ≡ Some c → (P m ≡ true) × (S.at m ≡ Some c)
  part_inv m c e = only_inv (P m) (S.at m) c (sym (part_is m) ∙ e)

  pub part_same : (m : ℕ) → P m ≡ true → part.at m ≡ S.at m
  part_same m e = part_is m ∙ ap (λ b. only_if b (S.at m)) e

  abbrev f : ℕ → Trees → Tree
  f = act (inst S r P)

  abbrev T : Store
  T = inst_store S r P

  keeps_act : (m : ℕ) (s : Trees) → P m ≡ true → f m s ≡ Meta m s
  keeps_act m s p = ap (λ i. act_on i s) (kept_num S r P m p)

  same_decl : (m : ℕ) (c : Declared) → P m ≡ true → S.at m ≡ Some c → decl_tr f c ≡ c
  same_decl m c p e = decl_agree (λ k. P k ≡ true) f Meta keeps_act c (shut m c p e) ∙ decl_id E true closed c

  T_has : (m : ℕ) (c : Declared) → P m ≡ true → S.at m ≡ Some c → T.at m ≡ Some c
  T_has m c p e = inst_kept S r P m c e p ∙ ap Some (same_decl m c p e)

  T_same : (m : ℕ) → P m ≡ true → part.at m ≡ T.at m
  T_same m p = go (S.at m) refl
    where
      go : (o : Option Declared) → S.at m ≡ o → part.at m ≡ T.at m
      go None e = part_same m p ∙ e ∙ sym (inst_absent S r P m e)
      go (Some c) e = part_same m p ∙ e ∙ sym (T_has m c p e)

  widens : Widens part T
  widens = record { keeps = λ m c e. let q = part_inv m c e in T_has m c q.0 q.1; opens = opens; owns = λ m c e h. let o = inst_owned S r P ranked own shut m c h in (o.context, o.ty) }
    where
      opens : (m : ℕ) (c : Declared) → part.at m ≡ None → T.at m ≡ Some c → c.body ≡ None
      opens m c e h = let z = inst_inv S r P ranked own shut m c h in go z.0 z.1 z.2 z.3
        where
          go : (d : Declared) → S.at m ≡ Some d → c ≡ decl_tr f d → (P m ≡ true) ⊎ (d.body ≡ None) → c.body ≡ None
          go d g q (inl p) = absurd (none_some (sym e ∙ part_same m p ∙ g))
          go d g q (inr b) = ap (λ (a : Declared). a.body) q ∙ ap (body_tr f) b

  pub part_owned : Owned part
  part_owned m c e =
      let q = part_inv m c e in
      let a = shut m c q.0 q.1 in
      let b = own m c q.1 in
      record { context = both_of (λ k. P k ≡ true) (InStore S) (InStore part) in_part c.context a.context b.context; ty = both_metas (λ k. P k ≡ true) (InStore S) (InStore part) in_part c.ty a.ty b.ty; body = λ t h. both_metas (λ k. P k ≡ true) (InStore S) (InStore part) in_part t (a.body t h) (b.body t h) }
    where
      in_part : (k : ℕ) → P k ≡ true → InStore S k → InStore part k
      in_part k x y z = y (sym (part_same k x) ∙ z)

  -- A judgement that mentions the set alone holds over its part of the store: the others are unfolded, or dropped.
  pub narrow : (Γ : List Tree) (J : Judgement) → AllMetasOf (λ k. P k ≡ true) Γ → JudgementMetas (λ k. P k ≡ true) J → Holds E true S Γ J → Holds E true part Γ J
  narrow Γ J g j h =
      let Q : ℕ → Type 0 = λ k. P k ≡ true in
      let h1 : Holds E true T (tr_context f Γ) (tr_judgement f Var J) = unfolding_law E true closed S r own all sound P shut Γ J h in
      let e1 : tr_context f Γ ≡ Γ = context_agree Q f Meta keeps_act Γ g ∙ context_id E true closed Γ in
      let e2 : tr_judgement f Var J ≡ J = judgement_agree Q f Meta keeps_act Var J j ∙ judgement_id E true closed J in
      let h2 : Holds E true T Γ J = subst₂ (λ Δ C. Holds E true T Δ C) e1 e2 h1 in
      k_metas refl widens (weaker_of Q (λ k. part.at k ≡ T.at k) T_same Γ g) (weaker_judgement Q (λ k. part.at k ≡ T.at k) T_same J j) h2

abbrev pub most : (ℕ → ℕ) → ℕ → ℕ
most r zero = r zero
most r (suc k) = max (r (suc k)) (most r k)

pub le_most : (r : ℕ → ℕ) (k m : ℕ) → m ≤ k → r m ≤ most r k
le_most r zero zero h = omega arith
le_most r zero (suc m) h = absurd (omega arith)
le_most r (suc k) m h = go (le_most r k m) (eqb_tells m (suc k))
  where
    go : (m ≤ k → r m ≤ most r k) → ((eqb m (suc k) ≡ true) × (m ≡ suc k)) ⊎ ((eqb m (suc k) ≡ false) × (m ≢ suc k)) → r m ≤ max (r (suc k)) (most r k)
    go ih (inl e) = subst (λ i. r i ≤ max (r (suc k)) (most r k)) (sym e.1) (omega arith)
    go ih (inr e) = let l : m ≤ k = below e.1 in omega (arith, ih l)
      where
        below : m ≢ suc k → m ≤ k
        below x = omega (arith, x, h)

-- n, which is open, is given the body v; v reaches P, and n is not in P
module _ (E : Environment) (closed : ClosedEnv E) (S : Store) (own : Owned S) (r : ℕ → ℕ) (all : RankedAll S r) (sound : (n : ℕ) (d : Declared) → S.at n ≡ Some d → SoundBelow E true S r n d) (P : ℕ → Bool) (shut : Shut S P)
    (n : ℕ) (d : Declared) (at_n : S.at n ≡ Some d) (opened : d.body ≡ None) (v : Tree) (typed : Holds E true S (d.context) (Has v (d.ty)))
    (apart : P n ≡ false) (in_context : AllMetasOf (λ k. P k ≡ true) (d.context)) (in_ty : AllMetas (λ k. P k ≡ true) (d.ty)) (in_value : AllMetas (λ k. P k ≡ true) v) (own_v : AllMetas (InStore S) v) where
  abbrev pub filled : Declared
  filled = record { context = d.context; ty = d.ty; body = Some v }

  abbrev next_at : ℕ → Option Declared
  next_at m = choose (eqb n m) (Some filled) (S.at m)

  next_none : (m : ℕ) → S.bound ≤ m → next_at m ≡ None
  next_none m h = go (eqb_tells n m)
    where
      go : ((eqb n m ≡ true) × (n ≡ m)) ⊎ ((eqb n m ≡ false) × (n ≢ m)) → next_at m ≡ None
      go (inl e) = absurd (none_some (sym (S.none m h) ∙ ap S.at (sym e.1) ∙ at_n))
      go (inr e) = ap (λ b. choose b (Some filled) (S.at m)) e.0 ∙ S.none m h

  -- S with n := v
  pub next : Store
  next = record { at = next_at; bound = S.bound; none = next_none }

  next_is : (m : ℕ) → next.at m ≡ next_at m
  unfolding next
  next_is m = refl

  pub next_n : next.at n ≡ Some filled
  next_n = next_is n ∙ ap (λ b. choose b (Some filled) (S.at n)) (go (eqb_tells n n))
    where
      go : ((eqb n n ≡ true) × (n ≡ n)) ⊎ ((eqb n n ≡ false) × (n ≢ n)) → eqb n n ≡ true
      go (inl e) = e.0
      go (inr e) = absurd (e.1 refl)

  pub next_other : (m : ℕ) → n ≢ m → next.at m ≡ S.at m
  next_other m x = next_is m ∙ ap (λ b. choose b (Some filled) (S.at m)) (go (eqb_tells n m))
    where
      go : ((eqb n m ≡ true) × (n ≡ m)) ⊎ ((eqb n m ≡ false) × (n ≢ m)) → eqb n m ≡ false
      go (inl e) = absurd (x e.1)
      go (inr e) = e.0

  is_n : (m : ℕ) → (n ≡ m) ⊎ (n ≢ m)
  is_n m = go (eqb_tells n m)
    where
      go : ((eqb n m ≡ true) × (n ≡ m)) ⊎ ((eqb n m ≡ false) × (n ≢ m)) → (n ≡ m) ⊎ (n ≢ m)
      go (inl e) = inl e.1
      go (inr e) = inr e.1

  in_next : (m : ℕ) → InStore S m → InStore next m
  in_next m h = go (is_n m)
    where
      go : (n ≡ m) ⊎ (n ≢ m) → InStore next m
      go (inl e) = is_some_at (ap next.at (sym e) ∙ next_n)
      go (inr x) = is_some_at (next_other m x ∙ (some_of (S.at m) h).1)

  pub next_owned : Owned next
  next_owned m c e = go (is_n m)
    where
      wide : (a : Declared) → AllMetasHeld (InStore S) a → AllMetasHeld (InStore next) a
      wide a w = record { context = weaker_of (InStore S) (InStore next) in_next (a.context) w.context; ty = weaker (InStore S) (InStore next) in_next (a.ty) w.ty; body = λ b h. weaker (InStore S) (InStore next) in_next b (w.body b h) }

      go : (n ≡ m) ⊎ (n ≢ m) → AllMetasHeld (InStore next) c
      go (inl q) =
          let w = own n d at_n in
          subst (AllMetasHeld (InStore next)) (some_inj (sym next_n ∙ ap next.at q ∙ e))
          (wide filled (record { context = w.context; ty = w.ty; body = λ b h. subst (AllMetas (InStore S)) (some_inj h) own_v }))
      go (inr x) = wide c (own m c (sym (next_other m x) ∙ e))

  abbrev step : ℕ
  step = suc (most r (S.bound))

  abbrev pub next_rank : ℕ → ℕ
  next_rank m = choose (P m) (r m) (r m + step)

  rank_in : (m : ℕ) → P m ≡ true → next_rank m ≡ r m
  rank_in m p = ap (λ b. choose b (r m) (r m + step)) p

  rank_out : (m : ℕ) → P m ≡ false → next_rank m ≡ r m + step
  rank_out m p = ap (λ b. choose b (r m) (r m + step)) p

  rank_le : (m : ℕ) → next_rank m ≤ r m + step
  rank_le m = go (cases (P m))
    where
      go : (P m ≡ true) ⊎ (P m ≡ false) → next_rank m ≤ r m + step
      go (inl p) = omega (arith, rank_in m p)
      go (inr p) = omega (arith, rank_out m p)

  -- each number of the store is less than the step
  rank_small : (m : ℕ) (c : Declared) → S.at m ≡ Some c → r m < step
  rank_small m c e = go (either m (S.bound))
    where
      go : (m ≤ S.bound) ⊎ (S.bound < m) → r m < step
      go (inl l) = omega (arith, le_most r (S.bound) m l)
      go (inr l) = absurd (none_some (sym (S.none m (omega arith)) ∙ e))

  not_in_p : (m : ℕ) → P m ≡ true → n ≢ m
  not_in_p m p x = true≢false (sym p ∙ ap P (sym x) ∙ apart)

  -- the part of S of lower numbers than n
  low_in_next : (m : ℕ) (c : Declared) → (below S r (r n)).at m ≡ Some c → (below next next_rank (next_rank n)).at m ≡ Some c
  low_in_next m c e =
      let q = below_inv S r (r n) m c e in
      let x : n ≢ m = λ x. no_less m x q.0 in
      let l : next_rank m < next_rank n = omega (arith, q.0, rank_le m, rank_out n apart) in
      below_has next next_rank (next_rank n) m c l (next_other m x ∙ q.1)
    where
      no_less : (m : ℕ) → n ≡ m → r m < r n → ⊥
      no_less m x l = let e : r n ≡ r m = ap r x in omega (arith, e, l)

  under_owned : (k : ℕ) → Owned (below S r k)
  under_owned k m c e = record { context = both_of (InStore S) (λ j. r j < r m) (InStore (below S r k)) low c.context a.context b.context; ty = both_metas (InStore S) (λ j. r j < r m) (InStore (below S r k)) low c.ty a.ty b.ty; body = λ t h. both_metas (InStore S) (λ j. r j < r m) (InStore (below S r k)) low t (a.body t h) (b.body t h) }
    where
      q : (r m < k) × (S.at m ≡ Some c)
      q = below_inv S r k m c e

      a : AllMetasHeld (InStore S) c
      a = own m c q.1

      b : AllMetasHeld (λ j. r j < r m) c
      b = all m c q.1

      low : (j : ℕ) → InStore S j → r j < r m → InStore (below S r k) j
      low j x l = let z = some_of (S.at j) x in let l' : r j < k = omega (arith, q.0) in is_some_at (below_has S r k j z.0 l' z.1)

  -- n itself
  filled_sound : SoundBelow E true next next_rank n filled
  filled_sound =
      let w = sound n d at_n in
      let B : Store = below next next_rank (next_rank n) in
      record { context = larger_store E true closed (below S r (r n)) B (under_owned (r n)) low_in_next (d.context) IsContext w.context; ty = larger_store E true closed (below S r (r n)) B (under_owned (r n)) low_in_next (d.context) (IsType (d.ty)) w.ty; body = λ b h. subst (λ t. Holds E true B (d.context) (Has t (d.ty))) (some_inj h) value }
    where
      keeps : (m : ℕ) (c : Declared) → (part E closed S own r all sound P shut).at m ≡ Some c → (below next next_rank (next_rank n)).at m ≡ Some c
      keeps m c e =
          let q = part_inv E closed S own r all sound P shut m c e in
          let l : next_rank m < next_rank n = omega (arith, rank_in m q.0, rank_out n apart, rank_small m c q.1) in
          below_has next next_rank (next_rank n) m c l (next_other m (not_in_p m q.0) ∙ q.1)

      value : Holds E true (below next next_rank (next_rank n)) (d.context) (Has v (d.ty))
      value = larger_store E true closed (part E closed S own r all sound P shut) (below next next_rank (next_rank n)) (part_owned E closed S own r all sound P shut) keeps (d.context) (Has v (d.ty)) (narrow E closed S own r all sound P shut (d.context) (Has v (d.ty)) in_context (in_value, in_ty) typed)

  -- one that v does not reach: its part grows, and n gets its body
  far_moves : (m : ℕ) (c : Declared) → S.at m ≡ Some c → P m ≡ false → (Γ : List Tree) (J : Judgement) → Holds E true (below S r (r m)) Γ J → Holds E true (below next next_rank (next_rank m)) Γ J
  far_moves m c e p Γ J h = extension E true closed (below S r (r m)) (below next next_rank (next_rank m)) (under_owned (r m)) extends Γ J h
    where
      extends : Extends (below S r (r m)) (below next next_rank (next_rank m))
      extends j a g =
          let q = below_inv S r (r m) j a g in
          let l : next_rank j < next_rank m = omega (arith, q.0, rank_le j, rank_out m p) in
          go q.1 l (is_n j)
        where
          go : S.at j ≡ Some a → next_rank j < next_rank m → (n ≡ j) ⊎ (n ≢ j) → (c : Declared) × ((below next next_rank (next_rank m)).at j ≡ Some c) × Kept a c
          go g l (inl x) =
              let same : d ≡ a = some_inj (sym at_n ∙ ap S.at x ∙ g) in
              (filled, below_has next next_rank (next_rank m) j filled l (ap next.at (sym x) ∙ next_n), subst (λ a. Kept a filled) same (record { context = refl; ty = refl; body = λ b k. absurd (none_some (sym opened ∙ k)) }))
          go g l (inr x) = (a, below_has next next_rank (next_rank m) j a l (next_other j x ∙ g), record { context = refl; ty = refl; body = λ b k. k })

  -- one that v reaches: its derivations are narrowed to P
  near_moves : (m : ℕ) (c : Declared) → S.at m ≡ Some c → P m ≡ true → (Γ : List Tree) (J : Judgement) → AllMetasOf (λ k. P k ≡ true) Γ → JudgementMetas (λ k. P k ≡ true) J → Holds E true (below S r (r m)) Γ J → Holds E true (below next next_rank (next_rank m)) Γ J
  near_moves m c e p Γ J g j h = larger_store E true closed Q (below next next_rank (next_rank m)) (part_owned E closed B (under_owned (r m)) r all_b sound_b P shut_b) keeps Γ J (narrow E closed B (under_owned (r m)) r all_b sound_b P shut_b Γ J g j h)
    where
      B : Store
      B = below S r (r m)

      all_b : RankedAll B r
      all_b k a e = all k a (below_inv S r (r m) k a e).1

      shut_b : Shut B P
      shut_b k a p e = shut k a p (below_inv S r (r m) k a e).1

      sound_b : (k : ℕ) (a : Declared) → B.at k ≡ Some a → SoundBelow E true B r k a
      sound_b k a e =
          let q = below_inv S r (r m) k a e in
          let w = sound k a q.1 in
          record { context = to k q.0 (a.context) IsContext w.context; ty = to k q.0 (a.context) (IsType (a.ty)) w.ty; body = λ b h. to k q.0 (a.context) (Has b (a.ty)) (w.body b h) }
        where
          to : (k : ℕ) → r k < r m → (Γ : List Tree) (J : Judgement) → Holds E true (below S r (r k)) Γ J → Holds E true (below B r (r k)) Γ J
          to k l Γ J h = larger_store E true closed (below S r (r k)) (below B r (r k)) (under_owned (r k)) (λ i a e. let q = below_inv S r (r k) i a e in let l' : r i < r m = omega (arith, q.0, l) in below_has B r (r k) i a q.0 (below_has S r (r m) i a l' q.1)) Γ J h

      Q : Store
      Q = part E closed B (under_owned (r m)) r all_b sound_b P shut_b

      keeps : (i : ℕ) (a : Declared) → Q.at i ≡ Some a → (below next next_rank (next_rank m)).at i ≡ Some a
      keeps i a e =
          let z = part_inv E closed B (under_owned (r m)) r all_b sound_b P shut_b i a e in
          let q = below_inv S r (r m) i a z.1 in
          let l : next_rank i < next_rank m = omega (arith, q.0, rank_in i z.0, rank_in m p) in
          below_has next next_rank (next_rank m) i a l (next_other i (not_in_p i z.0) ∙ q.1)

  -- The store stays sound.
  pub next_sound : (m : ℕ) (c : Declared) → next.at m ≡ Some c → SoundBelow E true next next_rank m c
  next_sound m c e = go (is_n m)
    where
      old : S.at m ≡ Some c → (P m ≡ true) ⊎ (P m ≡ false) → SoundBelow E true next next_rank m c
      old g (inr p) = let w = sound m c g in record { context = far_moves m c g p (c.context) IsContext w.context; ty = far_moves m c g p (c.context) (IsType (c.ty)) w.ty; body = λ b h. far_moves m c g p (c.context) (Has b (c.ty)) (w.body b h) }
      old g (inl p) = let w = sound m c g in let a = shut m c p g in record { context = near_moves m c g p (c.context) IsContext a.context tt w.context; ty = near_moves m c g p (c.context) (IsType (c.ty)) a.context a.ty w.ty; body = λ b h. near_moves m c g p (c.context) (Has b (c.ty)) a.context (a.body b h, a.ty) (w.body b h) }

      go : (n ≡ m) ⊎ (n ≢ m) → SoundBelow E true next next_rank m c
      go (inl q) = subst₂ (λ i a. SoundBelow E true next next_rank i a) q (some_inj (sym next_n ∙ ap next.at q ∙ e)) filled_sound
      go (inr x) = old (sym (next_other m x) ∙ e) (cases (P m))

  pub next_all : RankedAll next next_rank
  next_all m c e = go (is_n m)
    where
      R : ℕ → ℕ → Type 0
      R i k = next_rank k < next_rank i

      far : (i : ℕ) → P i ≡ false → (k : ℕ) → r k < r i → R i k
      far i p k y = omega (arith, rank_le k, rank_out i p, y)

      near : (i : ℕ) → P i ≡ true → (k : ℕ) → P k ≡ true → r k < r i → R i k
      near i p k x y = omega (arith, rank_in k x, rank_in i p, y)

      value_low : (k : ℕ) → P k ≡ true → InStore S k → R n k
      value_low k p x = let z = some_of (S.at k) x in omega (arith, rank_in k p, rank_out n apart, rank_small k z.0 z.1)

      old : S.at m ≡ Some c → (P m ≡ true) ⊎ (P m ≡ false) → AllMetasHeld (R m) c
      old g (inr p) = let a = all m c g in record { context = weaker_of (λ k. r k < r m) (R m) (far m p) c.context a.context; ty = weaker (λ k. r k < r m) (R m) (far m p) c.ty a.ty; body = λ b h. weaker (λ k. r k < r m) (R m) (far m p) b (a.body b h) }
      old g (inl p) =
          let a = all m c g in
          let s = shut m c p g in
          record { context = both_of (λ k. P k ≡ true) (λ k. r k < r m) (R m) (near m p) c.context s.context a.context; ty = both_metas (λ k. P k ≡ true) (λ k. r k < r m) (R m) (near m p) c.ty s.ty a.ty; body = λ b h. both_metas (λ k. P k ≡ true) (λ k. r k < r m) (R m) (near m p) b (s.body b h) (a.body b h) }

      go : (n ≡ m) ⊎ (n ≢ m) → AllMetasHeld (R m) c
      go (inl q) =
          let a = all n d at_n in
          subst₂ (λ i a. AllMetasHeld (R i) a) q (some_inj (sym next_n ∙ ap next.at q ∙ e))
          (record { context = weaker_of (λ k. r k < r n) (R n) (far n apart) d.context a.context; ty = weaker (λ k. r k < r n) (R n) (far n apart) d.ty a.ty; body = λ b h. subst (AllMetas (R n)) (some_inj h) (both_metas (λ k. P k ≡ true) (InStore S) (R n) value_low v in_value own_v) })
      go (inr x) = old (sym (next_other m x) ∙ e) (cases (P m))
