-- A new open metavariable keeps the store sound; and what soundness by parts gives over the whole store.
use Rattle.std.proofs.Common.{eqb, Bool, false, true, ◌≡◌, ℕ, zero, suc, List, Option, Some, None, refl, sym, ap, ◌∙◌, subst, ◌≤◌, ◌<◌, ◌+◌, ◌≢◌, max, arith, ◌⊎◌, inl, inr}
use Rattle.mt_calculus_laws.proofs.Steps.{ClosedEnv}
use Rattle.mt_calculus_laws.proofs.Agree.{both_metas, both_of}
use Rattle.mt_calculus_laws.proofs.Images.{some_of, is_some_at}
use Rattle.mt_term.proofs.Options.{none_some, some_inj}
use Rattle.mt_calculus_laws.proofs.Renames.{larger_store}
use Rattle.mt_term.proofs.ReachLaws.{all_of_held, held_of_all, either, RankedAll}
use Rattle.mt_calculus_laws.proofs.Instance.{choose}
use Rattle.mt_calculus_laws.proofs.Below.{SoundBelow, below, below_inv, below_has}
use Rattle.std.proofs.lemmas.Bool.Decides.{eqb_tells}
use Rattle.mt_term.specs.Trees.{Tree}
use Rattle.mt_term.specs.Declarations.{Environment}
use Rattle.mt_term.specs.Stores.{Declared, Store, AllMetas, AllMetasOf, AllMetasHeld, InStore, Owned, MentionsHeld}
use Rattle.mt_calculus.specs.Typing.{Judgement, IsContext, IsType, Has, Holds}

module _ (E : Environment) (w : Bool) (closed : ClosedEnv E) (S : Store) (own : Owned S) (r : ℕ → ℕ) (all : RankedAll S r) where
  pub lower_owned : (k : ℕ) → Owned (below S r k)
  lower_owned k m c e = record { context = both_of (InStore S) (λ j. r j < r m) (InStore (below S r k)) low c.context a.context b.context; ty = both_metas (InStore S) (λ j. r j < r m) (InStore (below S r k)) low c.ty a.ty b.ty; body = λ t h. both_metas (InStore S) (λ j. r j < r m) (InStore (below S r k)) low t (a.body t h) (b.body t h) }
    where
      q : (r m < k) × (S.at m ≡ Some c)
      q = below_inv S r k m c e

      a : AllMetasHeld (InStore S) c
      a = own m c q.1

      b : AllMetasHeld (λ j. r j < r m) c
      b = all m c q.1

      low : (j : ℕ) → InStore S j → r j < r m → InStore (below S r k) j
      low j x l = let z = some_of (S.at j) x in let l' : r j < k = omega (arith, q.0) in is_some_at (below_has S r k j z.0 l' z.1)

  -- so each declaration holds over the whole store
  pub whole : (k : ℕ) (Γ : List Tree) (J : Judgement) → Holds E w (below S r k) Γ J → Holds E w S Γ J
  whole k Γ J h = larger_store E w closed (below S r k) S (lower_owned k) (λ m c e. (below_inv S r k m c e).1) Γ J h

  -- soundness over what n reaches, a set Q of lower numbers, is a case
  pub by_reached : (n : ℕ) (Q : Store) → Owned Q → ((m : ℕ) (c : Declared) → Q.at m ≡ Some c → (S.at m ≡ Some c) × (r m < r n)) → (Γ : List Tree) (J : Judgement) → Holds E w Q Γ J → Holds E w (below S r (r n)) Γ J
  by_reached n Q o h Γ J d = larger_store E w closed Q (below S r (r n)) o (λ m c e. let q = h m c e in below_has S r (r n) m c q.1 q.0) Γ J d

  module _ (sound : (n : ℕ) (d : Declared) → S.at n ≡ Some d → SoundBelow E w S r n d) (n : ℕ) (new : S.at n ≡ None) (d : Declared) (opened : d.body ≡ None) (context : Holds E w S (d.context) IsContext) (ty : Holds E w S (d.context) (IsType (d.ty))) (own_context : AllMetasOf (InStore S) (d.context)) (own_ty : AllMetas (InStore S) (d.ty)) where
    abbrev more_at : ℕ → Option Declared
    more_at m = choose (eqb n m) (Some d) (S.at m)

    more_none : (m : ℕ) → suc (S.bound + n) ≤ m → more_at m ≡ None
    more_none m h = go (eqb_tells n m)
      where
        go : ((eqb n m ≡ true) × (n ≡ m)) ⊎ ((eqb n m ≡ false) × (n ≢ m)) → more_at m ≡ None
        go (inl e) = absurd (omega (arith, e.1))
        go (inr e) = ap (λ b. choose b (Some d) (S.at m)) e.0 ∙ S.none m (omega arith)

    -- S with n open
    pub more : Store
    more = record { at = more_at; bound = suc (S.bound + n); none = more_none }

    more_is : (m : ℕ) → more.at m ≡ more_at m
    unfolding more
    more_is m = refl

    abbrev pub most : ℕ → ℕ
    most zero = r zero
    most (suc k) = max (r (suc k)) (most k)

    le_most : (k m : ℕ) → m ≤ k → r m ≤ most k
    le_most zero zero h = omega arith
    le_most zero (suc m) h = absurd (omega arith)
    le_most (suc k) m h = go (λ l. le_most k m l) (either m k)
      where
        go : (m ≤ k → r m ≤ most k) → (m ≤ k) ⊎ (k < m) → r m ≤ max (r (suc k)) (most k)
        go ih (inl l) = omega (arith, ih l)
        go ih (inr l) = let e : m ≡ suc k = omega arith in subst (λ i. r i ≤ max (r (suc k)) (most k)) (sym e) (omega arith)

    abbrev pub more_rank : ℕ → ℕ
    more_rank m = choose (eqb n m) (suc (most (S.bound))) (r m)

    pub is_n : (m : ℕ) → ((n ≡ m) × (more.at m ≡ Some d) × (more_rank m ≡ suc (most (S.bound)))) ⊎ ((n ≢ m) × (more.at m ≡ S.at m) × (more_rank m ≡ r m))
    is_n m = go (eqb_tells n m)
      where
        go : ((eqb n m ≡ true) × (n ≡ m)) ⊎ ((eqb n m ≡ false) × (n ≢ m)) → ((n ≡ m) × (more.at m ≡ Some d) × (more_rank m ≡ suc (most (S.bound)))) ⊎ ((n ≢ m) × (more.at m ≡ S.at m) × (more_rank m ≡ r m))
        go (inl e) = inl (e.1, more_is m ∙ ap (λ b. choose b (Some d) (S.at m)) e.0, ap (λ b. choose b (suc (most (S.bound))) (r m)) e.0)
        go (inr e) = inr (e.1, more_is m ∙ ap (λ b. choose b (Some d) (S.at m)) e.0, ap (λ b. choose b (suc (most (S.bound))) (r m)) e.0)

    -- an old one keeps its declaration and number, which is lower
    pub old_at : (m : ℕ) (c : Declared) → S.at m ≡ Some c → (more.at m ≡ Some c) × (more_rank m ≡ r m) × (r m < suc (most (S.bound)))
    old_at m c e = go (is_n m)
      where
        small : r m < suc (most (S.bound))
        small = go (either m (S.bound))
          where
            go : (m ≤ S.bound) ⊎ (S.bound < m) → r m < suc (most (S.bound))
            go (inl l) = omega (arith, le_most (S.bound) m l)
            go (inr l) = absurd (none_some (sym (S.none m (omega arith)) ∙ e))

        go : ((n ≡ m) × (more.at m ≡ Some d) × (more_rank m ≡ suc (most (S.bound)))) ⊎ ((n ≢ m) × (more.at m ≡ S.at m) × (more_rank m ≡ r m)) → (more.at m ≡ Some c) × (more_rank m ≡ r m) × (r m < suc (most (S.bound)))
        go (inl x) = absurd (none_some (sym new ∙ ap S.at x.0 ∙ e))
        go (inr x) = (x.1 ∙ e, x.2, small)

    pub more_sound : (m : ℕ) (c : Declared) → more.at m ≡ Some c → SoundBelow E w more more_rank m c
    more_sound m c e = go (is_n m)
      where
        lift : (k : ℕ) → k ≤ more_rank m → (Γ : List Tree) (J : Judgement) → Holds E w (below S r k) Γ J → Holds E w (below more more_rank (more_rank m)) Γ J
        lift k l Γ J h = larger_store E w closed (below S r k) (below more more_rank (more_rank m)) (lower_owned k) (λ i a g. let q = below_inv S r k i a g in let o = old_at i a q.1 in let l' : more_rank i < more_rank m = omega (arith, q.0, o.1, l) in below_has more more_rank (more_rank m) i a l' o.0) Γ J h

        all_of : more_rank m ≡ suc (most (S.bound)) → (Γ : List Tree) (J : Judgement) → Holds E w S Γ J → Holds E w (below more more_rank (more_rank m)) Γ J
        all_of q Γ J h = larger_store E w closed S (below more more_rank (more_rank m)) own (λ i a g. let o = old_at i a g in let l' : more_rank i < more_rank m = omega (arith, q, o.1, o.2) in below_has more more_rank (more_rank m) i a l' o.0) Γ J h

        go : ((n ≡ m) × (more.at m ≡ Some d) × (more_rank m ≡ suc (most (S.bound)))) ⊎ ((n ≢ m) × (more.at m ≡ S.at m) × (more_rank m ≡ r m)) → SoundBelow E w more more_rank m c
        go (inl x) = subst (SoundBelow E w more more_rank m) (some_inj (sym x.1 ∙ e)) (record { context = all_of x.2 (d.context) IsContext context; ty = all_of x.2 (d.context) (IsType (d.ty)) ty; body = λ b h. absurd (none_some (sym opened ∙ h)) })
        go (inr x) = let s = sound m c (sym x.1 ∙ e) in let l : r m ≤ more_rank m = omega (arith, x.2) in record { context = lift (r m) l (c.context) IsContext s.context; ty = lift (r m) l (c.context) (IsType (c.ty)) s.ty; body = λ b h. lift (r m) l (c.context) (Has b (c.ty)) (s.body b h) }

    own_d : AllMetasHeld (InStore S) d
    own_d = record { context = own_context; ty = own_ty; body = λ b h. absurd (none_some (sym opened ∙ h)) }

    pub more_owned : Owned more
    more_owned m c e = go (is_n m)
      where
        wide : (a : Declared) → AllMetasHeld (InStore S) a → AllMetasHeld (InStore more) a
        wide a h = all_of_held (InStore more) a (λ j x. let z = some_of (S.at j) (held_of_all (InStore S) j a h x) in is_some_at (old_at j z.0 z.1).0)

        go : ((n ≡ m) × (more.at m ≡ Some d) × (more_rank m ≡ suc (most (S.bound)))) ⊎ ((n ≢ m) × (more.at m ≡ S.at m) × (more_rank m ≡ r m)) → AllMetasHeld (InStore more) c
        go (inl x) = subst (AllMetasHeld (InStore more)) (some_inj (sym x.1 ∙ e)) (wide d own_d)
        go (inr x) = wide c (own m c (sym x.1 ∙ e))

    pub more_all : RankedAll more more_rank
    more_all m c e = go (is_n m)
      where
        low : (a : Declared) → AllMetasHeld (InStore S) a → (b : ℕ) → ((j : ℕ) → MentionsHeld j a → r j < suc (most (S.bound)) → r j < b) → AllMetasHeld (λ j. more_rank j < b) a
        low a h b l = all_of_held (λ j. more_rank j < b) a (λ j x. let z = some_of (S.at j) (held_of_all (InStore S) j a h x) in let o = old_at j z.0 z.1 in let y : r j < b = l j x o.2 in omega (arith, y, o.1))

        go : ((n ≡ m) × (more.at m ≡ Some d) × (more_rank m ≡ suc (most (S.bound)))) ⊎ ((n ≢ m) × (more.at m ≡ S.at m) × (more_rank m ≡ r m)) → AllMetasHeld (λ j. more_rank j < more_rank m) c
        go (inl x) = subst (AllMetasHeld (λ j. more_rank j < more_rank m)) (some_inj (sym x.1 ∙ e)) (low d own_d (more_rank m) (λ j y l. omega (arith, l, x.2)))
        go (inr x) =
            let g : S.at m ≡ Some c = sym x.1 ∙ e in
            low c (own m c g) (more_rank m) (λ j y l. let z : r j < r m = held_of_all (λ j. r j < r m) j c (all m c g) y in omega (arith, z, x.2))

    pub more_here : (m : ℕ) → ((n ≡ m) × (more.at m ≡ Some d)) ⊎ ((n ≢ m) × (more.at m ≡ S.at m))
    more_here m = go (is_n m)
      where
        go : ((n ≡ m) × (more.at m ≡ Some d) × (more_rank m ≡ suc (most (S.bound)))) ⊎ ((n ≢ m) × (more.at m ≡ S.at m) × (more_rank m ≡ r m)) → ((n ≡ m) × (more.at m ≡ Some d)) ⊎ ((n ≢ m) × (more.at m ≡ S.at m))
        go (inl x) = inl (x.0, x.1)
        go (inr x) = inr (x.0, x.1)
