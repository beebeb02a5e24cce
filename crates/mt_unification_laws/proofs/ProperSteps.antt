-- A body for a metavariable that it does not reach, and a new open metavariable, keep a store proper.
use Rattle.std.specs.Prelude.{◌≡◌, ◌≢◌, ◌⊎◌, refl, ℕ, List, length, nat_eq, Bool, true, false, Some, None, option_map, reverse, slice_get, slice_set}
use Rattle.std.proofs.Common.{inl, inr, sym, ap, ◌∙◌, subst, eqb-true, arith}
use Rattle.std.proofs.lemmas.Bool.Decides.{Decides-eqb}
use Rattle.mt_term.specs.Trees.{Tree}
use Rattle.mt_term.specs.Declarations.{Hypothesis}
use Rattle.mt_term.specs.States.{Metavariable, meta_with_body}
use Rattle.mt_term.specs.Stores.{Declared, Store, declared_as, store_of, AllMetas, AllMetasOf, AllMetasHeld, InStore, Owned, Acyclic, Below, Mentions, MentionsHeld, by_context, by_type, by_body, Reached, at_once, onward, Reaches}
use Rattle.mt_term.specs.StoreChanges.{Puts, with_body as declared_with}
use Rattle.mt_term.proofs.ReachLaws.{held_of_all, weaker, weaker_of}
use Rattle.mt_rules_laws.proofs.Yields.{some_is, nothing}
use Rattle.mt_calculus_laws.proofs.Images.{is_some_at}
use Rattle.mt_unification_rules.specs.Placeholders.{Metas, with_meta}
use Rattle.mt_unification_rules.specs.Reach.{reaches}
use Rattle.mt_unification_laws.specs.ProperStores.{Proper, Own, OwnContext}
use Rattle.mt_unification_laws.proofs.StoreGrowth.{set_puts}
use Rattle.mt_unification_laws.proofs.NewMetas.{own_types, last_get, other_get}
use Rattle.mt_unification_laws.proofs.Unreached.{unreached}

held_weaker : (P Q : ℕ → Type 0) → ((n : ℕ) → P n → Q n) → (d : Declared) → AllMetasHeld P d → AllMetasHeld Q d
held_weaker P Q f d h = record { context = weaker_of P Q f d.context h.context; ty = weaker P Q f d.ty h.ty; body = λ b e. weaker P Q f b (h.body b e) }

-- S' is S, but for n, which is d with the body v; v does not reach n
module _ (S S' : Store) (own : Owned S) (acyclic : Acyclic S) (n : ℕ) (d : Declared) (v : Tree) (e : S.at n ≡ Some d) (a : AllMetas (InStore S) v) (far : Reaches S v n → ⊥) (put : Puts S n (declared_with d v) S') where
  stays : (k : ℕ) → InStore S k → InStore S' k
  stays k h = go (nat_eq n k) (λ q. eqb-true n k q) (λ q. (Decides-eqb n k).1 q)
    where
      go : (b : Bool) → (b ≡ true → n ≡ k) → (n ≡ k → b ≡ true) → InStore S' k
      go true f g = subst (InStore S') (f refl) (is_some_at put.new)
      go false f g = λ q. h (sym (put.others k (λ p. nothing_true (g p))) ∙ q)
        where
          nothing_true : false ≡ true → ⊥
          nothing_true r = absurd cc

  others : (k : ℕ) (c : Declared) → n ≢ k → S'.at k ≡ Some c → S.at k ≡ Some c
  others k c h g = sym (put.others k h) ∙ g

  pub put_owned : Owned S'
  put_owned k c g = go (nat_eq n k) refl
    where
      go : (b : Bool) → nat_eq n k ≡ b → AllMetasHeld (InStore S') c
      go true f =
          let same : declared_with d v ≡ c = some_is (sym put.new ∙ ap (S'.at) (eqb-true n k f) ∙ g) in
          let h = own n d e in
          subst (AllMetasHeld (InStore S')) same (record {
            context = weaker_of (InStore S) (InStore S') stays d.context h.context;
            ty = weaker (InStore S) (InStore S') stays d.ty h.ty;
            body = λ b q. subst (AllMetas (InStore S')) (some_is q) (weaker (InStore S) (InStore S') stays v a);
          })
      go false f = held_weaker (InStore S) (InStore S') stays c (own k c (others k c (λ p. untrue_of k f p) g))
        where
          untrue_of : (k : ℕ) → nat_eq n k ≡ false → n ≡ k → ⊥
          untrue_of k f p = let q : true ≡ false = sym ((Decides-eqb n k).1 p) ∙ f in absurd cc

  -- what is reached in S' is reached in S, or it is reached from v, and n from the first ones
  V : ℕ → Type 0
  V m = Reached S (λ k. Mentions k v) m

  split : (First : ℕ → Type 0) (m : ℕ) → Reached S' First m → Reached S First m ⊎ (Reached S First n × Reached S (λ k. Mentions k v) m)
  split First m (at_once f) = inl (at_once f)
  split First m (onward {k = k} {d = c} r g h) = go (nat_eq n k) refl (split First k r)
    where
      at_n : MentionsHeld m (declared_with d v) → MentionsHeld m d ⊎ Mentions m v
      at_n (by_context x) = inl (by_context x)
      at_n (by_type x) = inl (by_type x)
      at_n (by_body b q x) = inr (subst (Mentions m) (sym (some_is q)) x)

      from_n : Reached S First n → MentionsHeld m d ⊎ Mentions m v → Reached S First m ⊎ (Reached S First n × Reached S (λ k. Mentions k v) m)
      from_n i (inl x) = inl (onward i e x)
      from_n i (inr x) = inr (i, at_once x)

      go : (b : Bool) → nat_eq n k ≡ b → Reached S First k ⊎ (Reached S First n × Reached S (λ j. Mentions j v) k) → Reached S First m ⊎ (Reached S First n × Reached S (λ k. Mentions k v) m)
      go true f (inl i) =
          let p : n ≡ k = eqb-true n k f in
          let same : declared_with d v ≡ c = some_is (sym put.new ∙ ap (S'.at) p ∙ g) in
          from_n (subst (Reached S First) (sym p) i) (at_n (subst (MentionsHeld m) (sym same) h))
      go true f (inr i) = absurd (far (subst (Reached S (λ j. Mentions j v)) (sym (eqb-true n k f)) i.1))
      go false f (inl i) = inl (onward i (others k c (λ p. let q : true ≡ false = sym ((Decides-eqb n k).1 p) ∙ f in absurd cc) g) h)
      go false f (inr i) = inr (i.0, onward i.1 (others k c (λ p. let q : true ≡ false = sym ((Decides-eqb n k).1 p) ∙ f in absurd cc) g) h)

  -- from one that v reaches, v reaches on
  on_from : (m : ℕ) (c : Declared) → S.at m ≡ Some c → Reached S (λ k. Mentions k v) m → (j : ℕ) → Below S c j → Reached S (λ k. Mentions k v) j
  on_from m c g r j (at_once f) = onward r g f
  on_from m c g r j (onward i q f) = onward (on_from m c g r _ i) q f

  -- from n with its body
  from_held : (j : ℕ) → Reached S (λ k. MentionsHeld k (declared_with d v)) j → Below S d j ⊎ Reached S (λ k. Mentions k v) j
  from_held j (at_once (by_context x)) = inl (at_once (by_context x))
  from_held j (at_once (by_type x)) = inl (at_once (by_type x))
  from_held j (at_once (by_body b q x)) = inr (at_once (subst (Mentions j) (sym (some_is q)) x))
  from_held j (onward {k = l} i q f) = go (from_held l i)
    where
      go : Below S d l ⊎ Reached S (λ k. Mentions k v) l → Below S d j ⊎ Reached S (λ k. Mentions k v) j
      go (inl r) = inl (onward r q f)
      go (inr r) = inr (onward r q f)

  pub put_acyclic : Acyclic S'
  put_acyclic m c g b = go (nat_eq n m) refl (split (λ k. MentionsHeld k c) m b)
    where
      other : n ≢ m → Reached S (λ k. MentionsHeld k c) m ⊎ (Reached S (λ k. MentionsHeld k c) n × Reached S (λ k. Mentions k v) m) → ⊥
      other h (inl r) = acyclic m c (others m c h g) r
      other h (inr r) = far (on_from m c (others m c h g) r.1 n r.0)

      at_held : Below S d n ⊎ Reached S (λ k. Mentions k v) n → ⊥
      at_held (inl r) = acyclic n d e r
      at_held (inr r) = far r

      here : n ≡ m → Reached S (λ k. MentionsHeld k c) m ⊎ (Reached S (λ k. MentionsHeld k c) n × Reached S (λ k. Mentions k v) m) → ⊥
      here p (inl r) =
          let same : declared_with d v ≡ c = some_is (sym put.new ∙ ap (S'.at) p ∙ g) in
          at_held (from_held n (subst (Reached S (λ k. MentionsHeld k (declared_with d v))) (sym p) (subst (λ (x : Declared). Reached S (λ k. MentionsHeld k x) m) (sym same) r)))
      here p (inr r) = far (subst (Reached S (λ k. Mentions k v)) (sym p) r.1)

      go : (q : Bool) → nat_eq n m ≡ q → Reached S (λ k. MentionsHeld k c) m ⊎ (Reached S (λ k. MentionsHeld k c) n × Reached S (λ k. Mentions k v) m) → ⊥
      go true f r = here (eqb-true n m f) r
      go false f r = other (λ p. let q : true ≡ false = sym ((Decides-eqb n m).1 p) ∙ f in absurd cc) r

pub given_proper : (ms : Metas) (n : ℕ) (v : Tree) (m : Metavariable) → Proper ms → slice_get ms n ≡ Some m → Own ms v → reaches ms v n ≡ false → Proper (slice_set ms n (meta_with_body m v))
given_proper ms n v m z e a far =
    let S = store_of ms in
    let S' = store_of (slice_set ms n (meta_with_body m v)) in
    let put : Puts S n (declared_with (declared_as m) v) S' = set_puts ms n m v e in
    let at : S.at n ≡ Some (declared_as m) = ap (option_map declared_as) e in
    record {
      owned = put_owned S S' z.owned z.acyclic n (declared_as m) v at a (unreached ms n v far) put;
      acyclic = put_acyclic S S' z.owned z.acyclic n (declared_as m) v at a (unreached ms n v far) put;
    }

-- S' is S, but for n, which S does not have, and which is d
module _ (S S' : Store) (own : Owned S) (acyclic : Acyclic S) (n : ℕ) (d : Declared) (e : S.at n ≡ None) (held : AllMetasHeld (InStore S) d) (put : Puts S n d S') where
  is_other : (k : ℕ) → InStore S k → n ≢ k
  is_other k h p = h (ap (S.at) (sym p) ∙ e)

  remains : (k : ℕ) → InStore S k → InStore S' k
  remains k h q = h (sym (put.others k (is_other k h)) ∙ q)

  which : (k : ℕ) (c : Declared) → S'.at k ≡ Some c → ((n ≡ k) × (d ≡ c)) ⊎ (S.at k ≡ Some c)
  which k c g = go (nat_eq n k) refl
    where
      go : (b : Bool) → nat_eq n k ≡ b → ((n ≡ k) × (d ≡ c)) ⊎ (S.at k ≡ Some c)
      go true f = let p : n ≡ k = eqb-true n k f in inl (p, some_is (sym put.new ∙ ap (S'.at) p ∙ g))
      go false f = inr (sym (put.others k (λ p. let q : true ≡ false = sym ((Decides-eqb n k).1 p) ∙ f in absurd cc)) ∙ g)

  pub new_owned : Owned S'
  new_owned k c g = go (which k c g)
    where
      go : ((n ≡ k) × (d ≡ c)) ⊎ (S.at k ≡ Some c) → AllMetasHeld (InStore S') c
      go (inl p) = subst (AllMetasHeld (InStore S')) p.1 (held_weaker (InStore S) (InStore S') remains d held)
      go (inr q) = held_weaker (InStore S) (InStore S') remains c (own k c q)

  -- from metavariables of S only such are reached, and as in S
  old : (First : ℕ → Type 0) → ((k : ℕ) → First k → InStore S k) → (m : ℕ) → Reached S' First m → Reached S First m × InStore S m
  old First h m (at_once f) = (at_once f, h m f)
  old First h m (onward {k = k} {d = c} r g f) = go (old First h k r) (which k c g)
    where
      go : Reached S First k × InStore S k → ((n ≡ k) × (d ≡ c)) ⊎ (S.at k ≡ Some c) → Reached S First m × InStore S m
      go i (inl p) = absurd (is_other k i.1 p.0)
      go i (inr q) = (onward i.0 q f, held_of_all (InStore S) m c (own k c q) f)

  pub new_acyclic : Acyclic S'
  new_acyclic m c g b = go (which m c g)
    where
      go : ((n ≡ m) × (d ≡ c)) ⊎ (S.at m ≡ Some c) → ⊥
      go (inl p) =
          let r = old (λ k. MentionsHeld k d) (λ k f. held_of_all (InStore S) k d held f) m (subst (λ (x : Declared). Reached S' (λ k. MentionsHeld k x) m) (sym p.1) b) in
          is_other m r.1 p.0
      go (inr q) = acyclic m c q (old (λ k. MentionsHeld k c) (λ k f. held_of_all (InStore S) k c (own m c q) f) m b).0

pub placeholder_proper : (ms : Metas) (Γ : List Hypothesis) (T : Tree) → Proper ms → OwnContext ms Γ → Own ms T → Proper (with_meta ms Γ T)
placeholder_proper ms Γ T z c t =
    let S = store_of ms in
    let S' = store_of (with_meta ms Γ T) in
    let m : Metavariable = record { context = reverse Γ; ty = T; body = None } in
    let put : Puts S (length ms) (declared_as m) S' = record { new = ap (option_map declared_as) (last_get ms m); others = λ k h. ap (option_map declared_as) (other_get ms m k h) } in
    let none : S.at (length ms) ≡ None = S.none (length ms) (omega arith) in
    let held : AllMetasHeld (InStore S) (declared_as m) = record { context = subst (AllMetasOf (InStore S)) (sym (own_types Γ)) c; ty = t; body = λ b h. nothing h } in
    record {
      owned = new_owned S S' z.owned z.acyclic (length ms) (declared_as m) none held put;
      acyclic = new_acyclic S S' z.owned z.acyclic (length ms) (declared_as m) none held put;
    }
