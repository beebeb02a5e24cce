-- A store with a new metavariable, and with a body for an open one.
use Rattle.std.proofs.Common.{◌≡◌, ◌≢◌, ℕ, List, [], slice_get, Some, None, refl, sym, ap, subst, ◌∙◌, ◌⊎◌, inl, inr}
use Rattle.std.proofs.lemmas.Bool.Decides.{eqb_tells}
use Rattle.mt_term.specs.Trees.{Tree}
use Rattle.mt_term.specs.Stores.{Declared, Store, AllMetas, AllMetasHeld, InStore, Owned, Acyclic, Mentions, MentionsHeld, by_context, by_type, by_body, Reached, at_once, onward, Reaches, Below}
use Rattle.mt_term.specs.StoreChanges.{Kept, Extends, Puts, with_body}
use Rattle.mt_term.proofs.Options.{none_some, some_inj}
use Rattle.mt_term.proofs.ReachLaws.{held_of_all, weaker, weaker_of}
use Rattle.mt_store.specs.declared.metavariables.HeldMeta.{HeldMeta}
use Rattle.mt_store.specs.Held.{store_in, IsProper}
use Rattle.mt_store.proofs.HeldLaws.{store_none}

same_or_not : (n m : ℕ) → (n ≡ m) ⊎ (n ≢ m)
same_or_not n m = elim (eqb_tells n m) [ inl h ↦ inl h.1 | inr h ↦ inr h.1 ]

weaker_held : (P Q : ℕ → Type 0) → ((n : ℕ) → P n → Q n) → (d : Declared) → AllMetasHeld P d → AllMetasHeld Q d
weaker_held P Q f d h = record { context = weaker_of P Q f d.context h.context; ty = weaker P Q f d.ty h.ty; body = λ b e. weaker P Q f b (h.body b e) }

-- no metavariable
pub proper_none : (p : List Tree) (ms : List HeldMeta) → ms ≡ [] → IsProper (store_in p ms)
proper_none p ms e = record { owned = λ n d h. absurd (none_some (sym (none n) ∙ h)); acyclic = λ n d h r. none_some (sym (none n) ∙ h) }
  where
    none : (n : ℕ) → (store_in p ms).at n ≡ None
    none n = store_none p ms n (ap (λ (l : List HeldMeta). slice_get l n) e)

-- a new metavariable
module _ (S S' : Store) (n : ℕ) (d : Declared) (fresh : S.at n ≡ None) (put : Puts S n d S') where
  -- what was there is another one, and stays
  stays : (m : ℕ) (c : Declared) → S.at m ≡ Some c → S'.at m ≡ Some c
  stays m c e = elim (same_or_not n m) [ inl h ↦ absurd (none_some (sym fresh ∙ ap S.at h ∙ e)) | inr h ↦ put.others m h ∙ e ]

  -- what is there now was so before, or is the new one
  before : (m : ℕ) (c : Declared) → S'.at m ≡ Some c → (n ≡ m) × (d ≡ c) ⊎ (S.at m ≡ Some c)
  before m c e = elim (same_or_not n m) [ inl h ↦ inl (h, some_inj (sym put.new ∙ ap S'.at h ∙ e)) | inr h ↦ inr (sym (put.others m h) ∙ e) ]

  pub extends_new : Extends S S'
  extends_new m c e = (c, stays m c e, record { context = refl; ty = refl; body = λ b h. h })

  in_new : (m : ℕ) → InStore S m → InStore S' m
  in_new m x e = elim (same_or_not n m) [ inl h ↦ x (sym (ap S.at h) ∙ fresh) | inr h ↦ x (sym (put.others m h) ∙ e) ]

  module _ (own : Owned S) (held : AllMetasHeld (InStore S) d) where
    owned_new : Owned S'
    owned_new m c e = weaker_held (InStore S) (InStore S') in_new c (elim (before m c e) [ inl h ↦ subst (AllMetasHeld (InStore S)) h.1 held | inr h ↦ own m c h ])

    -- what is reached in the new store was reached before
    reached_new : (First : ℕ → Type 0) → ((k : ℕ) → First k → InStore S k) → (m : ℕ) → Reached S' First m → InStore S m × Reached S First m
    reached_new First f m (at_once g) = (f m g, at_once g)
    reached_new First f m (onward {k = k} {d = c} r e g) = step (reached_new First f k r) (before k c e)
      where
        step : InStore S k × Reached S First k → (n ≡ k) × (d ≡ c) ⊎ (S.at k ≡ Some c) → InStore S m × Reached S First m
        step h (inl q) = absurd (h.0 (sym (ap S.at q.0) ∙ fresh))
        step h (inr q) = (held_of_all (InStore S) m c (own k c q) g, onward h.1 q g)

    acyclic_new : Acyclic S → Acyclic S'
    acyclic_new a m c e r = elim (before m c e) [ inl h ↦ this h.0 (subst (λ (x : Declared). Below S' x m) (sym h.1) r) | inr h ↦ a m c h (reached_new (λ k. MentionsHeld k c) (λ k g. held_of_all (InStore S) k c (own m c h) g) m r).1 ]
      where
        this : n ≡ m → Below S' d m → ⊥
        this q b = (reached_new (λ k. MentionsHeld k d) (λ k g. held_of_all (InStore S) k d held g) m b).0 (sym (ap S.at q) ∙ fresh)

  pub proper_new : IsProper S → AllMetasHeld (InStore S) d → IsProper S'
  proper_new h held = record { owned = owned_new h.owned held; acyclic = acyclic_new h.owned held h.acyclic }

-- a body for an open metavariable
module _ (S S' : Store) (n : ℕ) (d : Declared) (v : Tree) (there : S.at n ≡ Some d) (no_body : d.body ≡ None) (put : Puts S n (with_body d v) S') where
  now_or_before : (m : ℕ) (c : Declared) → S'.at m ≡ Some c → (n ≡ m) × (with_body d v ≡ c) ⊎ (S.at m ≡ Some c)
  now_or_before m c e = elim (same_or_not n m) [ inl h ↦ inl (h, some_inj (sym put.new ∙ ap S'.at h ∙ e)) | inr h ↦ inr (sym (put.others m h) ∙ e) ]

  pub extends_assigned : Extends S S'
  extends_assigned m c e = elim (same_or_not n m) [ inl h ↦ this h (some_inj (sym there ∙ ap S.at h ∙ e)) | inr h ↦ (c, put.others m h ∙ e, record { context = refl; ty = refl; body = λ b x. x }) ]
    where
      this : n ≡ m → d ≡ c → (x : Declared) × (S'.at m ≡ Some x) × Kept c x
      this h q = (with_body d v, sym (ap S'.at h) ∙ put.new, subst (λ (y : Declared). Kept y (with_body d v)) q (record { context = refl; ty = refl; body = λ b x. absurd (none_some (sym no_body ∙ x)) }))

  in_assigned : (m : ℕ) → InStore S m → InStore S' m
  in_assigned m x e = elim (same_or_not n m) [ inl h ↦ absurd (none_some (sym e ∙ sym (ap S'.at h) ∙ put.new)) | inr h ↦ x (sym (put.others m h) ∙ e) ]

  owned_assigned : Owned S → AllMetas (InStore S) v → Owned S'
  owned_assigned own a m c e = elim (now_or_before m c e) [ inl h ↦ subst (AllMetasHeld (InStore S')) h.1 this | inr h ↦ weaker_held (InStore S) (InStore S') in_assigned c (own m c h) ]
    where
      old : AllMetasHeld (InStore S') d
      old = weaker_held (InStore S) (InStore S') in_assigned d (own n d there)

      this : AllMetasHeld (InStore S') (with_body d v)
      this = record { context = old.context; ty = old.ty; body = λ b h. subst (AllMetas (InStore S')) (some_inj h) (weaker (InStore S) (InStore S') in_assigned v a) }

  -- what is reached through another is reached
  reach_on : (u : Tree) (m : ℕ) (c : Declared) (k : ℕ) → Reaches S u m → S.at m ≡ Some c → Below S c k → Reaches S u k
  reach_on u m c k h e (at_once f) = onward h e f
  reach_on u m c k h e (onward {k = j} r q f) = onward (reach_on u m c j h e r) q f

  module _ (apart : Reaches S v n → ⊥) where
    -- what is reached in the new store was reached before, or through the new body
    reached_assigned : (First : ℕ → Type 0) (m : ℕ) → Reached S' First m → Reached S First m ⊎ (Reached S First n × Reaches S v m)
    reached_assigned First m (at_once g) = inl (at_once g)
    reached_assigned First m (onward {k = k} {d = c} r e g) = step (reached_assigned First k r) (now_or_before k c e)
      where
        body : Reached S First n → MentionsHeld m (with_body d v) → Reached S First m ⊎ (Reached S First n × Reaches S v m)
        body h (by_context x) = inl (onward h there (by_context x))
        body h (by_type x) = inl (onward h there (by_type x))
        body h (by_body b q x) = inr (h, at_once (subst (Mentions m) (sym (some_inj q)) x))

        step : Reached S First k ⊎ (Reached S First n × Reaches S v k) → (n ≡ k) × (with_body d v ≡ c) ⊎ (S.at k ≡ Some c) → Reached S First m ⊎ (Reached S First n × Reaches S v m)
        step (inl h) (inl q) = body (subst (Reached S First) (sym q.0) h) (subst (MentionsHeld m) (sym q.1) g)
        step (inr h) (inl q) = absurd (apart (subst (Reaches S v) (sym q.0) h.1))
        step (inl h) (inr q) = inl (onward h q g)
        step (inr h) (inr q) = inr (h.0, onward h.1 q g)

    -- what the metavariable reaches with its body, it reached before, or the body does
    from_body : (m : ℕ) → Reached S (λ k. MentionsHeld k (with_body d v)) m → Below S d m ⊎ Reaches S v m
    from_body m (at_once (by_context x)) = inl (at_once (by_context x))
    from_body m (at_once (by_type x)) = inl (at_once (by_type x))
    from_body m (at_once (by_body b q x)) = inr (at_once (subst (Mentions m) (sym (some_inj q)) x))
    from_body m (onward {k = k} r e g) = elim (from_body k r) [ inl h ↦ inl (onward h e g) | inr h ↦ inr (onward h e g) ]

    acyclic_assigned : Acyclic S → Acyclic S'
    acyclic_assigned a m c e r = elim (now_or_before m c e) [ inl h ↦ this (subst (Below S' (with_body d v)) (sym h.0) (subst (λ (x : Declared). Below S' x m) (sym h.1) r)) | inr h ↦ other h (reached_assigned (λ k. MentionsHeld k c) m r) ]
      where
        this : Below S' (with_body d v) n → ⊥
        this b = elim (reached_assigned (λ k. MentionsHeld k (with_body d v)) n b) [ inl h ↦ elim (from_body n h) [ inl x ↦ a n d there x | inr x ↦ apart x ] | inr h ↦ apart h.1 ]

        other : S.at m ≡ Some c → Below S c m ⊎ (Below S c n × Reaches S v m) → ⊥
        other q (inl h) = a m c q h
        other q (inr h) = apart (reach_on v m c n h.1 q h.0)

  pub proper_assigned : IsProper S → AllMetas (InStore S) v → (Reaches S v n → ⊥) → IsProper S'
  proper_assigned h a apart = record { owned = owned_assigned h.owned a; acyclic = acyclic_assigned apart h.acyclic }
