-- The test says exactly what is reached: where no metavariable is below itself, a way passes each at most once.
use Rattle.std.proofs.Common.{◌≡◌, ◌≢◌, ◌∙◌, ◌<◌, ◌≤◌, ◌⊎◌, inl, inr, ℕ, zero, suc, ◌+◌, List, [], ◌∷◌, length, refl, sym, ap, subst, arith, eqb, true≢false}
use Rattle.std.specs.Prelude.{Bool, true, false, ◌||◌, nat_eq, Option, Some, None, option_map, slice_get}
use Rattle.std.proofs.lemmas.Bool.Decides.{Decides-eqb}
use Rattle.mt_term.specs.Trees.{Tree, Trees, Arms, Var, Sort, Prod, Lam, App, Const, Ind, Con, Match, Meta, End, Item, NoArm, Arm}
use Rattle.mt_term.specs.Declarations.{Hypothesis}
use Rattle.mt_term.specs.States.{Metavariable}
use Rattle.mt_term.specs.Stores.{Declared, Store, Owned, Acyclic, AllMetas, InStore, types_onto, types_of, declared_as, store_of, Mentions, MentionsIn, MentionsArms, MentionsOf, MentionsHeld, by_context, by_type, by_body, Reached, at_once, onward, Reaches, Below}
use Rattle.mt_term.proofs.Options.{some_inj}
use Rattle.mt_term.proofs.ReachLaws.{held_of_all, term_of_all, in_bound}
use Rattle.mt_unification_rules.specs.Reach.{some_meta, some_meta_all, some_meta_arms, some_meta_of, some_meta_in, some_meta_held, leads_to, reaches}
use Rattle.mt_unification_rules.specs.Placeholders.{Metas}
use Rattle.mt_unification_laws.specs.UnificationLaws.{ReachTestLaw}
use Rattle.mt_unification_laws.proofs.Unreached.{unreached}

-- how many numbers below a bound have not been visited
abbrev one_if_not : Bool → ℕ
one_if_not true = 0
one_if_not false = 1

abbrev unvisited : ℕ → (ℕ → Bool) → ℕ
unvisited zero q = 0
unvisited (suc j) q = one_if_not (q j) + unvisited j q

abbrev visit : ℕ → (ℕ → Bool) → ℕ → Bool
visit n q j = eqb j n || q j

no_more_here : (a b : Bool) → one_if_not (a || b) ≤ one_if_not b
no_more_here true true = omega arith
no_more_here true false = omega arith
no_more_here false b = omega arith

no_more : (N n : ℕ) (q : ℕ → Bool) → unvisited N (visit n q) ≤ unvisited N q
no_more zero n q = omega arith
no_more (suc j) n q = let a = no_more_here (eqb j n) (q j) in let b = no_more j n q in omega (arith, a, b)

fewer : (N n : ℕ) (q : ℕ → Bool) → n < N → q n ≡ false → unvisited N (visit n q) < unvisited N q
fewer zero n q lt e = absurd (omega arith)
fewer (suc j) n q lt e = go (λ l. fewer j n q l e) (eqb j n) refl
  where
    go : (n < j → unvisited j (visit n q) < unvisited j q) → (b : Bool) → eqb j n ≡ b → one_if_not (eqb j n || q j) + unvisited j (visit n q) < one_if_not (q j) + unvisited j q
    go ih true f =
        let same : j ≡ n = (Decides-eqb j n).0 f in
        let new : one_if_not (eqb j n || q j) ≡ 0 = ap (λ b. one_if_not (b || q j)) f in
        let old : one_if_not (q j) ≡ 1 = ap one_if_not (ap q same ∙ e) in
        let rest = no_more j n q in
        omega (arith, new, old, rest)
    go ih false f =
        let other : j ≢ n = λ g. true≢false (sym ((Decides-eqb j n).1 g) ∙ f) in
        let rest = ih (omega (arith, lt, other)) in
        let a = no_more_here (eqb j n) (q j) in
        omega (arith, rest, a)

all_unvisited : (N : ℕ) → unvisited N (λ j. false) ≡ N
all_unvisited zero = refl
all_unvisited (suc j) = let h = all_unvisited j in omega (arith, h)

either : (a b : Bool) → (a || b) ≡ true → (a ≡ true) ⊎ (b ≡ true)
either true b e = inl refl
either false b e = inr e

-- one that stands there and passes the test
module _ (p : ℕ → Bool) where
  abbrev Found : (ℕ → Type 0) → Type 0
  Found M = (m : ℕ) × M m × (p m ≡ true)

  also : (M N : ℕ → Type 0) → ((m : ℕ) → M m → N m) → Found M → Found N
  also M N f h = (h.0, f h.0 h.1, h.2)

  -- in one of two parts
  in_one : (M N : ℕ → Type 0) (a b : Bool) → (a || b) ≡ true → (a ≡ true → Found M) → (b ≡ true → Found N) → Found (λ m. M m ⊎ N m)
  in_one M N true b e f g = also M (λ m. M m ⊎ N m) (λ m h. inl h) (f refl)
  in_one M N false b e f g = also N (λ m. M m ⊎ N m) (λ m h. inr h) (g e)

  never : {X : Type 0} → false ≡ true → X
  never e = absurd (true≢false (sym e))

  mutual
    term_found : (t : Tree) → some_meta p t ≡ true → Found (λ m. Mentions m t)
    term_found (Var i) e = never e
    term_found (Sort s) e = never e
    term_found (Prod x a b) e = in_one (λ m. Mentions m a) (λ m. Mentions m b) (some_meta p a) (some_meta p b) e (term_found a) (term_found b)
    term_found (Lam x a b) e = in_one (λ m. Mentions m a) (λ m. Mentions m b) (some_meta p a) (some_meta p b) e (term_found a) (term_found b)
    term_found (App f a) e = in_one (λ m. Mentions m f) (λ m. Mentions m a) (some_meta p f) (some_meta p a) e (term_found f) (term_found a)
    term_found (Const c) e = never e
    term_found (Ind c) e = never e
    term_found (Con c k) e = never e
    term_found (Match c r d bs) e =
        in_one (λ m. Mentions m r) (λ m. Mentions m d ⊎ MentionsArms m bs) (some_meta p r) (some_meta p d || some_meta_arms p bs) e (term_found r)
        (λ g. in_one (λ m. Mentions m d) (λ m. MentionsArms m bs) (some_meta p d) (some_meta_arms p bs) g (term_found d) (arms_found bs))
    term_found (Meta n s) e = in_one (λ m. n ≡ m) (λ m. MentionsIn m s) (p n) (some_meta_all p s) e (λ g. (n, refl, g)) (all_found s)

    all_found : (s : Trees) → some_meta_all p s ≡ true → Found (λ m. MentionsIn m s)
    all_found End e = never e
    all_found (Item t s) e = in_one (λ m. Mentions m t) (λ m. MentionsIn m s) (some_meta p t) (some_meta_all p s) e (term_found t) (all_found s)

    arms_found : (bs : Arms) → some_meta_arms p bs ≡ true → Found (λ m. MentionsArms m bs)
    arms_found NoArm e = never e
    arms_found (Arm xs b bs) e = in_one (λ m. Mentions m b) (λ m. MentionsArms m bs) (some_meta p b) (some_meta_arms p bs) e (term_found b) (arms_found bs)

  older : (m : ℕ) (hs : List Hypothesis) (Γ : List Tree) → MentionsOf m Γ → MentionsOf m (types_onto hs Γ)
  older m [] Γ h = h
  older m (x ∷ hs) Γ h = older m hs (x.ty ∷ Γ) (inr h)

  context_found : (hs : List Hypothesis) (Γ : List Tree) → some_meta_of p hs ≡ true → Found (λ m. MentionsOf m (types_onto hs Γ))
  context_found [] Γ e = never e
  context_found (x ∷ hs) Γ e = go (context_found hs (x.ty ∷ Γ)) (either (some_meta p x.ty) (some_meta_of p hs) e)
    where
      go : (some_meta_of p hs ≡ true → Found (λ m. MentionsOf m (types_onto hs (x.ty ∷ Γ)))) → (some_meta p x.ty ≡ true) ⊎ (some_meta_of p hs ≡ true) → Found (λ m. MentionsOf m (types_onto hs (x.ty ∷ Γ)))
      go ih (inl f) = also (λ m. Mentions m x.ty) (λ m. MentionsOf m (types_onto hs (x.ty ∷ Γ))) (λ m h. older m hs (x.ty ∷ Γ) (inl h)) (term_found x.ty f)
      go ih (inr f) = ih f

  held_found : (c : Metavariable) → some_meta_held p (Some c) ≡ true → Found (λ m. MentionsHeld m (declared_as c))
  held_found c e = go (either (some_meta_of p c.context) (some_meta p c.ty || some_meta_in p c.body) e)
    where
      body : (o : Option Tree) → c.body ≡ o → some_meta_in p o ≡ true → Found (λ m. MentionsHeld m (declared_as c))
      body None g f = never f
      body (Some b) g f = also (λ m. Mentions m b) (λ m. MentionsHeld m (declared_as c)) (λ m h. by_body b g h) (term_found b f)

      last : (some_meta p c.ty ≡ true) ⊎ (some_meta_in p c.body ≡ true) → Found (λ m. MentionsHeld m (declared_as c))
      last (inl f) = also (λ m. Mentions m c.ty) (λ m. MentionsHeld m (declared_as c)) (λ m h. by_type h) (term_found c.ty f)
      last (inr f) = body c.body refl f

      go : (some_meta_of p c.context ≡ true) ⊎ ((some_meta p c.ty || some_meta_in p c.body) ≡ true) → Found (λ m. MentionsHeld m (declared_as c))
      go (inl f) = also (λ m. MentionsOf m (types_of c.context)) (λ m. MentionsHeld m (declared_as c)) (λ m h. by_context h) (context_found c.context [] f)
      go (inr f) = last (either (some_meta p c.ty) (some_meta_in p c.body) f)

-- what is reached from one that is reached
reached_from : (S : Store) (First : ℕ → Type 0) (j n : ℕ) → Reached S First j → Reached S (λ k. k ≡ j) n → Reached S First n
reached_from S First j n r (at_once e) = subst (Reached S First) (sym e) r
reached_from S First j n r (onward h e f) = onward (reached_from S First j _ r h) e f

module _ (ms : Metas) (own : Owned (store_of ms)) (acyclic : Acyclic (store_of ms)) (n : ℕ) where
  abbrev S : Store
  S = store_of ms

  -- a metavariable of the store that is below all that were visited
  abbrev IsBelow : (ℕ → Bool) → ℕ → Type 0
  IsBelow q m = InStore S m × ((v : ℕ) → q v ≡ true → (d : Declared) → S.at v ≡ Some d → Below S d m)

  is_new : (q : ℕ → Bool) (m : ℕ) (d : Declared) → S.at m ≡ Some d → IsBelow q m → q m ≡ false
  is_new q m d e b = go (q m) refl
    where
      go : (a : Bool) → q m ≡ a → q m ≡ false
      go true f = absurd (acyclic m d e (b.1 m f d e))
      go false f = f

  there : (q : ℕ → Bool) (m : ℕ) → IsBelow q m → (c : Metavariable) × (slice_get ms m ≡ Some c)
  there q m b = go (slice_get ms m) refl
    where
      go : (o : Option Metavariable) → slice_get ms m ≡ o → (c : Metavariable) × (slice_get ms m ≡ Some c)
      go None e = absurd (b.0 (ap (option_map declared_as) e))
      go (Some c) e = (c, e)

  -- one that is mentioned further down is below all that were visited, and below the one before it
  onwards : (q : ℕ → Bool) (m : ℕ) (d : Declared) → S.at m ≡ Some d → IsBelow q m → (j : ℕ) → MentionsHeld j d → IsBelow (visit m q) j
  onwards q m d e b j h = (held_of_all (InStore S) j d (own m d e) h, λ v f c g. go v c g (either (eqb v m) (q v) f))
    where
      go : (v : ℕ) (c : Declared) → S.at v ≡ Some c → (eqb v m ≡ true) ⊎ (q v ≡ true) → Below S c j
      go v c g (inl f) =
          let same : d ≡ c = some_inj (sym e ∙ ap S.at (sym ((Decides-eqb v m).0 f)) ∙ g) in
          at_once (subst (MentionsHeld j) same h)
      go v c g (inr f) = onward (b.1 v f c g) e h

  leads : (k : ℕ) (q : ℕ → Bool) → unvisited (length ms) q < k → (m : ℕ) → IsBelow q m → leads_to ms n k m ≡ true → Reached S (λ i. i ≡ m) n
  leads zero q l m b e = absurd (omega (arith, l))
  leads (suc k) q l m b e = go (leads k) (either (nat_eq m n) (some_meta_held (leads_to ms n k) (slice_get ms m)) e)
    where
      go : ((q : ℕ → Bool) → unvisited (length ms) q < k → (m : ℕ) → IsBelow q m → leads_to ms n k m ≡ true → Reached S (λ i. i ≡ m) n) → (nat_eq m n ≡ true) ⊎ (some_meta_held (leads_to ms n k) (slice_get ms m) ≡ true) → Reached S (λ i. i ≡ m) n
      go ih (inl f) = at_once (sym ((Decides-eqb m n).0 f))
      go ih (inr f) =
          let c = there q m b in
          let at_m : S.at m ≡ Some (declared_as c.0) = ap (option_map declared_as) c.1 in
          let h = held_found (leads_to ms n k) c.0 (ap (some_meta_held (leads_to ms n k)) (sym c.1) ∙ f) in
          let less = fewer (length ms) m q (in_bound S m (declared_as c.0) at_m) (is_new q m (declared_as c.0) at_m b) in
          reached_from S (λ i. i ≡ m) h.0 n (onward (at_once refl) at_m h.1) (ih (visit m q) (omega (arith, less, l)) h.0 (onwards q m (declared_as c.0) at_m b h.0 h.1) h.2)

  test_reaches : (t : Tree) → AllMetas (InStore S) t → reaches ms t n ≡ true → Reaches S t n
  test_reaches t a e =
      let h = term_found (leads_to ms n (suc (length ms))) t e in
      let none : ℕ → Bool = λ j. false in
      let start = all_unvisited (length ms) in
      reached_from S (λ i. Mentions i t) h.0 n (at_once h.1)
      (leads (suc (length ms)) none (omega (arith, start)) h.0 (term_of_all (InStore S) h.0 t a h.1, λ v f. absurd (true≢false (sym f))) h.2)

pub reach_test_law : ReachTestLaw
reach_test_law ms own acyclic t a n = (test_reaches ms own acyclic n t a, λ h. go (reaches ms t n) refl h)
  where
    go : (b : Bool) → reaches ms t n ≡ b → Reaches (store_of ms) t n → reaches ms t n ≡ true
    go true e h = e
    go false e h = absurd (unreached ms n t e h)
