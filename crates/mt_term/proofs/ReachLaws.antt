-- What a metavariable reaches: the first step, and, in a store whose numbers fall along what is below, a test for it.
use Rattle.std.proofs.Common.{Bool, true, false, true≢false, ◌||◌, ◌&&◌, eqb, ◌≡◌, ◌≤◌, ◌<◌, ◌⊎◌, inl, inr, ℕ, zero, suc, List, [], ◌∷◌, Option, Some, None, refl, sym, ap, ◌∙◌, subst, arith, eq-or-lt_of_le, le_of_suc-le-suc}
use Rattle.std.proofs.lemmas.Bool.Decides.{Decides-or, Decides-eqb}
use Rattle.std.specs.Bool.{Decides}
use Rattle.mt_term.specs.Trees.{Tree, Trees, Arms, Var, Sort, Prod, Lam, App, Const, Ind, Con, Match, Meta, End, Item, NoArm, Arm}
use Rattle.mt_term.specs.Stores.{Declared, Store, AllMetas, AllMetasIn, AllMetasArms, AllMetasOf, AllMetasHeld, Mentions, MentionsIn, MentionsArms, MentionsOf, MentionsHeld, by_context, by_type, by_body, at_once, onward, Below}
use Rattle.mt_term.proofs.Options.{none_some, some_inj}

-- a number that falls from each metavariable to those below it
abbrev pub RankedAll : Store → (ℕ → ℕ) → Type 0
RankedAll S r = (n : ℕ) (d : Declared) → S.at n ≡ Some d → AllMetasHeld (λ m. r m < r n) d

pub either : (m k : ℕ) → (m ≤ k) ⊎ (k < m)
either zero k = inl (omega arith)
either (suc m) zero = inr (omega arith)
either (suc m) (suc k) = go (either m k)
  where
    go : (m ≤ k) ⊎ (k < m) → (suc m ≤ suc k) ⊎ (suc k < suc m)
    go (inl l) = inl (omega arith)
    go (inr l) = inr (omega arith)

-- a set that has each metavariable of a term
module _ (P : ℕ → Type 0) where
  mutual
    pub all_of_term : (t : Tree) → ((m : ℕ) → Mentions m t → P m) → AllMetas P t
    all_of_term (Var i) h = tt
    all_of_term (Sort s) h = tt
    all_of_term (Prod x A B) h = (all_of_term A (λ m k. h m (inl k)), all_of_term B (λ m k. h m (inr k)))
    all_of_term (Lam x A b) h = (all_of_term A (λ m k. h m (inl k)), all_of_term b (λ m k. h m (inr k)))
    all_of_term (App f a) h = (all_of_term f (λ m k. h m (inl k)), all_of_term a (λ m k. h m (inr k)))
    all_of_term (Const c) h = tt
    all_of_term (Ind e) h = tt
    all_of_term (Con e k) h = tt
    all_of_term (Match e R c bs) h = (all_of_term R (λ m k. h m (inl k)), all_of_term c (λ m k. h m (inr (inl k))), all_of_arms bs (λ m k. h m (inr (inr k))))
    all_of_term (Meta n s) h = (h n (inl refl), all_of_terms s (λ m k. h m (inr k)))

    pub all_of_terms : (s : Trees) → ((m : ℕ) → MentionsIn m s → P m) → AllMetasIn P s
    all_of_terms End h = tt
    all_of_terms (Item t s) h = (all_of_term t (λ m k. h m (inl k)), all_of_terms s (λ m k. h m (inr k)))

    pub all_of_arms : (bs : Arms) → ((m : ℕ) → MentionsArms m bs → P m) → AllMetasArms P bs
    all_of_arms NoArm h = tt
    all_of_arms (Arm xs b bs) h = (all_of_term b (λ m k. h m (inl k)), all_of_arms bs (λ m k. h m (inr k)))

  pub all_of_context : (Γ : List Tree) → ((m : ℕ) → MentionsOf m Γ → P m) → AllMetasOf P Γ
  all_of_context [] h = tt
  all_of_context (A ∷ Γ) h = (all_of_term A (λ m k. h m (inl k)), all_of_context Γ (λ m k. h m (inr k)))

  pub all_of_held : (d : Declared) → ((m : ℕ) → MentionsHeld m d → P m) → AllMetasHeld P d
  all_of_held d h = record { context = all_of_context (d.context) (λ m k. h m (by_context k)); ty = all_of_term (d.ty) (λ m k. h m (by_type k)); body = λ b e. all_of_term b (λ m k. h m (by_body b e k)) }

  -- and back
  mutual
    pub term_of_all : (m : ℕ) (t : Tree) → AllMetas P t → Mentions m t → P m
    term_of_all m (Var i) a k = absurd k
    term_of_all m (Sort s) a k = absurd k
    term_of_all m (Prod x A B) a (inl k) = term_of_all m A a.0 k
    term_of_all m (Prod x A B) a (inr k) = term_of_all m B a.1 k
    term_of_all m (Lam x A b) a (inl k) = term_of_all m A a.0 k
    term_of_all m (Lam x A b) a (inr k) = term_of_all m b a.1 k
    term_of_all m (App f u) a (inl k) = term_of_all m f a.0 k
    term_of_all m (App f u) a (inr k) = term_of_all m u a.1 k
    term_of_all m (Const c) a k = absurd k
    term_of_all m (Ind e) a k = absurd k
    term_of_all m (Con e j) a k = absurd k
    term_of_all m (Match e R c bs) a (inl k) = term_of_all m R a.0 k
    term_of_all m (Match e R c bs) a (inr (inl k)) = term_of_all m c a.1 k
    term_of_all m (Match e R c bs) a (inr (inr k)) = arms_of_all m bs a.2 k
    term_of_all m (Meta n s) a (inl k) = subst P k a.0
    term_of_all m (Meta n s) a (inr k) = terms_of_all m s a.1 k

    pub terms_of_all : (m : ℕ) (s : Trees) → AllMetasIn P s → MentionsIn m s → P m
    terms_of_all m End a k = absurd k
    terms_of_all m (Item t s) a (inl k) = term_of_all m t a.0 k
    terms_of_all m (Item t s) a (inr k) = terms_of_all m s a.1 k

    pub arms_of_all : (m : ℕ) (bs : Arms) → AllMetasArms P bs → MentionsArms m bs → P m
    arms_of_all m NoArm a k = absurd k
    arms_of_all m (Arm xs b bs) a (inl k) = term_of_all m b a.0 k
    arms_of_all m (Arm xs b bs) a (inr k) = arms_of_all m bs a.1 k

  pub context_of_all : (m : ℕ) (Γ : List Tree) → AllMetasOf P Γ → MentionsOf m Γ → P m
  context_of_all m [] a k = absurd k
  context_of_all m (A ∷ Γ) a (inl k) = term_of_all m A a.0 k
  context_of_all m (A ∷ Γ) a (inr k) = context_of_all m Γ a.1 k

  pub held_of_all : (m : ℕ) (d : Declared) → AllMetasHeld P d → MentionsHeld m d → P m
  held_of_all m d a (by_context k) = context_of_all m (d.context) a.context k
  held_of_all m d a (by_type k) = term_of_all m (d.ty) a.ty k
  held_of_all m d a (by_body b e k) = term_of_all m b (a.body b e) k

-- what is below one that is below
pub below_below : (S : Store) (d c : Declared) (k m : ℕ) → Below S d k → S.at k ≡ Some c → Below S c m → Below S d m
below_below S d c k m h e (at_once f) = onward h e f
below_below S d c k m h e (onward r g f) = onward (below_below S d c k _ h e r) g f

-- what is below is mentioned, or below one that is mentioned
pub data FirstStep (S : Store) (d : Declared) (m : ℕ) : Type 0 where
  mentioned : MentionsHeld m d → FirstStep S d m
  past : (k : ℕ) (c : Declared) → MentionsHeld k d → S.at k ≡ Some c → Below S c m → FirstStep S d m

pub first_step : (S : Store) (d : Declared) (m : ℕ) → Below S d m → FirstStep S d m
first_step S d m (at_once f) = mentioned f
first_step S d m (onward {k = k} {d = c} r e f) = go (first_step S d k r)
  where
    go : FirstStep S d k → FirstStep S d m
    go (mentioned g) = past k c g e (at_once f)
    go (past j b g h q) = past j b g h (onward q e f)

-- the numbers fall along what is below
pub rank_falls : (S : Store) (r : ℕ → ℕ) → RankedAll S r → (n : ℕ) (d : Declared) → S.at n ≡ Some d → (m : ℕ) → Below S d m → r m < r n
rank_falls S r all n d e m (at_once f) = held_of_all (λ m. r m < r n) m d (all n d e) f
rank_falls S r all n d e m (onward {k = k} {d = c} h g f) =
    let a : r k < r n = rank_falls S r all n d e k h in
    let b : r m < r k = held_of_all (λ m. r m < r k) m c (all k c g) f in
    omega (arith, a, b)

no_true : {A : Type 0} → false ≡ true → A
no_true e = absurd (true≢false (sym e))

never_tells : Decides false ⊥
never_tells = (no_true, absurd)

abbrev mutual
  pub mentions : ℕ → Tree → Bool
  mentions m (Var i) = false
  mentions m (Sort s) = false
  mentions m (Prod x A B) = mentions m A || mentions m B
  mentions m (Lam x A b) = mentions m A || mentions m b
  mentions m (App f a) = mentions m f || mentions m a
  mentions m (Const c) = false
  mentions m (Ind e) = false
  mentions m (Con e k) = false
  mentions m (Match e R c bs) = mentions m R || (mentions m c || mentions_arms m bs)
  mentions m (Meta n s) = eqb n m || mentions_all m s

  pub mentions_all : ℕ → Trees → Bool
  mentions_all m End = false
  mentions_all m (Item t s) = mentions m t || mentions_all m s

  pub mentions_arms : ℕ → Arms → Bool
  mentions_arms m NoArm = false
  mentions_arms m (Arm xs b bs) = mentions m b || mentions_arms m bs

mutual
  term_tells : (m : ℕ) (t : Tree) → Decides (mentions m t) (Mentions m t)
  term_tells m (Var i) = never_tells
  term_tells m (Sort s) = never_tells
  term_tells m (Prod x A B) = Decides-or (mentions m A) (mentions m B) (term_tells m A) (term_tells m B)
  term_tells m (Lam x A b) = Decides-or (mentions m A) (mentions m b) (term_tells m A) (term_tells m b)
  term_tells m (App f a) = Decides-or (mentions m f) (mentions m a) (term_tells m f) (term_tells m a)
  term_tells m (Const c) = never_tells
  term_tells m (Ind e) = never_tells
  term_tells m (Con e k) = never_tells
  term_tells m (Match e R c bs) = Decides-or (mentions m R) (mentions m c || mentions_arms m bs) (term_tells m R) (Decides-or (mentions m c) (mentions_arms m bs) (term_tells m c) (arms_tells m bs))
  term_tells m (Meta n s) = Decides-or (eqb n m) (mentions_all m s) (Decides-eqb n m) (all_tells m s)

  all_tells : (m : ℕ) (s : Trees) → Decides (mentions_all m s) (MentionsIn m s)
  all_tells m End = never_tells
  all_tells m (Item t s) = Decides-or (mentions m t) (mentions_all m s) (term_tells m t) (all_tells m s)

  arms_tells : (m : ℕ) (bs : Arms) → Decides (mentions_arms m bs) (MentionsArms m bs)
  arms_tells m NoArm = never_tells
  arms_tells m (Arm xs b bs) = Decides-or (mentions m b) (mentions_arms m bs) (term_tells m b) (arms_tells m bs)

abbrev mentions_of : ℕ → List Tree → Bool
mentions_of m [] = false
mentions_of m (A ∷ Γ) = mentions m A || mentions_of m Γ

of_tells : (m : ℕ) (Γ : List Tree) → Decides (mentions_of m Γ) (MentionsOf m Γ)
of_tells m [] = never_tells
of_tells m (A ∷ Γ) = Decides-or (mentions m A) (mentions_of m Γ) (term_tells m A) (of_tells m Γ)

abbrev mentions_body : ℕ → Option Tree → Bool
mentions_body m None = false
mentions_body m (Some b) = mentions m b

abbrev mentions_held : ℕ → Declared → Bool
mentions_held m d = mentions_of m (d.context) || (mentions m (d.ty) || mentions_body m (d.body))

held_tells : (m : ℕ) (d : Declared) → Decides (mentions_held m d) (MentionsHeld m d)
held_tells m d = (λ e. there (t.0 e), λ h. t.1 (back h))
  where
    InBody : Type 0
    InBody = (b : Tree) × (d.body ≡ Some b) × Mentions m b

    body_tells : (o : Option Tree) → Decides (mentions_body m o) ((b : Tree) × (o ≡ Some b) × Mentions m b)
    body_tells None = (no_true, λ h. absurd (none_some h.1))
    body_tells (Some b) = (λ e. (b, refl, (term_tells m b).0 e), λ h. (term_tells m b).1 (subst (Mentions m) (sym (some_inj h.1)) h.2))

    t : Decides (mentions_held m d) (MentionsOf m (d.context) ⊎ (Mentions m (d.ty) ⊎ ((b : Tree) × (d.body ≡ Some b) × Mentions m b)))
    t = Decides-or (mentions_of m (d.context)) (mentions m (d.ty) || mentions_body m (d.body)) (of_tells m (d.context)) (Decides-or (mentions m (d.ty)) (mentions_body m (d.body)) (term_tells m (d.ty)) (body_tells (d.body)))

    there : MentionsOf m (d.context) ⊎ (Mentions m (d.ty) ⊎ ((b : Tree) × (d.body ≡ Some b) × Mentions m b)) → MentionsHeld m d
    there (inl h) = by_context h
    there (inr (inl h)) = by_type h
    there (inr (inr h)) = by_body h.0 h.1 h.2

    back : MentionsHeld m d → MentionsOf m (d.context) ⊎ (Mentions m (d.ty) ⊎ ((b : Tree) × (d.body ≡ Some b) × Mentions m b))
    back (by_context h) = inl h
    back (by_type h) = inr (inl h)
    back (by_body b e h) = inr (inr (b, e, h))

-- some number less than a bound passes a test
abbrev some_less : ℕ → (ℕ → Bool) → Bool
some_less zero q = false
some_less (suc k) q = q k || some_less k q

some_inv : (k : ℕ) (q : ℕ → Bool) → some_less k q ≡ true → (j : ℕ) × (q j ≡ true)
some_inv zero q e = no_true e
some_inv (suc k) q e = go (λ f. some_inv k q f) (q k) refl e
  where
    go : (some_less k q ≡ true → (j : ℕ) × (q j ≡ true)) → (b : Bool) → q k ≡ b → (b || some_less k q) ≡ true → (j : ℕ) × (q j ≡ true)
    go ih true h f = (k, h)
    go ih false h f = ih f

some_is : (k : ℕ) (q : ℕ → Bool) (j : ℕ) → j < k → q j ≡ true → some_less k q ≡ true
some_is zero q j l e = absurd (omega (arith, l))
some_is (suc k) q j l e = go (λ c. some_is k q j c e) (q k) refl (eq-or-lt_of_le (le_of_suc-le-suc l))
  where
    go : (j < k → some_less k q ≡ true) → (b : Bool) → q k ≡ b → (j ≡ k) ⊎ (j < k) → (b || some_less k q) ≡ true
    go ih true h c = refl
    go ih false h (inl c) = no_true (sym h ∙ ap q (sym c) ∙ e)
    go ih false h (inr c) = ih c

abbrev when_there : Option Declared → (Declared → Bool) → Bool
when_there None q = false
when_there (Some c) q = q c

both_inv : (a b : Bool) → (a && b) ≡ true → (a ≡ true) × (b ≡ true)
both_inv true b e = (refl, e)
both_inv false b e = no_true e

both_is : (a b : Bool) → a ≡ true → b ≡ true → (a && b) ≡ true
both_is a b p q = ap (λ x. x && b) p ∙ q

module _ (S : Store) where
  abbrev pub reaches_in : ℕ → Declared → ℕ → Bool
  reaches_in zero d m = mentions_held m d
  reaches_in (suc k) d m = mentions_held m d || some_less (S.bound) (λ j. mentions_held j d && when_there (S.at j) (λ c. reaches_in k c m))

  there_inv : (o : Option Declared) (q : Declared → Bool) → when_there o q ≡ true → (c : Declared) × (o ≡ Some c) × (q c ≡ true)
  there_inv None q e = no_true e
  there_inv (Some c) q e = (c, refl, e)

  pub reaches_below : (k : ℕ) (d : Declared) (m : ℕ) → reaches_in k d m ≡ true → Below S d m
  reaches_below zero d m e = at_once ((held_tells m d).0 e)
  reaches_below (suc k) d m e = go (λ c h. reaches_below k c m h) (mentions_held m d) refl e
    where
      go : ((c : Declared) → reaches_in k c m ≡ true → Below S c m) → (b : Bool) → mentions_held m d ≡ b → (b || some_less (S.bound) (λ j. mentions_held j d && when_there (S.at j) (λ c. reaches_in k c m))) ≡ true → Below S d m
      go ih true h f = at_once ((held_tells m d).0 h)
      go ih false h f =
          let p = some_inv (S.bound) (λ j. mentions_held j d && when_there (S.at j) (λ c. reaches_in k c m)) f in
          let q = both_inv (mentions_held p.0 d) (when_there (S.at p.0) (λ c. reaches_in k c m)) p.1 in
          let r = there_inv (S.at p.0) (λ c. reaches_in k c m) q.1 in
          below_below S d r.0 p.0 m (at_once ((held_tells p.0 d).0 q.0)) r.1 (ih r.0 r.2)

  pub in_bound : (j : ℕ) (c : Declared) → S.at j ≡ Some c → j < S.bound
  in_bound j c e = go (either (S.bound) j)
    where
      go : (S.bound ≤ j) ⊎ (j < S.bound) → j < S.bound
      go (inl l) = absurd (none_some (sym (S.none j l) ∙ e))
      go (inr l) = l

  -- whose numbers fall from each to those below it
  module _ (r : ℕ → ℕ) (all : RankedAll S r) where
    pub below_reaches : (k : ℕ) (d : Declared) → AllMetasHeld (λ j. r j < k) d → (m : ℕ) → Below S d m → reaches_in k d m ≡ true
    below_reaches zero d a m h = go (first_step S d m h)
      where
        go : FirstStep S d m → reaches_in zero d m ≡ true
        go (mentioned f) = (held_tells m d).1 f
        go (past j c f e q) = let l : r j < zero = held_of_all (λ j. r j < zero) j d a f in absurd (omega (arith, l))
    below_reaches (suc k) d a m h = go (λ c b q. below_reaches k c b m q) (mentions_held m d) refl (first_step S d m h)
      where
        go : ((c : Declared) → AllMetasHeld (λ j. r j < k) c → Below S c m → reaches_in k c m ≡ true) → (b : Bool) → mentions_held m d ≡ b → FirstStep S d m → (b || some_less (S.bound) (λ j. mentions_held j d && when_there (S.at j) (λ c. reaches_in k c m))) ≡ true
        go ih true e f = refl
        go ih false e (mentioned f) = no_true (sym e ∙ (held_tells m d).1 f)
        go ih false e (past j c f g q) =
            let l : r j < suc k = held_of_all (λ j. r j < suc k) j d a f in
            let low : AllMetasHeld (λ i. r i < k) c = all_of_held (λ i. r i < k) c (λ i x. let y : r i < r j = held_of_all (λ i. r i < r j) i c (all j c g) x in omega (arith, l, y)) in
            let z : when_there (S.at j) (λ c. reaches_in k c m) ≡ true = ap (λ o. when_there o (λ c. reaches_in k c m)) g ∙ ih c low q in
            some_is (S.bound) (λ j. mentions_held j d && when_there (S.at j) (λ c. reaches_in k c m)) j (in_bound j c g) (both_is (mentions_held j d) (when_there (S.at j) (λ c. reaches_in k c m)) ((held_tells j d).1 f) z)

-- the same with another set of metavariables
mutual
  pub weaker : (P Q : ℕ → Type 0) → ((n : ℕ) → P n → Q n) → (t : Tree) → AllMetas P t → AllMetas Q t
  weaker P Q h (Var i) a = tt
  weaker P Q h (Sort s) a = tt
  weaker P Q h (Prod x A B) a = (weaker P Q h A a.0, weaker P Q h B a.1)
  weaker P Q h (Lam x A b) a = (weaker P Q h A a.0, weaker P Q h b a.1)
  weaker P Q h (App t u) a = (weaker P Q h t a.0, weaker P Q h u a.1)
  weaker P Q h (Const c) a = tt
  weaker P Q h (Ind e) a = tt
  weaker P Q h (Con e k) a = tt
  weaker P Q h (Match e R c bs) a = (weaker P Q h R a.0, weaker P Q h c a.1, weaker_arms P Q h bs a.2)
  weaker P Q h (Meta n s) a = (h n a.0, weaker_all P Q h s a.1)

  pub weaker_all : (P Q : ℕ → Type 0) → ((n : ℕ) → P n → Q n) → (s : Trees) → AllMetasIn P s → AllMetasIn Q s
  weaker_all P Q h End a = tt
  weaker_all P Q h (Item t s) a = (weaker P Q h t a.0, weaker_all P Q h s a.1)

  pub weaker_arms : (P Q : ℕ → Type 0) → ((n : ℕ) → P n → Q n) → (bs : Arms) → AllMetasArms P bs → AllMetasArms Q bs
  weaker_arms P Q h NoArm a = tt
  weaker_arms P Q h (Arm xs b bs) a = (weaker P Q h b a.0, weaker_arms P Q h bs a.1)

pub weaker_of : (P Q : ℕ → Type 0) → ((n : ℕ) → P n → Q n) → (Γ : List Tree) → AllMetasOf P Γ → AllMetasOf Q Γ
weaker_of P Q h [] a = tt
weaker_of P Q h (A ∷ Γ) a = (weaker P Q h A a.0, weaker_of P Q h Γ a.1)
