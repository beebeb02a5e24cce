-- The normal form, rule by rule, as a program follows it: the weak head, and then its parts.
use Rattle.std.specs.Prelude.{ℕ, zero, suc, ◌≡◌, ◌<◌, ◌≤◌, refl, Option, Some, None, List}
use Rattle.std.proofs.Common.{sym, ◌∙◌, ap, arith}
use Rattle.mt_term.specs.Trees.{Bytes, Tree, Trees, Arms, Var, Sort, Prod, Lam, App, Const, Ind, Con, Match, Meta, End, Item, NoArm, Arm}
use Rattle.mt_term.specs.declared.universes.Sort.{Sort as AnySort}
use Rattle.mt_term.specs.Declarations.{Environment}
use Rattle.mt_term.specs.Reasons.{Reason}
use Rattle.mt_rules.specs.Charges.{Outcome, Done, Refused, Spent, Charged, give, and_then, rest}
use Rattle.mt_term.specs.Stores.{Store}
use Rattle.mt_rules.specs.WeakHead.{follow, whd, look, follow_or, parts_by, all_by, arms_by, normal, normal_parts, normal_terms, normal_arms}
use Rattle.mt_rules_laws.proofs.Charged.{AgreeAfter, agree-rest}
use Rattle.mt_rules_laws.proofs.WeakHeadLaws.{whd-rest, look-rest, normal-is, normal-rest, normal-agree, parts-agree, all-agree, arms-agree}
use Rattle.mt_rules_laws.proofs.WeakHeadRules.{whd-look}

-- outcomes in sequence
on-done : {A B : Type 0} (o : Outcome A) (f : A → Charged B) {a : A} {l : ℕ} {r : Outcome B} → o ≡ Done a l → f a l ≡ r → and_then o f ≡ r
on-done o f e g = ap (λ o. and_then o f) e ∙ g

on-spent : {A B : Type 0} (o : Outcome A) (f : A → Charged B) → o ≡ Spent → and_then o f ≡ Spent
on-spent o f e = ap (λ o. and_then o f) e

on-refused : {A B : Type 0} (o : Outcome A) (f : A → Charged B) {q : Reason} {l : ℕ} → o ≡ Refused q l → and_then o f ≡ Refused q l
on-refused o f e = ap (λ o. and_then o f) e

by-outcome : {A : Type 0} (o : Outcome A) (r : ℕ) → (o ≡ Spent → r ≤ 0) → ((q : Reason) (l : ℕ) → o ≡ Refused q l → r ≤ l) → ((a : A) (l : ℕ) → o ≡ Done a l → r ≤ l) → r ≤ rest o
by-outcome (Done a l) r f g h = h a l refl
by-outcome (Refused q l) r f g h = g q l refl
by-outcome Spent r f g h = f refl

falls-give : {A : Type 0} (a : A) (l : ℕ) → rest (give a l) ≤ l
falls-give a l = omega arith

module _ (E : Environment) (S : Store) where
  after-charge : (k : ℕ) (t : Tree) → AgreeAfter k 0 (normal E S t) (normal E S t)
  after-charge zero t = tt
  after-charge (suc k) t = normal-agree E S k 0 t

  pub normal_parts-rest : (t : Tree) (n : ℕ) → rest (normal_parts E S t n) ≤ n
  unfolding normal_parts
  normal_parts-rest t n = agree-rest _ n (parts-agree E S n 0 (normal E S) (normal E S) (after-charge n) t)

  pub normal_terms-rest : (s : Trees) (n : ℕ) → rest (normal_terms E S s n) ≤ n
  unfolding normal_terms
  normal_terms-rest s n = agree-rest _ n (all-agree E S n 0 (normal E S) (normal E S) (after-charge n) s)

  pub normal_arms-rest : (bs : Arms) (n : ℕ) → rest (normal_arms E S bs n) ≤ n
  unfolding normal_arms
  normal_arms-rest bs n = agree-rest _ n (arms-agree E S n 0 (normal E S) (normal E S) (after-charge n) bs)

  -- the normal form is the weak head with its parts replaced
  go-on : (t : Tree) (n : ℕ) → ((u : Tree) (m : ℕ) → m < n → normal E S u m ≡ and_then (whd E S u m) (normal_parts E S)) → (o : Outcome (Option Tree)) → rest o ≤ n → and_then o (follow_or (normal_parts E S t) (normal E S)) ≡ and_then (and_then o (follow (whd E S) t)) (normal_parts E S)
  go-on t n ih (Done None l) h = refl
  go-on t n ih (Done (Some u) zero) h = refl
  go-on t n ih (Done (Some u) (suc m)) h = ih u m (omega (arith, h))
  go-on t n ih (Refused q l) h = refl
  go-on t n ih Spent h = refl

  within-bound : (k n : ℕ) → n ≤ k → (t : Tree) → normal E S t n ≡ and_then (whd E S t n) (normal_parts E S)
  unfolding normal_parts
  within-bound zero n h t = normal-is E S t n ∙ go-on t n (λ u m l. absurd (omega (arith, l, h))) (look E S t End n) (look-rest E S t End n) ∙ ap (λ o. and_then o (normal_parts E S)) (sym (whd-look E S t n))
  within-bound (suc k) n h t = normal-is E S t n ∙ go-on t n (λ u m l. within-bound k m (omega (arith, l, h)) u) (look E S t End n) (look-rest E S t End n) ∙ ap (λ o. and_then o (normal_parts E S)) (sym (whd-look E S t n))

  pub normal-whd : (t : Tree) (n : ℕ) → normal E S t n ≡ and_then (whd E S t n) (normal_parts E S)
  normal-whd t n = within-bound n n (omega arith) t

  -- a part of a normal form is a normal form
  pub part-is : (t : Tree) (n : ℕ) → and_then (look E S t End n) (follow_or (parts_by E S (normal E S) t) (normal E S)) ≡ normal E S t n
  part-is t n = sym (normal-is E S t n)

  pub normal-head_spent : (t : Tree) (n : ℕ) → whd E S t n ≡ Spent → normal E S t n ≡ Spent
  normal-head_spent t n z = normal-whd t n ∙ on-spent _ _ z

  pub normal-head_refused : (t : Tree) (q : Reason) (n k : ℕ) → whd E S t n ≡ Refused q k → normal E S t n ≡ Refused q k
  normal-head_refused t q n k z = normal-whd t n ∙ on-refused _ _ z

  pub normal-done : (t : Tree) (u : Tree) (n l1 : ℕ) → whd E S t n ≡ Done u l1 → normal E S t n ≡ normal_parts E S u l1
  normal-done t u n l1 e1 = normal-whd t n ∙ on-done _ _ e1 (refl)

  pub normal-head_within : (t : Tree) (n : ℕ) → rest (normal E S t n) ≤ rest (whd E S t n)
  normal-head_within t n =
      by-outcome (whd E S t n) (rest (normal E S t n)) (λ z. rw (normal-head_spent t n z) (omega arith)) (λ q k z. rw (normal-head_refused t q n k z) (omega arith)) (λ u l1 e1. rw (normal-done t u n l1 e1) ((normal_parts-rest u) l1))

  normal_prod-is : (x : Bytes) (a : Tree) (b : Tree) (n : ℕ) → normal_parts E S (Prod x a b) n ≡ and_then (normal E S a n) (λ c m. and_then (normal E S b m) (λ d. give (Prod x c d)))
  unfolding normal_parts
  normal_prod-is x a b n = ap (λ o. and_then o (λ c m. and_then (and_then (look E S b End m) (follow_or (parts_by E S (normal E S) b) (normal E S))) (λ d. give (Prod x c d)))) (part-is a n) ∙ ap (λ (next : Tree → Charged Tree). and_then (normal E S a n) next) (λ i c m. and_then (part-is b m i) (λ d. give (Prod x c d)))

  pub normal_prod-first_spent : (x : Bytes) (a : Tree) (b : Tree) (n : ℕ) → normal E S a n ≡ Spent → normal_parts E S (Prod x a b) n ≡ Spent
  normal_prod-first_spent x a b n z = normal_prod-is x a b n ∙ on-spent _ _ z

  pub normal_prod-first_refused : (x : Bytes) (a : Tree) (b : Tree) (q : Reason) (n k : ℕ) → normal E S a n ≡ Refused q k → normal_parts E S (Prod x a b) n ≡ Refused q k
  normal_prod-first_refused x a b q n k z = normal_prod-is x a b n ∙ on-refused _ _ z

  pub normal_prod-second_spent : (x : Bytes) (a : Tree) (b : Tree) (c : Tree) (n l1 : ℕ) → normal E S a n ≡ Done c l1 → normal E S b l1 ≡ Spent → normal_parts E S (Prod x a b) n ≡ Spent
  normal_prod-second_spent x a b c n l1 e1 z = normal_prod-is x a b n ∙ on-done _ _ e1 (on-spent _ _ z)

  pub normal_prod-second_refused : (x : Bytes) (a : Tree) (b : Tree) (c : Tree) (q : Reason) (n l1 k : ℕ) → normal E S a n ≡ Done c l1 → normal E S b l1 ≡ Refused q k → normal_parts E S (Prod x a b) n ≡ Refused q k
  normal_prod-second_refused x a b c q n l1 k e1 z = normal_prod-is x a b n ∙ on-done _ _ e1 (on-refused _ _ z)

  pub normal_prod-done : (x : Bytes) (a : Tree) (b : Tree) (c : Tree) (d : Tree) (n l1 l2 : ℕ) → normal E S a n ≡ Done c l1 → normal E S b l1 ≡ Done d l2 → normal_parts E S (Prod x a b) n ≡ Done (Prod x c d) l2
  normal_prod-done x a b c d n l1 l2 e1 e2 = normal_prod-is x a b n ∙ on-done _ _ e1 (on-done _ _ e2 (refl))

  pub normal_prod-second_within : (x : Bytes) (a : Tree) (b : Tree) (c : Tree) (n l1 : ℕ) → normal E S a n ≡ Done c l1 → rest (normal_parts E S (Prod x a b) n) ≤ rest (normal E S b l1)
  normal_prod-second_within x a b c n l1 e1 =
      by-outcome (normal E S b l1) (rest (normal_parts E S (Prod x a b) n)) (λ z. rw (normal_prod-second_spent x a b c n l1 e1 z) (omega arith)) (λ q k z. rw (normal_prod-second_refused x a b c q n l1 k e1 z) (omega arith)) (λ d l2 e2. rw (normal_prod-done x a b c d n l1 l2 e1 e2) ((falls-give (Prod x c d)) l2))

  pub normal_prod-first_within : (x : Bytes) (a : Tree) (b : Tree) (n : ℕ) → rest (normal_parts E S (Prod x a b) n) ≤ rest (normal E S a n)
  normal_prod-first_within x a b n =
      by-outcome (normal E S a n) (rest (normal_parts E S (Prod x a b) n)) (λ z. rw (normal_prod-first_spent x a b n z) (omega arith)) (λ q k z. rw (normal_prod-first_refused x a b q n k z) (omega arith)) (λ c l1 e1. omega (arith, normal_prod-second_within x a b c n l1 e1, (normal-rest E S b) l1))

  normal_lam-is : (x : Bytes) (a : Tree) (b : Tree) (n : ℕ) → normal_parts E S (Lam x a b) n ≡ and_then (normal E S a n) (λ c m. and_then (normal E S b m) (λ d. give (Lam x c d)))
  unfolding normal_parts
  normal_lam-is x a b n = ap (λ o. and_then o (λ c m. and_then (and_then (look E S b End m) (follow_or (parts_by E S (normal E S) b) (normal E S))) (λ d. give (Lam x c d)))) (part-is a n) ∙ ap (λ (next : Tree → Charged Tree). and_then (normal E S a n) next) (λ i c m. and_then (part-is b m i) (λ d. give (Lam x c d)))

  pub normal_lam-first_spent : (x : Bytes) (a : Tree) (b : Tree) (n : ℕ) → normal E S a n ≡ Spent → normal_parts E S (Lam x a b) n ≡ Spent
  normal_lam-first_spent x a b n z = normal_lam-is x a b n ∙ on-spent _ _ z

  pub normal_lam-first_refused : (x : Bytes) (a : Tree) (b : Tree) (q : Reason) (n k : ℕ) → normal E S a n ≡ Refused q k → normal_parts E S (Lam x a b) n ≡ Refused q k
  normal_lam-first_refused x a b q n k z = normal_lam-is x a b n ∙ on-refused _ _ z

  pub normal_lam-second_spent : (x : Bytes) (a : Tree) (b : Tree) (c : Tree) (n l1 : ℕ) → normal E S a n ≡ Done c l1 → normal E S b l1 ≡ Spent → normal_parts E S (Lam x a b) n ≡ Spent
  normal_lam-second_spent x a b c n l1 e1 z = normal_lam-is x a b n ∙ on-done _ _ e1 (on-spent _ _ z)

  pub normal_lam-second_refused : (x : Bytes) (a : Tree) (b : Tree) (c : Tree) (q : Reason) (n l1 k : ℕ) → normal E S a n ≡ Done c l1 → normal E S b l1 ≡ Refused q k → normal_parts E S (Lam x a b) n ≡ Refused q k
  normal_lam-second_refused x a b c q n l1 k e1 z = normal_lam-is x a b n ∙ on-done _ _ e1 (on-refused _ _ z)

  pub normal_lam-done : (x : Bytes) (a : Tree) (b : Tree) (c : Tree) (d : Tree) (n l1 l2 : ℕ) → normal E S a n ≡ Done c l1 → normal E S b l1 ≡ Done d l2 → normal_parts E S (Lam x a b) n ≡ Done (Lam x c d) l2
  normal_lam-done x a b c d n l1 l2 e1 e2 = normal_lam-is x a b n ∙ on-done _ _ e1 (on-done _ _ e2 (refl))

  pub normal_lam-second_within : (x : Bytes) (a : Tree) (b : Tree) (c : Tree) (n l1 : ℕ) → normal E S a n ≡ Done c l1 → rest (normal_parts E S (Lam x a b) n) ≤ rest (normal E S b l1)
  normal_lam-second_within x a b c n l1 e1 =
      by-outcome (normal E S b l1) (rest (normal_parts E S (Lam x a b) n)) (λ z. rw (normal_lam-second_spent x a b c n l1 e1 z) (omega arith)) (λ q k z. rw (normal_lam-second_refused x a b c q n l1 k e1 z) (omega arith)) (λ d l2 e2. rw (normal_lam-done x a b c d n l1 l2 e1 e2) ((falls-give (Lam x c d)) l2))

  pub normal_lam-first_within : (x : Bytes) (a : Tree) (b : Tree) (n : ℕ) → rest (normal_parts E S (Lam x a b) n) ≤ rest (normal E S a n)
  normal_lam-first_within x a b n =
      by-outcome (normal E S a n) (rest (normal_parts E S (Lam x a b) n)) (λ z. rw (normal_lam-first_spent x a b n z) (omega arith)) (λ q k z. rw (normal_lam-first_refused x a b q n k z) (omega arith)) (λ c l1 e1. omega (arith, normal_lam-second_within x a b c n l1 e1, (normal-rest E S b) l1))

  normal_app-is : (f : Tree) (a : Tree) (n : ℕ) → normal_parts E S (App f a) n ≡ and_then (normal E S f n) (λ c m. and_then (normal E S a m) (λ d. give (App c d)))
  unfolding normal_parts
  normal_app-is f a n = ap (λ o. and_then o (λ c m. and_then (and_then (look E S a End m) (follow_or (parts_by E S (normal E S) a) (normal E S))) (λ d. give (App c d)))) (part-is f n) ∙ ap (λ (next : Tree → Charged Tree). and_then (normal E S f n) next) (λ i c m. and_then (part-is a m i) (λ d. give (App c d)))

  pub normal_app-first_spent : (f : Tree) (a : Tree) (n : ℕ) → normal E S f n ≡ Spent → normal_parts E S (App f a) n ≡ Spent
  normal_app-first_spent f a n z = normal_app-is f a n ∙ on-spent _ _ z

  pub normal_app-first_refused : (f : Tree) (a : Tree) (q : Reason) (n k : ℕ) → normal E S f n ≡ Refused q k → normal_parts E S (App f a) n ≡ Refused q k
  normal_app-first_refused f a q n k z = normal_app-is f a n ∙ on-refused _ _ z

  pub normal_app-second_spent : (f : Tree) (a : Tree) (c : Tree) (n l1 : ℕ) → normal E S f n ≡ Done c l1 → normal E S a l1 ≡ Spent → normal_parts E S (App f a) n ≡ Spent
  normal_app-second_spent f a c n l1 e1 z = normal_app-is f a n ∙ on-done _ _ e1 (on-spent _ _ z)

  pub normal_app-second_refused : (f : Tree) (a : Tree) (c : Tree) (q : Reason) (n l1 k : ℕ) → normal E S f n ≡ Done c l1 → normal E S a l1 ≡ Refused q k → normal_parts E S (App f a) n ≡ Refused q k
  normal_app-second_refused f a c q n l1 k e1 z = normal_app-is f a n ∙ on-done _ _ e1 (on-refused _ _ z)

  pub normal_app-done : (f : Tree) (a : Tree) (c : Tree) (d : Tree) (n l1 l2 : ℕ) → normal E S f n ≡ Done c l1 → normal E S a l1 ≡ Done d l2 → normal_parts E S (App f a) n ≡ Done (App c d) l2
  normal_app-done f a c d n l1 l2 e1 e2 = normal_app-is f a n ∙ on-done _ _ e1 (on-done _ _ e2 (refl))

  pub normal_app-second_within : (f : Tree) (a : Tree) (c : Tree) (n l1 : ℕ) → normal E S f n ≡ Done c l1 → rest (normal_parts E S (App f a) n) ≤ rest (normal E S a l1)
  normal_app-second_within f a c n l1 e1 =
      by-outcome (normal E S a l1) (rest (normal_parts E S (App f a) n)) (λ z. rw (normal_app-second_spent f a c n l1 e1 z) (omega arith)) (λ q k z. rw (normal_app-second_refused f a c q n l1 k e1 z) (omega arith)) (λ d l2 e2. rw (normal_app-done f a c d n l1 l2 e1 e2) ((falls-give (App c d)) l2))

  pub normal_app-first_within : (f : Tree) (a : Tree) (n : ℕ) → rest (normal_parts E S (App f a) n) ≤ rest (normal E S f n)
  normal_app-first_within f a n =
      by-outcome (normal E S f n) (rest (normal_parts E S (App f a) n)) (λ z. rw (normal_app-first_spent f a n z) (omega arith)) (λ q k z. rw (normal_app-first_refused f a q n k z) (omega arith)) (λ c l1 e1. omega (arith, normal_app-second_within f a c n l1 e1, (normal-rest E S a) l1))

  normal_match-is : (e : ℕ) (r : Tree) (c : Tree) (bs : Arms) (n : ℕ) → normal_parts E S (Match e r c bs) n ≡ and_then (normal E S r n) (λ p m. and_then (normal E S c m) (λ d j. and_then (normal_arms E S bs j) (λ ds. give (Match e p d ds))))
  unfolding normal_parts normal_arms
  normal_match-is e r c bs n = ap (λ o. and_then o (λ p m. and_then (and_then (look E S c End m) (follow_or (parts_by E S (normal E S) c) (normal E S))) (λ d j. and_then (arms_by E S (normal E S) bs j) (λ ds. give (Match e p d ds))))) (part-is r n) ∙ ap (λ (next : Tree → Charged Tree). and_then (normal E S r n) next) (λ i p m. and_then (part-is c m i) (λ d j. and_then (arms_by E S (normal E S) bs j) (λ ds. give (Match e p d ds))))

  pub normal_match-return_spent : (e : ℕ) (r : Tree) (c : Tree) (bs : Arms) (n : ℕ) → normal E S r n ≡ Spent → normal_parts E S (Match e r c bs) n ≡ Spent
  normal_match-return_spent e r c bs n z = normal_match-is e r c bs n ∙ on-spent _ _ z

  pub normal_match-return_refused : (e : ℕ) (r : Tree) (c : Tree) (bs : Arms) (q : Reason) (n k : ℕ) → normal E S r n ≡ Refused q k → normal_parts E S (Match e r c bs) n ≡ Refused q k
  normal_match-return_refused e r c bs q n k z = normal_match-is e r c bs n ∙ on-refused _ _ z

  pub normal_match-matched_spent : (e : ℕ) (r : Tree) (c : Tree) (bs : Arms) (p : Tree) (n l1 : ℕ) → normal E S r n ≡ Done p l1 → normal E S c l1 ≡ Spent → normal_parts E S (Match e r c bs) n ≡ Spent
  normal_match-matched_spent e r c bs p n l1 e1 z = normal_match-is e r c bs n ∙ on-done _ _ e1 (on-spent _ _ z)

  pub normal_match-matched_refused : (e : ℕ) (r : Tree) (c : Tree) (bs : Arms) (p : Tree) (q : Reason) (n l1 k : ℕ) → normal E S r n ≡ Done p l1 → normal E S c l1 ≡ Refused q k → normal_parts E S (Match e r c bs) n ≡ Refused q k
  normal_match-matched_refused e r c bs p q n l1 k e1 z = normal_match-is e r c bs n ∙ on-done _ _ e1 (on-refused _ _ z)

  pub normal_match-arms_spent : (e : ℕ) (r : Tree) (c : Tree) (bs : Arms) (p : Tree) (d : Tree) (n l1 l2 : ℕ) → normal E S r n ≡ Done p l1 → normal E S c l1 ≡ Done d l2 → normal_arms E S bs l2 ≡ Spent → normal_parts E S (Match e r c bs) n ≡ Spent
  normal_match-arms_spent e r c bs p d n l1 l2 e1 e2 z = normal_match-is e r c bs n ∙ on-done _ _ e1 (on-done _ _ e2 (on-spent _ _ z))

  pub normal_match-arms_refused : (e : ℕ) (r : Tree) (c : Tree) (bs : Arms) (p : Tree) (d : Tree) (q : Reason) (n l1 l2 k : ℕ) → normal E S r n ≡ Done p l1 → normal E S c l1 ≡ Done d l2 → normal_arms E S bs l2 ≡ Refused q k → normal_parts E S (Match e r c bs) n ≡ Refused q k
  normal_match-arms_refused e r c bs p d q n l1 l2 k e1 e2 z = normal_match-is e r c bs n ∙ on-done _ _ e1 (on-done _ _ e2 (on-refused _ _ z))

  pub normal_match-done : (e : ℕ) (r : Tree) (c : Tree) (bs : Arms) (p : Tree) (d : Tree) (ds : Arms) (n l1 l2 l3 : ℕ) → normal E S r n ≡ Done p l1 → normal E S c l1 ≡ Done d l2 → normal_arms E S bs l2 ≡ Done ds l3 → normal_parts E S (Match e r c bs) n ≡ Done (Match e p d ds) l3
  normal_match-done e r c bs p d ds n l1 l2 l3 e1 e2 e3 = normal_match-is e r c bs n ∙ on-done _ _ e1 (on-done _ _ e2 (on-done _ _ e3 (refl)))

  pub normal_match-arms_within : (e : ℕ) (r : Tree) (c : Tree) (bs : Arms) (p : Tree) (d : Tree) (n l1 l2 : ℕ) → normal E S r n ≡ Done p l1 → normal E S c l1 ≡ Done d l2 → rest (normal_parts E S (Match e r c bs) n) ≤ rest (normal_arms E S bs l2)
  normal_match-arms_within e r c bs p d n l1 l2 e1 e2 =
      by-outcome (normal_arms E S bs l2) (rest (normal_parts E S (Match e r c bs) n)) (λ z. rw (normal_match-arms_spent e r c bs p d n l1 l2 e1 e2 z) (omega arith)) (λ q k z. rw (normal_match-arms_refused e r c bs p d q n l1 l2 k e1 e2 z) (omega arith)) (λ ds l3 e3. rw (normal_match-done e r c bs p d ds n l1 l2 l3 e1 e2 e3) ((falls-give (Match e p d ds)) l3))

  pub normal_match-matched_within : (e : ℕ) (r : Tree) (c : Tree) (bs : Arms) (p : Tree) (n l1 : ℕ) → normal E S r n ≡ Done p l1 → rest (normal_parts E S (Match e r c bs) n) ≤ rest (normal E S c l1)
  normal_match-matched_within e r c bs p n l1 e1 =
      by-outcome (normal E S c l1) (rest (normal_parts E S (Match e r c bs) n)) (λ z. rw (normal_match-matched_spent e r c bs p n l1 e1 z) (omega arith)) (λ q k z. rw (normal_match-matched_refused e r c bs p q n l1 k e1 z) (omega arith)) (λ d l2 e2. omega (arith, normal_match-arms_within e r c bs p d n l1 l2 e1 e2, (normal_arms-rest bs) l2))

  pub normal_match-return_within : (e : ℕ) (r : Tree) (c : Tree) (bs : Arms) (n : ℕ) → rest (normal_parts E S (Match e r c bs) n) ≤ rest (normal E S r n)
  normal_match-return_within e r c bs n =
      by-outcome (normal E S r n) (rest (normal_parts E S (Match e r c bs) n)) (λ z. rw (normal_match-return_spent e r c bs n z) (omega arith)) (λ q k z. rw (normal_match-return_refused e r c bs q n k z) (omega arith)) (λ p l1 e1. omega (arith, normal_match-matched_within e r c bs p n l1 e1, (normal-rest E S c) l1))

  normal_meta-is : (m : ℕ) (s : Trees) (n : ℕ) → normal_parts E S (Meta m s) n ≡ and_then (normal_terms E S s n) (λ r. give (Meta m r))
  unfolding normal_parts normal_terms
  normal_meta-is m s n = refl

  pub normal_meta-terms_spent : (m : ℕ) (s : Trees) (n : ℕ) → normal_terms E S s n ≡ Spent → normal_parts E S (Meta m s) n ≡ Spent
  normal_meta-terms_spent m s n z = normal_meta-is m s n ∙ on-spent _ _ z

  pub normal_meta-terms_refused : (m : ℕ) (s : Trees) (q : Reason) (n k : ℕ) → normal_terms E S s n ≡ Refused q k → normal_parts E S (Meta m s) n ≡ Refused q k
  normal_meta-terms_refused m s q n k z = normal_meta-is m s n ∙ on-refused _ _ z

  pub normal_meta-done : (m : ℕ) (s : Trees) (r : Trees) (n l1 : ℕ) → normal_terms E S s n ≡ Done r l1 → normal_parts E S (Meta m s) n ≡ Done (Meta m r) l1
  normal_meta-done m s r n l1 e1 = normal_meta-is m s n ∙ on-done _ _ e1 (refl)

  pub normal_meta-terms_within : (m : ℕ) (s : Trees) (n : ℕ) → rest (normal_parts E S (Meta m s) n) ≤ rest (normal_terms E S s n)
  normal_meta-terms_within m s n =
      by-outcome (normal_terms E S s n) (rest (normal_parts E S (Meta m s) n)) (λ z. rw (normal_meta-terms_spent m s n z) (omega arith)) (λ q k z. rw (normal_meta-terms_refused m s q n k z) (omega arith)) (λ r l1 e1. rw (normal_meta-done m s r n l1 e1) ((falls-give (Meta m r)) l1))

  pub normal_var-done : (i : ℕ) (n : ℕ) → normal_parts E S (Var i) n ≡ Done (Var i) n
  unfolding normal_parts
  normal_var-done i n = refl

  pub normal_sort-done : (s : AnySort) (n : ℕ) → normal_parts E S (Sort s) n ≡ Done (Sort s) n
  unfolding normal_parts
  normal_sort-done s n = refl

  pub normal_const-done : (c : ℕ) (n : ℕ) → normal_parts E S (Const c) n ≡ Done (Const c) n
  unfolding normal_parts
  normal_const-done c n = refl

  pub normal_ind-done : (e : ℕ) (n : ℕ) → normal_parts E S (Ind e) n ≡ Done (Ind e) n
  unfolding normal_parts
  normal_ind-done e n = refl

  pub normal_con-done : (e k : ℕ) (n : ℕ) → normal_parts E S (Con e k) n ≡ Done (Con e k) n
  unfolding normal_parts
  normal_con-done e k n = refl

  normal_item-is : (t : Tree) (s : Trees) (n : ℕ) → normal_terms E S (Item t s) n ≡ and_then (normal E S t n) (λ c m. and_then (normal_terms E S s m) (λ r. give (Item c r)))
  unfolding normal_terms
  normal_item-is t s n = ap (λ o. and_then o (λ c m. and_then (all_by E S (normal E S) s m) (λ r. give (Item c r)))) (part-is t n)

  pub normal_item-term_spent : (t : Tree) (s : Trees) (n : ℕ) → normal E S t n ≡ Spent → normal_terms E S (Item t s) n ≡ Spent
  normal_item-term_spent t s n z = normal_item-is t s n ∙ on-spent _ _ z

  pub normal_item-term_refused : (t : Tree) (s : Trees) (q : Reason) (n k : ℕ) → normal E S t n ≡ Refused q k → normal_terms E S (Item t s) n ≡ Refused q k
  normal_item-term_refused t s q n k z = normal_item-is t s n ∙ on-refused _ _ z

  pub normal_item-others_spent : (t : Tree) (s : Trees) (c : Tree) (n l1 : ℕ) → normal E S t n ≡ Done c l1 → normal_terms E S s l1 ≡ Spent → normal_terms E S (Item t s) n ≡ Spent
  normal_item-others_spent t s c n l1 e1 z = normal_item-is t s n ∙ on-done _ _ e1 (on-spent _ _ z)

  pub normal_item-others_refused : (t : Tree) (s : Trees) (c : Tree) (q : Reason) (n l1 k : ℕ) → normal E S t n ≡ Done c l1 → normal_terms E S s l1 ≡ Refused q k → normal_terms E S (Item t s) n ≡ Refused q k
  normal_item-others_refused t s c q n l1 k e1 z = normal_item-is t s n ∙ on-done _ _ e1 (on-refused _ _ z)

  pub normal_item-done : (t : Tree) (s : Trees) (c : Tree) (r : Trees) (n l1 l2 : ℕ) → normal E S t n ≡ Done c l1 → normal_terms E S s l1 ≡ Done r l2 → normal_terms E S (Item t s) n ≡ Done (Item c r) l2
  normal_item-done t s c r n l1 l2 e1 e2 = normal_item-is t s n ∙ on-done _ _ e1 (on-done _ _ e2 (refl))

  pub normal_item-others_within : (t : Tree) (s : Trees) (c : Tree) (n l1 : ℕ) → normal E S t n ≡ Done c l1 → rest (normal_terms E S (Item t s) n) ≤ rest (normal_terms E S s l1)
  normal_item-others_within t s c n l1 e1 =
      by-outcome (normal_terms E S s l1) (rest (normal_terms E S (Item t s) n)) (λ z. rw (normal_item-others_spent t s c n l1 e1 z) (omega arith)) (λ q k z. rw (normal_item-others_refused t s c q n l1 k e1 z) (omega arith)) (λ r l2 e2. rw (normal_item-done t s c r n l1 l2 e1 e2) ((falls-give (Item c r)) l2))

  pub normal_item-term_within : (t : Tree) (s : Trees) (n : ℕ) → rest (normal_terms E S (Item t s) n) ≤ rest (normal E S t n)
  normal_item-term_within t s n =
      by-outcome (normal E S t n) (rest (normal_terms E S (Item t s) n)) (λ z. rw (normal_item-term_spent t s n z) (omega arith)) (λ q k z. rw (normal_item-term_refused t s q n k z) (omega arith)) (λ c l1 e1. omega (arith, normal_item-others_within t s c n l1 e1, (normal_terms-rest s) l1))

  pub normal_end-done : (n : ℕ) → normal_terms E S End n ≡ Done End n
  unfolding normal_terms
  normal_end-done n = refl

  normal_arm-is : (xs : List Bytes) (b : Tree) (bs : Arms) (n : ℕ) → normal_arms E S (Arm xs b bs) n ≡ and_then (normal E S b n) (λ c m. and_then (normal_arms E S bs m) (λ ds. give (Arm xs c ds)))
  unfolding normal_arms
  normal_arm-is xs b bs n = ap (λ o. and_then o (λ c m. and_then (arms_by E S (normal E S) bs m) (λ ds. give (Arm xs c ds)))) (part-is b n)

  pub normal_arm-body_spent : (xs : List Bytes) (b : Tree) (bs : Arms) (n : ℕ) → normal E S b n ≡ Spent → normal_arms E S (Arm xs b bs) n ≡ Spent
  normal_arm-body_spent xs b bs n z = normal_arm-is xs b bs n ∙ on-spent _ _ z

  pub normal_arm-body_refused : (xs : List Bytes) (b : Tree) (bs : Arms) (q : Reason) (n k : ℕ) → normal E S b n ≡ Refused q k → normal_arms E S (Arm xs b bs) n ≡ Refused q k
  normal_arm-body_refused xs b bs q n k z = normal_arm-is xs b bs n ∙ on-refused _ _ z

  pub normal_arm-others_spent : (xs : List Bytes) (b : Tree) (bs : Arms) (c : Tree) (n l1 : ℕ) → normal E S b n ≡ Done c l1 → normal_arms E S bs l1 ≡ Spent → normal_arms E S (Arm xs b bs) n ≡ Spent
  normal_arm-others_spent xs b bs c n l1 e1 z = normal_arm-is xs b bs n ∙ on-done _ _ e1 (on-spent _ _ z)

  pub normal_arm-others_refused : (xs : List Bytes) (b : Tree) (bs : Arms) (c : Tree) (q : Reason) (n l1 k : ℕ) → normal E S b n ≡ Done c l1 → normal_arms E S bs l1 ≡ Refused q k → normal_arms E S (Arm xs b bs) n ≡ Refused q k
  normal_arm-others_refused xs b bs c q n l1 k e1 z = normal_arm-is xs b bs n ∙ on-done _ _ e1 (on-refused _ _ z)

  pub normal_arm-done : (xs : List Bytes) (b : Tree) (bs : Arms) (c : Tree) (ds : Arms) (n l1 l2 : ℕ) → normal E S b n ≡ Done c l1 → normal_arms E S bs l1 ≡ Done ds l2 → normal_arms E S (Arm xs b bs) n ≡ Done (Arm xs c ds) l2
  normal_arm-done xs b bs c ds n l1 l2 e1 e2 = normal_arm-is xs b bs n ∙ on-done _ _ e1 (on-done _ _ e2 (refl))

  pub normal_arm-others_within : (xs : List Bytes) (b : Tree) (bs : Arms) (c : Tree) (n l1 : ℕ) → normal E S b n ≡ Done c l1 → rest (normal_arms E S (Arm xs b bs) n) ≤ rest (normal_arms E S bs l1)
  normal_arm-others_within xs b bs c n l1 e1 =
      by-outcome (normal_arms E S bs l1) (rest (normal_arms E S (Arm xs b bs) n)) (λ z. rw (normal_arm-others_spent xs b bs c n l1 e1 z) (omega arith)) (λ q k z. rw (normal_arm-others_refused xs b bs c q n l1 k e1 z) (omega arith)) (λ ds l2 e2. rw (normal_arm-done xs b bs c ds n l1 l2 e1 e2) ((falls-give (Arm xs c ds)) l2))

  pub normal_arm-body_within : (xs : List Bytes) (b : Tree) (bs : Arms) (n : ℕ) → rest (normal_arms E S (Arm xs b bs) n) ≤ rest (normal E S b n)
  normal_arm-body_within xs b bs n =
      by-outcome (normal E S b n) (rest (normal_arms E S (Arm xs b bs) n)) (λ z. rw (normal_arm-body_spent xs b bs n z) (omega arith)) (λ q k z. rw (normal_arm-body_refused xs b bs q n k z) (omega arith)) (λ c l1 e1. omega (arith, normal_arm-others_within xs b bs c n l1 e1, (normal_arms-rest bs) l1))

  pub normal_no_arm-done : (n : ℕ) → normal_arms E S NoArm n ≡ Done NoArm n
  unfolding normal_arms
  normal_no_arm-done n = refl

pub ruleset normal_rules = (whd-rest, normal-rest, normal_parts-rest, normal-head_spent, normal-head_refused, normal-head_within, normal-done)

pub ruleset normal_parts_rules = (normal-rest, normal_parts-rest, normal_terms-rest, normal_arms-rest, normal_prod-first_spent, normal_prod-first_refused, normal_prod-first_within, normal_prod-second_spent, normal_prod-second_refused, normal_prod-second_within, normal_prod-done, normal_lam-first_spent, normal_lam-first_refused, normal_lam-first_within, normal_lam-second_spent, normal_lam-second_refused, normal_lam-second_within, normal_lam-done, normal_app-first_spent, normal_app-first_refused, normal_app-first_within, normal_app-second_spent, normal_app-second_refused, normal_app-second_within, normal_app-done, normal_match-return_spent, normal_match-return_refused, normal_match-return_within, normal_match-matched_spent, normal_match-matched_refused, normal_match-matched_within, normal_match-arms_spent, normal_match-arms_refused, normal_match-arms_within, normal_match-done, normal_meta-terms_spent, normal_meta-terms_refused, normal_meta-terms_within, normal_meta-done, normal_var-done, normal_sort-done, normal_const-done, normal_ind-done, normal_con-done)

pub ruleset normal_terms_rules = (normal-rest, normal_terms-rest, normal_item-term_spent, normal_item-term_refused, normal_item-term_within, normal_item-others_spent, normal_item-others_refused, normal_item-others_within, normal_item-done, normal_end-done)

pub ruleset normal_arms_rules = (normal-rest, normal_arms-rest, normal_arm-body_spent, normal_arm-body_refused, normal_arm-body_within, normal_arm-others_spent, normal_arm-others_refused, normal_arm-others_within, normal_arm-done, normal_no_arm-done)
