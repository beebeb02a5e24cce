-- The test of positivity is the relation.
use Rattle.std.proofs.Common.{Bool, true, false, not, ◌&&◌, ◌||◌, ◌≡◌, ◌⊎◌, ◌≤◌, ◌<◌, ◌+◌, ◌-◌, ℕ, zero, suc, nat_eq, nat_lt, if◌then◌else◌, refl, sym, ap, ◌∙◌, subst, inl, inr, add-zero, arith}
use Rattle.std.specs.Bool.{Decides}
use Rattle.std.proofs.lemmas.Bool.Decides.{Decides-eqb, Decides-not, Decides-and, Decides-or, Decides-like, Decides-ltb}
use Rattle.std.proofs.lemmas.Bool.{ltb-false, lt-leb}
use Rattle.mt_calculus_laws.proofs.AlikeLaws.{never, both}
use Rattle.mt_term.specs.Trees.{Tree, Trees, Arms, Bytes, Var, Sort, Prod, Lam, App, Const, Ind, Con, Match, Meta, End, Item, NoArm, Arm}
use Rattle.mt_term.specs.Substitution.{apps, count, products}
use Rattle.mt_calculus.specs.Positivity.{Avoids, AvoidsAll, AvoidsArms, parameters, RecursiveArgument, of_type, of_products, PositiveArguments, result, plain_argument, recursive_argument, PositiveFrom, past_parameters, parameter, Positive}
use Rattle.mt_positivity.specs.Deciding.{avoids, avoids_all, avoids_arms, is_variable, is_argument, is_type_on, is_recursive, is_positive_past, is_positive_from, is_positive}
use Rattle.mt_term.specs.Alike.{alike, is_alike}

-- what always holds
always : Decides true (Unit {0})
always = (λ e. tt, λ h. refl)

mutual
  pub avoids-decides : (n : ℕ) (t : Tree) → Decides (avoids n t) (Avoids n t)
  avoids-decides n (Var i) = always
  avoids-decides n (Sort s) = always
  avoids-decides n (Prod x A B) = Decides-and (avoids n A) (avoids n B) (avoids-decides n A) (avoids-decides n B)
  avoids-decides n (Lam x A b) = Decides-and (avoids n A) (avoids n b) (avoids-decides n A) (avoids-decides n b)
  avoids-decides n (App f a) = Decides-and (avoids n f) (avoids n a) (avoids-decides n f) (avoids-decides n a)
  avoids-decides n (Const c) = Decides-not (nat_eq c n) (Decides-eqb c n)
  avoids-decides n (Ind e) = Decides-not (nat_eq e n) (Decides-eqb e n)
  avoids-decides n (Con e k) = Decides-not (nat_eq e n) (Decides-eqb e n)
  avoids-decides n (Match e R c bs) =
      Decides-like (not (nat_eq e n) && avoids n R && avoids n c && avoids_arms n bs) (λ h. (h.0.0.0, h.0.0.1, h.0.1, h.1)) (λ h. (((h.0, h.1), h.2), h.3))
      (Decides-and (not (nat_eq e n) && avoids n R && avoids n c) (avoids_arms n bs)
      (Decides-and (not (nat_eq e n) && avoids n R) (avoids n c)
      (Decides-and (not (nat_eq e n)) (avoids n R) (Decides-not (nat_eq e n) (Decides-eqb e n)) (avoids-decides n R)) (avoids-decides n c)) (avoids_arms-decides n bs))
  avoids-decides n (Meta m s) = avoids_all-decides n s

  pub avoids_all-decides : (n : ℕ) (s : Trees) → Decides (avoids_all n s) (AvoidsAll n s)
  avoids_all-decides n End = always
  avoids_all-decides n (Item t s) = Decides-and (avoids n t) (avoids_all n s) (avoids-decides n t) (avoids_all-decides n s)

  pub avoids_arms-decides : (n : ℕ) (bs : Arms) → Decides (avoids_arms n bs) (AvoidsArms n bs)
  avoids_arms-decides n NoArm = always
  avoids_arms-decides n (Arm xs b bs) = Decides-and (avoids n b) (avoids_arms n bs) (avoids-decides n b) (avoids_arms-decides n bs)

-- a test that chooses
when_below : {A : Type 0} → (j q : ℕ) (x y : A) → j < q → (if nat_lt j q then x else y) ≡ x
when_below j q x y h = ap (λ (b : Bool). if b then x else y) ((Decides-ltb j q).1 h)

pub and_true : {a b : Bool} → a ≡ true → b ≡ true → (a && b) ≡ true
and_true {a} {b} h i = (Decides-and a b (λ e. e, λ e. e) (λ e. e, λ e. e)).1 (h, i)

when_past : {A : Type 0} → (j q : ℕ) (x y : A) → q ≤ j → (if nat_lt j q then x else y) ≡ y
when_past j q x y h = ap (λ (b : Bool). if b then x else y) (lt-leb (suc j) q (omega arith))

variable_is : (i : ℕ) (a : Tree) → is_variable i a ≡ true → a ≡ Var i
variable_is i (Var j) e = ap Var ((Decides-eqb j i).0 e)
variable_is i _ e = never e

is_variable_self : (i : ℕ) → is_variable i (Var i) ≡ true
is_variable_self i = (Decides-eqb i i).1 refl

module _ (n q d : ℕ) where
  -- so many first arguments are the first parameters; with the others they are all
  from_parameters : (t : Tree) (k m : ℕ) → k + m ≡ q → is_type_on n q d t k ≡ true → apps t (parameters m d) ≡ apps (Ind n) (parameters q d)
  from_parameters (Ind e) zero m h i =
      let g : m ≡ q = omega arith in
      ap (λ c. apps (Ind c) (parameters m d)) ((Decides-eqb e n).0 i) ∙ ap (λ j. apps (Ind n) (parameters j d)) g
  from_parameters (App f a) (suc j) m h i =
      let p = both (is_argument n q d j a) (is_type_on n q d f j) i in
      let v : a ≡ Var (d + (q - suc j)) = variable_is (d + (q - suc j)) a (sym (when_below j q (is_variable (d + (q - suc j)) a) (avoids n a) (omega arith)) ∙ p.0) in
      let g : q - suc j ≡ m = omega arith in
      let w : a ≡ Var (d + m) = v ∙ ap (λ k. Var (d + k)) g in
      ap (λ x. apps (App f x) (parameters m d)) w ∙ from_parameters f j (suc m) (omega arith) p.1
  from_parameters _ _ m h i = never i

  -- the type on its parameters and on so many further terms that do not mention it
  pub record OnType (indices : ℕ) (t : Tree) : Type 0 where
    pub others : Trees
    pub many : count others ≡ indices
    pub avoiding : AvoidsAll n others
    pub is : t ≡ apps (apps (Ind n) (parameters q d)) others

  at_parameters : (t : Tree) (k : ℕ) (s : Trees) → k ≡ q → AvoidsAll n s → is_type_on n q d t k ≡ true → OnType ((k - q) + count s) (apps t s)
  at_parameters t k s h v i = record { others = s; many = omega arith; avoiding = v; is = ap (λ x. apps x s) (from_parameters t k zero (omega arith) i) }

  -- so many arguments, and others that do not mention the type
  from_type : (t : Tree) (k : ℕ) (s : Trees) → q ≤ k → AvoidsAll n s → is_type_on n q d t k ≡ true → OnType ((k - q) + count s) (apps t s)
  from_type (Ind e) zero s h v i = at_parameters (Ind e) zero s (omega arith) v i
  from_type (App f a) (suc j) s h v i = by (λ l w r. from_type f j (Item a s) l w r) (nat_lt j q) refl
    where
      by : (q ≤ j → AvoidsAll n (Item a s) → is_type_on n q d f j ≡ true → OnType ((j - q) + suc (count s)) (apps (App f a) s)) → (b : Bool) → nat_lt j q ≡ b → OnType ((suc j - q) + count s) (apps (App f a) s)
      by go true e = at_parameters (App f a) (suc j) s (let l = (Decides-ltb j q).0 e in omega arith) v i
      by go false e =
          let p = both (is_argument n q d j a) (is_type_on n q d f j) i in
          let g : avoids n a ≡ true = sym (ap (λ (b : Bool). if b then is_variable (d + (q - suc j)) a else avoids n a) e) ∙ p.0 in
          let l : q ≤ j = ltb-false j q e in
          let many : (j - q) + suc (count s) ≡ (suc j - q) + count s = omega arith in
          subst (λ k. OnType k (apps (App f a) s)) many (go l ((avoids-decides n a).0 g, v) p.1)
  from_type _ _ s h v i = never i

  -- the parameters at the first places, and others past them, pass
  to_parameters : (t : Tree) (j m : ℕ) → j + m ≡ q → is_type_on n q d t j ≡ true → is_type_on n q d (apps t (parameters m d)) q ≡ true
  to_parameters t j zero h i = let g : j ≡ q = omega arith in subst (λ k. is_type_on n q d t k ≡ true) g i
  to_parameters t j (suc m) h i =
      let g : q - suc j ≡ m = omega arith in
      let v : is_variable (d + (q - suc j)) (Var (d + m)) ≡ true = subst (λ k. is_variable (d + k) (Var (d + m)) ≡ true) (sym g) (is_variable_self (d + m)) in
      let w : is_argument n q d j (Var (d + m)) ≡ true = when_below j q (is_variable (d + (q - suc j)) (Var (d + m))) true (omega arith) ∙ v in
      to_parameters (App t (Var (d + m))) (suc j) m (omega arith) (and_true w i)

  to_type : (t : Tree) (k : ℕ) (us : Trees) → q ≤ k → AvoidsAll n us → is_type_on n q d t k ≡ true → is_type_on n q d (apps t us) (k + count us) ≡ true
  to_type t k End h v i = subst (λ m. is_type_on n q d t m ≡ true) (sym (add-zero k)) i
  to_type t k (Item a us) h v i =
      let w : is_argument n q d k a ≡ true = when_past k q (is_variable (d + (q - suc k)) a) (avoids n a) h ∙ (avoids-decides n a).1 v.0 in
      let many : suc k + count us ≡ k + suc (count us) = omega arith in
      subst (λ m. is_type_on n q d (apps (App t a) us) m ≡ true) many (to_type (App t a) (suc k) us (omega arith) v.1 (and_true w i))

  on_type : (indices : ℕ) (us : Trees) → count us ≡ indices → AvoidsAll n us → is_type_on n q d (apps (apps (Ind n) (parameters q d)) us) (q + indices) ≡ true
  on_type indices us h v =
      subst (λ k. is_type_on n q d (apps (apps (Ind n) (parameters q d)) us) (q + k) ≡ true) h
      (to_type (apps (Ind n) (parameters q d)) q us (omega arith) v (to_parameters (Ind n) zero q (omega arith) ((Decides-eqb n n).1 refl)))

  as_type : (indices : ℕ) (t : Tree) → is_type_on n q d t (q + indices) ≡ true → OnType indices t
  as_type indices t i = let many : ((q + indices) - q) + zero ≡ indices = omega arith in subst (λ k. OnType k t) many (from_type t (q + indices) End (omega arith) tt i)

-- a term that is no product is at a recursive place where it is the type on its parameters
recursive_on : (n q indices d : ℕ) (t : Tree) → is_type_on n q d t (q + indices) ≡ true → is_recursive n q indices d t ≡ true
recursive_on n q indices d (Prod x A B) e = never e
recursive_on n q indices d _ e = e

recursive_of : (n q indices d : ℕ) (t : Tree) → is_type_on n q d t (q + indices) ≡ true → RecursiveArgument n q indices d t
recursive_of n q indices d t e =
    let o = as_type n q d indices t e in
    subst (RecursiveArgument n q indices d) (sym o.is) (of_type o.others o.many o.avoiding)

recursive_is : (n q indices d : ℕ) (t : Tree) → is_recursive n q indices d t ≡ true → RecursiveArgument n q indices d t
recursive_is n q indices d (Prod x A B) e =
    let p = both (avoids n A) (is_recursive n q indices (suc d) B) e in
    of_products ((avoids-decides n A).0 p.0) (recursive_is n q indices (suc d) B p.1)
recursive_is n q indices d t e = recursive_of n q indices d t e

is_recursive_at : (n q indices : ℕ) {d : ℕ} {t : Tree} → RecursiveArgument n q indices d t → is_recursive n q indices d t ≡ true
is_recursive_at n q indices (of_type {d = d} us h v) = recursive_on n q indices d (apps (apps (Ind n) (parameters q d)) us) (on_type n q d indices us h v)
is_recursive_at n q indices (of_products {A = A} v r) = and_true ((avoids-decides n A).1 v) (is_recursive_at n q indices r)

pub recursive-decides : (n q indices d : ℕ) (t : Tree) → Decides (is_recursive n q indices d t) (RecursiveArgument n q indices d t)
recursive-decides n q indices d t = (recursive_is n q indices d t, is_recursive_at n q indices)

-- an argument's type passes
argument-decides : (n q indices d : ℕ) (A : Tree) → Decides (avoids n A || is_recursive n q indices d A) (Avoids n A ⊎ RecursiveArgument n q indices d A)
argument-decides n q indices d A = Decides-or (avoids n A) (is_recursive n q indices d A) (avoids-decides n A) (recursive-decides n q indices d A)

past_on : (n q indices d : ℕ) (t : Tree) → is_type_on n q d t (q + indices) ≡ true → is_positive_past n q indices d t ≡ true
past_on n q indices d (Prod x A B) e = never e
past_on n q indices d _ e = e

past_of : (n q indices d : ℕ) (t : Tree) → is_type_on n q d t (q + indices) ≡ true → PositiveArguments n q indices d t
past_of n q indices d t e =
    let o = as_type n q d indices t e in
    subst (PositiveArguments n q indices d) (sym o.is) (result o.others o.many o.avoiding)

-- one more argument of either kind
one_more : (n q indices d : ℕ) (x : Bytes) (A B : Tree) → Avoids n A ⊎ RecursiveArgument n q indices d A → PositiveArguments n q indices (suc d) B → PositiveArguments n q indices d (Prod x A B)
one_more n q indices d x A B (inl v) r = plain_argument v r
one_more n q indices d x A B (inr v) r = recursive_argument v r

past_is : (n q indices d : ℕ) (t : Tree) → is_positive_past n q indices d t ≡ true → PositiveArguments n q indices d t
past_is n q indices d (Prod x A B) e =
    let p = both (avoids n A || is_recursive n q indices d A) (is_positive_past n q indices (suc d) B) e in
    one_more n q indices d x A B ((argument-decides n q indices d A).0 p.0) (past_is n q indices (suc d) B p.1)
past_is n q indices d t e = past_of n q indices d t e

is_past : (n q indices : ℕ) {d : ℕ} {t : Tree} → PositiveArguments n q indices d t → is_positive_past n q indices d t ≡ true
is_past n q indices (result {d = d} us h v) = past_on n q indices d (apps (apps (Ind n) (parameters q d)) us) (on_type n q d indices us h v)
is_past n q indices (plain_argument {d = d} {A = A} v r) = and_true ((argument-decides n q indices d A).1 (inl v)) (is_past n q indices r)
is_past n q indices (recursive_argument {d = d} {A = A} v r) = and_true ((argument-decides n q indices d A).1 (inr v)) (is_past n q indices r)

pub past-decides : (n q indices d : ℕ) (t : Tree) → Decides (is_positive_past n q indices d t) (PositiveArguments n q indices d t)
past-decides n q indices d t = (past_is n q indices d t, is_past n q indices)

alike_by : (A A' : Tree) → is_alike A A' ≡ true → alike A A' ≡ true
unfolding is_alike
alike_by A A' h = h

by_alike : (A A' : Tree) → alike A A' ≡ true → is_alike A A' ≡ true
unfolding is_alike
by_alike A A' h = h

from_is : (n indices p q : ℕ) (T C : Tree) → is_positive_from n indices p q T C ≡ true → PositiveFrom n indices p q T C
from_is n indices zero q T C e = past_parameters (past_is n q indices zero C e)
from_is n indices (suc p) q (Prod x A B) (Prod y A' D) e =
    let h = both (is_alike A A') (is_positive_from n indices p (suc q) B D) e in
    parameter (alike_by A A' h.0) (from_is n indices p (suc q) B D h.1)
from_is n indices (suc p) q _ _ e = never e

is_from : (n indices : ℕ) {p q : ℕ} {T C : Tree} → PositiveFrom n indices p q T C → is_positive_from n indices p q T C ≡ true
is_from n indices (past_parameters {q = q} r) = is_past n q indices r
is_from n indices (parameter {A = A} {A' = A'} h r) = and_true (by_alike A A' h) (is_from n indices r)

-- the test is true exactly where the constructor is positive
pub positive-decides : (n p : ℕ) (T C : Tree) → Decides (is_positive n p T C) (Positive n p T C)
positive-decides n p T C = (from_is n (products T - p) p zero T C, is_from n (products T - p))
