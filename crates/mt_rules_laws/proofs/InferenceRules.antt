-- Inference, rule by rule, as a program follows it.
use Rattle.std.specs.Prelude.{ℕ, zero, suc, ◌≡◌, ◌-◌, ◌<◌, ◌≤◌, refl, List, [], ◌∷◌, Bool, true, false, Option, Some, None, slice_get}
use Rattle.std.proofs.Common.{◌∙◌, ap, arith}
use Rattle.mt_term.specs.Trees.{Bytes, Tree, Trees, Arms, Var, Sort, Prod, Lam, App, Const, Ind, Con, Match, Meta, End, Item, NoArm, Arm}
use Rattle.mt_term.specs.Substitution.{ren, sub, one, then_as, beyond, under, apps, join, count}
use Rattle.mt_term.specs.declared.universes.Sort.{Sort as AnySort}
use Rattle.mt_term.specs.declared.modes.Mode.{Mode}
use Rattle.mt_term.specs.declared.modes.Mode.TheVariants.{Equal, AtMost}
use Rattle.mt_term.specs.UniverseForms.{sort_above, sort_of_product}
use Rattle.mt_term.specs.Declarations.{Hypothesis, Constructor, Environment, constructor_at}
use Rattle.mt_term.specs.Reasons.{Reason, Unbound, NotASort, BadElimination}
use Rattle.mt_rules.specs.Charges.{Outcome, Done, Refused, Spent, Charged, give, ◌>>=◌, charge, and_then, rest}
use Rattle.mt_term.specs.Spines.{motive_on_all, at_args}
use Rattle.mt_term.specs.Stores.{Declared, Store, no_store}
use Rattle.mt_rules.specs.WeakHead.{whd}
use Rattle.mt_rules.specs.Comparison.{convert}
use Rattle.mt_rules.specs.Inference.{Product, Family, a_sort, a_product, found, eliminable, checked, in_range, agreed, type_at, constant_type, inductive_type, constructor_type, oldest, only, as_family, may_eliminate, branches_fit, branch_context, branch_type, infer, elimination, as_sort, as_product, sort_of, product_of, agreement, eliminating, type_head, infer_terms, infer_arms}
use Rattle.mt_rules.specs.KernelCheck.{check_type, check}
use Rattle.mt_rules_laws.proofs.Charged.{then-rest, then-then, agree-rest}
use Rattle.mt_rules_laws.proofs.WeakHeadLaws.{whd-rest}
use Rattle.mt_rules_laws.proofs.ComparisonLaws.{convert-rest}
use Rattle.mt_rules_laws.proofs.InferenceLaws.{a_sort-agree, a_product-agree, found-agree, eliminable-agree, checked-agree, agreed-agree, sorted-agree, producted-agree, agrees-agree, eliminated-agree, inferred_terms-agree, inferred_arms-agree, infer-agree, infer-rest, elimination-rest, check_type-rest, check-rest}

-- outcomes in sequence
on-done : {A B : Type 0} (o : Outcome A) (f : A → Charged B) {a : A} {l : ℕ} {r : Outcome B} → o ≡ Done a l → f a l ≡ r → and_then o f ≡ r
on-done o f e g = ap (λ o. and_then o f) e ∙ g

on-spent : {A B : Type 0} (o : Outcome A) (f : A → Charged B) → o ≡ Spent → and_then o f ≡ Spent
on-spent o f e = ap (λ o. and_then o f) e

on-refused : {A B : Type 0} (o : Outcome A) (f : A → Charged B) {q : Reason} {l : ℕ} → o ≡ Refused q l → and_then o f ≡ Refused q l
on-refused o f e = ap (λ o. and_then o f) e

paid : {A : Type 0} (m : Charged A) (n : ℕ) → 0 < n → charge m n ≡ m (n - 1)
paid m n h =
    let p : n ≡ suc (n - 1) = omega (arith, h) in
    ap (charge m) p

-- by what an outcome is, a number is at most what it leaves
by-outcome : {A : Type 0} (o : Outcome A) (r : ℕ) → (o ≡ Spent → r ≤ 0) → ((q : Reason) (l : ℕ) → o ≡ Refused q l → r ≤ l) → ((a : A) (l : ℕ) → o ≡ Done a l → r ≤ l) → r ≤ rest o
by-outcome (Done a l) r f g h = h a l refl
by-outcome (Refused q l) r f g h = g q l refl
by-outcome Spent r f g h = f refl

by-option : {A P : Type 0} (o : Option A) → (o ≡ None → P) → ((a : A) → o ≡ Some a → P) → P
by-option None f g = f refl
by-option (Some a) f g = g a refl

by-bool : {P : Type 0} (b : Bool) → (b ≡ false → P) → (b ≡ true → P) → P
by-bool false f g = f refl
by-bool true f g = g refl

-- a definition with charges leaves no more than was given
abbrev Falls : {A : Type 0} → Charged A → Type 0
Falls m = (l : ℕ) → rest (m l) ≤ l

falls-give : {A : Type 0} (a : A) → Falls (give a)
falls-give a l = omega arith

falls-then : {A B : Type 0} (m : Charged A) (f : A → Charged B) → Falls m → ((a : A) → Falls (f a)) → Falls (m >>= f)
falls-then m f h g l = omega (arith, then-rest (m l) f g, h l)

eliminable-falls : {A : Type 0} (o : Option A) → Falls (eliminable o)
eliminable-falls o l = agree-rest (eliminable o) l (eliminable-agree l 0 o)

found-falls : {A : Type 0} (o : Option A) → Falls (found o)
found-falls o l = agree-rest (found o) l (found-agree l 0 o)

checked-falls : (b : Bool) → Falls (checked b)
checked-falls b l = agree-rest (checked b) l (checked-agree l 0 b)

a_sort-falls : (t : Tree) → Falls (a_sort t)
a_sort-falls t l = agree-rest (a_sort t) l (a_sort-agree l 0 t)

a_product-falls : (t : Tree) → Falls (a_product t)
a_product-falls t l = agree-rest (a_product t) l (a_product-agree l 0 t)

agreed-falls : (Γ : List Hypothesis) (t u : Tree) (b : Bool) → Falls (agreed Γ t u b)
agreed-falls Γ t u b l = agree-rest (agreed Γ t u b) l (agreed-agree l 0 Γ t u b)

module _ (E : Environment) (S : Store) where
  -- what the parts leave
  pub as_sort-rest : (t : Tree) (n : ℕ) → rest (as_sort E S t n) ≤ n
  unfolding as_sort
  as_sort-rest t n = falls-then (whd E S t) a_sort (whd-rest E S t) a_sort-falls n

  pub as_product-rest : (t : Tree) (n : ℕ) → rest (as_product E S t n) ≤ n
  unfolding as_product
  as_product-rest t n = falls-then (whd E S t) a_product (whd-rest E S t) a_product-falls n

  pub sort_of-rest : (Γ : List Hypothesis) (t : Tree) (n : ℕ) → rest (sort_of E S Γ t n) ≤ n
  unfolding sort_of
  sort_of-rest Γ t n = agree-rest _ n (sorted-agree E S 0 n _ (infer-agree E S n 0 Γ t))

  pub product_of-rest : (Γ : List Hypothesis) (t : Tree) (n : ℕ) → rest (product_of E S Γ t n) ≤ n
  unfolding product_of
  product_of-rest Γ t n = agree-rest _ n (producted-agree E S 0 n _ (infer-agree E S n 0 Γ t))

  pub agreement-rest : (Γ : List Hypothesis) (mode : Mode) (t u : Tree) (n : ℕ) → rest (agreement E S Γ mode t u n) ≤ n
  unfolding agreement
  agreement-rest Γ mode t u n = agree-rest _ n (agrees-agree E S 0 n Γ mode t u)

  pub eliminating-rest : (Γ : List Hypothesis) (large : Bool) (u h t : Tree) (n : ℕ) → rest (eliminating E S Γ large u h t n) ≤ n
  unfolding eliminating
  eliminating-rest Γ large u h t n = agree-rest _ n (eliminated-agree E S 0 n Γ large u h t)

  pub infer_terms-rest : (Γ : List Hypothesis) (s : Trees) (more : List Tree) (σ : ℕ → Tree) (n : ℕ) → rest (infer_terms E S Γ s more σ n) ≤ n
  unfolding infer_terms
  infer_terms-rest Γ s more σ n = agree-rest _ n (inferred_terms-agree E S 0 n Γ s more σ)

  pub infer_arms-rest : (Γ : List Hypothesis) (f : Family) (r : Tree) (k : ℕ) (cs : List Constructor) (bs : Arms) (n : ℕ) → rest (infer_arms E S Γ f r k cs bs n) ≤ n
  unfolding infer_arms
  infer_arms-rest Γ f r k cs bs n = agree-rest _ n (inferred_arms-agree E S 0 n Γ f r k cs bs)

  -- without an allowance, and from parts that go by other names
  infer-nothing : (Γ : List Hypothesis) (t : Tree) → infer E S Γ t 0 ≡ Spent
  unfolding infer
  infer-nothing Γ (Var i) = refl
  infer-nothing Γ (Sort s) = refl
  infer-nothing Γ (Prod x a b) = refl
  infer-nothing Γ (Lam x a b) = refl
  infer-nothing Γ (App f a) = refl
  infer-nothing Γ (Const c) = refl
  infer-nothing Γ (Ind e) = refl
  infer-nothing Γ (Con e k) = refl
  infer-nothing Γ (Match e r c bs) = refl
  infer-nothing Γ (Meta m s) = refl

  pub infer-out : (Γ : List Hypothesis) (t : Tree) (n : ℕ) → n ≡ 0 → infer E S Γ t n ≡ Spent
  infer-out Γ t n e = ap (infer E S Γ t) e ∙ infer-nothing Γ t

  sort_of-is : (Γ : List Hypothesis) (t : Tree) (n : ℕ) → sort_of E S Γ t n ≡ and_then (infer E S Γ t n) (as_sort E S)
  unfolding sort_of as_sort
  sort_of-is Γ t n = then-then (infer E S Γ t n) (whd E S) a_sort

  product_of-is : (Γ : List Hypothesis) (t : Tree) (n : ℕ) → product_of E S Γ t n ≡ and_then (infer E S Γ t n) (as_product E S)
  unfolding product_of as_product
  product_of-is Γ t n = then-then (infer E S Γ t n) (whd E S) a_product

  pub type_head-rest : (Γ : List Hypothesis) (c : Tree) (n : ℕ) → rest (type_head E S Γ c n) ≤ n
  unfolding type_head
  type_head-rest Γ c n = falls-then (infer E S Γ c) (whd E S) (infer-rest E S Γ c) (whd-rest E S) n

  pub as_sort-head_spent : (t : Tree) (n : ℕ) → whd E S t n ≡ Spent → as_sort E S t n ≡ Spent
  unfolding as_sort
  as_sort-head_spent t n z = on-spent _ _ z

  pub as_sort-head_refused : (t : Tree) (q : Reason) (n k : ℕ) → whd E S t n ≡ Refused q k → as_sort E S t n ≡ Refused q k
  unfolding as_sort
  as_sort-head_refused t q n k z = on-refused _ _ z

  pub as_sort-done : (t : Tree) (d : Tree) (n l1 : ℕ) → whd E S t n ≡ Done d l1 → as_sort E S t n ≡ a_sort d l1
  unfolding as_sort
  as_sort-done t d n l1 e1 = on-done _ _ e1 (refl)

  pub as_sort-head_within : (t : Tree) (n : ℕ) → rest (as_sort E S t n) ≤ rest (whd E S t n)
  as_sort-head_within t n =
      by-outcome (whd E S t n) (rest (as_sort E S t n)) (λ z. rw (as_sort-head_spent t n z) (omega arith)) (λ q k z. rw (as_sort-head_refused t q n k z) (omega arith)) (λ d l1 e1. rw (as_sort-done t d n l1 e1) ((a_sort-falls d) l1))

  pub as_product-head_spent : (t : Tree) (n : ℕ) → whd E S t n ≡ Spent → as_product E S t n ≡ Spent
  unfolding as_product
  as_product-head_spent t n z = on-spent _ _ z

  pub as_product-head_refused : (t : Tree) (q : Reason) (n k : ℕ) → whd E S t n ≡ Refused q k → as_product E S t n ≡ Refused q k
  unfolding as_product
  as_product-head_refused t q n k z = on-refused _ _ z

  pub as_product-done : (t : Tree) (d : Tree) (n l1 : ℕ) → whd E S t n ≡ Done d l1 → as_product E S t n ≡ a_product d l1
  unfolding as_product
  as_product-done t d n l1 e1 = on-done _ _ e1 (refl)

  pub as_product-head_within : (t : Tree) (n : ℕ) → rest (as_product E S t n) ≤ rest (whd E S t n)
  as_product-head_within t n =
      by-outcome (whd E S t n) (rest (as_product E S t n)) (λ z. rw (as_product-head_spent t n z) (omega arith)) (λ q k z. rw (as_product-head_refused t q n k z) (omega arith)) (λ d l1 e1. rw (as_product-done t d n l1 e1) ((a_product-falls d) l1))

  pub sort_of-type_spent : (Γ : List Hypothesis) (t : Tree) (n : ℕ) → infer E S Γ t n ≡ Spent → sort_of E S Γ t n ≡ Spent
  sort_of-type_spent Γ t n z = sort_of-is Γ t n ∙ on-spent _ _ z

  pub sort_of-type_refused : (Γ : List Hypothesis) (t : Tree) (q : Reason) (n k : ℕ) → infer E S Γ t n ≡ Refused q k → sort_of E S Γ t n ≡ Refused q k
  sort_of-type_refused Γ t q n k z = sort_of-is Γ t n ∙ on-refused _ _ z

  pub sort_of-done : (Γ : List Hypothesis) (t : Tree) (u : Tree) (n l1 : ℕ) → infer E S Γ t n ≡ Done u l1 → sort_of E S Γ t n ≡ as_sort E S u l1
  sort_of-done Γ t u n l1 e1 = sort_of-is Γ t n ∙ on-done _ _ e1 (refl)

  pub sort_of-type_within : (Γ : List Hypothesis) (t : Tree) (n : ℕ) → rest (sort_of E S Γ t n) ≤ rest (infer E S Γ t n)
  sort_of-type_within Γ t n =
      by-outcome (infer E S Γ t n) (rest (sort_of E S Γ t n)) (λ z. rw (sort_of-type_spent Γ t n z) (omega arith)) (λ q k z. rw (sort_of-type_refused Γ t q n k z) (omega arith)) (λ u l1 e1. rw (sort_of-done Γ t u n l1 e1) ((as_sort-rest u) l1))

  pub product_of-type_spent : (Γ : List Hypothesis) (t : Tree) (n : ℕ) → infer E S Γ t n ≡ Spent → product_of E S Γ t n ≡ Spent
  product_of-type_spent Γ t n z = product_of-is Γ t n ∙ on-spent _ _ z

  pub product_of-type_refused : (Γ : List Hypothesis) (t : Tree) (q : Reason) (n k : ℕ) → infer E S Γ t n ≡ Refused q k → product_of E S Γ t n ≡ Refused q k
  product_of-type_refused Γ t q n k z = product_of-is Γ t n ∙ on-refused _ _ z

  pub product_of-done : (Γ : List Hypothesis) (t : Tree) (u : Tree) (n l1 : ℕ) → infer E S Γ t n ≡ Done u l1 → product_of E S Γ t n ≡ as_product E S u l1
  product_of-done Γ t u n l1 e1 = product_of-is Γ t n ∙ on-done _ _ e1 (refl)

  pub product_of-type_within : (Γ : List Hypothesis) (t : Tree) (n : ℕ) → rest (product_of E S Γ t n) ≤ rest (infer E S Γ t n)
  product_of-type_within Γ t n =
      by-outcome (infer E S Γ t n) (rest (product_of E S Γ t n)) (λ z. rw (product_of-type_spent Γ t n z) (omega arith)) (λ q k z. rw (product_of-type_refused Γ t q n k z) (omega arith)) (λ u l1 e1. rw (product_of-done Γ t u n l1 e1) ((as_product-rest u) l1))

  pub agreement-compared_spent : (Γ : List Hypothesis) (mode : Mode) (t : Tree) (u : Tree) (n : ℕ) → convert E S mode t u n ≡ Spent → agreement E S Γ mode t u n ≡ Spent
  unfolding agreement
  agreement-compared_spent Γ mode t u n z = on-spent _ _ z

  pub agreement-compared_refused : (Γ : List Hypothesis) (mode : Mode) (t : Tree) (u : Tree) (q : Reason) (n k : ℕ) → convert E S mode t u n ≡ Refused q k → agreement E S Γ mode t u n ≡ Refused q k
  unfolding agreement
  agreement-compared_refused Γ mode t u q n k z = on-refused _ _ z

  pub agreement-done : (Γ : List Hypothesis) (mode : Mode) (t : Tree) (u : Tree) (b : Bool) (n l1 : ℕ) → convert E S mode t u n ≡ Done b l1 → agreement E S Γ mode t u n ≡ agreed Γ t u b l1
  unfolding agreement
  agreement-done Γ mode t u b n l1 e1 = on-done _ _ e1 (refl)

  pub agreement-compared_within : (Γ : List Hypothesis) (mode : Mode) (t : Tree) (u : Tree) (n : ℕ) → rest (agreement E S Γ mode t u n) ≤ rest (convert E S mode t u n)
  agreement-compared_within Γ mode t u n =
      by-outcome (convert E S mode t u n) (rest (agreement E S Γ mode t u n)) (λ z. rw (agreement-compared_spent Γ mode t u n z) (omega arith)) (λ q k z. rw (agreement-compared_refused Γ mode t u q n k z) (omega arith)) (λ b l1 e1. rw (agreement-done Γ mode t u b n l1 e1) ((agreed-falls Γ t u b) l1))

  pub infer-var_none : (Γ : List Hypothesis) (i : ℕ) (n : ℕ) → 0 < n → type_at Γ i ≡ None → infer E S Γ (Var i) n ≡ Refused (Unbound []) (n - 1)
  unfolding infer
  infer-var_none Γ i n h e = paid _ n h ∙ ap (λ o. found o (n - 1)) e

  pub infer-var_done : (Γ : List Hypothesis) (i : ℕ) (t : Tree) (n : ℕ) → 0 < n → type_at Γ i ≡ Some t → infer E S Γ (Var i) n ≡ Done t (n - 1)
  unfolding infer
  infer-var_done Γ i t n h e = paid _ n h ∙ ap (λ o. found o (n - 1)) e

  pub infer-sort_none : (Γ : List Hypothesis) (s : AnySort) (n : ℕ) → 0 < n → sort_above s ≡ None → infer E S Γ (Sort s) n ≡ Refused NotASort (n - 1)
  unfolding infer
  infer-sort_none Γ s n h e = paid _ n h ∙ ap (λ o. in_range o (n - 1)) e

  pub infer-sort_done : (Γ : List Hypothesis) (s : AnySort) (r : AnySort) (n : ℕ) → 0 < n → sort_above s ≡ Some r → infer E S Γ (Sort s) n ≡ Done (Sort r) (n - 1)
  unfolding infer
  infer-sort_done Γ s r n h e = paid _ n h ∙ ap (λ o. in_range o (n - 1)) e

  pub infer-const_none : (Γ : List Hypothesis) (c : ℕ) (n : ℕ) → 0 < n → constant_type (slice_get E.entries c) ≡ None → infer E S Γ (Const c) n ≡ Refused (Unbound []) (n - 1)
  unfolding infer
  infer-const_none Γ c n h e = paid _ n h ∙ ap (λ o. found o (n - 1)) e

  pub infer-const_done : (Γ : List Hypothesis) (c : ℕ) (t : Tree) (n : ℕ) → 0 < n → constant_type (slice_get E.entries c) ≡ Some t → infer E S Γ (Const c) n ≡ Done t (n - 1)
  unfolding infer
  infer-const_done Γ c t n h e = paid _ n h ∙ ap (λ o. found o (n - 1)) e

  pub infer-ind_none : (Γ : List Hypothesis) (c : ℕ) (n : ℕ) → 0 < n → inductive_type (slice_get E.entries c) ≡ None → infer E S Γ (Ind c) n ≡ Refused (Unbound []) (n - 1)
  unfolding infer
  infer-ind_none Γ c n h e = paid _ n h ∙ ap (λ o. found o (n - 1)) e

  pub infer-ind_done : (Γ : List Hypothesis) (c : ℕ) (t : Tree) (n : ℕ) → 0 < n → inductive_type (slice_get E.entries c) ≡ Some t → infer E S Γ (Ind c) n ≡ Done t (n - 1)
  unfolding infer
  infer-ind_done Γ c t n h e = paid _ n h ∙ ap (λ o. found o (n - 1)) e

  pub infer-con_none : (Γ : List Hypothesis) (c : ℕ) (k : ℕ) (n : ℕ) → 0 < n → constructor_type (constructor_at E.entries c k) ≡ None → infer E S Γ (Con c k) n ≡ Refused (Unbound []) (n - 1)
  unfolding infer
  infer-con_none Γ c k n h e = paid _ n h ∙ ap (λ o. found o (n - 1)) e

  pub infer-con_done : (Γ : List Hypothesis) (c : ℕ) (k : ℕ) (t : Tree) (n : ℕ) → 0 < n → constructor_type (constructor_at E.entries c k) ≡ Some t → infer E S Γ (Con c k) n ≡ Done t (n - 1)
  unfolding infer
  infer-con_done Γ c k t n h e = paid _ n h ∙ ap (λ o. found o (n - 1)) e

  pub infer-prod-dom_spent : (Γ : List Hypothesis) (x : Bytes) (a : Tree) (b : Tree) (n : ℕ) → 0 < n → sort_of E S Γ a (n - 1) ≡ Spent → infer E S Γ (Prod x a b) n ≡ Spent
  unfolding infer sort_of product_of agreement
  infer-prod-dom_spent Γ x a b n h z = paid _ n h ∙ on-spent _ _ z

  pub infer-prod-dom_refused : (Γ : List Hypothesis) (x : Bytes) (a : Tree) (b : Tree) (q : Reason) (n k : ℕ) → 0 < n → sort_of E S Γ a (n - 1) ≡ Refused q k → infer E S Γ (Prod x a b) n ≡ Refused q k
  unfolding infer sort_of product_of agreement
  infer-prod-dom_refused Γ x a b q n k h z = paid _ n h ∙ on-refused _ _ z

  pub infer-prod-cod_spent : (Γ : List Hypothesis) (x : Bytes) (a : Tree) (b : Tree) (s : AnySort) (n l1 : ℕ) → 0 < n → sort_of E S Γ a (n - 1) ≡ Done s l1 → sort_of E S (record { name = x; ty = a } ∷ Γ) b l1 ≡ Spent → infer E S Γ (Prod x a b) n ≡ Spent
  unfolding infer sort_of product_of agreement
  infer-prod-cod_spent Γ x a b s n l1 h e1 z = paid _ n h ∙ on-done _ _ e1 (on-spent _ _ z)

  pub infer-prod-cod_refused : (Γ : List Hypothesis) (x : Bytes) (a : Tree) (b : Tree) (s : AnySort) (q : Reason) (n l1 k : ℕ) → 0 < n → sort_of E S Γ a (n - 1) ≡ Done s l1 → sort_of E S (record { name = x; ty = a } ∷ Γ) b l1 ≡ Refused q k → infer E S Γ (Prod x a b) n ≡ Refused q k
  unfolding infer sort_of product_of agreement
  infer-prod-cod_refused Γ x a b s q n l1 k h e1 z = paid _ n h ∙ on-done _ _ e1 (on-refused _ _ z)

  pub infer-prod-done : (Γ : List Hypothesis) (x : Bytes) (a : Tree) (b : Tree) (s : AnySort) (r : AnySort) (n l1 l2 : ℕ) → 0 < n → sort_of E S Γ a (n - 1) ≡ Done s l1 → sort_of E S (record { name = x; ty = a } ∷ Γ) b l1 ≡ Done r l2 → infer E S Γ (Prod x a b) n ≡ Done (Sort (sort_of_product s r)) l2
  unfolding infer sort_of product_of agreement
  infer-prod-done Γ x a b s r n l1 l2 h e1 e2 = paid _ n h ∙ on-done _ _ e1 (on-done _ _ e2 (refl))

  pub infer-prod-cod_within : (Γ : List Hypothesis) (x : Bytes) (a : Tree) (b : Tree) (s : AnySort) (n l1 : ℕ) → 0 < n → sort_of E S Γ a (n - 1) ≡ Done s l1 → rest (infer E S Γ (Prod x a b) n) ≤ rest (sort_of E S (record { name = x; ty = a } ∷ Γ) b l1)
  infer-prod-cod_within Γ x a b s n l1 h e1 =
      by-outcome (sort_of E S (record { name = x; ty = a } ∷ Γ) b l1) (rest (infer E S Γ (Prod x a b) n)) (λ z. rw (infer-prod-cod_spent Γ x a b s n l1 h e1 z) (omega arith)) (λ q k z. rw (infer-prod-cod_refused Γ x a b s q n l1 k h e1 z) (omega arith)) (λ r l2 e2. rw (infer-prod-done Γ x a b s r n l1 l2 h e1 e2) ((falls-give (Sort (sort_of_product s r))) l2))

  pub infer-prod-dom_within : (Γ : List Hypothesis) (x : Bytes) (a : Tree) (b : Tree) (n : ℕ) → 0 < n → rest (infer E S Γ (Prod x a b) n) ≤ rest (sort_of E S Γ a (n - 1))
  infer-prod-dom_within Γ x a b n h =
      by-outcome (sort_of E S Γ a (n - 1)) (rest (infer E S Γ (Prod x a b) n)) (λ z. rw (infer-prod-dom_spent Γ x a b n h z) (omega arith)) (λ q k z. rw (infer-prod-dom_refused Γ x a b q n k h z) (omega arith)) (λ s l1 e1. omega (arith, infer-prod-cod_within Γ x a b s n l1 h e1, (sort_of-rest (record { name = x; ty = a } ∷ Γ) b) l1))

  pub infer-lam-type_spent : (Γ : List Hypothesis) (x : Bytes) (a : Tree) (b : Tree) (n : ℕ) → 0 < n → sort_of E S Γ a (n - 1) ≡ Spent → infer E S Γ (Lam x a b) n ≡ Spent
  unfolding infer sort_of product_of agreement
  infer-lam-type_spent Γ x a b n h z = paid _ n h ∙ on-spent _ _ z

  pub infer-lam-type_refused : (Γ : List Hypothesis) (x : Bytes) (a : Tree) (b : Tree) (q : Reason) (n k : ℕ) → 0 < n → sort_of E S Γ a (n - 1) ≡ Refused q k → infer E S Γ (Lam x a b) n ≡ Refused q k
  unfolding infer sort_of product_of agreement
  infer-lam-type_refused Γ x a b q n k h z = paid _ n h ∙ on-refused _ _ z

  pub infer-lam-body_spent : (Γ : List Hypothesis) (x : Bytes) (a : Tree) (b : Tree) (s : AnySort) (n l1 : ℕ) → 0 < n → sort_of E S Γ a (n - 1) ≡ Done s l1 → infer E S (record { name = x; ty = a } ∷ Γ) b l1 ≡ Spent → infer E S Γ (Lam x a b) n ≡ Spent
  unfolding infer sort_of product_of agreement
  infer-lam-body_spent Γ x a b s n l1 h e1 z = paid _ n h ∙ on-done _ _ e1 (on-spent _ _ z)

  pub infer-lam-body_refused : (Γ : List Hypothesis) (x : Bytes) (a : Tree) (b : Tree) (s : AnySort) (q : Reason) (n l1 k : ℕ) → 0 < n → sort_of E S Γ a (n - 1) ≡ Done s l1 → infer E S (record { name = x; ty = a } ∷ Γ) b l1 ≡ Refused q k → infer E S Γ (Lam x a b) n ≡ Refused q k
  unfolding infer sort_of product_of agreement
  infer-lam-body_refused Γ x a b s q n l1 k h e1 z = paid _ n h ∙ on-done _ _ e1 (on-refused _ _ z)

  pub infer-lam-done : (Γ : List Hypothesis) (x : Bytes) (a : Tree) (b : Tree) (s : AnySort) (t : Tree) (n l1 l2 : ℕ) → 0 < n → sort_of E S Γ a (n - 1) ≡ Done s l1 → infer E S (record { name = x; ty = a } ∷ Γ) b l1 ≡ Done t l2 → infer E S Γ (Lam x a b) n ≡ Done (Prod x a t) l2
  unfolding infer sort_of product_of agreement
  infer-lam-done Γ x a b s t n l1 l2 h e1 e2 = paid _ n h ∙ on-done _ _ e1 (on-done _ _ e2 (refl))

  pub infer-lam-body_within : (Γ : List Hypothesis) (x : Bytes) (a : Tree) (b : Tree) (s : AnySort) (n l1 : ℕ) → 0 < n → sort_of E S Γ a (n - 1) ≡ Done s l1 → rest (infer E S Γ (Lam x a b) n) ≤ rest (infer E S (record { name = x; ty = a } ∷ Γ) b l1)
  infer-lam-body_within Γ x a b s n l1 h e1 =
      by-outcome (infer E S (record { name = x; ty = a } ∷ Γ) b l1) (rest (infer E S Γ (Lam x a b) n)) (λ z. rw (infer-lam-body_spent Γ x a b s n l1 h e1 z) (omega arith)) (λ q k z. rw (infer-lam-body_refused Γ x a b s q n l1 k h e1 z) (omega arith)) (λ t l2 e2. rw (infer-lam-done Γ x a b s t n l1 l2 h e1 e2) ((falls-give (Prod x a t)) l2))

  pub infer-lam-type_within : (Γ : List Hypothesis) (x : Bytes) (a : Tree) (b : Tree) (n : ℕ) → 0 < n → rest (infer E S Γ (Lam x a b) n) ≤ rest (sort_of E S Γ a (n - 1))
  infer-lam-type_within Γ x a b n h =
      by-outcome (sort_of E S Γ a (n - 1)) (rest (infer E S Γ (Lam x a b) n)) (λ z. rw (infer-lam-type_spent Γ x a b n h z) (omega arith)) (λ q k z. rw (infer-lam-type_refused Γ x a b q n k h z) (omega arith)) (λ s l1 e1. omega (arith, infer-lam-body_within Γ x a b s n l1 h e1, (infer-rest E S (record { name = x; ty = a } ∷ Γ) b) l1))

  pub infer-app-fun_spent : (Γ : List Hypothesis) (f : Tree) (a : Tree) (n : ℕ) → 0 < n → product_of E S Γ f (n - 1) ≡ Spent → infer E S Γ (App f a) n ≡ Spent
  unfolding infer sort_of product_of agreement
  infer-app-fun_spent Γ f a n h z = paid _ n h ∙ on-spent _ _ z

  pub infer-app-fun_refused : (Γ : List Hypothesis) (f : Tree) (a : Tree) (q : Reason) (n k : ℕ) → 0 < n → product_of E S Γ f (n - 1) ≡ Refused q k → infer E S Γ (App f a) n ≡ Refused q k
  unfolding infer sort_of product_of agreement
  infer-app-fun_refused Γ f a q n k h z = paid _ n h ∙ on-refused _ _ z

  pub infer-app-arg_spent : (Γ : List Hypothesis) (f : Tree) (a : Tree) (p : Product) (n l1 : ℕ) → 0 < n → product_of E S Γ f (n - 1) ≡ Done p l1 → infer E S Γ a l1 ≡ Spent → infer E S Γ (App f a) n ≡ Spent
  unfolding infer sort_of product_of agreement
  infer-app-arg_spent Γ f a p n l1 h e1 z = paid _ n h ∙ on-done _ _ e1 (on-spent _ _ z)

  pub infer-app-arg_refused : (Γ : List Hypothesis) (f : Tree) (a : Tree) (p : Product) (q : Reason) (n l1 k : ℕ) → 0 < n → product_of E S Γ f (n - 1) ≡ Done p l1 → infer E S Γ a l1 ≡ Refused q k → infer E S Γ (App f a) n ≡ Refused q k
  unfolding infer sort_of product_of agreement
  infer-app-arg_refused Γ f a p q n l1 k h e1 z = paid _ n h ∙ on-done _ _ e1 (on-refused _ _ z)

  pub infer-app-fit_spent : (Γ : List Hypothesis) (f : Tree) (a : Tree) (p : Product) (t : Tree) (n l1 l2 : ℕ) → 0 < n → product_of E S Γ f (n - 1) ≡ Done p l1 → infer E S Γ a l1 ≡ Done t l2 → agreement E S Γ AtMost t p.dom l2 ≡ Spent → infer E S Γ (App f a) n ≡ Spent
  unfolding infer sort_of product_of agreement
  infer-app-fit_spent Γ f a p t n l1 l2 h e1 e2 z = paid _ n h ∙ on-done _ _ e1 (on-done _ _ e2 (on-spent _ _ z))

  pub infer-app-fit_refused : (Γ : List Hypothesis) (f : Tree) (a : Tree) (p : Product) (t : Tree) (q : Reason) (n l1 l2 k : ℕ) → 0 < n → product_of E S Γ f (n - 1) ≡ Done p l1 → infer E S Γ a l1 ≡ Done t l2 → agreement E S Γ AtMost t p.dom l2 ≡ Refused q k → infer E S Γ (App f a) n ≡ Refused q k
  unfolding infer sort_of product_of agreement
  infer-app-fit_refused Γ f a p t q n l1 l2 k h e1 e2 z = paid _ n h ∙ on-done _ _ e1 (on-done _ _ e2 (on-refused _ _ z))

  pub infer-app-done : (Γ : List Hypothesis) (f : Tree) (a : Tree) (p : Product) (t : Tree) (n l1 l2 l3 : ℕ) → 0 < n → product_of E S Γ f (n - 1) ≡ Done p l1 → infer E S Γ a l1 ≡ Done t l2 → agreement E S Γ AtMost t p.dom l2 ≡ Done tt l3 → infer E S Γ (App f a) n ≡ Done (sub (one a) p.cod) l3
  unfolding infer sort_of product_of agreement
  infer-app-done Γ f a p t n l1 l2 l3 h e1 e2 e3 = paid _ n h ∙ on-done _ _ e1 (on-done _ _ e2 (on-done _ _ e3 (refl)))

  pub infer-app-fit_within : (Γ : List Hypothesis) (f : Tree) (a : Tree) (p : Product) (t : Tree) (n l1 l2 : ℕ) → 0 < n → product_of E S Γ f (n - 1) ≡ Done p l1 → infer E S Γ a l1 ≡ Done t l2 → rest (infer E S Γ (App f a) n) ≤ rest (agreement E S Γ AtMost t p.dom l2)
  infer-app-fit_within Γ f a p t n l1 l2 h e1 e2 =
      by-outcome (agreement E S Γ AtMost t p.dom l2) (rest (infer E S Γ (App f a) n)) (λ z. rw (infer-app-fit_spent Γ f a p t n l1 l2 h e1 e2 z) (omega arith)) (λ q k z. rw (infer-app-fit_refused Γ f a p t q n l1 l2 k h e1 e2 z) (omega arith)) (λ z l3 e3. rw (infer-app-done Γ f a p t n l1 l2 l3 h e1 e2 e3) ((falls-give (sub (one a) p.cod)) l3))

  pub infer-app-arg_within : (Γ : List Hypothesis) (f : Tree) (a : Tree) (p : Product) (n l1 : ℕ) → 0 < n → product_of E S Γ f (n - 1) ≡ Done p l1 → rest (infer E S Γ (App f a) n) ≤ rest (infer E S Γ a l1)
  infer-app-arg_within Γ f a p n l1 h e1 =
      by-outcome (infer E S Γ a l1) (rest (infer E S Γ (App f a) n)) (λ z. rw (infer-app-arg_spent Γ f a p n l1 h e1 z) (omega arith)) (λ q k z. rw (infer-app-arg_refused Γ f a p q n l1 k h e1 z) (omega arith)) (λ t l2 e2. omega (arith, infer-app-fit_within Γ f a p t n l1 l2 h e1 e2, (agreement-rest Γ AtMost t p.dom) l2))

  pub infer-app-fun_within : (Γ : List Hypothesis) (f : Tree) (a : Tree) (n : ℕ) → 0 < n → rest (infer E S Γ (App f a) n) ≤ rest (product_of E S Γ f (n - 1))
  infer-app-fun_within Γ f a n h =
      by-outcome (product_of E S Γ f (n - 1)) (rest (infer E S Γ (App f a) n)) (λ z. rw (infer-app-fun_spent Γ f a n h z) (omega arith)) (λ q k z. rw (infer-app-fun_refused Γ f a q n k h z) (omega arith)) (λ p l1 e1. omega (arith, infer-app-arg_within Γ f a p n l1 h e1, (infer-rest E S Γ a) l1))

  pub infer-meta-meta_none : (Γ : List Hypothesis) (m : ℕ) (s : Trees) (n : ℕ) → 0 < n → S.at m ≡ None → infer E S Γ (Meta m s) n ≡ Refused (Unbound []) (n - 1)
  unfolding infer infer_terms
  infer-meta-meta_none Γ m s n h z = paid _ n h ∙ on-refused _ _ (ap (λ o. found o (n - 1)) z)

  pub infer-meta-terms_spent : (Γ : List Hypothesis) (m : ℕ) (s : Trees) (d : Declared) (n : ℕ) → 0 < n → S.at m ≡ Some d → infer_terms E S Γ s (oldest d.context []) beyond (n - 1) ≡ Spent → infer E S Γ (Meta m s) n ≡ Spent
  unfolding infer infer_terms
  infer-meta-terms_spent Γ m s d n h e1 z = paid _ n h ∙ on-done _ _ (ap (λ o. found o (n - 1)) e1) (on-spent _ _ z)

  pub infer-meta-terms_refused : (Γ : List Hypothesis) (m : ℕ) (s : Trees) (d : Declared) (q : Reason) (n k : ℕ) → 0 < n → S.at m ≡ Some d → infer_terms E S Γ s (oldest d.context []) beyond (n - 1) ≡ Refused q k → infer E S Γ (Meta m s) n ≡ Refused q k
  unfolding infer infer_terms
  infer-meta-terms_refused Γ m s d q n k h e1 z = paid _ n h ∙ on-done _ _ (ap (λ o. found o (n - 1)) e1) (on-refused _ _ z)

  pub infer-meta-done : (Γ : List Hypothesis) (m : ℕ) (s : Trees) (d : Declared) (n l2 : ℕ) → 0 < n → S.at m ≡ Some d → infer_terms E S Γ s (oldest d.context []) beyond (n - 1) ≡ Done tt l2 → infer E S Γ (Meta m s) n ≡ Done (under s d.ty) l2
  unfolding infer infer_terms
  infer-meta-done Γ m s d n l2 h e1 e2 = paid _ n h ∙ on-done _ _ (ap (λ o. found o (n - 1)) e1) (on-done _ _ e2 (refl))

  pub infer-meta-terms_within : (Γ : List Hypothesis) (m : ℕ) (s : Trees) (d : Declared) (n : ℕ) → 0 < n → S.at m ≡ Some d → rest (infer E S Γ (Meta m s) n) ≤ rest (infer_terms E S Γ s (oldest d.context []) beyond (n - 1))
  infer-meta-terms_within Γ m s d n h e1 =
      by-outcome (infer_terms E S Γ s (oldest d.context []) beyond (n - 1)) (rest (infer E S Γ (Meta m s) n)) (λ z. rw (infer-meta-terms_spent Γ m s d n h e1 z) (omega arith)) (λ q k z. rw (infer-meta-terms_refused Γ m s d q n k h e1 z) (omega arith)) (λ z l2 e2. rw (infer-meta-done Γ m s d n l2 h e1 e2) ((falls-give (under s d.ty)) l2))

  pub infer-match-matched_spent : (Γ : List Hypothesis) (e : ℕ) (r : Tree) (c : Tree) (bs : Arms) (n : ℕ) → 0 < n → type_head E S Γ c (n - 1) ≡ Spent → infer E S Γ (Match e r c bs) n ≡ Spent
  unfolding infer elimination infer_arms type_head
  infer-match-matched_spent Γ e r c bs n h z = paid _ n h ∙ on-spent _ _ z

  pub infer-match-matched_refused : (Γ : List Hypothesis) (e : ℕ) (r : Tree) (c : Tree) (bs : Arms) (q : Reason) (n k : ℕ) → 0 < n → type_head E S Γ c (n - 1) ≡ Refused q k → infer E S Γ (Match e r c bs) n ≡ Refused q k
  unfolding infer elimination infer_arms type_head
  infer-match-matched_refused Γ e r c bs q n k h z = paid _ n h ∙ on-refused _ _ z

  pub infer-match-family_none : (Γ : List Hypothesis) (e : ℕ) (r : Tree) (c : Tree) (bs : Arms) (d : Tree) (n l1 : ℕ) → 0 < n → type_head E S Γ c (n - 1) ≡ Done d l1 → only e (as_family E.entries d) ≡ None → infer E S Γ (Match e r c bs) n ≡ Refused BadElimination l1
  unfolding infer elimination infer_arms type_head
  infer-match-family_none Γ e r c bs d n l1 h e1 z = paid _ n h ∙ on-done _ _ e1 (on-refused _ _ (ap (λ o. eliminable o l1) z))

  pub infer-match-return_spent : (Γ : List Hypothesis) (e : ℕ) (r : Tree) (c : Tree) (bs : Arms) (d : Tree) (f : Family) (n l1 : ℕ) → 0 < n → type_head E S Γ c (n - 1) ≡ Done d l1 → only e (as_family E.entries d) ≡ Some f → elimination E S Γ f r l1 ≡ Spent → infer E S Γ (Match e r c bs) n ≡ Spent
  unfolding infer elimination infer_arms type_head
  infer-match-return_spent Γ e r c bs d f n l1 h e1 e2 z = paid _ n h ∙ on-done _ _ e1 (on-done _ _ (ap (λ o. eliminable o l1) e2) (on-spent _ _ z))

  pub infer-match-return_refused : (Γ : List Hypothesis) (e : ℕ) (r : Tree) (c : Tree) (bs : Arms) (d : Tree) (f : Family) (q : Reason) (n l1 k : ℕ) → 0 < n → type_head E S Γ c (n - 1) ≡ Done d l1 → only e (as_family E.entries d) ≡ Some f → elimination E S Γ f r l1 ≡ Refused q k → infer E S Γ (Match e r c bs) n ≡ Refused q k
  unfolding infer elimination infer_arms type_head
  infer-match-return_refused Γ e r c bs d f q n l1 k h e1 e2 z = paid _ n h ∙ on-done _ _ e1 (on-done _ _ (ap (λ o. eliminable o l1) e2) (on-refused _ _ z))

  pub infer-match-fit_none : (Γ : List Hypothesis) (e : ℕ) (r : Tree) (c : Tree) (bs : Arms) (d : Tree) (f : Family) (s : AnySort) (n l1 l3 : ℕ) → 0 < n → type_head E S Γ c (n - 1) ≡ Done d l1 → only e (as_family E.entries d) ≡ Some f → elimination E S Γ f r l1 ≡ Done s l3 → branches_fit (count f.params) f.constructors bs ≡ false → infer E S Γ (Match e r c bs) n ≡ Refused BadElimination l3
  unfolding infer elimination infer_arms type_head
  infer-match-fit_none Γ e r c bs d f s n l1 l3 h e1 e2 e3 z = paid _ n h ∙ on-done _ _ e1 (on-done _ _ (ap (λ o. eliminable o l1) e2) (on-done _ _ e3 (on-refused _ _ (ap (λ o. checked o l3) z))))

  pub infer-match-arms_spent : (Γ : List Hypothesis) (e : ℕ) (r : Tree) (c : Tree) (bs : Arms) (d : Tree) (f : Family) (s : AnySort) (n l1 l3 : ℕ) → 0 < n → type_head E S Γ c (n - 1) ≡ Done d l1 → only e (as_family E.entries d) ≡ Some f → elimination E S Γ f r l1 ≡ Done s l3 → branches_fit (count f.params) f.constructors bs ≡ true → infer_arms E S Γ f r zero f.constructors bs l3 ≡ Spent → infer E S Γ (Match e r c bs) n ≡ Spent
  unfolding infer elimination infer_arms type_head
  infer-match-arms_spent Γ e r c bs d f s n l1 l3 h e1 e2 e3 e4 z = paid _ n h ∙ on-done _ _ e1 (on-done _ _ (ap (λ o. eliminable o l1) e2) (on-done _ _ e3 (on-done _ _ (ap (λ o. checked o l3) e4) (on-spent _ _ z))))

  pub infer-match-arms_refused : (Γ : List Hypothesis) (e : ℕ) (r : Tree) (c : Tree) (bs : Arms) (d : Tree) (f : Family) (s : AnySort) (q : Reason) (n l1 l3 k : ℕ) → 0 < n → type_head E S Γ c (n - 1) ≡ Done d l1 → only e (as_family E.entries d) ≡ Some f → elimination E S Γ f r l1 ≡ Done s l3 → branches_fit (count f.params) f.constructors bs ≡ true → infer_arms E S Γ f r zero f.constructors bs l3 ≡ Refused q k → infer E S Γ (Match e r c bs) n ≡ Refused q k
  unfolding infer elimination infer_arms type_head
  infer-match-arms_refused Γ e r c bs d f s q n l1 l3 k h e1 e2 e3 e4 z = paid _ n h ∙ on-done _ _ e1 (on-done _ _ (ap (λ o. eliminable o l1) e2) (on-done _ _ e3 (on-done _ _ (ap (λ o. checked o l3) e4) (on-refused _ _ z))))

  pub infer-match-done : (Γ : List Hypothesis) (e : ℕ) (r : Tree) (c : Tree) (bs : Arms) (d : Tree) (f : Family) (s : AnySort) (n l1 l3 l5 : ℕ) → 0 < n → type_head E S Γ c (n - 1) ≡ Done d l1 → only e (as_family E.entries d) ≡ Some f → elimination E S Γ f r l1 ≡ Done s l3 → branches_fit (count f.params) f.constructors bs ≡ true → infer_arms E S Γ f r zero f.constructors bs l3 ≡ Done tt l5 → infer E S Γ (Match e r c bs) n ≡ Done (motive_on_all r (join f.indices (Item c End))) l5
  unfolding infer elimination infer_arms type_head
  infer-match-done Γ e r c bs d f s n l1 l3 l5 h e1 e2 e3 e4 e5 = paid _ n h ∙ on-done _ _ e1 (on-done _ _ (ap (λ o. eliminable o l1) e2) (on-done _ _ e3 (on-done _ _ (ap (λ o. checked o l3) e4) (on-done _ _ e5 (refl)))))

  pub infer-match-arms_within : (Γ : List Hypothesis) (e : ℕ) (r : Tree) (c : Tree) (bs : Arms) (d : Tree) (f : Family) (s : AnySort) (n l1 l3 : ℕ) → 0 < n → type_head E S Γ c (n - 1) ≡ Done d l1 → only e (as_family E.entries d) ≡ Some f → elimination E S Γ f r l1 ≡ Done s l3 → branches_fit (count f.params) f.constructors bs ≡ true → rest (infer E S Γ (Match e r c bs) n) ≤ rest (infer_arms E S Γ f r zero f.constructors bs l3)
  infer-match-arms_within Γ e r c bs d f s n l1 l3 h e1 e2 e3 e4 =
      by-outcome (infer_arms E S Γ f r zero f.constructors bs l3) (rest (infer E S Γ (Match e r c bs) n)) (λ z. rw (infer-match-arms_spent Γ e r c bs d f s n l1 l3 h e1 e2 e3 e4 z) (omega arith)) (λ q k z. rw (infer-match-arms_refused Γ e r c bs d f s q n l1 l3 k h e1 e2 e3 e4 z) (omega arith)) (λ z l5 e5. rw (infer-match-done Γ e r c bs d f s n l1 l3 l5 h e1 e2 e3 e4 e5) ((falls-give (motive_on_all r (join f.indices (Item c End)))) l5))

  pub infer-match-return_within : (Γ : List Hypothesis) (e : ℕ) (r : Tree) (c : Tree) (bs : Arms) (d : Tree) (f : Family) (n l1 : ℕ) → 0 < n → type_head E S Γ c (n - 1) ≡ Done d l1 → only e (as_family E.entries d) ≡ Some f → rest (infer E S Γ (Match e r c bs) n) ≤ rest (elimination E S Γ f r l1)
  infer-match-return_within Γ e r c bs d f n l1 h e1 e2 =
      by-outcome (elimination E S Γ f r l1) (rest (infer E S Γ (Match e r c bs) n)) (λ z. rw (infer-match-return_spent Γ e r c bs d f n l1 h e1 e2 z) (omega arith)) (λ q k z. rw (infer-match-return_refused Γ e r c bs d f q n l1 k h e1 e2 z) (omega arith)) (λ s l3 e3. by-bool (branches_fit (count f.params) f.constructors bs) (λ z. rw (infer-match-fit_none Γ e r c bs d f s n l1 l3 h e1 e2 e3 z) (omega arith)) (λ e4. omega (arith, infer-match-arms_within Γ e r c bs d f s n l1 l3 h e1 e2 e3 e4, (infer_arms-rest Γ f r zero f.constructors bs) l3)))

  pub infer-match-matched_within : (Γ : List Hypothesis) (e : ℕ) (r : Tree) (c : Tree) (bs : Arms) (n : ℕ) → 0 < n → rest (infer E S Γ (Match e r c bs) n) ≤ rest (type_head E S Γ c (n - 1))
  infer-match-matched_within Γ e r c bs n h =
      by-outcome (type_head E S Γ c (n - 1)) (rest (infer E S Γ (Match e r c bs) n)) (λ z. rw (infer-match-matched_spent Γ e r c bs n h z) (omega arith)) (λ q k z. rw (infer-match-matched_refused Γ e r c bs q n k h z) (omega arith)) (λ d l1 e1. by-option (only e (as_family E.entries d)) (λ z. rw (infer-match-family_none Γ e r c bs d n l1 h e1 z) (omega arith)) (λ f e2. omega (arith, infer-match-return_within Γ e r c bs d f n l1 h e1 e2, (elimination-rest E S Γ f r) l1)))

  pub elimination-type_spent : (Γ : List Hypothesis) (f : Family) (r : Tree) (n : ℕ) → infer E S Γ r n ≡ Spent → elimination E S Γ f r n ≡ Spent
  unfolding elimination eliminating
  elimination-type_spent Γ f r n z = on-spent _ _ z

  pub elimination-type_refused : (Γ : List Hypothesis) (f : Family) (r : Tree) (q : Reason) (n k : ℕ) → infer E S Γ r n ≡ Refused q k → elimination E S Γ f r n ≡ Refused q k
  unfolding elimination eliminating
  elimination-type_refused Γ f r q n k z = on-refused _ _ z

  pub elimination-done : (Γ : List Hypothesis) (f : Family) (r : Tree) (t : Tree) (n l1 : ℕ) → infer E S Γ r n ≡ Done t l1 → elimination E S Γ f r n ≡ eliminating E S Γ f.large f.arity (apps (Ind f.number) f.params) t l1
  unfolding elimination eliminating
  elimination-done Γ f r t n l1 e1 = on-done _ _ e1 (refl)

  pub elimination-type_within : (Γ : List Hypothesis) (f : Family) (r : Tree) (n : ℕ) → rest (elimination E S Γ f r n) ≤ rest (infer E S Γ r n)
  elimination-type_within Γ f r n =
      by-outcome (infer E S Γ r n) (rest (elimination E S Γ f r n)) (λ z. rw (elimination-type_spent Γ f r n z) (omega arith)) (λ q k z. rw (elimination-type_refused Γ f r q n k z) (omega arith)) (λ t l1 e1. rw (elimination-done Γ f r t n l1 e1) ((eliminating-rest Γ f.large f.arity (apps (Ind f.number) f.params) t) l1))

  pub eliminating-index-product_spent : (Γ : List Hypothesis) (large : Bool) (x : Bytes) (a : Tree) (b : Tree) (u : Tree) (t : Tree) (n : ℕ) → as_product E S t n ≡ Spent → eliminating E S Γ large (Prod x a b) u t n ≡ Spent
  unfolding eliminating as_product agreement
  eliminating-index-product_spent Γ large x a b u t n z = on-spent _ _ z

  pub eliminating-index-product_refused : (Γ : List Hypothesis) (large : Bool) (x : Bytes) (a : Tree) (b : Tree) (u : Tree) (t : Tree) (q : Reason) (n k : ℕ) → as_product E S t n ≡ Refused q k → eliminating E S Γ large (Prod x a b) u t n ≡ Refused q k
  unfolding eliminating as_product agreement
  eliminating-index-product_refused Γ large x a b u t q n k z = on-refused _ _ z

  pub eliminating-index-index_spent : (Γ : List Hypothesis) (large : Bool) (x : Bytes) (a : Tree) (b : Tree) (u : Tree) (t : Tree) (p : Product) (n l1 : ℕ) → as_product E S t n ≡ Done p l1 → agreement E S Γ Equal p.dom a l1 ≡ Spent → eliminating E S Γ large (Prod x a b) u t n ≡ Spent
  unfolding eliminating as_product agreement
  eliminating-index-index_spent Γ large x a b u t p n l1 e1 z = on-done _ _ e1 (on-spent _ _ z)

  pub eliminating-index-index_refused : (Γ : List Hypothesis) (large : Bool) (x : Bytes) (a : Tree) (b : Tree) (u : Tree) (t : Tree) (p : Product) (q : Reason) (n l1 k : ℕ) → as_product E S t n ≡ Done p l1 → agreement E S Γ Equal p.dom a l1 ≡ Refused q k → eliminating E S Γ large (Prod x a b) u t n ≡ Refused q k
  unfolding eliminating as_product agreement
  eliminating-index-index_refused Γ large x a b u t p q n l1 k e1 z = on-done _ _ e1 (on-refused _ _ z)

  pub eliminating-index-done : (Γ : List Hypothesis) (large : Bool) (x : Bytes) (a : Tree) (b : Tree) (u : Tree) (t : Tree) (p : Product) (n l1 l2 : ℕ) → as_product E S t n ≡ Done p l1 → agreement E S Γ Equal p.dom a l1 ≡ Done tt l2 → eliminating E S Γ large (Prod x a b) u t n ≡ eliminating E S (record { name = p.name; ty = p.dom } ∷ Γ) large b (App (ren suc u) (Var zero)) p.cod l2
  unfolding eliminating as_product agreement
  eliminating-index-done Γ large x a b u t p n l1 l2 e1 e2 = on-done _ _ e1 (on-done _ _ e2 (refl))

  pub eliminating-index-index_within : (Γ : List Hypothesis) (large : Bool) (x : Bytes) (a : Tree) (b : Tree) (u : Tree) (t : Tree) (p : Product) (n l1 : ℕ) → as_product E S t n ≡ Done p l1 → rest (eliminating E S Γ large (Prod x a b) u t n) ≤ rest (agreement E S Γ Equal p.dom a l1)
  eliminating-index-index_within Γ large x a b u t p n l1 e1 =
      by-outcome (agreement E S Γ Equal p.dom a l1) (rest (eliminating E S Γ large (Prod x a b) u t n)) (λ z. rw (eliminating-index-index_spent Γ large x a b u t p n l1 e1 z) (omega arith)) (λ q k z. rw (eliminating-index-index_refused Γ large x a b u t p q n l1 k e1 z) (omega arith)) (λ z l2 e2. rw (eliminating-index-done Γ large x a b u t p n l1 l2 e1 e2) ((eliminating-rest (record { name = p.name; ty = p.dom } ∷ Γ) large b (App (ren suc u) (Var zero)) p.cod) l2))

  pub eliminating-index-product_within : (Γ : List Hypothesis) (large : Bool) (x : Bytes) (a : Tree) (b : Tree) (u : Tree) (t : Tree) (n : ℕ) → rest (eliminating E S Γ large (Prod x a b) u t n) ≤ rest (as_product E S t n)
  eliminating-index-product_within Γ large x a b u t n =
      by-outcome (as_product E S t n) (rest (eliminating E S Γ large (Prod x a b) u t n)) (λ z. rw (eliminating-index-product_spent Γ large x a b u t n z) (omega arith)) (λ q k z. rw (eliminating-index-product_refused Γ large x a b u t q n k z) (omega arith)) (λ p l1 e1. omega (arith, eliminating-index-index_within Γ large x a b u t p n l1 e1, (agreement-rest Γ Equal p.dom a) l1))

  pub eliminating-last-product_spent : (Γ : List Hypothesis) (large : Bool) (r : AnySort) (u : Tree) (t : Tree) (n : ℕ) → as_product E S t n ≡ Spent → eliminating E S Γ large (Sort r) u t n ≡ Spent
  unfolding eliminating as_product as_sort agreement
  eliminating-last-product_spent Γ large r u t n z = on-spent _ _ z

  pub eliminating-last-product_refused : (Γ : List Hypothesis) (large : Bool) (r : AnySort) (u : Tree) (t : Tree) (q : Reason) (n k : ℕ) → as_product E S t n ≡ Refused q k → eliminating E S Γ large (Sort r) u t n ≡ Refused q k
  unfolding eliminating as_product as_sort agreement
  eliminating-last-product_refused Γ large r u t q n k z = on-refused _ _ z

  pub eliminating-last-family_spent : (Γ : List Hypothesis) (large : Bool) (r : AnySort) (u : Tree) (t : Tree) (p : Product) (n l1 : ℕ) → as_product E S t n ≡ Done p l1 → agreement E S Γ Equal p.dom u l1 ≡ Spent → eliminating E S Γ large (Sort r) u t n ≡ Spent
  unfolding eliminating as_product as_sort agreement
  eliminating-last-family_spent Γ large r u t p n l1 e1 z = on-done _ _ e1 (on-spent _ _ z)

  pub eliminating-last-family_refused : (Γ : List Hypothesis) (large : Bool) (r : AnySort) (u : Tree) (t : Tree) (p : Product) (q : Reason) (n l1 k : ℕ) → as_product E S t n ≡ Done p l1 → agreement E S Γ Equal p.dom u l1 ≡ Refused q k → eliminating E S Γ large (Sort r) u t n ≡ Refused q k
  unfolding eliminating as_product as_sort agreement
  eliminating-last-family_refused Γ large r u t p q n l1 k e1 z = on-done _ _ e1 (on-refused _ _ z)

  pub eliminating-last-sort_spent : (Γ : List Hypothesis) (large : Bool) (r : AnySort) (u : Tree) (t : Tree) (p : Product) (n l1 l2 : ℕ) → as_product E S t n ≡ Done p l1 → agreement E S Γ Equal p.dom u l1 ≡ Done tt l2 → as_sort E S p.cod l2 ≡ Spent → eliminating E S Γ large (Sort r) u t n ≡ Spent
  unfolding eliminating as_product as_sort agreement
  eliminating-last-sort_spent Γ large r u t p n l1 l2 e1 e2 z = on-done _ _ e1 (on-done _ _ e2 (on-spent _ _ z))

  pub eliminating-last-sort_refused : (Γ : List Hypothesis) (large : Bool) (r : AnySort) (u : Tree) (t : Tree) (p : Product) (q : Reason) (n l1 l2 k : ℕ) → as_product E S t n ≡ Done p l1 → agreement E S Γ Equal p.dom u l1 ≡ Done tt l2 → as_sort E S p.cod l2 ≡ Refused q k → eliminating E S Γ large (Sort r) u t n ≡ Refused q k
  unfolding eliminating as_product as_sort agreement
  eliminating-last-sort_refused Γ large r u t p q n l1 l2 k e1 e2 z = on-done _ _ e1 (on-done _ _ e2 (on-refused _ _ z))

  pub eliminating-last-allowed_none : (Γ : List Hypothesis) (large : Bool) (r : AnySort) (u : Tree) (t : Tree) (p : Product) (s : AnySort) (n l1 l2 l3 : ℕ) → as_product E S t n ≡ Done p l1 → agreement E S Γ Equal p.dom u l1 ≡ Done tt l2 → as_sort E S p.cod l2 ≡ Done s l3 → may_eliminate large r s ≡ false → eliminating E S Γ large (Sort r) u t n ≡ Refused BadElimination l3
  unfolding eliminating as_product as_sort agreement
  eliminating-last-allowed_none Γ large r u t p s n l1 l2 l3 e1 e2 e3 z = on-done _ _ e1 (on-done _ _ e2 (on-done _ _ e3 (on-refused _ _ (ap (λ o. checked o l3) z))))

  pub eliminating-last-done : (Γ : List Hypothesis) (large : Bool) (r : AnySort) (u : Tree) (t : Tree) (p : Product) (s : AnySort) (n l1 l2 l3 : ℕ) → as_product E S t n ≡ Done p l1 → agreement E S Γ Equal p.dom u l1 ≡ Done tt l2 → as_sort E S p.cod l2 ≡ Done s l3 → may_eliminate large r s ≡ true → eliminating E S Γ large (Sort r) u t n ≡ Done s l3
  unfolding eliminating as_product as_sort agreement
  eliminating-last-done Γ large r u t p s n l1 l2 l3 e1 e2 e3 e4 = on-done _ _ e1 (on-done _ _ e2 (on-done _ _ e3 (on-done _ _ (ap (λ o. checked o l3) e4) (refl))))

  pub eliminating-last-sort_within : (Γ : List Hypothesis) (large : Bool) (r : AnySort) (u : Tree) (t : Tree) (p : Product) (n l1 l2 : ℕ) → as_product E S t n ≡ Done p l1 → agreement E S Γ Equal p.dom u l1 ≡ Done tt l2 → rest (eliminating E S Γ large (Sort r) u t n) ≤ rest (as_sort E S p.cod l2)
  eliminating-last-sort_within Γ large r u t p n l1 l2 e1 e2 =
      by-outcome (as_sort E S p.cod l2) (rest (eliminating E S Γ large (Sort r) u t n)) (λ z. rw (eliminating-last-sort_spent Γ large r u t p n l1 l2 e1 e2 z) (omega arith)) (λ q k z. rw (eliminating-last-sort_refused Γ large r u t p q n l1 l2 k e1 e2 z) (omega arith)) (λ s l3 e3. by-bool (may_eliminate large r s) (λ z. rw (eliminating-last-allowed_none Γ large r u t p s n l1 l2 l3 e1 e2 e3 z) (omega arith)) (λ e4. rw (eliminating-last-done Γ large r u t p s n l1 l2 l3 e1 e2 e3 e4) ((falls-give s) l3)))

  pub eliminating-last-family_within : (Γ : List Hypothesis) (large : Bool) (r : AnySort) (u : Tree) (t : Tree) (p : Product) (n l1 : ℕ) → as_product E S t n ≡ Done p l1 → rest (eliminating E S Γ large (Sort r) u t n) ≤ rest (agreement E S Γ Equal p.dom u l1)
  eliminating-last-family_within Γ large r u t p n l1 e1 =
      by-outcome (agreement E S Γ Equal p.dom u l1) (rest (eliminating E S Γ large (Sort r) u t n)) (λ z. rw (eliminating-last-family_spent Γ large r u t p n l1 e1 z) (omega arith)) (λ q k z. rw (eliminating-last-family_refused Γ large r u t p q n l1 k e1 z) (omega arith)) (λ z l2 e2. omega (arith, eliminating-last-sort_within Γ large r u t p n l1 l2 e1 e2, (as_sort-rest p.cod) l2))

  pub eliminating-last-product_within : (Γ : List Hypothesis) (large : Bool) (r : AnySort) (u : Tree) (t : Tree) (n : ℕ) → rest (eliminating E S Γ large (Sort r) u t n) ≤ rest (as_product E S t n)
  eliminating-last-product_within Γ large r u t n =
      by-outcome (as_product E S t n) (rest (eliminating E S Γ large (Sort r) u t n)) (λ z. rw (eliminating-last-product_spent Γ large r u t n z) (omega arith)) (λ q k z. rw (eliminating-last-product_refused Γ large r u t q n k z) (omega arith)) (λ p l1 e1. omega (arith, eliminating-last-family_within Γ large r u t p n l1 e1, (agreement-rest Γ Equal p.dom u) l1))

  pub eliminating-var : (Γ : List Hypothesis) (large : Bool) (i : ℕ) (u t : Tree) (n : ℕ) → eliminating E S Γ large (Var i) u t n ≡ Refused BadElimination n
  unfolding eliminating
  eliminating-var Γ large i u t n = refl

  pub eliminating-lam : (Γ : List Hypothesis) (large : Bool) (x : Bytes) (a b : Tree) (u t : Tree) (n : ℕ) → eliminating E S Γ large (Lam x a b) u t n ≡ Refused BadElimination n
  unfolding eliminating
  eliminating-lam Γ large x a b u t n = refl

  pub eliminating-app : (Γ : List Hypothesis) (large : Bool) (f a : Tree) (u t : Tree) (n : ℕ) → eliminating E S Γ large (App f a) u t n ≡ Refused BadElimination n
  unfolding eliminating
  eliminating-app Γ large f a u t n = refl

  pub eliminating-const : (Γ : List Hypothesis) (large : Bool) (c : ℕ) (u t : Tree) (n : ℕ) → eliminating E S Γ large (Const c) u t n ≡ Refused BadElimination n
  unfolding eliminating
  eliminating-const Γ large c u t n = refl

  pub eliminating-ind : (Γ : List Hypothesis) (large : Bool) (e : ℕ) (u t : Tree) (n : ℕ) → eliminating E S Γ large (Ind e) u t n ≡ Refused BadElimination n
  unfolding eliminating
  eliminating-ind Γ large e u t n = refl

  pub eliminating-con : (Γ : List Hypothesis) (large : Bool) (e k : ℕ) (u t : Tree) (n : ℕ) → eliminating E S Γ large (Con e k) u t n ≡ Refused BadElimination n
  unfolding eliminating
  eliminating-con Γ large e k u t n = refl

  pub eliminating-match : (Γ : List Hypothesis) (large : Bool) (e : ℕ) (r c : Tree) (bs : Arms) (u t : Tree) (n : ℕ) → eliminating E S Γ large (Match e r c bs) u t n ≡ Refused BadElimination n
  unfolding eliminating
  eliminating-match Γ large e r c bs u t n = refl

  pub eliminating-meta : (Γ : List Hypothesis) (large : Bool) (m : ℕ) (s : Trees) (u t : Tree) (n : ℕ) → eliminating E S Γ large (Meta m s) u t n ≡ Refused BadElimination n
  unfolding eliminating
  eliminating-meta Γ large m s u t n = refl

  pub infer_terms-item-type_spent : (Γ : List Hypothesis) (t : Tree) (s : Trees) (a : Tree) (more : List Tree) (σ : ℕ → Tree) (n : ℕ) → infer E S Γ t n ≡ Spent → infer_terms E S Γ (Item t s) (a ∷ more) σ n ≡ Spent
  unfolding infer_terms infer agreement
  infer_terms-item-type_spent Γ t s a more σ n z = on-spent _ _ z

  pub infer_terms-item-type_refused : (Γ : List Hypothesis) (t : Tree) (s : Trees) (a : Tree) (more : List Tree) (σ : ℕ → Tree) (q : Reason) (n k : ℕ) → infer E S Γ t n ≡ Refused q k → infer_terms E S Γ (Item t s) (a ∷ more) σ n ≡ Refused q k
  unfolding infer_terms infer agreement
  infer_terms-item-type_refused Γ t s a more σ q n k z = on-refused _ _ z

  pub infer_terms-item-fit_spent : (Γ : List Hypothesis) (t : Tree) (s : Trees) (a : Tree) (more : List Tree) (σ : ℕ → Tree) (u : Tree) (n l1 : ℕ) → infer E S Γ t n ≡ Done u l1 → agreement E S Γ AtMost u (sub σ a) l1 ≡ Spent → infer_terms E S Γ (Item t s) (a ∷ more) σ n ≡ Spent
  unfolding infer_terms infer agreement
  infer_terms-item-fit_spent Γ t s a more σ u n l1 e1 z = on-done _ _ e1 (on-spent _ _ z)

  pub infer_terms-item-fit_refused : (Γ : List Hypothesis) (t : Tree) (s : Trees) (a : Tree) (more : List Tree) (σ : ℕ → Tree) (u : Tree) (q : Reason) (n l1 k : ℕ) → infer E S Γ t n ≡ Done u l1 → agreement E S Γ AtMost u (sub σ a) l1 ≡ Refused q k → infer_terms E S Γ (Item t s) (a ∷ more) σ n ≡ Refused q k
  unfolding infer_terms infer agreement
  infer_terms-item-fit_refused Γ t s a more σ u q n l1 k e1 z = on-done _ _ e1 (on-refused _ _ z)

  pub infer_terms-item-done : (Γ : List Hypothesis) (t : Tree) (s : Trees) (a : Tree) (more : List Tree) (σ : ℕ → Tree) (u : Tree) (n l1 l2 : ℕ) → infer E S Γ t n ≡ Done u l1 → agreement E S Γ AtMost u (sub σ a) l1 ≡ Done tt l2 → infer_terms E S Γ (Item t s) (a ∷ more) σ n ≡ infer_terms E S Γ s more (then_as t σ) l2
  unfolding infer_terms infer agreement
  infer_terms-item-done Γ t s a more σ u n l1 l2 e1 e2 = on-done _ _ e1 (on-done _ _ e2 (refl))

  pub infer_terms-item-fit_within : (Γ : List Hypothesis) (t : Tree) (s : Trees) (a : Tree) (more : List Tree) (σ : ℕ → Tree) (u : Tree) (n l1 : ℕ) → infer E S Γ t n ≡ Done u l1 → rest (infer_terms E S Γ (Item t s) (a ∷ more) σ n) ≤ rest (agreement E S Γ AtMost u (sub σ a) l1)
  infer_terms-item-fit_within Γ t s a more σ u n l1 e1 =
      by-outcome (agreement E S Γ AtMost u (sub σ a) l1) (rest (infer_terms E S Γ (Item t s) (a ∷ more) σ n)) (λ z. rw (infer_terms-item-fit_spent Γ t s a more σ u n l1 e1 z) (omega arith)) (λ q k z. rw (infer_terms-item-fit_refused Γ t s a more σ u q n l1 k e1 z) (omega arith)) (λ z l2 e2. rw (infer_terms-item-done Γ t s a more σ u n l1 l2 e1 e2) ((infer_terms-rest Γ s more (then_as t σ)) l2))

  pub infer_terms-item-type_within : (Γ : List Hypothesis) (t : Tree) (s : Trees) (a : Tree) (more : List Tree) (σ : ℕ → Tree) (n : ℕ) → rest (infer_terms E S Γ (Item t s) (a ∷ more) σ n) ≤ rest (infer E S Γ t n)
  infer_terms-item-type_within Γ t s a more σ n =
      by-outcome (infer E S Γ t n) (rest (infer_terms E S Γ (Item t s) (a ∷ more) σ n)) (λ z. rw (infer_terms-item-type_spent Γ t s a more σ n z) (omega arith)) (λ q k z. rw (infer_terms-item-type_refused Γ t s a more σ q n k z) (omega arith)) (λ u l1 e1. omega (arith, infer_terms-item-fit_within Γ t s a more σ u n l1 e1, (agreement-rest Γ AtMost u (sub σ a)) l1))

  pub infer_terms-end : (Γ : List Hypothesis) (σ : ℕ → Tree) (n : ℕ) → infer_terms E S Γ End [] σ n ≡ Done tt n
  unfolding infer_terms
  infer_terms-end Γ σ n = refl

  pub infer_terms-fewer : (Γ : List Hypothesis) (a : Tree) (more : List Tree) (σ : ℕ → Tree) (n : ℕ) → infer_terms E S Γ End (a ∷ more) σ n ≡ Refused (Unbound []) n
  unfolding infer_terms
  infer_terms-fewer Γ a more σ n = refl

  pub infer_terms-further : (Γ : List Hypothesis) (t : Tree) (s : Trees) (σ : ℕ → Tree) (n : ℕ) → infer_terms E S Γ (Item t s) [] σ n ≡ Refused (Unbound []) n
  unfolding infer_terms
  infer_terms-further Γ t s σ n = refl

  pub infer_arms-arm-own_none : (Γ : List Hypothesis) (f : Family) (r : Tree) (j : ℕ) (c : Constructor) (cs : List Constructor) (xs : List Bytes) (b : Tree) (bs : Arms) (n : ℕ) → at_args c.ty f.params ≡ None → infer_arms E S Γ f r j (c ∷ cs) (Arm xs b bs) n ≡ Refused BadElimination n
  unfolding infer_arms infer agreement
  infer_arms-arm-own_none Γ f r j c cs xs b bs n z = on-refused _ _ (ap (λ o. eliminable o n) z)

  pub infer_arms-arm-goal_none : (Γ : List Hypothesis) (f : Family) (r : Tree) (j : ℕ) (c : Constructor) (cs : List Constructor) (xs : List Bytes) (b : Tree) (bs : Arms) (u : Tree) (n : ℕ) → at_args c.ty f.params ≡ Some u → branch_type (count f.params) r (apps (Con f.number j) f.params) u xs ≡ None → infer_arms E S Γ f r j (c ∷ cs) (Arm xs b bs) n ≡ Refused BadElimination n
  unfolding infer_arms infer agreement
  infer_arms-arm-goal_none Γ f r j c cs xs b bs u n e1 z = on-done _ _ (ap (λ o. eliminable o n) e1) (on-refused _ _ (ap (λ o. eliminable o n) z))

  pub infer_arms-arm-body_spent : (Γ : List Hypothesis) (f : Family) (r : Tree) (j : ℕ) (c : Constructor) (cs : List Constructor) (xs : List Bytes) (b : Tree) (bs : Arms) (u : Tree) (v : Tree) (n : ℕ) → at_args c.ty f.params ≡ Some u → branch_type (count f.params) r (apps (Con f.number j) f.params) u xs ≡ Some v → infer E S (branch_context Γ u xs) b n ≡ Spent → infer_arms E S Γ f r j (c ∷ cs) (Arm xs b bs) n ≡ Spent
  unfolding infer_arms infer agreement
  infer_arms-arm-body_spent Γ f r j c cs xs b bs u v n e1 e2 z = on-done _ _ (ap (λ o. eliminable o n) e1) (on-done _ _ (ap (λ o. eliminable o n) e2) (on-spent _ _ z))

  pub infer_arms-arm-body_refused : (Γ : List Hypothesis) (f : Family) (r : Tree) (j : ℕ) (c : Constructor) (cs : List Constructor) (xs : List Bytes) (b : Tree) (bs : Arms) (u : Tree) (v : Tree) (q : Reason) (n k : ℕ) → at_args c.ty f.params ≡ Some u → branch_type (count f.params) r (apps (Con f.number j) f.params) u xs ≡ Some v → infer E S (branch_context Γ u xs) b n ≡ Refused q k → infer_arms E S Γ f r j (c ∷ cs) (Arm xs b bs) n ≡ Refused q k
  unfolding infer_arms infer agreement
  infer_arms-arm-body_refused Γ f r j c cs xs b bs u v q n k e1 e2 z = on-done _ _ (ap (λ o. eliminable o n) e1) (on-done _ _ (ap (λ o. eliminable o n) e2) (on-refused _ _ z))

  pub infer_arms-arm-fit_spent : (Γ : List Hypothesis) (f : Family) (r : Tree) (j : ℕ) (c : Constructor) (cs : List Constructor) (xs : List Bytes) (b : Tree) (bs : Arms) (u : Tree) (v : Tree) (t : Tree) (n l3 : ℕ) → at_args c.ty f.params ≡ Some u → branch_type (count f.params) r (apps (Con f.number j) f.params) u xs ≡ Some v → infer E S (branch_context Γ u xs) b n ≡ Done t l3 → agreement E S (branch_context Γ u xs) AtMost t v l3 ≡ Spent → infer_arms E S Γ f r j (c ∷ cs) (Arm xs b bs) n ≡ Spent
  unfolding infer_arms infer agreement
  infer_arms-arm-fit_spent Γ f r j c cs xs b bs u v t n l3 e1 e2 e3 z = on-done _ _ (ap (λ o. eliminable o n) e1) (on-done _ _ (ap (λ o. eliminable o n) e2) (on-done _ _ e3 (on-spent _ _ z)))

  pub infer_arms-arm-fit_refused : (Γ : List Hypothesis) (f : Family) (r : Tree) (j : ℕ) (c : Constructor) (cs : List Constructor) (xs : List Bytes) (b : Tree) (bs : Arms) (u : Tree) (v : Tree) (t : Tree) (q : Reason) (n l3 k : ℕ) → at_args c.ty f.params ≡ Some u → branch_type (count f.params) r (apps (Con f.number j) f.params) u xs ≡ Some v → infer E S (branch_context Γ u xs) b n ≡ Done t l3 → agreement E S (branch_context Γ u xs) AtMost t v l3 ≡ Refused q k → infer_arms E S Γ f r j (c ∷ cs) (Arm xs b bs) n ≡ Refused q k
  unfolding infer_arms infer agreement
  infer_arms-arm-fit_refused Γ f r j c cs xs b bs u v t q n l3 k e1 e2 e3 z = on-done _ _ (ap (λ o. eliminable o n) e1) (on-done _ _ (ap (λ o. eliminable o n) e2) (on-done _ _ e3 (on-refused _ _ z)))

  pub infer_arms-arm-done : (Γ : List Hypothesis) (f : Family) (r : Tree) (j : ℕ) (c : Constructor) (cs : List Constructor) (xs : List Bytes) (b : Tree) (bs : Arms) (u : Tree) (v : Tree) (t : Tree) (n l3 l4 : ℕ) → at_args c.ty f.params ≡ Some u → branch_type (count f.params) r (apps (Con f.number j) f.params) u xs ≡ Some v → infer E S (branch_context Γ u xs) b n ≡ Done t l3 → agreement E S (branch_context Γ u xs) AtMost t v l3 ≡ Done tt l4 → infer_arms E S Γ f r j (c ∷ cs) (Arm xs b bs) n ≡ infer_arms E S Γ f r (suc j) cs bs l4
  unfolding infer_arms infer agreement
  infer_arms-arm-done Γ f r j c cs xs b bs u v t n l3 l4 e1 e2 e3 e4 = on-done _ _ (ap (λ o. eliminable o n) e1) (on-done _ _ (ap (λ o. eliminable o n) e2) (on-done _ _ e3 (on-done _ _ e4 (refl))))

  pub infer_arms-arm-fit_within : (Γ : List Hypothesis) (f : Family) (r : Tree) (j : ℕ) (c : Constructor) (cs : List Constructor) (xs : List Bytes) (b : Tree) (bs : Arms) (u : Tree) (v : Tree) (t : Tree) (n l3 : ℕ) → at_args c.ty f.params ≡ Some u → branch_type (count f.params) r (apps (Con f.number j) f.params) u xs ≡ Some v → infer E S (branch_context Γ u xs) b n ≡ Done t l3 → rest (infer_arms E S Γ f r j (c ∷ cs) (Arm xs b bs) n) ≤ rest (agreement E S (branch_context Γ u xs) AtMost t v l3)
  infer_arms-arm-fit_within Γ f r j c cs xs b bs u v t n l3 e1 e2 e3 =
      by-outcome (agreement E S (branch_context Γ u xs) AtMost t v l3) (rest (infer_arms E S Γ f r j (c ∷ cs) (Arm xs b bs) n)) (λ z. rw (infer_arms-arm-fit_spent Γ f r j c cs xs b bs u v t n l3 e1 e2 e3 z) (omega arith)) (λ q k z. rw (infer_arms-arm-fit_refused Γ f r j c cs xs b bs u v t q n l3 k e1 e2 e3 z) (omega arith)) (λ z l4 e4. rw (infer_arms-arm-done Γ f r j c cs xs b bs u v t n l3 l4 e1 e2 e3 e4) ((infer_arms-rest Γ f r (suc j) cs bs) l4))

  pub infer_arms-arm-body_within : (Γ : List Hypothesis) (f : Family) (r : Tree) (j : ℕ) (c : Constructor) (cs : List Constructor) (xs : List Bytes) (b : Tree) (bs : Arms) (u : Tree) (v : Tree) (n : ℕ) → at_args c.ty f.params ≡ Some u → branch_type (count f.params) r (apps (Con f.number j) f.params) u xs ≡ Some v → rest (infer_arms E S Γ f r j (c ∷ cs) (Arm xs b bs) n) ≤ rest (infer E S (branch_context Γ u xs) b n)
  infer_arms-arm-body_within Γ f r j c cs xs b bs u v n e1 e2 =
      by-outcome (infer E S (branch_context Γ u xs) b n) (rest (infer_arms E S Γ f r j (c ∷ cs) (Arm xs b bs) n)) (λ z. rw (infer_arms-arm-body_spent Γ f r j c cs xs b bs u v n e1 e2 z) (omega arith)) (λ q k z. rw (infer_arms-arm-body_refused Γ f r j c cs xs b bs u v q n k e1 e2 z) (omega arith)) (λ t l3 e3. omega (arith, infer_arms-arm-fit_within Γ f r j c cs xs b bs u v t n l3 e1 e2 e3, (agreement-rest (branch_context Γ u xs) AtMost t v) l3))

  pub infer_arms-none : (Γ : List Hypothesis) (f : Family) (r : Tree) (j : ℕ) (bs : Arms) (n : ℕ) → infer_arms E S Γ f r j [] bs n ≡ Done tt n
  unfolding infer_arms
  infer_arms-none Γ f r j NoArm n = refl
  infer_arms-none Γ f r j (Arm xs b bs) n = refl

  pub infer_arms-end : (Γ : List Hypothesis) (f : Family) (r : Tree) (j : ℕ) (cs : List Constructor) (n : ℕ) → infer_arms E S Γ f r j cs NoArm n ≡ Done tt n
  unfolding infer_arms
  infer_arms-end Γ f r j [] n = refl
  infer_arms-end Γ f r j (c ∷ cs) n = refl

  pub type_head-type_spent : (Γ : List Hypothesis) (c : Tree) (n : ℕ) → infer E S Γ c n ≡ Spent → type_head E S Γ c n ≡ Spent
  unfolding type_head
  type_head-type_spent Γ c n z = on-spent _ _ z

  pub type_head-type_refused : (Γ : List Hypothesis) (c : Tree) (q : Reason) (n k : ℕ) → infer E S Γ c n ≡ Refused q k → type_head E S Γ c n ≡ Refused q k
  unfolding type_head
  type_head-type_refused Γ c q n k z = on-refused _ _ z

  pub type_head-done : (Γ : List Hypothesis) (c : Tree) (t : Tree) (n l1 : ℕ) → infer E S Γ c n ≡ Done t l1 → type_head E S Γ c n ≡ whd E S t l1
  unfolding type_head
  type_head-done Γ c t n l1 e1 = on-done _ _ e1 (refl)

  pub type_head-type_within : (Γ : List Hypothesis) (c : Tree) (n : ℕ) → rest (type_head E S Γ c n) ≤ rest (infer E S Γ c n)
  type_head-type_within Γ c n =
      by-outcome (infer E S Γ c n) (rest (type_head E S Γ c n)) (λ z. rw (type_head-type_spent Γ c n z) (omega arith)) (λ q k z. rw (type_head-type_refused Γ c q n k z) (omega arith)) (λ t l1 e1. rw (type_head-done Γ c t n l1 e1) ((whd-rest E S t) l1))

module _ (E : Environment) where
  pub check_type-is : (ty : Tree) (n : ℕ) → check_type E ty n ≡ sort_of E no_store [] ty n
  unfolding check_type sort_of
  check_type-is ty n = refl

  pub check-type_spent : (term : Tree) (ty : Tree) (n : ℕ) → check_type E ty n ≡ Spent → check E term ty n ≡ Spent
  unfolding check agreement
  check-type_spent term ty n z = on-spent _ _ z

  pub check-type_refused : (term : Tree) (ty : Tree) (q : Reason) (n k : ℕ) → check_type E ty n ≡ Refused q k → check E term ty n ≡ Refused q k
  unfolding check agreement
  check-type_refused term ty q n k z = on-refused _ _ z

  pub check-term_spent : (term : Tree) (ty : Tree) (s : AnySort) (n l1 : ℕ) → check_type E ty n ≡ Done s l1 → infer E no_store [] term l1 ≡ Spent → check E term ty n ≡ Spent
  unfolding check agreement
  check-term_spent term ty s n l1 e1 z = on-done _ _ e1 (on-spent _ _ z)

  pub check-term_refused : (term : Tree) (ty : Tree) (s : AnySort) (q : Reason) (n l1 k : ℕ) → check_type E ty n ≡ Done s l1 → infer E no_store [] term l1 ≡ Refused q k → check E term ty n ≡ Refused q k
  unfolding check agreement
  check-term_refused term ty s q n l1 k e1 z = on-done _ _ e1 (on-refused _ _ z)

  pub check-done : (term : Tree) (ty : Tree) (s : AnySort) (t : Tree) (n l1 l2 : ℕ) → check_type E ty n ≡ Done s l1 → infer E no_store [] term l1 ≡ Done t l2 → check E term ty n ≡ agreement E no_store [] AtMost t ty l2
  unfolding check agreement
  check-done term ty s t n l1 l2 e1 e2 = on-done _ _ e1 (on-done _ _ e2 (refl))

  pub check-term_within : (term : Tree) (ty : Tree) (s : AnySort) (n l1 : ℕ) → check_type E ty n ≡ Done s l1 → rest (check E term ty n) ≤ rest (infer E no_store [] term l1)
  check-term_within term ty s n l1 e1 =
      by-outcome (infer E no_store [] term l1) (rest (check E term ty n)) (λ z. rw (check-term_spent term ty s n l1 e1 z) (omega arith)) (λ q k z. rw (check-term_refused term ty s q n l1 k e1 z) (omega arith)) (λ t l2 e2. rw (check-done term ty s t n l1 l2 e1 e2) ((agreement-rest E no_store [] AtMost t ty) l2))

  pub check-type_within : (term : Tree) (ty : Tree) (n : ℕ) → rest (check E term ty n) ≤ rest (check_type E ty n)
  check-type_within term ty n =
      by-outcome (check_type E ty n) (rest (check E term ty n)) (λ z. rw (check-type_spent term ty n z) (omega arith)) (λ q k z. rw (check-type_refused term ty q n k z) (omega arith)) (λ s l1 e1. omega (arith, check-term_within term ty s n l1 e1, (infer-rest E no_store [] term) l1))

pub ruleset as_sort_rules = (whd-rest, as_sort-rest, as_sort-head_spent, as_sort-head_refused, as_sort-head_within, as_sort-done)

pub ruleset as_product_rules = (whd-rest, as_product-rest, as_product-head_spent, as_product-head_refused, as_product-head_within, as_product-done)

pub ruleset sort_of_rules = (infer-rest, as_sort-rest, sort_of-rest, sort_of-type_spent, sort_of-type_refused, sort_of-type_within, sort_of-done)

pub ruleset product_of_rules = (infer-rest, as_product-rest, product_of-rest, product_of-type_spent, product_of-type_refused, product_of-type_within, product_of-done)

pub ruleset agreement_rules = (convert-rest, agreement-rest, agreement-compared_spent, agreement-compared_refused, agreement-compared_within, agreement-done)

pub ruleset infer_rules = (infer-rest, sort_of-rest, product_of-rest, agreement-rest, infer_terms-rest, infer-out, infer-var_none, infer-var_done, infer-sort_none, infer-sort_done, infer-const_none, infer-const_done, infer-ind_none, infer-ind_done, infer-con_none, infer-con_done, infer-prod-dom_spent, infer-prod-dom_refused, infer-prod-dom_within, infer-prod-cod_spent, infer-prod-cod_refused, infer-prod-cod_within, infer-prod-done, infer-lam-type_spent, infer-lam-type_refused, infer-lam-type_within, infer-lam-body_spent, infer-lam-body_refused, infer-lam-body_within, infer-lam-done, infer-app-fun_spent, infer-app-fun_refused, infer-app-fun_within, infer-app-arg_spent, infer-app-arg_refused, infer-app-arg_within, infer-app-fit_spent, infer-app-fit_refused, infer-app-fit_within, infer-app-done, infer-meta-meta_none, infer-meta-terms_spent, infer-meta-terms_refused, infer-meta-terms_within, infer-meta-done)

pub ruleset infer_match_rules = (infer-rest, type_head-rest, elimination-rest, infer_arms-rest, infer-match-matched_spent, infer-match-matched_refused, infer-match-matched_within, infer-match-family_none, infer-match-return_spent, infer-match-return_refused, infer-match-return_within, infer-match-fit_none, infer-match-arms_spent, infer-match-arms_refused, infer-match-arms_within, infer-match-done)

pub ruleset elimination_rules = (infer-rest, elimination-rest, eliminating-rest, elimination-type_spent, elimination-type_refused, elimination-type_within, elimination-done)

pub ruleset eliminating_rules = (eliminating-rest, as_product-rest, as_sort-rest, agreement-rest, eliminating-index-product_spent, eliminating-index-product_refused, eliminating-index-product_within, eliminating-index-index_spent, eliminating-index-index_refused, eliminating-index-index_within, eliminating-index-done, eliminating-last-product_spent, eliminating-last-product_refused, eliminating-last-product_within, eliminating-last-family_spent, eliminating-last-family_refused, eliminating-last-family_within, eliminating-last-sort_spent, eliminating-last-sort_refused, eliminating-last-sort_within, eliminating-last-allowed_none, eliminating-last-done, eliminating-var, eliminating-lam, eliminating-app, eliminating-const, eliminating-ind, eliminating-con, eliminating-match, eliminating-meta)

pub ruleset infer_terms_rules = (infer-rest, agreement-rest, infer_terms-rest, infer_terms-item-type_spent, infer_terms-item-type_refused, infer_terms-item-type_within, infer_terms-item-fit_spent, infer_terms-item-fit_refused, infer_terms-item-fit_within, infer_terms-item-done, infer_terms-end, infer_terms-fewer, infer_terms-further)

pub ruleset infer_arms_rules = (infer-rest, agreement-rest, infer_arms-rest, infer_arms-arm-own_none, infer_arms-arm-goal_none, infer_arms-arm-body_spent, infer_arms-arm-body_refused, infer_arms-arm-body_within, infer_arms-arm-fit_spent, infer_arms-arm-fit_refused, infer_arms-arm-fit_within, infer_arms-arm-done, infer_arms-none, infer_arms-end)

pub ruleset type_head_rules = (infer-rest, whd-rest, type_head-rest, type_head-type_spent, type_head-type_refused, type_head-type_within, type_head-done)

pub ruleset check_rules = (check_type-rest, infer-rest, agreement-rest, check-rest, check_type-is, check-type_spent, check-type_refused, check-type_within, check-term_spent, check-term_refused, check-term_within, check-done)
