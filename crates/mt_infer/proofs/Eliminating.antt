-- The type of a motive against an arity, by the products that it is.
use Rattle.std.proofs.Common.{ℕ, ◌≡◌, ◌≤◌, List, ◌∷◌, suc, Bool, true, false, refl, ap, ◌∙◌, arith}
use Rattle.mt_term.specs.Trees.{Bytes, Tree, Var, Sort, Prod, App}
use Rattle.mt_term.specs.Substitution.{ren}
use Rattle.mt_term.specs.declared.universes.Sort.{Sort as AnySort}
use Rattle.mt_term.specs.declared.modes.Mode.TheVariants.{Equal}
use Rattle.mt_term.specs.Declarations.{Hypothesis, Environment}
use Rattle.mt_term.specs.Reasons.{Reason, BadElimination}
use Rattle.mt_rules.specs.Charges.{Outcome, Charged, Done, Refused, Spent, give, ◌>>=◌, and_then, rest}
use Rattle.mt_term.specs.Stores.{Store}
use Rattle.mt_rules.specs.Inference.{Product, as_product, as_sort, agreement, checked, may_eliminate, eliminating}
use Rattle.mt_rules_laws.proofs.Charged.{then-rest}
use Rattle.mt_rules_laws.proofs.InferenceRules.{as_product-rest, as_sort-rest, agreement-rest, eliminating-rest, eliminating-var, eliminating-lam, eliminating-app, eliminating-const, eliminating-ind, eliminating-con, eliminating-match, eliminating-meta}
use Rattle.mt_infer.specs.Fitting.{eliminating_over, on_newest, product_over}
use Rattle.mt_infer.proofs.Lists.{raise_one}

abbrev parts : Bytes → Tree → Tree → Product
parts x A B = record { name = x; dom = A; cod = B }

on_done : {A B : Type 0} (o : Outcome A) (f : A → Charged B) {a : A} {l : ℕ} {r : Outcome B} → o ≡ Done a l → f a l ≡ r → and_then o f ≡ r
on_done o f e g = ap (λ o. and_then o f) e ∙ g

on_spent : {A B : Type 0} (o : Outcome A) (f : A → Charged B) → o ≡ Spent → and_then o f ≡ Spent
on_spent o f e = ap (λ o. and_then o f) e

on_refused : {A B : Type 0} (o : Outcome A) (f : A → Charged B) {q : Reason} {l : ℕ} → o ≡ Refused q l → and_then o f ≡ Refused q l
on_refused o f e = ap (λ o. and_then o f) e

-- the weak head of a type, and then its domain
module _ (E : Environment) (S : Store) (Γ : List Hypothesis) (t a : Tree) (n : ℕ) where
  after_head : (p : Product) (l : ℕ) → rest (and_then (agreement E S Γ Equal p.dom a l) (λ z. give p)) ≤ rest (agreement E S Γ Equal p.dom a l)
  after_head p l = then-rest (agreement E S Γ Equal p.dom a l) (λ z. give p) (λ z k. omega arith)

  pub head_spent : as_product E S t n ≡ Spent → product_over E S Γ t a n ≡ Spent
  unfolding product_over
  head_spent e = on_spent _ _ e

  pub head_refused : (q : Reason) (k : ℕ) → as_product E S t n ≡ Refused q k → product_over E S Γ t a n ≡ Refused q k
  unfolding product_over
  head_refused q k e = on_refused _ _ e

  pub head_within : rest (product_over E S Γ t a n) ≤ rest (as_product E S t n)
  unfolding product_over
  head_within = then-rest (as_product E S t n) _ (λ p l. omega (arith, after_head p l, agreement-rest E S Γ Equal p.dom a l))

  pub over_rest : rest (product_over E S Γ t a n) ≤ n
  over_rest = omega (arith, head_within, as_product-rest E S t n)

  module _ (x : Bytes) (A B : Tree) (l : ℕ) (h : as_product E S t n ≡ Done (parts x A B) l) where
    goes_on : product_over E S Γ t a n ≡ and_then (agreement E S Γ Equal A a l) (λ z. give (parts x A B))
    unfolding product_over
    goes_on = on_done _ _ h refl

    pub domain_spent : agreement E S Γ Equal A a l ≡ Spent → product_over E S Γ t a n ≡ Spent
    domain_spent e = goes_on ∙ on_spent _ _ e

    pub domain_refused : (q : Reason) (k : ℕ) → agreement E S Γ Equal A a l ≡ Refused q k → product_over E S Γ t a n ≡ Refused q k
    domain_refused q k e = goes_on ∙ on_refused _ _ e

    pub domain_within : rest (product_over E S Γ t a n) ≤ rest (agreement E S Γ Equal A a l)
    domain_within = rw goes_on (after_head (parts x A B) l)

    pub domain_done : (z : Unit {0}) (k : ℕ) → agreement E S Γ Equal A a l ≡ Done z k → product_over E S Γ t a n ≡ Done (parts x A B) k
    domain_done z k e = goes_on ∙ on_done _ _ e refl

pub ruleset over_rules = (as_product-rest, agreement-rest, over_rest, head_spent, head_refused, head_within, domain_spent, domain_refused, domain_within, domain_done)

-- two parts, of which the second answers nothing, and what follows
then_kept : {A B C : Type 0} (o : Outcome B) (a : A) (g : A → Charged C) → and_then o (λ z. g a) ≡ and_then (and_then o (λ z. give a)) g
then_kept (Done b l) a g = refl
then_kept (Refused q l) a g = refl
then_kept Spent a g = refl

both : {A B C : Type 0} (o : Outcome A) (f : A → Charged B) (g : A → Charged C) → and_then o (λ a. f a >>= (λ z. g a)) ≡ and_then (and_then o (λ a. f a >>= (λ z. give a))) g
both (Done a l) f g = then_kept (f a l) a g
both (Refused q l) f g = refl
both Spent f g = refl

checked_rest : (b : Bool) (s : AnySort) (l : ℕ) → rest (and_then (checked b l) (λ z. give s)) ≤ l
checked_rest true s l = omega arith
checked_rest false s l = omega arith

module _ (E : Environment) (S : Store) (Γ : List Hypothesis) (large : Bool) (u t : Tree) (n : ℕ) where
  -- over an index
  module _ (a b : Tree) where
    abbrev further : Product → Charged AnySort
    further p = eliminating E S (record { name = p.name; ty = p.dom } ∷ Γ) large b (on_newest u) p.cod

    abbrev written : Product → Charged AnySort
    written p = eliminating E S (record { name = p.name; ty = p.dom } ∷ Γ) large b (App (ren suc u) (Var 0)) p.cod

    by_parts : (y : Bytes) → eliminating E S Γ large (Prod y a b) u t n ≡ and_then (product_over E S Γ t a n) written
    unfolding eliminating product_over as_product agreement
    by_parts y = both (as_product E S t n) (λ p. agreement E S Γ Equal p.dom a) written

    pub by_index : (y : Bytes) → eliminating E S Γ large (Prod y a b) u t n ≡ eliminating_over E S Γ large a b u t n
    unfolding eliminating_over on_newest
    by_index y = by_parts y ∙ ap (λ w. and_then (product_over E S Γ t a n) (λ p. eliminating E S (record { name = p.name; ty = p.dom } ∷ Γ) large b (App w (Var 0)) p.cod)) (raise_one u)

    pub index_spent : product_over E S Γ t a n ≡ Spent → eliminating_over E S Γ large a b u t n ≡ Spent
    unfolding eliminating_over
    index_spent e = on_spent _ _ e

    pub index_refused : (q : Reason) (k : ℕ) → product_over E S Γ t a n ≡ Refused q k → eliminating_over E S Γ large a b u t n ≡ Refused q k
    unfolding eliminating_over
    index_refused q k e = on_refused _ _ e

    pub index_within : rest (eliminating_over E S Γ large a b u t n) ≤ rest (product_over E S Γ t a n)
    unfolding eliminating_over
    index_within = then-rest (product_over E S Γ t a n) further (λ p l. eliminating-rest E S (record { name = p.name; ty = p.dom } ∷ Γ) large b (on_newest u) p.cod l)

    pub index_rest : rest (eliminating_over E S Γ large a b u t n) ≤ n
    index_rest = omega (arith, index_within, over_rest E S Γ t a n)

    pub index_done : (x : Bytes) (A B : Tree) (k : ℕ) → product_over E S Γ t a n ≡ Done (parts x A B) k → eliminating_over E S Γ large a b u t n ≡ eliminating E S (record { name = x; ty = A } ∷ Γ) large b (on_newest u) B k
    unfolding eliminating_over
    index_done x A B k e = on_done _ _ e refl

  -- over the type on its indices, into a sort
  module _ (r : AnySort) where
    abbrev into : Product → Charged AnySort
    into p = as_sort E S p.cod >>= (λ s. checked (may_eliminate large r s) >>= (λ z. give s))

    after_sort : (s : AnySort) (l : ℕ) → rest (and_then (checked (may_eliminate large r s) l) (λ z. give s)) ≤ l
    after_sort s l = checked_rest (may_eliminate large r s) s l

    by_last : eliminating E S Γ large (Sort r) u t n ≡ and_then (product_over E S Γ t u n) into
    unfolding eliminating product_over as_product as_sort agreement
    by_last = both (as_product E S t n) (λ p. agreement E S Γ Equal p.dom u) into

    into_rest : (p : Product) (l : ℕ) → rest (into p l) ≤ rest (as_sort E S p.cod l)
    into_rest p l = then-rest (as_sort E S p.cod l) (λ s. checked (may_eliminate large r s) >>= (λ z. give s)) after_sort

    pub last_spent : product_over E S Γ t u n ≡ Spent → eliminating E S Γ large (Sort r) u t n ≡ Spent
    last_spent e = by_last ∙ on_spent _ _ e

    pub last_refused : (q : Reason) (k : ℕ) → product_over E S Γ t u n ≡ Refused q k → eliminating E S Γ large (Sort r) u t n ≡ Refused q k
    last_refused q k e = by_last ∙ on_refused _ _ e

    pub last_within : rest (eliminating E S Γ large (Sort r) u t n) ≤ rest (product_over E S Γ t u n)
    last_within = rw by_last (then-rest (product_over E S Γ t u n) into (λ p l. omega (arith, into_rest p l, as_sort-rest E S p.cod l)))

    module _ (x : Bytes) (A B : Tree) (k : ℕ) (e : product_over E S Γ t u n ≡ Done (parts x A B) k) where
      onward : eliminating E S Γ large (Sort r) u t n ≡ into (parts x A B) k
      onward = by_last ∙ on_done _ _ e refl

      pub into_spent : as_sort E S B k ≡ Spent → eliminating E S Γ large (Sort r) u t n ≡ Spent
      into_spent f = onward ∙ on_spent _ _ f

      pub into_refused : (q : Reason) (i : ℕ) → as_sort E S B k ≡ Refused q i → eliminating E S Γ large (Sort r) u t n ≡ Refused q i
      into_refused q i f = onward ∙ on_refused _ _ f

      pub into_within : rest (eliminating E S Γ large (Sort r) u t n) ≤ rest (as_sort E S B k)
      into_within = rw onward (into_rest (parts x A B) k)

      pub into_forbidden : (s : AnySort) (i : ℕ) → as_sort E S B k ≡ Done s i → may_eliminate large r s ≡ false → eliminating E S Γ large (Sort r) u t n ≡ Refused BadElimination i
      into_forbidden s i f g = onward ∙ on_done _ _ f (ap (λ b. and_then (checked b i) (λ z. give s)) g)

      pub into_done : (s : AnySort) (i : ℕ) → as_sort E S B k ≡ Done s i → may_eliminate large r s ≡ true → eliminating E S Γ large (Sort r) u t n ≡ Done s i
      into_done s i f g = onward ∙ on_done _ _ f (ap (λ b. and_then (checked b i) (λ z. give s)) g)

pub ruleset index_rules = (eliminating-rest, over_rest, index_rest, index_spent, index_refused, index_within, index_done)

pub ruleset last_rules = (eliminating-rest, as_sort-rest, over_rest, last_spent, last_refused, last_within, into_spent, into_refused, into_within, into_forbidden, into_done)

pub ruleset eliminating_rules = (eliminating-rest, by_index, eliminating-var, eliminating-lam, eliminating-app, eliminating-const, eliminating-ind, eliminating-con, eliminating-match, eliminating-meta)
