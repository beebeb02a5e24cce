-- The type of a motive against an arity, by the parts of the products that it is.
use Rattle.std.proofs.Common.{ℕ, ◌≡◌, ◌≤◌, List, ◌∷◌, Bool, true, false, ap, ◌∙◌}
use Rattle.mt_term.specs.Trees.{Bytes, Tree, Var, Sort, Prod, App}
use Rattle.mt_term.specs.Lifting.{lift}
use Rattle.mt_term.specs.declared.universes.Sort.{Sort as AnySort}
use Rattle.mt_term.specs.declared.modes.Mode.TheVariants.{Equal}
use Rattle.mt_term.specs.Declarations.{Hypothesis, Environment}
use Rattle.mt_term.specs.Reasons.{Reason, BadElimination}
use Rattle.mt_rules.specs.Charges.{Done, Refused, Spent, rest}
use Rattle.mt_term.specs.Stores.{no_store}
use Rattle.mt_rules.specs.Inference.{Product, as_product, as_sort, agreement, may_eliminate, eliminating}
use Rattle.mt_rules_laws.proofs.InferenceRules.{as_product-rest, as_sort-rest, agreement-rest, eliminating-rest, eliminating-index-product_spent, eliminating-index-product_refused, eliminating-index-product_within, eliminating-index-index_spent, eliminating-index-index_refused, eliminating-index-index_within, eliminating-index-done, eliminating-last-product_spent, eliminating-last-product_refused, eliminating-last-product_within, eliminating-last-family_spent, eliminating-last-family_refused, eliminating-last-family_within, eliminating-last-sort_spent, eliminating-last-sort_refused, eliminating-last-sort_within, eliminating-last-allowed_none, eliminating-last-done, eliminating-var, eliminating-lam, eliminating-app, eliminating-const, eliminating-ind, eliminating-con, eliminating-match, eliminating-meta}
use Rattle.mt_kernel.proofs.Lists.{raise_one}

abbrev parts : Bytes → Tree → Tree → Product
parts x A B = record { name = x; dom = A; cod = B }

module _ (E : Environment) (Γ : List Hypothesis) (large : Bool) (u t : Tree) (x : Bytes) (A B : Tree) (n l : ℕ) (h : as_product E no_store t n ≡ Done (parts x A B) l) where
  -- over an index
  module _ (y : Bytes) (a b : Tree) where
    pub index_spent : agreement E no_store Γ Equal A a l ≡ Spent → eliminating E no_store Γ large (Prod y a b) u t n ≡ Spent
    index_spent e = eliminating-index-index_spent E no_store Γ large y a b u t (parts x A B) n l h e

    pub index_refused : (q : Reason) (k : ℕ) → agreement E no_store Γ Equal A a l ≡ Refused q k → eliminating E no_store Γ large (Prod y a b) u t n ≡ Refused q k
    index_refused q k e = eliminating-index-index_refused E no_store Γ large y a b u t (parts x A B) q n l k h e

    pub index_within : rest (eliminating E no_store Γ large (Prod y a b) u t n) ≤ rest (agreement E no_store Γ Equal A a l)
    index_within = eliminating-index-index_within E no_store Γ large y a b u t (parts x A B) n l h

    pub index_done : (z : Unit {0}) (k : ℕ) → agreement E no_store Γ Equal A a l ≡ Done z k → eliminating E no_store Γ large (Prod y a b) u t n ≡ eliminating E no_store (record { name = x; ty = A } ∷ Γ) large b (App (lift 1 0 u) (Var 0)) B k
    index_done tt k e =
        eliminating-index-done E no_store Γ large y a b u t (parts x A B) n l k h e
        ∙ ap (λ w. eliminating E no_store (record { name = x; ty = A } ∷ Γ) large b (App w (Var 0)) B k) (raise_one u)

  -- over the type on its indices, into a sort
  module _ (r : AnySort) where
    pub last_spent : agreement E no_store Γ Equal A u l ≡ Spent → eliminating E no_store Γ large (Sort r) u t n ≡ Spent
    last_spent e = eliminating-last-family_spent E no_store Γ large r u t (parts x A B) n l h e

    pub last_refused : (q : Reason) (k : ℕ) → agreement E no_store Γ Equal A u l ≡ Refused q k → eliminating E no_store Γ large (Sort r) u t n ≡ Refused q k
    last_refused q k e = eliminating-last-family_refused E no_store Γ large r u t (parts x A B) q n l k h e

    pub last_within : rest (eliminating E no_store Γ large (Sort r) u t n) ≤ rest (agreement E no_store Γ Equal A u l)
    last_within = eliminating-last-family_within E no_store Γ large r u t (parts x A B) n l h

    module _ (z : Unit {0}) (k : ℕ) (e : agreement E no_store Γ Equal A u l ≡ Done z k) where
      pub into_spent : as_sort E no_store B k ≡ Spent → eliminating E no_store Γ large (Sort r) u t n ≡ Spent
      into_spent f = eliminating-last-sort_spent E no_store Γ large r u t (parts x A B) n l k h e f

      pub into_refused : (q : Reason) (i : ℕ) → as_sort E no_store B k ≡ Refused q i → eliminating E no_store Γ large (Sort r) u t n ≡ Refused q i
      into_refused q i f = eliminating-last-sort_refused E no_store Γ large r u t (parts x A B) q n l k i h e f

      pub into_within : rest (eliminating E no_store Γ large (Sort r) u t n) ≤ rest (as_sort E no_store B k)
      into_within = eliminating-last-sort_within E no_store Γ large r u t (parts x A B) n l k h e

      pub into_forbidden : (s : AnySort) (i : ℕ) → as_sort E no_store B k ≡ Done s i → may_eliminate large r s ≡ false → eliminating E no_store Γ large (Sort r) u t n ≡ Refused BadElimination i
      into_forbidden s i f g = eliminating-last-allowed_none E no_store Γ large r u t (parts x A B) s n l k i h e f g

      pub into_done : (s : AnySort) (i : ℕ) → as_sort E no_store B k ≡ Done s i → may_eliminate large r s ≡ true → eliminating E no_store Γ large (Sort r) u t n ≡ Done s i
      into_done s i f g = eliminating-last-done E no_store Γ large r u t (parts x A B) s n l k i h e f g

pub ruleset eliminating_rules = (eliminating-rest, as_product-rest, as_sort-rest, agreement-rest, eliminating-index-product_spent, eliminating-index-product_refused, eliminating-index-product_within, eliminating-last-product_spent, eliminating-last-product_refused, eliminating-last-product_within, index_spent, index_refused, index_within, index_done, last_spent, last_refused, last_within, into_spent, into_refused, into_within, into_forbidden, into_done, eliminating-var, eliminating-lam, eliminating-app, eliminating-const, eliminating-ind, eliminating-con, eliminating-match, eliminating-meta)
