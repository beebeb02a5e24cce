-- The inference of an application, by the product that is its function's type.
use Rattle.std.proofs.Common.{ℕ, suc, ◌≡◌, ◌-◌, ◌<◌, ◌≤◌, List, ap, refl, ◌∙◌, arith}
use Rattle.mt_term.specs.Trees.{Bytes, Tree, App}
use Rattle.mt_term.specs.declared.modes.Mode.TheVariants.{AtMost}
use Rattle.mt_term.specs.Declarations.{Hypothesis, Environment}
use Rattle.mt_term.specs.Reasons.{Reason}
use Rattle.mt_rules.specs.Charges.{Outcome, Charged, Done, Refused, Spent, give, and_then, rest}
use Rattle.mt_term.specs.Stores.{Store}
use Rattle.mt_rules.specs.Inference.{Product, infer, product_of, agreement}
use Rattle.mt_rules_laws.proofs.Charged.{then-rest}
use Rattle.mt_rules_laws.proofs.InferenceLaws.{infer-rest}
use Rattle.mt_rules_laws.proofs.InferenceRules.{infer-out, product_of-rest, agreement-rest, infer-app-fun_spent, infer-app-fun_refused, infer-app-fun_within}
use Rattle.mt_infer.specs.Fitting.{applied, instance}

abbrev parts : Bytes → Tree → Tree → Product
parts x A B = record { name = x; dom = A; cod = B }

on_done : {A B : Type 0} (o : Outcome A) (f : A → Charged B) {a : A} {l : ℕ} {r : Outcome B} → o ≡ Done a l → f a l ≡ r → and_then o f ≡ r
on_done o f e g = ap (λ o. and_then o f) e ∙ g

on_spent : {A B : Type 0} (o : Outcome A) (f : A → Charged B) → o ≡ Spent → and_then o f ≡ Spent
on_spent o f e = ap (λ o. and_then o f) e

on_refused : {A B : Type 0} (o : Outcome A) (f : A → Charged B) {q : Reason} {l : ℕ} → o ≡ Refused q l → and_then o f ≡ Refused q l
on_refused o f e = ap (λ o. and_then o f) e

-- the argument, where the function's type is a product
module _ (E : Environment) (S : Store) (Γ : List Hypothesis) (x : Bytes) (A B a : Tree) (n : ℕ) where
  abbrev answered : Outcome Tree
  answered = applied E S Γ (parts x A B) a n

  after_type : (t : Tree) (l : ℕ) → rest (and_then (agreement E S Γ AtMost t A l) (λ z. give (instance B a))) ≤ rest (agreement E S Γ AtMost t A l)
  after_type t l = then-rest (agreement E S Γ AtMost t A l) (λ z. give (instance B a)) (λ z k. omega arith)

  pub argument_spent : infer E S Γ a n ≡ Spent → answered ≡ Spent
  unfolding applied
  argument_spent e = on_spent _ _ e

  pub argument_refused : (q : Reason) (k : ℕ) → infer E S Γ a n ≡ Refused q k → answered ≡ Refused q k
  unfolding applied
  argument_refused q k e = on_refused _ _ e

  pub argument_within : rest answered ≤ rest (infer E S Γ a n)
  unfolding applied
  argument_within = then-rest (infer E S Γ a n) _ (λ t l. omega (arith, after_type t l, agreement-rest E S Γ AtMost t A l))

  pub applied_rest : rest answered ≤ n
  applied_rest = omega (arith, argument_within, infer-rest E S Γ a n)

  module _ (t : Tree) (l : ℕ) (h : infer E S Γ a n ≡ Done t l) where
    goes_on : answered ≡ and_then (agreement E S Γ AtMost t A l) (λ z. give (instance B a))
    unfolding applied
    goes_on = on_done _ _ h refl

    pub fit_spent : agreement E S Γ AtMost t A l ≡ Spent → answered ≡ Spent
    fit_spent e = goes_on ∙ on_spent _ _ e

    pub fit_refused : (q : Reason) (k : ℕ) → agreement E S Γ AtMost t A l ≡ Refused q k → answered ≡ Refused q k
    fit_refused q k e = goes_on ∙ on_refused _ _ e

    pub fit_within : rest answered ≤ rest (agreement E S Γ AtMost t A l)
    fit_within = rw goes_on (after_type t l)

    pub applied_done : (z : Unit {0}) (k : ℕ) → agreement E S Γ AtMost t A l ≡ Done z k → answered ≡ Done (instance B a) k
    applied_done z k e = goes_on ∙ on_done _ _ e refl

    -- nothing more is charged after the comparison
    pub applied_within : (z : Unit {0}) (k : ℕ) → agreement E S Γ AtMost t A l ≡ Done z k → rest answered ≤ k
    applied_within z k e = let d = applied_done z k e in omega (arith, ap rest d)

pub ruleset applied_rules = (infer-rest, agreement-rest, applied_rest, argument_spent, argument_refused, argument_within, fit_spent, fit_refused, fit_within, applied_done, applied_within)

pub by_product : (E : Environment) (S : Store) (Γ : List Hypothesis) (f a : Tree) (x : Bytes) (A B : Tree) (n l : ℕ) → 0 < n → product_of E S Γ f (n - 1) ≡ Done (parts x A B) l → infer E S Γ (App f a) n ≡ applied E S Γ (parts x A B) a l
unfolding infer product_of agreement applied instance
by_product E S Γ f a x A B n l h p =
    let k : n ≡ suc (n - 1) = omega (arith, h) in
    ap (infer E S Γ (App f a)) k ∙ on_done _ _ p refl

pub ruleset application_rules = (infer-rest, infer-out, product_of-rest, applied_rest, infer-app-fun_spent, infer-app-fun_refused, infer-app-fun_within, by_product)
