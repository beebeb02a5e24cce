-- The inference of an application, by the parts of the product that is its function's type.
use Rattle.std.proofs.Common.{ℕ, ◌≡◌, ◌-◌, ◌<◌, ◌≤◌, List, ap, arith}
use Rattle.mt_term.specs.Trees.{Bytes, Tree, App}
use Rattle.mt_term.specs.Substitution.{sub, one}
use Rattle.mt_term.specs.declared.modes.Mode.TheVariants.{AtMost}
use Rattle.mt_term.specs.Declarations.{Hypothesis, Environment}
use Rattle.mt_term.specs.Reasons.{Reason}
use Rattle.mt_rules.specs.Charges.{Done, Refused, Spent, rest}
use Rattle.mt_term.specs.Stores.{Store}
use Rattle.mt_rules.specs.Inference.{Product, infer, product_of, agreement}
use Rattle.mt_rules_laws.proofs.InferenceRules.{infer-app-arg_spent, infer-app-arg_refused, infer-app-arg_within, infer-app-fit_spent, infer-app-fit_refused, infer-app-fit_within, infer-app-done}

abbrev parts : Bytes → Tree → Tree → Product
parts x A B = record { name = x; dom = A; cod = B }

module _ (E : Environment) (S : Store) (Γ : List Hypothesis) (f a : Tree) (x : Bytes) (A B : Tree) (n l : ℕ) where
  pub argument_spent : 0 < n → product_of E S Γ f (n - 1) ≡ Done (parts x A B) l → infer E S Γ a l ≡ Spent → infer E S Γ (App f a) n ≡ Spent
  argument_spent h p e = infer-app-arg_spent E S Γ f a (parts x A B) n l h p e

  pub argument_refused : (q : Reason) (k : ℕ) → 0 < n → product_of E S Γ f (n - 1) ≡ Done (parts x A B) l → infer E S Γ a l ≡ Refused q k → infer E S Γ (App f a) n ≡ Refused q k
  argument_refused q k h p e = infer-app-arg_refused E S Γ f a (parts x A B) q n l k h p e

  pub argument_within : 0 < n → product_of E S Γ f (n - 1) ≡ Done (parts x A B) l → rest (infer E S Γ (App f a) n) ≤ rest (infer E S Γ a l)
  argument_within h p = infer-app-arg_within E S Γ f a (parts x A B) n l h p

  pub fit_spent : (t : Tree) (r : ℕ) → 0 < n → product_of E S Γ f (n - 1) ≡ Done (parts x A B) l → infer E S Γ a l ≡ Done t r → agreement E S Γ AtMost t A r ≡ Spent → infer E S Γ (App f a) n ≡ Spent
  fit_spent t r h p i e = infer-app-fit_spent E S Γ f a (parts x A B) t n l r h p i e

  pub fit_refused : (t : Tree) (r : ℕ) (q : Reason) (k : ℕ) → 0 < n → product_of E S Γ f (n - 1) ≡ Done (parts x A B) l → infer E S Γ a l ≡ Done t r → agreement E S Γ AtMost t A r ≡ Refused q k → infer E S Γ (App f a) n ≡ Refused q k
  fit_refused t r q k h p i e = infer-app-fit_refused E S Γ f a (parts x A B) t q n l r k h p i e

  pub fit_within : (t : Tree) (r : ℕ) → 0 < n → product_of E S Γ f (n - 1) ≡ Done (parts x A B) l → infer E S Γ a l ≡ Done t r → rest (infer E S Γ (App f a) n) ≤ rest (agreement E S Γ AtMost t A r)
  fit_within t r h p i = infer-app-fit_within E S Γ f a (parts x A B) t n l r h p i

  pub application_done : (t : Tree) (r k : ℕ) (z : Unit {0}) → 0 < n → product_of E S Γ f (n - 1) ≡ Done (parts x A B) l → infer E S Γ a l ≡ Done t r → agreement E S Γ AtMost t A r ≡ Done z k → infer E S Γ (App f a) n ≡ Done (sub (one a) B) k
  application_done t r k tt h p i e = infer-app-done E S Γ f a (parts x A B) t n l r k h p i e

  -- nothing more is charged after the comparison
  pub application_within : (t : Tree) (r k : ℕ) (z : Unit {0}) → 0 < n → product_of E S Γ f (n - 1) ≡ Done (parts x A B) l → infer E S Γ a l ≡ Done t r → agreement E S Γ AtMost t A r ≡ Done z k → rest (infer E S Γ (App f a) n) ≤ k
  application_within t r k z h p i e = let d = application_done t r k z h p i e in omega (arith, ap rest d)

pub ruleset application_rules = (argument_spent, argument_refused, argument_within, fit_spent, fit_refused, fit_within, application_done, application_within)
