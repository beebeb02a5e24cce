-- Hypotheses one by one.
use Rattle.std.proofs.Common.{◌≡◌, ◌∙◌, ◌<◌, ℕ, zero, suc, ◌-◌, List, [], ◌∷◌, ◌++◌, refl, sym, ap, arith, sub-one}
use Rattle.std.specs.Prelude.{Some}
use Rattle.mt_term.specs.Trees.{Tree, Bytes, Prod, Lam}
use Rattle.mt_term.specs.Declarations.{Hypothesis}
use Rattle.mt_printer.specs.Chosen.{Scope, scope_of_names}
use Rattle.mt_printer.specs.Telescopes.{leading, under_binders}

pub names_after_push : (xs : List Bytes) (x : Bytes) (s : Scope) → scope_of_names (xs ++ x ∷ []) s ≡ Some x ∷ scope_of_names xs s
names_after_push [] x s = refl
names_after_push (y ∷ ys) x s = names_after_push ys x (Some y ∷ s)

pub names_push : (xs : List Bytes) (x : Bytes) → scope_of_names (xs ++ x ∷ []) [] ≡ Some x ∷ scope_of_names xs []
names_push xs x = names_after_push xs x []

pub leading_step : (n : ℕ) (x : Bytes) (A B : Tree) → 0 < n → leading n (Prod x A B) ≡ record { name = x; ty = A } ∷ leading (n - 1) B
leading_step zero x A B lt = absurd (omega arith)
leading_step (suc n) x A B lt = ap (λ m. record { name = x; ty = A } ∷ leading m B) (let e : n ≡ suc n - 1 = omega arith in e)

pub under_product : (n : ℕ) (x : Bytes) (A B : Tree) → 0 < n → under_binders n (Prod x A B) ≡ under_binders (n - 1) B
under_product zero x A B lt = absurd (omega arith)
under_product (suc n) x A B lt = ap (λ m. under_binders m B) (let e : n ≡ suc n - 1 = omega arith in e)

pub under_abstraction : (n : ℕ) (x : Bytes) (A b : Tree) → 0 < n → under_binders n (Lam x A b) ≡ under_binders (n - 1) b
under_abstraction zero x A b lt = absurd (omega arith)
under_abstraction (suc n) x A b lt = ap (λ m. under_binders m b) (let e : n ≡ suc n - 1 = omega arith in e)
