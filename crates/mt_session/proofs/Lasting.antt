-- What the kernel leaves of an allowance, and what one unit costs.
use Rattle.std.proofs.Common.{◌≡◌, ◌≤◌, ℕ, ◌+◌, Bool, true, false, refl, arith}
use Rattle.std.specs.Prelude.{if◌then◌else◌}
use Rattle.mt_term.specs.Declarations.{Environment}
use Rattle.mt_rules.specs.Charges.{Outcome, Done, Refused, Spent, rest}
use Rattle.mt_rules.specs.KernelCheck.{check_type}
use Rattle.mt_term.specs.Stores.{no_store}
use Rattle.mt_term.specs.ScriptState.{State}
use Rattle.mt_rules_laws.proofs.AllowanceTheorem.{allowance_law}
use Rattle.mt_kernel.specs.Answers.{charge_of}
use Rattle.mt_session.specs.Tasks.{Task, Order, Begin, Close, Rest, Finish, passed, judged}
use Rattle.mt_session.specs.Moves.{Move, move_by, after_charge, charges_in}

rest_passed : {A : Type 0} (n : ℕ) (o : Outcome A) → rest o ≤ n → rest (passed o) ≤ n
rest_passed n (Done a left) h = h
rest_passed n (Refused r left) h = h
rest_passed n Spent h = h

module _ (E : Environment) (n : ℕ) where
  pub judged_rest : (k : Task) → rest (judged E k n) ≤ n
  judged_rest (Order a b) = omega arith
  judged_rest (Begin x T) = rest_passed n (check_type E T n) (((allowance_law E no_store).6 T).1 n)
  judged_rest (Close m T t) = ((allowance_law E no_store).7 t T).1 n
  judged_rest Rest = omega arith
  judged_rest (Finish x T b) = ((allowance_law E no_store).7 b T).1 n

-- what a unit takes of its whole allowance, by the kernel's charges and one before them where it takes one
charges_by : (s : State) (start end n more : ℕ) (k : Task) (o : Outcome (Unit {0})) → rest o ≤ n → charges_in (more + n) (move_by s start end k o) ≡ more + charge_of n o
charges_by s start end n more k (Done z left) h = omega (arith, h)
charges_by s start end n more k (Refused r left) h = omega (arith, h)
charges_by s start end n more k Spent h = omega arith

pub charges_judged : (s : State) (start end n more : ℕ) (k : Task) → charges_in (more + n) (move_by s start end k (judged s.env k n)) ≡ more + charge_of n (judged s.env k n)
charges_judged s start end n more k = charges_by s start end n more k (judged s.env k n) (judged_rest s.env n k)

-- the allowance after the unit's own charge
pub after_own : (b : Bool) (start : ℕ) (m : ℕ → Move) → after_charge b start m 100000 ≡ m (if b then 99999 else 100000)
after_own true start m = refl
after_own false start m = refl
