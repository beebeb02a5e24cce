-- What the kernel says on an outcome, and what it charges.
use Rattle.std.proofs.Common.{ℕ, ◌≡◌, ◌-◌, ap, refl, arith}
use Rattle.mt_rules.specs.Charges.{Outcome, Done, Refused, Spent as Spends, rest}
use Rattle.mt_term.specs.Reasons.{Reason}
use Rattle.mt_rules_laws.proofs.InferenceLaws.{check-rest, check_type-rest}
use Rattle.mt_kernel.specs.Answers.{Yes, No, Spent, verdict_of, charge_of}

module _ {A : Type 0} (n l : ℕ) (o : Outcome A) where
  pub verdict-done : (a : A) → o ≡ Done a l → verdict_of n o ≡ Yes (n - l)
  verdict-done a e = ap (verdict_of n) e

  pub verdict-refused : (r : Reason) → o ≡ Refused r l → verdict_of n o ≡ No r
  verdict-refused r e = ap (verdict_of n) e

  pub charge-done : (a : A) → o ≡ Done a l → charge_of n o ≡ n - l
  charge-done a e = ap (charge_of n) e

  pub charge-refused : (r : Reason) → o ≡ Refused r l → charge_of n o ≡ n - l
  charge-refused r e = ap (charge_of n) e

pub verdict-spent : {A : Type 0} (n : ℕ) (o : Outcome A) → o ≡ Spends → verdict_of n o ≡ Spent
verdict-spent n o e = ap (verdict_of n) e

pub charge-spent : {A : Type 0} (n : ℕ) (o : Outcome A) → o ≡ Spends → charge_of n o ≡ n
charge-spent n o e = ap (charge_of n) e

-- the charges are what is no longer left
pub charge-is : {A : Type 0} (n : ℕ) (o : Outcome A) → charge_of n o ≡ n - rest o
charge-is n (Done a l) = refl
charge-is n (Refused r l) = refl
charge-is n Spends = omega arith

pub rest-done : {A : Type 0} (o : Outcome A) (a : A) (l : ℕ) → o ≡ Done a l → rest o ≡ l
rest-done o a l e = ap rest e

pub rest-refused : {A : Type 0} (o : Outcome A) (r : Reason) (l : ℕ) → o ≡ Refused r l → rest o ≡ l
rest-refused o r l e = ap rest e

pub ruleset verdict_rules = (verdict-done, verdict-refused, verdict-spent, charge-done, charge-refused, charge-spent, charge-is, check-rest, check_type-rest, rest-done, rest-refused)
