-- How what the kernel's calls answer agrees with the definitions.
use Rattle.std.specs.Prelude.{ℕ, ◌-◌}
use Rattle.mt_rules.specs.Charges.{Outcome, Done, Refused, Spent as Spends}
use Rattle.mt_term.specs.Reasons.{Reason}
use Rattle.mt_term.specs.ReasonOf.{reason_of}
use Rattle.mt_term.specs.declared.refusals.Stop.{Stop}
use Rattle.mt_kernel.specs.declared.Verdict.{Verdict}
use Rattle.mt_kernel.specs.declared.Verdict.TheVariants as verdict

-- what the kernel says: yes and its charges, no and why, or that the allowance is spent
pub data Answer : Type 0 where
  Yes : ℕ → Answer
  No : Reason → Answer
  Spent : Answer

abbrev pub answer_of : Verdict → Answer
answer_of (verdict.Yes cost) = Yes cost
answer_of (verdict.No reason) = No (reason_of reason)
answer_of verdict.Spent = Spent

-- the answer on an outcome under an allowance, and its charges
abbrev pub verdict_of : {A : Type 0} → ℕ → Outcome A → Answer
verdict_of allowance (Done a left) = Yes (allowance - left)
verdict_of allowance (Refused r left) = No r
verdict_of allowance Spends = Spent

abbrev pub charge_of : {A : Type 0} → ℕ → Outcome A → ℕ
charge_of allowance (Done a left) = allowance - left
charge_of allowance (Refused r left) = allowance - left
charge_of allowance Spends = allowance

abbrev pub IsYes : Verdict → Type 0
IsYes (verdict.Yes cost) = Unit {0}
IsYes _ = ⊥
