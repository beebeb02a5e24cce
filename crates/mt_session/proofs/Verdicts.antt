-- The kernel's verdicts on what units ask for.
use Rattle.std.proofs.Common.{◌≡◌, ℕ, refl}
use Rattle.mt_rules.specs.Charges.{Outcome, Done, Refused, Spent}
use Rattle.mt_kernel.specs.Answers.{verdict_of, charge_of}
use Rattle.mt_session.specs.Tasks.{passed}
use Rattle.mt_session.specs.Steps.{refusal_of, refusal_by}

pub refusal_verdict : (a : ℕ) (o : Outcome (Unit {0})) → refusal_by (verdict_of a o) ≡ refusal_of o
refusal_verdict a (Done x left) = refl
refusal_verdict a (Refused r left) = refl
refusal_verdict a Spent = refl

-- the verdict on an outcome and its charges are the same without its answer
pub verdict_passed : {A : Type 0} (a : ℕ) (o : Outcome A) → verdict_of a o ≡ verdict_of a (passed o)
verdict_passed a (Done x left) = refl
verdict_passed a (Refused r left) = refl
verdict_passed a Spent = refl

pub charge_passed : {A : Type 0} (a : ℕ) (o : Outcome A) → charge_of a o ≡ charge_of a (passed o)
charge_passed a (Done x left) = refl
charge_passed a (Refused r left) = refl
charge_passed a Spent = refl

pub ruleset kernel_rules = (verdict_passed, charge_passed)
