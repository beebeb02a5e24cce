use Rattle.std.proofs.Common.{◌≡◌, ◌+◌, ◌-◌, ◌≤◌}
use Rattle.mt_tactical_tests.proofs.prover.pay.Given as goal

abbrev pub invariant-loop-paid : goal.invariant-loop-paid
invariant-loop-paid g l = record {
  within : l.paid ≤ l.cost;
  left : l.left + l.paid ≡ l.initial.left;
  steps : l.steps ≡ l.initial.steps + l.paid;
}

abbrev pub decreases-loop-paid : goal.decreases-loop-paid
decreases-loop-paid g l = l.cost - l.paid
