use Rattle.std.proofs.Common.{◌≡◌, ◌+◌, ◌-◌, ◌++◌}
use Rattle.mt_tactical_tests.specs.Small.{from_on}
use Rattle.mt_tactical_tests.proofs.prover.from_on.Given as goal

abbrev pub invariant-loop-i : goal.invariant-loop-i
invariant-loop-i l = l.goals ++ from_on (l.first + l.i) (l.count - l.i) ≡ from_on l.first l.count
