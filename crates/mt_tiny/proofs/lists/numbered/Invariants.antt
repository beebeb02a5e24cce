use Rattle.std.proofs.Common.{◌≡◌, ◌+◌, ◌++◌, drop}
use Rattle.mt_tiny.specs.Goals.{numbered}
use Rattle.mt_tiny.proofs.lists.numbered.Given as goal

abbrev pub invariant-loop-i : goal.invariant-loop-i
invariant-loop-i l = l.placed ++ numbered (l.first + l.i) (drop l.i l.goals) ≡ numbered l.first l.goals
