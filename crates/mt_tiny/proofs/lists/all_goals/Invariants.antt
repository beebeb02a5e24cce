use Rattle.std.proofs.Common.{◌≡◌, ◌++◌, drop}
use Rattle.mt_tiny.specs.Goals.{goals_of}
use Rattle.mt_tiny.proofs.lists.all_goals.Given as goal

abbrev pub invariant-loop-goal : goal.invariant-loop-goal
invariant-loop-goal l = l.goals ++ goals_of (drop l.goal-index l.placed) ≡ goals_of l.placed
