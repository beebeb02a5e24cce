use Rattle.std.proofs.Common.{◌≡◌, take}
use Rattle.mt_tiny.proofs.stack.Stack.copy.Given as goal

abbrev pub invariant-loop-level : goal.invariant-loop-level
invariant-loop-level l = l.below.items ≡ take l.level-index l.levels-inside.below.items
