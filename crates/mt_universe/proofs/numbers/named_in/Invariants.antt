use Rattle.std.proofs.Common.{◌≡◌, ◌≤◌, max, drop}
use Rattle.mt_universe.specs.Graphs.{named_in}
use Rattle.mt_universe.proofs.numbers.named_in.Given as goal

abbrev pub invariant-loop-low : goal.invariant-loop-low
invariant-loop-low l = (max l.most (named_in (drop l.low-index l.below)) ≡ named_in l.below) × (l.most ≤ 256)
