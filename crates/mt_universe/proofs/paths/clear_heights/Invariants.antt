use Rattle.std.proofs.Common.{◌≡◌, ℕ, ◌<◌, get_or}
use Rattle.mt_universe.proofs.paths.clear_heights.Given as goal

abbrev pub invariant-loop-height : goal.invariant-loop-height
invariant-loop-height l = (k : ℕ) → k < l.height-index → get_or l.heights k 0 ≡ 0
