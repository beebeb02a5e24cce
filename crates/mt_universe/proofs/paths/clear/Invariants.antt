use Rattle.std.proofs.Common.{◌≡◌, ℕ, ◌/◌, ◌%◌, ◌<◌, length, get_or}
use Rattle.mt_universe.specs.Tables.{alone}
use Rattle.mt_universe.proofs.paths.clear.Given as goal

abbrev pub invariant-loop-i : goal.invariant-loop-i
invariant-loop-i l = (length l.paths ≡ 65536) × ((k : ℕ) → k < l.i → get_or l.paths k 0 ≡ alone (k / 256) (k % 256))
