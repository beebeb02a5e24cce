use Rattle.std.proofs.Common.{◌≡◌, ℕ, ◌<◌, ◌≤◌, length, get_or, slice_index}
use Rattle.mt_term.specs.UniverseOrder.{more_heights}
use Rattle.mt_universe.specs.Tables.{entry}
use Rattle.mt_universe.proofs.paths.extend_heights.Given as goal

abbrev pub invariant-loop-b : goal.invariant-loop-b
invariant-loop-b l = record {
  size : length l.heights ≡ 256;
  done : (k : ℕ) → k < l.b → get_or l.heights k 0 ≡ more_heights (entry l.paths) (slice_index l.fn.heights) l.low l.high k;
  rest : (k : ℕ) → l.b ≤ k → get_or l.heights k 0 ≡ get_or l.fn.heights k 0;
}
