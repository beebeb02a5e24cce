use Rattle.std.proofs.Common.{◌≡◌, length, take, slice_index}
use Rattle.mt_term.specs.UniverseOrder.{AreLongest}
use Rattle.mt_universe.specs.Tables.{entry}
use Rattle.mt_universe.proofs.graphs.rebuild.Given as goal

abbrev pub invariant-loop-low : goal.invariant-loop-low
invariant-loop-low l = record {
  paths_made : length l.paths ≡ 65536;
  heights_made : length l.heights ≡ 256;
  longest : AreLongest (take l.low-index l.below) (entry l.paths) (slice_index l.heights);
}
