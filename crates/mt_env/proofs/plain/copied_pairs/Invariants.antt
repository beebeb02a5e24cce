use Rattle.std.proofs.Common.{◌≡◌, take}
use Rattle.mt_env.proofs.plain.copied_pairs.Given as goal

abbrev pub invariant-loop-pair : goal.invariant-loop-pair
invariant-loop-pair l = l.copied ≡ take l.pair-index l.pairs
