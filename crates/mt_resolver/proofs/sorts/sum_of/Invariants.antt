use Rattle.std.proofs.Common.{◌≡◌, drop}
use Rattle.mt_resolver.specs.Resolution.{resolved_parts}
use Rattle.mt_resolver.proofs.PartSums.{onto}
use Rattle.mt_resolver.proofs.sorts.sum_of.Given as goal

abbrev pub invariant-loop-i : goal.invariant-loop-i
invariant-loop-i l = resolved_parts l.names l.at l.parts ≡ onto l.sum (resolved_parts l.names l.at (drop l.i l.parts))
