use Rattle.std.proofs.Common.{◌≡◌, ◌++◌, drop}
use Rattle.mt_protocol.proofs.environments.copied_pairs.Given as goal

abbrev pub invariant-loop-n : goal.invariant-loop-n
invariant-loop-n l = l.answer ++ drop l.n l.pairs ≡ l.pairs
