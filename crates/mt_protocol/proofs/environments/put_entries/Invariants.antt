use Rattle.std.proofs.Common.{◌≡◌, ◌++◌, drop}
use Rattle.mt_protocol.proofs.environments.put_entries.Given as goal

abbrev pub invariant-loop-n : goal.invariant-loop-n
invariant-loop-n l = l.to ++ drop l.n l.from ≡ l.initial.to ++ l.from
