use Rattle.std.proofs.Common.{◌<◌, length}
use Rattle.mt_term_tests.proofs.store.doubled.Given as goal

abbrev pub invariant-loop : goal.invariant-loop
invariant-loop l = l.t.at < length l.pool
