use Rattle.std.proofs.Common.{◌<◌, length}
use Rattle.mt_pool.specs.Region.{Kept}
use Rattle.mt_term_tests.proofs.pool.tower.Given as goal

abbrev pub invariant-loop : goal.invariant-loop
invariant-loop l = Kept l.fn.pool l.pool × (l.top.at < length l.pool) × (l.leaf.at < length l.pool)
