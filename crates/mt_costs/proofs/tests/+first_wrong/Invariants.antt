use Rattle.std.proofs.Common.{length}
use Rattle.mt_costs.proofs.tests.+first_wrong.Given as goal

abbrev pub decreases-first_wrong : goal.decreases-first_wrong
decreases-first_wrong l = length l.rows.now
