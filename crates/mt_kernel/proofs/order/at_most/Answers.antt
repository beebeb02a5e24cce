use Rattle.mt_kernel.proofs.Rows.{all_hold}
use Rattle.mt_kernel.proofs.order.at_most.Goals as goal

pub returns-in-None : goal.returns-in-None
returns-in-None c = all_hold c.args.below.now c.args.u.now c.args.w.now (rw c.in-None.is at c.in_ok-heights.ensures.acyclic)
