use Rattle.std.proofs.Common.{length}
use Rattle.mt_pool.proofs.pools.Pool.term_for_variable.Goals as goal

pub lift_within-requires-in-Found : goal.lift_within-requires-in-Found
lift_within-requires-in-Found c =
    c.in-Found.ensures.below (length c.args.self.now) (rw c.in-Under.is at c.requires.held)

pub lift_within-requires-in-Found-find : goal.lift_within-requires-in-Found-find
lift_within-requires-in-Found-find c =
    c.in-Found-find.ensures.below (length c.args.self.now) (rw c.in-Filled.is at c.requires.held)
