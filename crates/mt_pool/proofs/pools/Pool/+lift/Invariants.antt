use Rattle.mt_pool.proofs.pools.Pool.+lift.Given as goal

abbrev pub decreases-lift_within : goal.decreases-lift_within
decreases-lift_within l = l.depth_left

abbrev pub decreases-lift_ids : goal.decreases-lift_ids
decreases-lift_ids l = l.depth_left

abbrev pub decreases-lift_branches : goal.decreases-lift_branches
decreases-lift_branches l = l.depth_left
