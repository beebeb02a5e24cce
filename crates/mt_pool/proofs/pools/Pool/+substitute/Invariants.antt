use Rattle.mt_pool.proofs.pools.Pool.+substitute.Given as goal

abbrev pub decreases-substitute_within : goal.decreases-substitute_within
decreases-substitute_within l = l.depth_left

abbrev pub decreases-substitute_ids : goal.decreases-substitute_ids
decreases-substitute_ids l = l.depth_left

abbrev pub decreases-substitute_branches : goal.decreases-substitute_branches
decreases-substitute_branches l = l.depth_left
