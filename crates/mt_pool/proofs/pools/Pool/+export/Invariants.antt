use Rattle.mt_pool.proofs.pools.Pool.+export.Given as goal

abbrev pub decreases-export_within : goal.decreases-export_within
decreases-export_within l = l.depth_left

abbrev pub decreases-export_ids : goal.decreases-export_ids
decreases-export_ids l = l.depth_left

abbrev pub decreases-export_branches : goal.decreases-export_branches
decreases-export_branches l = l.depth_left
