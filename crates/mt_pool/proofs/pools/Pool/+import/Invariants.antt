use Rattle.mt_pool.proofs.pools.Pool.+import.Given as goal

abbrev pub decreases-import_within : goal.decreases-import_within
decreases-import_within l = l.depth_left

abbrev pub decreases-import_terms : goal.decreases-import_terms
decreases-import_terms l = l.depth_left

abbrev pub decreases-import_branches : goal.decreases-import_branches
decreases-import_branches l = l.depth_left
