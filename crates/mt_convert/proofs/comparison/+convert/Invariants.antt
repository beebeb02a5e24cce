use Rattle.mt_convert.proofs.comparison.+convert.Given as goal

abbrev pub decreases-convert : goal.decreases-convert
decreases-convert g l = l.depth_left

abbrev pub decreases-same_heads_at : goal.decreases-same_heads_at
decreases-same_heads_at g l = l.depth_left

abbrev pub decreases-same_heads : goal.decreases-same_heads
decreases-same_heads g l = l.depth_left

abbrev pub decreases-same_spine_at : goal.decreases-same_spine_at
decreases-same_spine_at g l = l.depth_left

abbrev pub decreases-same_spine : goal.decreases-same_spine
decreases-same_spine g l = l.depth_left

abbrev pub decreases-same_terms : goal.decreases-same_terms
decreases-same_terms g l = l.depth_left

abbrev pub decreases-same_bodies : goal.decreases-same_bodies
decreases-same_bodies g l = l.depth_left

abbrev pub decreases-same_matched : goal.decreases-same_matched
decreases-same_matched g l = l.depth_left
