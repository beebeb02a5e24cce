use Rattle.mt_reduce.proofs.normalization.+normal.Given as goal

abbrev pub decreases-normal : goal.decreases-normal
decreases-normal g l = l.depth_left

abbrev pub decreases-normal_parts : goal.decreases-normal_parts
decreases-normal_parts g l = l.depth_left

abbrev pub decreases-normal_match : goal.decreases-normal_match
decreases-normal_match g l = l.depth_left

abbrev pub decreases-normal_meta : goal.decreases-normal_meta
decreases-normal_meta g l = l.depth_left

abbrev pub decreases-normal_ids : goal.decreases-normal_ids
decreases-normal_ids g l = l.depth_left

abbrev pub decreases-normal_branches : goal.decreases-normal_branches
decreases-normal_branches g l = l.depth_left
