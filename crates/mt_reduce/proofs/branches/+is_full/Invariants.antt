use Rattle.mt_reduce.proofs.branches.+is_full.Given as goal

abbrev pub decreases-is_full : goal.decreases-is_full
decreases-is_full l = l.depth_left
