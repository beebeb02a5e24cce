use Rattle.mt_infer.proofs.branches.+return_at.Given as goal

abbrev pub decreases-return_at : goal.decreases-return_at
decreases-return_at l = l.depth_left
