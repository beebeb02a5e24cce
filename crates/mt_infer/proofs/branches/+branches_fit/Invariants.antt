use Rattle.mt_infer.proofs.branches.+branches_fit.Given as goal

abbrev pub decreases-branches_fit : goal.decreases-branches_fit
decreases-branches_fit l = l.depth_left
