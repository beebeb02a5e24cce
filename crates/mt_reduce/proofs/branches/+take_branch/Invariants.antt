use Rattle.mt_reduce.proofs.branches.+take_branch.Given as goal

abbrev pub decreases-take_branch : goal.decreases-take_branch
decreases-take_branch l = l.depth_left
