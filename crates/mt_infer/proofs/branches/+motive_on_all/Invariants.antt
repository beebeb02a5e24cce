use Rattle.mt_infer.proofs.branches.+motive_on_all.Given as goal

abbrev pub decreases-motive_on_all : goal.decreases-motive_on_all
decreases-motive_on_all l = l.depth_left
