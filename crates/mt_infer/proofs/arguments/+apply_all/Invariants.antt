use Rattle.mt_infer.proofs.arguments.+apply_all.Given as goal

abbrev pub decreases-apply_all : goal.decreases-apply_all
decreases-apply_all l = l.depth_left
