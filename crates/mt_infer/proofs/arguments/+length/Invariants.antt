use Rattle.mt_infer.proofs.arguments.+length.Given as goal

abbrev pub decreases-length : goal.decreases-length
decreases-length l = l.depth_left
