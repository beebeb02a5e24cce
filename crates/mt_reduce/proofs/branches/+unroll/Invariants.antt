use Rattle.mt_reduce.proofs.branches.+unroll.Given as goal

abbrev pub decreases-unroll : goal.decreases-unroll
decreases-unroll l = l.depth_left
