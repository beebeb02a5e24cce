use Rattle.mt_kernel.proofs.families.+at_args.Given as goal

abbrev pub decreases-at_args : goal.decreases-at_args
decreases-at_args l = l.depth_left
