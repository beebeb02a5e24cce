use Rattle.mt_decl.proofs.freshness.+check_constructors.Given as goal

abbrev pub decreases-check_constructors : goal.decreases-check_constructors
decreases-check_constructors l = l.depth_left
