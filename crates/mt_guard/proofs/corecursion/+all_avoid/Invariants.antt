use Rattle.mt_guard.proofs.corecursion.+all_avoid.Given as goal

abbrev pub decreases-all_avoid : goal.decreases-all_avoid
decreases-all_avoid l = l.depth_left
