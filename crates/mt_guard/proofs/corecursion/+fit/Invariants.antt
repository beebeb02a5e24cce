use Rattle.mt_guard.proofs.corecursion.+fit.Given as goal

abbrev pub decreases-fit : goal.decreases-fit
decreases-fit l = l.depth_left
