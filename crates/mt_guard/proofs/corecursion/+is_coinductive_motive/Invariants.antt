use Rattle.mt_guard.proofs.corecursion.+is_coinductive_motive.Given as goal

abbrev pub decreases-is_coinductive_motive : goal.decreases-is_coinductive_motive
decreases-is_coinductive_motive l = l.depth_left
