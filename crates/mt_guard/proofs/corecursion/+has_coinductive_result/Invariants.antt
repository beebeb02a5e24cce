use Rattle.mt_guard.proofs.corecursion.+has_coinductive_result.Given as goal

abbrev pub decreases-has_coinductive_result : goal.decreases-has_coinductive_result
decreases-has_coinductive_result l = l.depth_left
