use Rattle.mt_guard.proofs.corecursion.+is_call.Given as goal

abbrev pub decreases-is_call : goal.decreases-is_call
decreases-is_call l = l.depth_left
