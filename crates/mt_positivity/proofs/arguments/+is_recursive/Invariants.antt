use Rattle.mt_positivity.proofs.arguments.+is_recursive.Given as goal

abbrev pub decreases-is_recursive : goal.decreases-is_recursive
decreases-is_recursive l = l.depth_left
