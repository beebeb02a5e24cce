use Rattle.mt_positivity.proofs.constructors.+is_positive_past.Given as goal

abbrev pub decreases-is_positive_past : goal.decreases-is_positive_past
decreases-is_positive_past l = l.depth_left
