use Rattle.mt_positivity.proofs.arguments.+is_type_on.Given as goal

abbrev pub decreases-is_type_on : goal.decreases-is_type_on
decreases-is_type_on l = l.depth_left
