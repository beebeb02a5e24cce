use Rattle.mt_positivity.proofs.constructors.+is_positive_from.Given as goal

abbrev pub decreases-is_positive_from : goal.decreases-is_positive_from
decreases-is_positive_from l = l.left
