use Rattle.mt_guard.proofs.constructors.+is_on_type.Given as goal

abbrev pub decreases-is_on_type : goal.decreases-is_on_type
decreases-is_on_type l = l.depth_left
