use Rattle.mt_decl.proofs.groups.+with_groups.Given as goal

abbrev pub decreases-with_groups : goal.decreases-with_groups
decreases-with_groups g l = l.depth_left
