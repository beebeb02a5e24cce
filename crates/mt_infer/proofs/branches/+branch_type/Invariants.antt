use Rattle.mt_infer.proofs.branches.+branch_type.Given as goal

abbrev pub decreases-branch_type : goal.decreases-branch_type
decreases-branch_type l = l.depth_left
