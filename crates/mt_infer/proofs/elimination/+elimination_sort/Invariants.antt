use Rattle.mt_infer.proofs.elimination.+elimination_sort.Given as goal

abbrev pub decreases-elimination_sort : goal.decreases-elimination_sort
decreases-elimination_sort g l = l.depth_left

abbrev pub decreases-eliminated_over : goal.decreases-eliminated_over
decreases-eliminated_over g l = l.depth_left
