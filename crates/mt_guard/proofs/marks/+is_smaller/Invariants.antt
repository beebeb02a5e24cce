use Rattle.mt_guard.proofs.marks.+is_smaller.Given as goal

abbrev pub decreases-is_smaller : goal.decreases-is_smaller
decreases-is_smaller l = l.depth_left
