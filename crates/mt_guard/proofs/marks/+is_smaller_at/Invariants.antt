use Rattle.mt_guard.proofs.marks.+is_smaller_at.Given as goal

abbrev pub decreases-is_smaller_at : goal.decreases-is_smaller_at
decreases-is_smaller_at l = l.depth_left
