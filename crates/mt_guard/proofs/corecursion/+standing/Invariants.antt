use Rattle.mt_guard.proofs.corecursion.+standing.Given as goal

abbrev pub decreases-stands : goal.decreases-stands
decreases-stands l = l.depth_left

abbrev pub decreases-is_under : goal.decreases-is_under
decreases-is_under l = l.depth_left

abbrev pub decreases-branches_stand : goal.decreases-branches_stand
decreases-branches_stand l = l.depth_left
