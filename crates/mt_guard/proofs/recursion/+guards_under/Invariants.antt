use Rattle.mt_guard.proofs.recursion.+guards_under.Given as goal

abbrev pub decreases-guards_under : goal.decreases-guards_under
decreases-guards_under l = l.depth_left
