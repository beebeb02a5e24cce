use Rattle.mt_positivity.proofs.arguments.+avoiding.Given as goal

abbrev pub decreases-avoids : goal.decreases-avoids
decreases-avoids l = l.depth_left

abbrev pub decreases-avoid_terms : goal.decreases-avoid_terms
decreases-avoid_terms l = l.depth_left

abbrev pub decreases-avoid_branches : goal.decreases-avoid_branches
decreases-avoid_branches l = l.depth_left
