use Rattle.mt_guard.proofs.recursion.+guarding.Given as goal

abbrev pub decreases-guards : goal.decreases-guards
decreases-guards l = l.depth_left

abbrev pub decreases-guards_terms : goal.decreases-guards_terms
decreases-guards_terms l = l.depth_left

abbrev pub decreases-guards_match : goal.decreases-guards_match
decreases-guards_match l = l.depth_left

abbrev pub decreases-guards_arms : goal.decreases-guards_arms
decreases-guards_arms l = l.depth_left

abbrev pub decreases-guards_branches : goal.decreases-guards_branches
decreases-guards_branches l = l.depth_left

abbrev pub decreases-guards_branch : goal.decreases-guards_branch
decreases-guards_branch l = l.depth_left

abbrev pub decreases-guards_past : goal.decreases-guards_past
decreases-guards_past l = l.depth_left
