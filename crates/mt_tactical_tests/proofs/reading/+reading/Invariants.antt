use Rattle.mt_tactical_tests.proofs.reading.+reading.Given as goal

abbrev pub decreases-tactical : goal.decreases-tactical
decreases-tactical l = l.depth_left

abbrev pub decreases-item : goal.decreases-item
decreases-item l = l.depth_left

abbrev pub decreases-branches : goal.decreases-branches
decreases-branches l = l.depth_left
