use Rattle.mt_infer.proofs.families.+family_on.Given as goal

abbrev pub decreases-family_on : goal.decreases-family_on
decreases-family_on l = l.depth_left
