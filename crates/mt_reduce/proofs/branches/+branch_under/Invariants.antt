use Rattle.mt_reduce.proofs.branches.+branch_under.Given as goal

abbrev pub decreases-branch_under : goal.decreases-branch_under
decreases-branch_under l = l.k
