use Rattle.mt_reduce.proofs.branches.+take_branch.Goals as goal

pub branch_under-requires-clause-others : goal.branch_under-requires-clause-others
branch_under-requires-clause-others t c = c.all_but.ensures.held _ c.requires.others
