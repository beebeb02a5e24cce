use Rattle.mt_infer.proofs.branches.+return_at.Goals as goal

pub motive_on_all-requires-clause-indices : goal.motive_on_all-requires-clause-indices
motive_on_all-requires-clause-indices t c = c.in_ok-indices-in-Ind.ensures.held _ (c.all_but.ensures.held _ c.requires.others)
