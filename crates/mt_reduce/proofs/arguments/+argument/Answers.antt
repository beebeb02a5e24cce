use Rattle.mt_reduce.proofs.arguments.+argument.Goals as goal

pub returns-else-place-eq0-clause-held : goal.returns-else-place-eq0-clause-held
returns-else-place-eq0-clause-held t c = λ n h. let inner = rw c.in-More.is at h in c.argument.ensures.held n inner.1
