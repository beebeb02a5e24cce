use Rattle.mt_infer.proofs.scopes.+found.Goals as goal

pub returns-else-i-eq0-clause-held : goal.returns-else-i-eq0-clause-held
returns-else-i-eq0-clause-held t c = λ n h. let inner = rw c.in-More.is at h in c.found.ensures.held n inner.1
