use Rattle.mt_infer.proofs.arguments.+all_but.Goals as goal

pub returns-in-More-clause-held : goal.returns-in-More-clause-held
returns-in-More-clause-held t c = λ n h. let inner = rw c.in-More.is at h in c.all_but.ensures.held n inner.1
