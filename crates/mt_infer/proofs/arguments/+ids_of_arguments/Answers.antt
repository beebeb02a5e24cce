use Rattle.std.proofs.Common.{subst, sym}
use Rattle.mt_pool.specs.declared.nodes.TermIds.{TermIds}
use Rattle.mt_pool.specs.Region.{ids_of, AllBelow}
use Rattle.mt_infer.proofs.arguments.+ids_of_arguments.Goals as goal

pub returns-in_ok-new-in-More-clause-held : goal.returns-in_ok-new-in-More-clause-held
returns-in_ok-new-in-More-clause-held t c = λ m h.
    let inner = rw c.in-More.is at h in
    let rest = c.in_ok-rest-in-More.ensures.held m inner.1 in
    (inner.0, subst (λ (s : TermIds). AllBelow m (ids_of s)) (sym c.in_ok-new-in-More.ensures.ok) rest)
