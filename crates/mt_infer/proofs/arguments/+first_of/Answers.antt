use Rattle.std.proofs.Common.{subst, sym}
use Rattle.mt_pool.specs.declared.nodes.TermIds.{TermIds}
use Rattle.mt_pool.specs.Region.{ids_of, AllBelow}
use Rattle.mt_infer.proofs.arguments.+first_of.Goals as goal

pub returns-in_ok-new-in-Some-clause-held : goal.returns-in_ok-new-in-Some-clause-held
returns-in_ok-new-in-Some-clause-held t c = λ m h.
    let inner = rw c.in-More.is at h in
    let below = c.in_ok-first_of-in-More.ensures.held m inner.1 in
    let rest = rw c.in-Some.is at below in
    (inner.0, subst (λ (s : TermIds). AllBelow m (ids_of s)) (sym c.in_ok-new-in-Some.ensures.ok) rest)
