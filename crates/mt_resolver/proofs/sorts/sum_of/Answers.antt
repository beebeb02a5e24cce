use Rattle.std.proofs.Common.{sym, ap, ◌∙◌, drop, ◌+◌}
use Rattle.std.proofs.lemmas.Result.{err_from_is_err_and}
use Rattle.mt_resolver.specs.Resolution.{then_found, resolved_parts}
use Rattle.mt_resolver.proofs.PartSums.{onto, part-step, part-halts}
use Rattle.mt_resolver.proofs.sorts.sum_of.Goals as goal

pub returns-in_err-sum : goal.returns-in_err-sum
returns-in_err-sum c =
    let p = err_from_is_err_and c.from_residual.result c.from_residual.ensures.1 in
    let h = part-halts c.args.names.now c.args.at c.args.parts.now c.loop-i.i c.loop-i.sum c.in-Some.part.now _ c.in_err-sum.field-0.0 (sym c.in-Some.ensures) c.loop-i.invariant c.in_err-sum.ensures in
    rw (p.1, p.2) h

pub loop-i-preserved : goal.loop-i-preserved
loop-i-preserved c =
    part-step c.args.names.now c.args.at c.args.parts.now c.loop-i.i c.loop-i.sum c.in-Some.part.now _ (sym c.in-Some.ensures) c.loop-i.invariant
    ∙ ap (λ r. then_found r (λ w. onto w (resolved_parts c.args.names.now c.args.at (drop (c.loop-i.i + 1) c.args.parts.now)))) c.in_ok-sum.ensures
