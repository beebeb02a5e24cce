use Rattle.std.proofs.Common.{◌∙◌, ap, slice_index}
use Rattle.mt_kernel.proofs.Rows.{covered_by_row}
use Rattle.mt_kernel.proofs.order.has_cover.Goals as goal

pub returns : goal.returns
returns c = c.is_covered.ensures ∙ covered_by_row c.args.below.now c.deref.result.now c.args.a.now (λ b. ap (λ r. slice_index r b) c.deref.ensures.value ∙ c.in_ok-row.ensures.paths b) c.args.bounds.now
