use Rattle.std.proofs.Common.{◌<◌, sym, subst}
use Rattle.std.proofs.lemmas.Option.{get_or_from_slice_get}
use Rattle.mt_kernel.specs.Rows.{Holds}
use Rattle.mt_kernel.proofs.Rows.{held_at, at_none}
use Rattle.mt_kernel.proofs.order.lengthen_by.Goals as goal

pub returns-in-Some-clause-bound : goal.returns-in-Some-clause-bound
returns-in-Some-clause-bound c v o m =
    c.lengthen.ensures.bound v o (held_at (λ p. v p.0 < v p.1) c.args.below.now c.args.i c.in-Some.field-0.now (sym c.in-Some.ensures) (λ k d. m k d))

pub returns-in-Some-clause-holds : goal.returns-in-Some-clause-holds
returns-in-Some-clause-holds c e l =
    subst (Holds c.args.row.now.items) (sym (get_or_from_slice_get c.args.below.now c.args.i c.in-Some.field-0.now (0, 0) (sym c.in-Some.ensures))) (c.lengthen.ensures.holds e)

pub returns-in-None-clause-holds : goal.returns-in-None-clause-holds
returns-in-None-clause-holds c e l = absurd (at_none c.args.below.now c.args.i l (sym c.in-None.ensures))
