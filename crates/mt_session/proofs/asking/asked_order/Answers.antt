use Rattle.std.proofs.Common.{ap, sym, subst, ◌∙◌}
use Rattle.mt_resolver.specs.Resolution.{Found, Faults, then_found}
use Rattle.mt_resolver.specs.Resolves.{HaltsAs}
use Rattle.mt_term.specs.Reasons.{Taken}
use Rattle.mt_session.specs.Tasks.{Order}
use Rattle.mt_session.proofs.Ordering.{order_found, order_many, order_cycle}
use Rattle.mt_session.proofs.asking.asked_order.Goals as goal

pub returns-in_ok-clone-in-Ok-2 : goal.returns-in_ok-clone-in-Ok-2
returns-in_ok-clone-in-Ok-2 c = λ E e.
    let found = order_found E c.args.graph.now c.args.low.now c.args.high.now c.args.at e c.in-Ok.ensures.ok in
    ap (λ r. then_found r (λ _. Found (Order c.args.low.now c.args.high.now))) found
    ∙ ap (λ x. Found (Order x c.args.high.now)) (sym c.in_ok-clone-in-Ok.ensures) ∙ ap (λ y. Found (Order c.in_ok-clone-in-Ok.field-0 y)) (sym c.in_ok-clone-in-Ok-2.ensures)

pub returns-in_ok-extra_name-in-Err-TooMany : goal.returns-in_ok-extra_name-in-Err-TooMany
returns-in_ok-extra_name-in-Err-TooMany c = λ E e.
    let many = order_many E c.args.graph.now c.args.low.now c.args.high.now c.args.at e (rw c.in-Err-TooMany.field-0-is at c.in-Err-TooMany.ensures.err) in
    subst (HaltsAs _) (sym c.refusal_at.ensures)
    (ap (λ r. then_found r (λ _. Found (Order c.args.low.now c.args.high.now))) many ∙ ap (λ x. Faults (Taken x) c.args.at) (sym c.in_ok-extra_name-in-Err-TooMany.ensures))

pub returns-in-Err-Cycle : goal.returns-in-Err-Cycle
returns-in-Err-Cycle c = λ E e.
    let why = rw c.in-Err-Cycle.field-0-is at c.in-Err-Cycle.ensures.err in
    let cycle = order_cycle E c.args.graph.now c.args.low.now c.args.high.now c.args.at e why.0 why.1 in
    subst (HaltsAs _) (sym c.refusal_at-in-Err-Cycle.ensures) (ap (λ r. then_found r (λ _. Found (Order c.args.low.now c.args.high.now))) cycle)
