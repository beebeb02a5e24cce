use Rattle.std.proofs.Common.{◌≡◌, ℕ, ◌<◌, length, slice_index, sym, subst, ◌∙◌, arith}
use Rattle.mt_kernel.specs.Rows.{HasPlaces}
use Rattle.mt_kernel.proofs.Rows.{row_acyclic, row_is_height, ones_bounded, ones_kept, too_long, not_true}
use Rattle.mt_kernel.proofs.order.heights.Goals as goal

pub returns-then-settle-clause-acyclic : goal.returns-then-settle-clause-acyclic
returns-then-settle-clause-acyclic c =
    let one : (b : ℕ) → b < length c.in_ok-row.row.items → slice_index c.in_ok-row.row.items b ≡ 1 = λ b l. c.in_ok-row.ensures.numbers b (omega (arith, l, c.in_ok-row.ensures.places)) in
    let some = ones_kept c.args.below.now c.in_ok-row.row.items c.settle.new.row.items one (subst (HasPlaces c.args.below.now) (sym c.in_ok-row.ensures.places) c.in_ok-most.ensures) c.settle.ensures.grown in
    sym (row_acyclic c.args.below.now c.settle.new.row.items some (c.settle.ensures.settled c.if-settle.true))

pub returns-then-settle-clause-heights : goal.returns-then-settle-clause-heights
returns-then-settle-clause-heights c =
    let one : (b : ℕ) → b < length c.in_ok-row.row.items → slice_index c.in_ok-row.row.items b ≡ 1 = λ b l. c.in_ok-row.ensures.numbers b (omega (arith, l, c.in_ok-row.ensures.places)) in
    let some = ones_kept c.args.below.now c.in_ok-row.row.items c.settle.new.row.items one (subst (HasPlaces c.args.below.now) (sym c.in_ok-row.ensures.places) c.in_ok-most.ensures) c.settle.ensures.grown in
    row_is_height c.args.below.now c.settle.new.row.items some (λ v m. c.settle.ensures.bound v 0 m (ones_bounded v c.in_ok-row.row.items one)) (c.settle.ensures.settled c.if-settle.true)

pub returns-else-settle-clause-acyclic : goal.returns-else-settle-clause-acyclic
returns-else-settle-clause-acyclic c =
    let one : (b : ℕ) → b < length c.in_ok-row.row.items → slice_index c.in_ok-row.row.items b ≡ 1 = λ b l. c.in_ok-row.ensures.numbers b (omega (arith, l, c.in_ok-row.ensures.places)) in
    not_true _ (too_long c.args.below.now c.settle.new.row.items (λ v. 0)
    (subst (HasPlaces c.args.below.now) (sym (c.settle.ensures.size ∙ c.in_ok-row.ensures.places)) c.in_ok-most.ensures)
    (λ v m. c.settle.ensures.bound v 0 m (ones_bounded v c.in_ok-row.row.items one)) (c.settle.ensures.endless c.if-settle.false))
