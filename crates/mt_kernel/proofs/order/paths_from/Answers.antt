use Rattle.std.proofs.Common.{◌≡◌, ℕ, ◌<◌, length, length-set, slice_index, slice_set, sym, subst, ◌∙◌, arith}
use Rattle.mt_kernel.specs.Rows.{HasPlaces}
use Rattle.mt_kernel.proofs.Rows.{row_is_path, one_bounded, one_set, too_long}
use Rattle.mt_kernel.proofs.order.paths_from.Goals as goal

pub unreachable-requires : goal.unreachable-requires
unreachable-requires c =
    let none : (b : ℕ) → b < length c.in_ok-row.row.items → slice_index c.in_ok-row.row.items b ≡ 0 = λ b l. c.in_ok-row.ensures.numbers b (omega (arith, l, c.in_ok-row.ensures.places)) in
    too_long c.args.below.now c.settle.new.row.items (λ v. v c.args.a)
    (subst (HasPlaces c.args.below.now) (sym (c.settle.ensures.size ∙ length-set c.in_ok-row.row.items c.args.a 1 ∙ c.in_ok-row.ensures.places)) c.in_ok-most.ensures.0)
    (λ v m. c.settle.ensures.bound v (v c.args.a) m (one_bounded v c.in_ok-row.row.items c.args.a none)) (c.settle.ensures.endless c.if-settle.false) c.requires

pub returns-clause-paths : goal.returns-clause-paths
returns-clause-paths c =
    let none : (b : ℕ) → b < length c.in_ok-row.row.items → slice_index c.in_ok-row.row.items b ≡ 0 = λ b l. c.in_ok-row.ensures.numbers b (omega (arith, l, c.in_ok-row.ensures.places)) in
    let inside : c.args.a < length c.in_ok-row.row.items = omega (arith, c.in_ok-row.ensures.places, c.in_ok-most.ensures.1) in
    let here : slice_index (slice_set c.in_ok-row.row.items c.args.a 1) c.args.a ≡ 1 = one_set c.in_ok-row.row.items c.args.a inside in
    row_is_path c.args.below.now c.args.a c.settle.new.row.items c.requires
    (λ v m. c.settle.ensures.bound v (v c.args.a) m (one_bounded v c.in_ok-row.row.items c.args.a none))
    (omega (arith, here, c.settle.ensures.grown c.args.a))
    (c.settle.ensures.settled c.if-settle.true)
