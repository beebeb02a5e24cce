use Rattle.std.proofs.Common.{◌≡◌, ◌<◌, false, true, slice_index_or, sym, ◌∙◌, subst, arith}
use Rattle.std.specs.Prelude.{sum}
use Rattle.std.proofs.lemmas.List.{get_or_default}
use Rattle.mt_kernel.specs.Rows.{Holds}
use Rattle.mt_kernel.proofs.Rows.{true_not_false, up_to}
use Rattle.mt_kernel.proofs.order.lengthen_by_all.Goals.{in-Settled, in-Longer}
use Rattle.mt_kernel.proofs.order.lengthen_by_all.Goals as goal

pub returns-in-Endless-clause-bound : goal.returns-in-Endless-clause-bound
returns-in-Endless-clause-bound c v o m h = c.lengthen_by.ensures.bound v o m (c.loop-i.invariant.bound v o m h)

pub loop-i-preserved : goal.loop-i-preserved
loop-i-preserved c = record {
  size = omega (arith, c.lengthen_by.ensures.size, c.loop-i.invariant.size);
  short = c.lengthen_by.ensures.short;
  bound = λ v o m h. c.lengthen_by.ensures.bound v o m (c.loop-i.invariant.bound v o m h);
  grown = λ b. omega (arith, c.lengthen_by.ensures.grown b, c.loop-i.invariant.grown b);
  rises = omega (arith, c.lengthen_by.ensures.rises, c.loop-i.invariant.rises);
  longer = λ e. elim c.match-lengthen_by.branch [
    | in-Settled w ↦ omega (arith, c.lengthen_by.ensures.rises, c.loop-i.invariant.longer (sym w.longer-is ∙ e))
    | in-Longer w ↦ (let more = rw w.in-Longer.is at c.lengthen_by.ensures.rises in omega (arith, more, c.loop-i.invariant.rises))
  ];
  settled = λ e. elim c.match-lengthen_by.branch [
    | in-Settled w ↦
        (let same = c.lengthen_by.ensures.still w.in-Settled.is in
        let before = sym w.longer-is ∙ e in
        up_to c.loop-i.i (λ k. Holds c.lengthen_by.new.row.items (slice_index_or c.args.below.now k (0, 0)))
        (λ k l. subst (λ r. Holds r (slice_index_or c.args.below.now k (0, 0))) (sym same) (c.loop-i.invariant.settled before k l))
        (subst (λ r. Holds r (slice_index_or c.args.below.now c.loop-i.i (0, 0))) (sym same) (c.lengthen_by.ensures.holds w.in-Settled.is (omega (arith, c.loop-i-test.true, c.len-i-end.ensures)))))
    | in-Longer w ↦ absurd (true_not_false (sym w.longer-is ∙ e))
  ];
}

pub returns-else-longer-clause-settled : goal.returns-else-longer-clause-settled
returns-else-longer-clause-settled c e k d l =
    subst (Holds c.loop-i.row.items) (get_or_default c.args.below.now k (0, 0) d l) (c.loop-i.invariant.settled c.if-longer.false k (omega (arith, c.loop-i-test.false, c.len-i-end.ensures)))
