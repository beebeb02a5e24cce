use Rattle.std.proofs.Common.{◌≡◌, ℕ, ◌+◌, suc, true, false, drop, length, ap, sym, ◌∙◌, arith}
use Rattle.std.proofs.lemmas.Bool.{le-leb}
use Rattle.std.proofs.lemmas.Bool.{lt-leb}
use Rattle.mt_cursor.proofs.Lists.{get_at, one_on}
use Rattle.mt_cursor.proofs.Running.{passes_more, passes_no_more}
use Rattle.mt_cursor.specs.Cursors.{spans}
use Rattle.mt_cursor.specs.Sessions.{first_passing, ends_by}
use Rattle.mt_cursor.proofs.accepted.ended_by.Goals as goal

pub loop-count-preserved : goal.loop-count-preserved
loop-count-preserved g c =
    let a = c.index-accepted-count.result in
    let more = passes_more (ends_by c.args.pos) c.args.accepted.now c.loop-count.count a
    (get_at c.args.accepted.now c.loop-count.count a c.loop-count-test.true c.index-accepted-count.is) (le-leb a.span.end c.args.pos c.if-unit-pos.false) in
    one_on (first_passing (ends_by c.args.pos) (spans c.args.accepted.now)) c.loop-count.count
    (λ k. first_passing (ends_by c.args.pos) (spans (drop k c.args.accepted.now))) c.loop-count.invariant more

pub returns-then-unit-pos : goal.returns-then-unit-pos
returns-then-unit-pos g c =
    let a = c.index-accepted-count.result in
    let none = passes_no_more (ends_by c.args.pos) c.args.accepted.now c.loop-count.count a
    (get_at c.args.accepted.now c.loop-count.count a c.loop-count-test.true c.index-accepted-count.is) (lt-leb a.span.end c.args.pos c.if-unit-pos.true) in
    sym (c.loop-count.invariant ∙ ap (λ n. c.loop-count.count + n) none ∙ plus_none c.loop-count.count)
  where
    plus_none : (n : ℕ) → n + 0 ≡ n
    plus_none n = omega arith
