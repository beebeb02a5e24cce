use Rattle.std.proofs.Common.{◌≡◌, ℕ, ◌+◌, suc, true, false, drop, length, ap, sym, ◌∙◌, arith}
use Rattle.std.proofs.lemmas.Bool.{le-leb}
use Rattle.std.proofs.lemmas.Bool.{lt-leb}
use Rattle.mt_cursor.proofs.Lists.{get_at, one_on}
use Rattle.mt_cursor.proofs.Running.{passes_more, passes_no_more}
use Rattle.mt_cursor.specs.Cursors.{spans}
use Rattle.mt_cursor.specs.Sessions.{first_passing, is_seen_by}
use Rattle.mt_cursor.proofs.accepted.seen_by.Goals as goal

pub loop-count-preserved : goal.loop-count-preserved
loop-count-preserved g c =
    let a = c.index-accepted-count.result in
    let more = passes_more (is_seen_by c.args.start) c.args.accepted.now c.loop-count.count a
    (get_at c.args.accepted.now c.loop-count.count a c.loop-count-test.true c.index-accepted-count.is) (le-leb a.span.seen c.args.start c.if-unit-start.false) in
    one_on (first_passing (is_seen_by c.args.start) (spans c.args.accepted.now)) c.loop-count.count
    (λ k. first_passing (is_seen_by c.args.start) (spans (drop k c.args.accepted.now))) c.loop-count.invariant more

pub returns-then-unit-start : goal.returns-then-unit-start
returns-then-unit-start g c =
    let a = c.index-accepted-count.result in
    let none = passes_no_more (is_seen_by c.args.start) c.args.accepted.now c.loop-count.count a
    (get_at c.args.accepted.now c.loop-count.count a c.loop-count-test.true c.index-accepted-count.is) (lt-leb a.span.seen c.args.start c.if-unit-start.true) in
    sym (c.loop-count.invariant ∙ ap (λ n. c.loop-count.count + n) none ∙ plus_none c.loop-count.count)
  where
    plus_none : (n : ℕ) → n + 0 ≡ n
    plus_none n = omega arith
