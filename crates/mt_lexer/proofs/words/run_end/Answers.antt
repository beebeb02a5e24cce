use Rattle.std.proofs.Common.{sym, ap, ◌∙◌, arith}
use Rattle.mt_lexer.specs.Tokens.{run}
use Rattle.mt_lexer.proofs.Characters.{chars_from-end, run-moves, run-ends}
use Rattle.mt_lexer.proofs.words.run_end.Goals as goal

pub loop-at-preserved : goal.loop-at-preserved
loop-at-preserved c =
    let e = c.char_at-c.ensures in
    let inside = c.loop-at-test.true in
    let passes = sym c.is_in.ensures ∙ c.if-not-is_in.false in
    rw c.len_utf8-at.ensures.value (record {
      boundary = e.next inside;
      after = omega arith;
      same = run-moves c.args.text.now _ _ c.args.class c.args.from c.loop-at.at c.char_at-c.result c.loop-at.invariant.after (e.bytes inside) (e.inside inside) passes c.loop-at.invariant.same;
    })

pub returns-clause-end : goal.returns-clause-end
returns-clause-end c =
    (run-ends c.args.text.now _ c.args.class c.args.from c.loop-at.at c.loop-at.invariant.after c.loop-at.invariant.boundary.0 c.loop-at.invariant.same
    (ap (run c.args.class) (chars_from-end c.args.text.now c.loop-at.at c.loop-at-test.false))).1

pub returns-clause-bytes : goal.returns-clause-bytes
returns-clause-bytes c =
    (run-ends c.args.text.now _ c.args.class c.args.from c.loop-at.at c.loop-at.invariant.after c.loop-at.invariant.boundary.0 c.loop-at.invariant.same
    (ap (run c.args.class) (chars_from-end c.args.text.now c.loop-at.at c.loop-at-test.false))).0
