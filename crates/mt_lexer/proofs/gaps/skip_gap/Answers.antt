use Rattle.std.proofs.Common.{sym, ◌∙◌, arith}
use Rattle.mt_lexer.proofs.Pieces.{gap-end, gap-open}
use Rattle.mt_lexer.proofs.gaps.skip_gap.Goals as goal

pub returns-then-depth-eq0-clause-gap : goal.returns-then-depth-eq0-clause-gap
returns-then-depth-eq0-clause-gap c =
    sym (gap-end c.args.text.now c.loop-at.depth c.loop-at.at (omega arith) (omega arith)) ∙ c.loop-at.invariant.same

pub returns-else-depth-eq0-clause-gap : goal.returns-else-depth-eq0-clause-gap
returns-else-depth-eq0-clause-gap c =
    sym (gap-open c.args.text.now c.loop-at.depth c.loop-at.at (omega arith) c.if-depth-eq0.false) ∙ c.loop-at.invariant.same
