use Rattle.std.proofs.Common.{◌≡◌, ◌-◌, ◌≤◌, false, length}
use Rattle.std.specs.Str.{IsCharBoundary}
use Rattle.mt_lexer.specs.Tokens.{chars_from, gap}
use Rattle.mt_lexer.proofs.gaps.skip_gap.Given as goal

abbrev pub invariant-loop-at : goal.invariant-loop-at
invariant-loop-at l = record {
  boundary : IsCharBoundary l.text l.at;
  after : l.from ≤ l.at;
  depth_left : l.depth ≤ l.at;
  same : gap l.depth false l.at (chars_from l.text l.at) ≡ gap 0 false l.from (chars_from l.text l.from);
}

abbrev pub decreases-loop-at : goal.decreases-loop-at
decreases-loop-at l = length l.text - l.at
