use Rattle.std.proofs.Common.{◌≡◌, ◌-◌, ◌≤◌, ◌++◌, length, take, drop}
use Rattle.std.specs.Str.{IsCharBoundary}
use Rattle.mt_lexer.specs.Tokens.{chars_from, run}
use Rattle.mt_lexer.proofs.words.run_end.Given as goal

abbrev pub invariant-loop-at : goal.invariant-loop-at
invariant-loop-at l = record {
  boundary : IsCharBoundary l.text l.at;
  after : l.from ≤ l.at;
  same : run l.class (chars_from l.text l.from) ≡ take (l.at - l.from) (drop l.from l.text) ++ run l.class (chars_from l.text l.at);
}

abbrev pub decreases-loop-at : goal.decreases-loop-at
decreases-loop-at l = length l.text - l.at
