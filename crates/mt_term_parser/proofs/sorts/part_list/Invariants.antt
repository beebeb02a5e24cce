use Rattle.std.proofs.Common.{◌-◌, ◌<◌, length}
use Rattle.std.specs.Str.{IsCharBoundary}
use Rattle.mt_term_parser.specs.Readings.{sees_sign}
use Rattle.mt_term_parser.specs.Grammar.{led, separated, part_at}
use Rattle.mt_term_parser.proofs.Rows.{Row}
use Rattle.mt_term_parser.proofs.sorts.part_list.Given as goal

abbrev pub invariant-row : goal.invariant-row
invariant-row l = record {
  boundary : IsCharBoundary l.text l.end;
  order : l.at < l.end;
  row : Row l.text (sees_sign 44 l.text) (led 44 l.text (part_at l.text)) (separated 44 l.text (part_at l.text) l.at) l.parts l.end;
}

abbrev pub decreases-row : goal.decreases-row
decreases-row l = length l.text - l.end
