use Rattle.std.proofs.Common.{◌-◌, ◌<◌, ◌≤◌, length, map}
use Rattle.std.specs.Str.{IsCharBoundary}
use Rattle.mt_term_parser.proofs.Rows.{Row, after}
use Rattle.mt_term_parser.specs.Readings.{many_from, number, sees_sign}
use Rattle.mt_term_parser.specs.Grammar.{led, separated}
use Rattle.mt_unit_parser.specs.UnitOf.{group_of, con_of, eq_of}
use Rattle.mt_unit_parser.specs.Units.{group, groups, constructor, variable, equation}
use Rattle.mt_unit_parser.proofs.commands.more_groups.Given as goal

abbrev pub invariant-row : goal.invariant-row
invariant-row l = record {
  boundary : IsCharBoundary l.text l.end;
  order : l.at ≤ l.end;
  row : Row l.text (sees_sign 40 l.text) (group l.text) (after (map group_of l.fn.before) (groups l.text l.at)) (map group_of l.groups) l.end;
}

abbrev pub decreases-row : goal.decreases-row
decreases-row l = length l.text - l.end
