use Rattle.std.proofs.Common.{◌-◌, ◌≤◌, length}
use Rattle.std.specs.Str.{IsCharBoundary}
use Rattle.mt_term_parser.specs.Readings.{binder, is_name_kind, many_from, sees}
use Rattle.mt_term_parser.proofs.Rows.{Row}
use Rattle.mt_term_parser.proofs.readings.binders_at.Given as goal

abbrev pub invariant-row : goal.invariant-row
invariant-row l = record {
  boundary : IsCharBoundary l.text l.end;
  order : l.at ≤ l.end;
  row : Row l.text (sees (λ t. is_name_kind t.kind) l.text) (binder l.text) (many_from l.text (sees (λ t. is_name_kind t.kind) l.text) (binder l.text) l.at) l.names l.end;
}

abbrev pub decreases-row : goal.decreases-row
decreases-row l = length l.text - l.end
