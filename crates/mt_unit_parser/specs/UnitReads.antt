-- Calls that read units, against readings.
use Rattle.std.specs.Prelude.{◌≡◌, ℕ, ◌<◌, ◌≤◌, List, Option, Some, None, Result, MatchResult}
use Rattle.std.specs.Str.{IsCharBoundary}
use Rattle.mt_term.specs.declared.refusals.Halt.{Halt}
use Rattle.mt_term_parser.specs.Readings.{Reading, Got, HaltsAs}
use Rattle.mt_unit_parser.specs.declared.units.Unit.{Unit as ProgramUnit}
use Rattle.mt_unit_parser.specs.declared.units.Parsed.{Parsed}
use Rattle.mt_unit_parser.specs.declared.units.Parsed.TheVariants as parsed
use Rattle.mt_unit_parser.specs.WrittenUnits.{WrittenUnit}
use Rattle.mt_unit_parser.specs.UnitOf.{unit_of}

-- a call read the unit that the reading does, or memory was wanting
abbrev pub ReadsUnit : Reading WrittenUnit → Result ProgramUnit Halt → Type 0
ReadsUnit d r = MatchResult r (λ u. d ≡ Got (unit_of u) u.span.seen) (HaltsAs d)

abbrev pub IsRead : Reading (Option WrittenUnit) → Parsed → Type 0
IsRead d (parsed.Unit u) = d ≡ Got (Some (unit_of u)) u.span.seen
IsRead d parsed.End = d ≡ Got None 0

-- a unit that stands at a place or after it, on the bounds of characters
pub record IsSpan (text : List ℕ) (at : ℕ) (u : ProgramUnit) : Type 0 where
  pub after : at ≤ u.span.start
  pub order : u.span.start < u.span.end
  pub reach : u.span.end ≤ u.span.seen
  pub start : IsCharBoundary text u.span.start
  pub stop : IsCharBoundary text u.span.end
  pub bound : IsCharBoundary text u.span.seen

abbrev pub IsParsed : List ℕ → ℕ → Parsed → Type 0
IsParsed text at (parsed.Unit u) = IsSpan text at u
IsParsed text at parsed.End = Unit {0}
