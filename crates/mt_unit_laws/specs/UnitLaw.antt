-- What decides a unit, and where units and faults stand.
use Rattle.std.specs.Prelude.{◌≡◌, ℕ, ◌<◌, ◌≤◌, List, take, Some}
use Rattle.std.specs.Str.{IsUtf8, IsCharBoundary}
use Rattle.mt_term.specs.Reasons.{Reason}
use Rattle.mt_term_parser.specs.Readings.{Got, Stops}
use Rattle.mt_unit_parser.specs.WrittenUnits.{WrittenUnit}
use Rattle.mt_unit_parser.specs.Blocks.{unit}

-- a unit of a text is a unit at the same place of each text that begins with the same `seen` bytes
abbrev pub UnitLaw : Type 0
UnitLaw = (a b : List ℕ) (at : ℕ) (u : WrittenUnit) → IsUtf8 a → IsUtf8 b → IsCharBoundary a at
    → unit a at ≡ Got (Some u) u.seen → take u.seen a ≡ take u.seen b → unit b at ≡ Got (Some u) u.seen

-- a unit stands at a place or after it, has text, ends no later than it is decided, and has its places on the bounds of characters
pub record IsPlacedUnit (text : List ℕ) (at : ℕ) (u : WrittenUnit) : Type 0 where
  pub after : at ≤ u.start
  pub order : u.start < u.end
  pub reach : u.end ≤ u.seen
  pub start : IsCharBoundary text u.start
  pub stop : IsCharBoundary text u.end
  pub bound : IsCharBoundary text u.seen

abbrev pub PlaceLaw : Type 0
PlaceLaw = (text : List ℕ) (at : ℕ) (u : WrittenUnit) (end : ℕ) → IsUtf8 text → IsCharBoundary text at → unit text at ≡ Got (Some u) end → IsPlacedUnit text at u × (end ≡ u.seen)

-- the place of a fault is the bound of a character
abbrev pub FaultLaw : Type 0
FaultLaw = (text : List ℕ) (at : ℕ) (reason : Reason) (place : ℕ) → IsUtf8 text → IsCharBoundary text at → unit text at ≡ Stops reason place → IsCharBoundary text place
