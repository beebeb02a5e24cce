-- The goal at a position, by its place in the list.
use Rattle.std.specs.Prelude.{◌≡◌, ◌<◌, ℕ, Option, Some, None, remove, slice_index_or, length}
use Rattle.mt_tiny.specs.Goals.{Placed, taken}

-- what is taken stands at this place; where there is no such place, nothing is taken
abbrev pub IsPlaceOf : ℕ → Placed → Option ℕ → Type 0
IsPlaceOf position xs None = taken position xs ≡ None
IsPlaceOf position xs (Some k) =
    (k < length xs) × (taken position xs ≡ Some ((slice_index_or xs k (0, 0)).1, remove xs k))
