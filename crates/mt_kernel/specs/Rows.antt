-- Rows: a number for each universe name, which constraints lengthen.
use Rattle.std.specs.Prelude.{ℕ, ◌+◌, ◌<◌, ◌≤◌, List, length, slice_index}
use Rattle.std.specs.List.{All}
use Rattle.mt_term.specs.Universes.{Constraints, Valuation}
use Rattle.mt_kernel.specs.declared.order.Round.{Round}
use Rattle.mt_kernel.specs.declared.order.Round.TheVariants.{Settled, Longer, Endless}

-- where a row has a number, that many names from o on stand at most at the value
abbrev pub IsBounded : Valuation → ℕ → List ℕ → Type 0
IsBounded v o row = (b : ℕ) → 0 < slice_index row b → o + slice_index row b ≤ v b + 1

-- a constraint does not lengthen the row
abbrev pub Holds : List ℕ → ℕ × ℕ → Type 0
Holds row c = 0 < slice_index row c.0 → slice_index row c.0 < slice_index row c.1

-- no constraint lengthens the row
abbrev pub IsSettled : Constraints → List ℕ → Type 0
IsSettled cs row = All (Holds row) cs

-- each name of the constraints has a place
abbrev pub HasPlaces : Constraints → ℕ → Type 0
HasPlaces cs n = All (λ c. (c.0 < n) × (c.1 < n)) cs

-- no number is more than one above the number of places
abbrev pub IsShort : List ℕ → Type 0
IsShort row = (b : ℕ) → slice_index row b ≤ length row + 1

-- some number is above the number of places
abbrev pub IsTooLong : List ℕ → Type 0
IsTooLong row = (b : ℕ) × (length row < slice_index row b)

-- by how much a row is longer at least
abbrev pub rise : Round → ℕ
rise Settled = 0
rise Longer = 1
rise Endless = 0
