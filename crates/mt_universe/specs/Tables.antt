-- Path lengths as the program keeps them: a table with a row of 256 for each name.
use Rattle.std.specs.Prelude.{◌≡◌, ℕ, ◌+◌, ◌*◌, ◌&&◌, ◌==◌, nat_lt, if◌then◌else◌, List, length}
use Rattle.std.specs.Prelude.{slice_index, slice_index_or}

-- how many names stand on the path of a name alone
abbrev pub alone : ℕ → ℕ → ℕ
alone a b = if a == b then 1 else 0

-- the length that a table says; a name that it does not have is on no path but its own
unfoldable pub entry : List ℕ → ℕ → ℕ → ℕ
entry table a b =
    if nat_lt a 256
    && nat_lt b 256 then slice_index_or table (256 * a + b) (alone a b) else alone a b

-- tables of no constraints
pub record AreFresh (paths heights : List ℕ) : Type 0 where
  pub paths_made : length paths ≡ 65536
  pub heights_made : length heights ≡ 256
  pub no_paths : (a b : ℕ) → entry paths a b ≡ alone a b
  pub no_heights : (b : ℕ) → slice_index heights b ≡ 0
