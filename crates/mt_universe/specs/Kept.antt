-- How a graph keeps the order.
use Rattle.std.specs.Prelude.{◌≡◌, ℕ, ◌<◌, ◌≤◌, List, length, slice_index}
use Rattle.mt_term.specs.UniverseOrder.{AreLongest}
use Rattle.mt_universe.specs.Tables.{entry}
use Rattle.mt_universe.specs.Graphs.{Universes, named_in}

-- the tables of paths and heights, which are made with the first name
pub record IsKept (g : Universes) (paths heights : List ℕ) : Type 0 where
  pub few : length g.names ≤ 256
  pub numbered : named_in g.below ≡ length g.names
  pub paths_made : 0 < length g.names → length paths ≡ 65536
  pub heights_made : 0 < length g.names → length heights ≡ 256
  pub longest : AreLongest g.below (entry paths) (slice_index heights)
