-- Graphs of universes as contracts see them.
use Rattle.std.specs.Prelude.{◌≡◌, ℕ, ◌+◌, ◌≤◌, max, if◌then◌else◌, nat_lt, List, [], ◌∷◌, ◌++◌}
use Rattle.std.specs.Prelude.{length, take, Option}
use Rattle.std.specs.List.{position, position_or_len}
use Rattle.std.specs.Str.{bytes_eq}
use Rattle.mt_term.specs.Trees.{Bytes}
use Rattle.mt_term.specs.Universes.{Constraints, Satisfiable}

-- the names, by number, and the constraints on their numbers, oldest first
pub record Universes : Type 0 where
  pub names : List Bytes
  pub below : Constraints

abbrev pub number_of : List Bytes → Bytes → Option ℕ
number_of names x = position (bytes_eq x) names

-- the number of a name, or the next number
abbrev pub number_or_next : List Bytes → Bytes → ℕ
number_or_next names x = position_or_len (bytes_eq x) names

-- a name without a number gets the next one
abbrev pub named : List Bytes → Bytes → List Bytes
named names x = if nat_lt (number_or_next names x) (length names) then names else names ++ x ∷ []

-- with the constraint that a is below b
abbrev pub declared : Universes → Bytes → Bytes → Universes
declared g a b =
    let first = named g.names a in
    record {
      names = named first b;
      below = g.below ++ (number_or_next g.names a, number_or_next first b) ∷ [];
    }

abbrev pub no_names : Universes
no_names = record { names = []; below = [] }

-- how many names stand in the constraints, since they are numbered by their first places there
abbrev pub named_in : Constraints → ℕ
named_in [] = 0
named_in (c ∷ cs) = max (max (c.0 + 1) (c.1 + 1)) (named_in cs)

-- as it stood after so many constraints
abbrev pub as_at : Universes → ℕ → Universes
as_at g count =
    record { names = take (named_in (take count g.below)) g.names; below = take count g.below }

-- what holds of every graph
pub record IsGraph (g : Universes) : Type 0 where
  pub few : length g.names ≤ 256
  pub numbered : named_in g.below ≡ length g.names
  pub satisfiable : Satisfiable g.below
