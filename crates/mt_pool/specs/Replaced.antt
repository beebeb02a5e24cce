-- What a replacement by ids puts in for each variable.
use Rattle.std.specs.Prelude.{ℕ, ◌<◌, List}
use Rattle.mt_term.specs.Trees.{Tree, Var}
use Rattle.mt_term.specs.Substitution.{then_as, fill, beyond}
use Rattle.mt_pool.specs.declared.replacement.Replacement.{Replacement}
use Rattle.mt_pool.specs.declared.replacement.Replacement.TheVariants.{One, Under, Filled}
use Rattle.mt_pool.specs.declared.replacement.Place.{Place}
use Rattle.mt_pool.specs.declared.replacement.Place.TheVariants.{Found, Past}
use Rattle.mt_pool.specs.Region.{tree_at, trees_at, AllBelow}

abbrev pub replacement_in : List Tree → Replacement → ℕ → Tree
replacement_in p (One u) = then_as (tree_at p u) Var
replacement_in p (Under s) = fill (trees_at p s.now) beyond
replacement_in p (Filled s) = fill (trees_at p s.now) Var

-- its ids are held where there are n
abbrev pub ReplacementBelow : ℕ → Replacement → Type 0
ReplacementBelow n (One u) = u.at < n
ReplacementBelow n (Under s) = AllBelow n s.now
ReplacementBelow n (Filled s) = AllBelow n s.now

-- the tree that is found, or what σ says of a variable past all terms
abbrev pub at_place : List Tree → (ℕ → Tree) → Place → Tree
at_place p σ (Found k) = tree_at p k
at_place p σ (Past i) = σ i

abbrev pub PlaceBelow : ℕ → Place → Type 0
PlaceBelow n (Found k) = k.at < n
PlaceBelow n (Past i) = Unit {0}
