-- What a program's replacement puts in for each variable.
use Rattle.std.specs.Prelude.{ℕ}
use Rattle.mt_term.specs.Trees.{Tree, Var}
use Rattle.mt_term.specs.TreeOf.{tree_of, trees_of}
use Rattle.mt_term.specs.Substitution.{then_as, fill, beyond}
use Rattle.mt_term.specs.declared.replacement.Replacement.{Replacement}
use Rattle.mt_term.specs.declared.replacement.Replacement.TheVariants.{One, Under, Filled}
use Rattle.mt_term.specs.declared.replacement.Place.{Place}
use Rattle.mt_term.specs.declared.replacement.Place.TheVariants.{Found, Past}

abbrev pub replacement : Replacement → ℕ → Tree
replacement (One u) = then_as (tree_of u.now) Var
replacement (Under s) = fill (trees_of s.now) beyond
replacement (Filled s) = fill (trees_of s.now) Var

-- the term found, or what σ says of a variable past all terms
abbrev pub at_place : (ℕ → Tree) → Place → Tree
at_place σ (Found u) = tree_of u.now
at_place σ (Past i) = σ i
