-- Arguments with verdicts, as the code holds them.
use Rattle.std.specs.Prelude.{ℕ, zero, ◌<◌, Bool, false, ◌&&◌, List, [], ◌∷◌, Option, Some, None}
use Rattle.mt_term.specs.Trees.{Tree}
use Rattle.mt_term.specs.Declarations.{Environment}
use Rattle.mt_pool.specs.Region.{tree_at}
use Rattle.mt_guard.specs.Corecursive.{Judged, fit}
use Rattle.mt_guard.specs.Lookups.{Making, making_at}
use Rattle.mt_guard.specs.declared.corecursion.Judged.{Judged as HeldJudged, End as NoMore, More'}

abbrev pub judged_in : List Tree → HeldJudged → List Judged
judged_in p NoMore = []
judged_in p (More' a b q rest) = (tree_at p a, b) ∷ judged_in p rest

abbrev pub JudgedBelow : ℕ → HeldJudged → Type 0
JudgedBelow n NoMore = Unit {0}
JudgedBelow n (More' a b q rest) = (a.at < n) × JudgedBelow n rest

-- whether the arguments of a constructor of type e, which must be coinductive, are guarded
abbrev pub making_fits : ℕ → ℕ → Option Making → List Judged → Bool
making_fits f e None vs = false
making_fits f e (Some m) vs = m.co && fit f e m.params m.indices m.params zero m.constructor vs

abbrev pub fits_at : Environment → ℕ → ℕ → ℕ → List Judged → Bool
fits_at E f e k vs = making_fits f e (making_at E e k) vs
