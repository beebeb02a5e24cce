-- A stack as a list of its levels, the top last.
use Rattle.std.specs.Prelude.{List, [], ◌∷◌, ◌++◌, reverse}
use Rattle.mt_tiny.specs.Stepping.{Stacked, stack, bottom}
use Rattle.mt_tiny.specs.declared.levels.Level.{Level}

abbrev pub listed : Stacked → List Level
listed L = reverse L.below ++ (L.top ∷ [])

-- the levels, the top first
abbrev pub from_top : List Level → Stacked
from_top [] = bottom []
from_top (T ∷ bs) = stack T bs

abbrev pub stack_of : List Level → Stacked
stack_of Ls = from_top (reverse Ls)
