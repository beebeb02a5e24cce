-- The tests of the order of sorts are the order by valuations, as statements.
use Rattle.std.specs.Prelude.{◌≡◌, ◌↔◌, IsTrue, false}
use Rattle.mt_term.specs.declared.universes.UnivExpr.{UnivExpr}
use Rattle.mt_term.specs.declared.universes.Sort.{Sort}
use Rattle.mt_term.specs.Universes.{Constraints, Satisfiable, IsAtMost, SortIsAtMost}
use Rattle.mt_term.specs.UniverseOrder.{acyclic, at_most, sort_at_most, sort_same, SortIsSame}

-- one expression is at most another
abbrev pub ExpressionOrderLaw : Type 0
ExpressionOrderLaw = (cs : Constraints) (u w : UnivExpr) →
    IsTrue (at_most cs u w) ↔ IsAtMost cs u w

-- one sort is at most another
abbrev pub SortOrderLaw : Type 0
SortOrderLaw = (cs : Constraints) (s t : Sort) →
    IsTrue (sort_at_most cs s t) ↔ SortIsAtMost cs s t

-- two sorts are the same
abbrev pub SameSortLaw : Type 0
SameSortLaw = (cs : Constraints) (s t : Sort) →
    IsTrue (sort_same cs s t) ↔ SortIsSame cs s t

-- constraints have no cycle where some valuation meets them, and have one where none does
abbrev pub CycleLaw : Type 0
CycleLaw = (cs : Constraints) →
    (IsTrue (acyclic cs) ↔ Satisfiable cs) × ((acyclic cs ≡ false) ↔ (Satisfiable cs → ⊥))
