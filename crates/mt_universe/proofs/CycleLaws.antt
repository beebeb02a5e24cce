-- The test for a cycle says that no valuation meets the constraints.
use Rattle.std.proofs.Common.{◌≡◌, Bool, true, false, true≢false, refl, sym, ◌∙◌}
use Rattle.std.specs.Bool.{Decides}
use Rattle.mt_term.specs.Universes.{Satisfiable}
use Rattle.mt_term.specs.UniverseOrder.{acyclic}
use Rattle.mt_universe.proofs.UniverseOrderLaws.{acyclic_decides}
use Rattle.mt_universe.specs.OrderLaw.{CycleLaw}

-- a test is false exactly where what it decides is not so
false_where_not : {P : Type 0} (b : Bool) → Decides b P → (P → ⊥) → b ≡ false
false_where_not true d n = absurd (n (d.0 refl))
false_where_not false d n = refl

pub cycle_law : CycleLaw
cycle_law cs =
    let d = acyclic_decides cs in
    (d, (λ e s. true≢false (sym (d.1 s) ∙ e), false_where_not (acyclic cs) d))
