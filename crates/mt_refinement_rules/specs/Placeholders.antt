-- The rule of `?`: a new open metavariable of the expected type.
use Rattle.std.specs.Prelude.{ℕ, Some, None}
use Rattle.mt_term.specs.Reasons.{NoExpected}
use Rattle.mt_unification_rules.specs.Placeholders.{placeholder}
use Rattle.mt_refinement_rules.specs.Placed.{found, faults}
use Rattle.mt_refinement_rules.specs.Finishing.{Refinement}

abbrev pub by_placeholder : ℕ → Refinement
by_placeholder at ms Γ None = faults NoExpected at
by_placeholder at ms Γ (Some T) = found (placeholder ms Γ T)
