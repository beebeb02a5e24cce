-- One record of laws for a definition with charges and places: that it goes by its allowance, what is found, and the reasons and places of its refusals.
use Rattle.std.specs.Prelude.{ℕ}
use Rattle.mt_term.specs.Reasons.{Reason}
use Rattle.mt_rules.specs.Charges.{Outcome, Done, Refused, Spent}
use Rattle.mt_rules_laws.specs.AllowanceLaws.{GoesByAllowance}
use Rattle.mt_resolver.specs.Resolution.{Resolution, Found, Faults}
use Rattle.mt_refinement_rules.specs.Placed.{Placed}

-- what an outcome must meet: Q of what is found, R of a refusal and its place; a refusal without a place never comes
abbrev pub Met : {A : Type 0} → (A → Type 0) → (Reason → ℕ → Type 0) → Outcome (Resolution A) → Type 0
Met Q R (Done (Found a) left) = Q a
Met Q R (Done (Faults r at) left) = R r at
Met Q R (Refused r left) = ⊥
Met Q R Spent = Unit {0}

pub record Meets {A : Type 0} (Q : A → Type 0) (R : Reason → ℕ → Type 0) (m : Placed A) : Type 0 where
  pub goes : GoesByAllowance m
  pub at : (n : ℕ) → Met Q R (m n)
