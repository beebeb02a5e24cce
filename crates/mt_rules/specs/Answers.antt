-- How what a call answers agrees with the written definition.
use Rattle.std.specs.Prelude.{◌≡◌, ◌≤◌, ℕ, Result, Ok, Err}
use Rattle.mt_term.specs.ReasonOf.{reason_of}
use Rattle.mt_term.specs.declared.refusals.Stop.{Stop}
use Rattle.mt_term.specs.declared.refusals.Stop.TheVariants as stop
use Rattle.mt_rules.specs.Charges.{Outcome, Done, Refused, Spent, rest}

-- The definition gives what the call answers, and leaves as much. Where memory is wanting, it
-- leaves at most as much.
abbrev pub Answers : {A B : Type 0} → (B → A) → Outcome A → ℕ → Result B Stop → Type 0
Answers value o left (Ok b) = o ≡ Done (value b) left
Answers value o left (Err (stop.Refused r)) = o ≡ Refused (reason_of r) left
Answers value o left (Err stop.Spent) = (o ≡ Spent) × (left ≡ 0)
Answers value o left (Err stop.OutOfMemory) = rest o ≤ left
