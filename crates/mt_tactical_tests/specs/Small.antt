-- A small prover: how many goals were made, and which of them are closed.
-- An action is a number: its last digit is its cost, the digit before that how many goals it makes, and the rest, if not 0, a goal that it closes besides its own.
use Rattle.std.specs.Prelude.{ℕ, zero, suc, Bool, true, false, not, ◌&&◌, List, [], ◌∷◌, ◌+◌, ◌-◌, ◌/◌, ◌%◌, ltb, leb, nat_eq, if◌then◌else◌}
use Rattle.std.specs.List.{list_any}
use Rattle.mt_tiny.specs.Outcomes.{Outcome, Done, Stopped, Charged}
use Rattle.mt_tiny.specs.Provers.{ProverRules}
use Rattle.mt_tactical_tests.specs.declared.prover.SmallStop.{SmallStop}
use Rattle.mt_tactical_tests.specs.declared.prover.SmallStop.TheVariants as stops

abbrev pub SmallState : Type 0
SmallState = ℕ × List ℕ

abbrev pub is_closed : SmallState → ℕ → Bool
is_closed s g = list_any (λ c. nat_eq c g) s.1

abbrev pub is_goal : SmallState → ℕ → Bool
is_goal s g = ltb g s.0

-- numbers from this one on
abbrev pub from_on : ℕ → ℕ → List ℕ
from_on i zero = []
from_on i (suc k) = i ∷ from_on (suc i) k

-- this goal and, if it is not 0, the other
abbrev pub with_other : ℕ → ℕ → List ℕ → List ℕ
with_other g zero gs = g ∷ gs
with_other g (suc h) gs = suc h ∷ (g ∷ gs)

-- an action that costs 9 is refused, and so is one where 1,000 goals were made
abbrev pub is_refused : ℕ → SmallState → Bool
is_refused a s = if nat_eq (a % 10) 9 then true else leb 1000 s.0

abbrev pub apply : ℕ → ℕ → SmallState → Charged SmallStop (SmallState × List ℕ)
apply a g s n =
    if is_refused a s then Stopped stops.Refused n else
    (if leb (a % 10) n then Done ((s.0 + a / 10 % 10, with_other g (a / 100) s.1), from_on s.0 (a / 10 % 10)) (n - a % 10) else Stopped stops.Spent 0)

abbrev pub small : ProverRules SmallState ℕ SmallStop
small = record { is_open = λ s g. is_goal s g && not (is_closed s g); apply = apply }
