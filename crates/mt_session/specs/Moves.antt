-- One unit from a state, under an allowance.
use Rattle.std.specs.Prelude.{ℕ, zero, suc, ◌-◌, Bool, true, false, if◌then◌else◌}
use Rattle.mt_term.specs.Declarations.{Declaration}
use Rattle.mt_term.specs.Reasons.{Reason, KernelRefused, number_of, Spent as AllowanceSpent}
use Rattle.mt_rules.specs.Charges.{Outcome, Done, Refused, Spent}
use Rattle.mt_term.specs.ScriptState.{State}
use Rattle.mt_unit_parser.specs.WrittenUnits.{WrittenUnit}
use Rattle.mt_resolver.specs.Resolution.{Resolution, Found, Faults}
use Rattle.mt_decl.specs.Answers.{Answer, Made}
use Rattle.mt_decl.specs.Answers as answers
use Rattle.mt_decl.specs.Declaring.{declared_entry}
use Rattle.mt_session.specs.Tasks.{Task, judged, changed, with_entry_noted}
use Rattle.mt_session.specs.Plans.{asked, declares, takes_charge}

-- why a unit is refused, and the place
abbrev pub Fault : Type 0
Fault = Reason × ℕ

-- the unit was accepted, or refused; and what is left of the allowance
pub data Move : Type 0 where
  Goes : State → ℕ → Move
  Fails : Fault → ℕ → Move

-- by what the kernel says: its No and the end of the allowance stand at the unit's start
abbrev pub move_by : State → ℕ → ℕ → Task → Outcome (Unit {0}) → Move
move_by s start end k (Done z left) = Goes (changed s end k) left
move_by s start end k (Refused r left) = Fails (KernelRefused (number_of r), start) left
move_by s start end k Spent = Fails (AllowanceSpent, start) 0

-- by what the unit asks for
abbrev pub move_for : State → ℕ → ℕ → Resolution Task → ℕ → Move
move_for s start end (Found k) n = move_by s start end k (judged s.env k n)
move_for s start end (Faults r at) n = Fails (r, at) n

-- after a charge, where one is taken
abbrev pub after_charge : Bool → ℕ → (ℕ → Move) → ℕ → Move
after_charge false start m n = m n
after_charge true start m zero = Fails (AllowanceSpent, start) 0
after_charge true start m (suc n) = m n

-- a unit that declares no entry
abbrev pub move_asked : State → WrittenUnit → ℕ → Move
move_asked s u n = after_charge (takes_charge s.proof u.kind) u.start (move_for s u.start u.end (asked s u.start u.kind)) n

-- by the entry that a unit declares: a refusal has a place of its own, and the end of the allowance stands at the unit's start
abbrev pub move_by_entry : State → ℕ → ℕ → Answer Declaration → Move
move_by_entry s start end (Made d left) = Goes (with_entry_noted s end d) left
move_by_entry s start end (answers.Refused r at left) = Fails (r, at) left
move_by_entry s start end answers.Spent = Fails (AllowanceSpent, start) 0

abbrev pub move_declared : State → WrittenUnit → ℕ → Move
move_declared s u n = move_by_entry s u.start u.end (declared_entry s.env u.start u.kind n)

abbrev pub move : State → WrittenUnit → ℕ → Move
move s u n = if declares s.proof u.kind then move_declared s u n else move_asked s u n

-- the charges that were taken of an allowance
abbrev pub charges_in : ℕ → Move → ℕ
charges_in n (Goes s left) = n - left
charges_in n (Fails b left) = n - left
