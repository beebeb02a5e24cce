-- Steps of a run, as the code takes them.
use Rattle.std.specs.Prelude.{◌≡◌, ◌<◌, ℕ, suc, ◌+◌, Option, Some, None}
use Rattle.mt_term.specs.Trees.{Bytes}
use Rattle.mt_term.specs.Reasons.{Reason, KernelRefused, number_of, Spent as AllowanceSpent}
use Rattle.mt_term.specs.ReasonOf.{reason_of}
use Rattle.mt_rules.specs.Charges.{Outcome, Done, Refused, Spent}
use Rattle.mt_term.specs.declared.refusals.Refusal.{Refusal}
use Rattle.mt_term.specs.declared.refusals.Fault.{Fault as HeldFault}
use Rattle.mt_kernel.specs.Answers.{Answer, Yes, No, Spent as SpentAnswer}
use Rattle.mt_session.specs.declared.sessions.Session.{Session}
use Rattle.mt_session.specs.declared.running.Step.{Step}
use Rattle.mt_session.specs.declared.running.Step.TheVariants.{Accepted, Ended}
use Rattle.mt_session.specs.Moves.{Fault, Move, Goes, Fails}
use Rattle.mt_session.specs.Runs.{Run, run_from, cost_from, ended}
use Rattle.mt_session.specs.Sessions.{AreTables, state_in}

-- what refuses a unit by the kernel's outcome, if anything does
abbrev pub refusal_of : Outcome (Unit {0}) → Option Reason
refusal_of (Done a left) = None
refusal_of (Refused r left) = Some (KernelRefused (number_of r))
refusal_of Spent = Some AllowanceSpent

-- the same by the kernel's answer
abbrev pub refusal_by : Answer → Option Reason
refusal_by (Yes cost) = None
refusal_by (No reason) = Some (KernelRefused (number_of reason))
refusal_by SpentAnswer = Some AllowanceSpent

abbrev pub reason_in : Option Refusal → Option Reason
reason_in None = None
reason_in (Some r) = Some (reason_of r)

abbrev pub fault_of : HeldFault → Fault
fault_of f = (reason_of f.refusal, f.at)

abbrev pub fault_in : Option HeldFault → Option Fault
fault_in None = None
fault_in (Some f) = Some (fault_of f)

-- a unit was accepted, or refused
pub record Accepts (m : Move) (new : Session) : Type 0 where
  pub left : ℕ
  pub is : m ≡ Goes (state_in new) left

pub record Refuses (m : Move) (f : HeldFault) : Type 0 where
  pub left : ℕ
  pub is : m ≡ Fails (fault_of f) left

abbrev pub MovesAs : Move → Session → Session → Step → Type 0
MovesAs m old new Accepted = Accepts m new × AreTables new
MovesAs m old new (Ended None) = ⊥
MovesAs m old new (Ended (Some f)) = Refuses m f × (state_in new ≡ state_in old) × AreTables new

-- at most n more units from a state
abbrev pub run_on : Bytes → ℕ → Session → Run
run_on text n s = run_from text n (state_in s)

abbrev pub cost_on : Bytes → ℕ → Session → ℕ
cost_on text n s = cost_from text n (state_in s)

-- a unit was accepted
pub record GoesOn (text : Bytes) (old new : Session) : Type 0 where
  pub same : (n : ℕ) → run_on text (suc n) old ≡ run_on text n new
  pub place : old.place < new.place
  pub count : new.units ≡ old.units + 1

-- a unit was refused, or there is none
pub record IsOver (text : Bytes) (old new : Session) (f : Option HeldFault) : Type 0 where
  pub same : (n : ℕ) → run_on text (suc n) old ≡ ended (state_in new) (fault_in f)

abbrev pub StepIs : Bytes → Session → Session → Step → Type 0
StepIs text old new Accepted = GoesOn text old new
StepIs text old new (Ended f) = IsOver text old new f

-- the count of steps before and after a unit
abbrev pub CostIs : Bytes → Session → Session → ℕ → ℕ → Step → Type 0
CostIs text old new before now Accepted = (n : ℕ) → before + cost_on text (suc n) old ≡ now + cost_on text n new
CostIs text old new before now (Ended f) = (n : ℕ) → before + cost_on text (suc n) old ≡ now
