-- How what a call answers agrees with a definition.
use Rattle.std.specs.Prelude.{◌≡◌, ◌≤◌, ℕ, Result, Ok, Err}
use Rattle.mt_tiny.specs.Outcomes.{Outcome, Done, Stopped, rest}
use Rattle.mt_tiny.specs.Goals.{Refusal, NoGoal, NoBranch, NoSuchPosition, NotHere, ByProver}
use Rattle.mt_tiny.specs.declared.provers.ProverStop.{ProverStop}
use Rattle.mt_tiny.specs.declared.provers.ProverStop.TheVariants as prover
use Rattle.mt_tiny.specs.declared.stops.TinyStop.{TinyStop}
use Rattle.mt_tiny.specs.declared.stops.TinyStop.TheVariants as stops
use Rattle.mt_tiny.specs.declared.Tiny.{Tiny}
use Rattle.mt_tiny.specs.declared.Tiny.TheVariants as tiny

-- The definition gives what the prover answers, and leaves as much. Where memory is wanting, it leaves at most as much.
abbrev pub ProverAnswers : {S R A B : Type 0} → (B → A) → (S → R) → Outcome R A → ℕ → Result B (ProverStop S) → Type 0
ProverAnswers value view o left (Ok b) = o ≡ Done (value b) left
ProverAnswers value view o left (Err (prover.Refused s)) = o ≡ Stopped (view s) left
ProverAnswers value view o left (Err prover.OutOfMemory) = rest o ≤ left

-- the same of a step
abbrev pub Answers : {S R A B : Type 0} → (B → A) → (S → R) → Outcome (Refusal R) A → ℕ → Result B (TinyStop S) → Type 0
Answers value view o left (Ok b) = o ≡ Done (value b) left
Answers value view o left (Err stops.NoGoal) = o ≡ Stopped NoGoal left
Answers value view o left (Err stops.NoBranch) = o ≡ Stopped NoBranch left
Answers value view o left (Err stops.NoSuchPosition) = o ≡ Stopped NoSuchPosition left
Answers value view o left (Err stops.NotHere) = o ≡ Stopped NotHere left
Answers value view o left (Err (stops.Prover s)) = o ≡ Stopped (ByProver (view s)) left
Answers value view o left (Err stops.OutOfMemory) = rest o ≤ left

-- it has all the memory that it needs
abbrev pub HasMemory : {B S : Type 0} → Result B (TinyStop S) → Type 0
HasMemory (Ok b) = Unit {0}
HasMemory (Err stops.NoGoal) = Unit {0}
HasMemory (Err stops.NoBranch) = Unit {0}
HasMemory (Err stops.NoSuchPosition) = Unit {0}
HasMemory (Err stops.NotHere) = Unit {0}
HasMemory (Err (stops.Prover s)) = Unit {0}
HasMemory (Err stops.OutOfMemory) = ⊥

-- the steps that take no memory
abbrev pub TakesNoMemory : {T : Type 0} → Tiny T → Type 0
TakesNoMemory tiny.Semicolon = Unit {0}
TakesNoMemory tiny.Skip = Unit {0}
TakesNoMemory tiny.Unfocus = Unit {0}
TakesNoMemory (tiny.Action a) = ⊥
TakesNoMemory tiny.Dot = ⊥
TakesNoMemory tiny.BranchOpen = ⊥
TakesNoMemory tiny.Bar = ⊥
TakesNoMemory tiny.BranchClose = ⊥
TakesNoMemory (tiny.Positions is) = ⊥
TakesNoMemory tiny.Wildcard = ⊥
TakesNoMemory (tiny.Focus ns) = ⊥
