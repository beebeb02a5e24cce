-- How what a call answers agrees with the meaning of a closed tactical.
use Rattle.std.specs.Prelude.{◌≡◌, ◌≤◌, ℕ, Result, Ok, Err}
use Rattle.mt_tiny.specs.Outcomes.{Outcome, Done, Stopped, rest}
use Rattle.mt_tiny.specs.Goals.{NoGoal, NoBranch, NoSuchPosition, NotHere, ByProver}
use Rattle.mt_tiny.specs.declared.stops.TinyStop.{TinyStop}
use Rattle.mt_tiny.specs.declared.stops.TinyStop.TheVariants as stops
use Rattle.mt_tactical.specs.Meaning.{Stop}
use Rattle.mt_tactical.specs.declared.stops.BlockStop.{BlockStop}

-- It stops so at this place, and leaves as much. Where memory is wanting, it leaves at most as much, and the place says nothing.
abbrev pub StopsAt : {S R A : Type 0} → (S → R) → Outcome (Stop R) A → ℕ → ℕ → TinyStop S → Type 0
StopsAt view o left at stops.NoGoal = o ≡ Stopped (NoGoal, at) left
StopsAt view o left at stops.NoBranch = o ≡ Stopped (NoBranch, at) left
StopsAt view o left at stops.NoSuchPosition = o ≡ Stopped (NoSuchPosition, at) left
StopsAt view o left at stops.NotHere = o ≡ Stopped (NotHere, at) left
StopsAt view o left at (stops.Prover s) = o ≡ Stopped (ByProver (view s), at) left
StopsAt view o left at stops.OutOfMemory = rest o ≤ left

-- the meaning gives what the call answers, and leaves as much
abbrev pub BlockAnswers : {S R A B : Type 0} → (B → A) → (S → R) → Outcome (Stop R) A → ℕ → Result B (BlockStop S) → Type 0
BlockAnswers value view o left (Ok b) = o ≡ Done (value b) left
BlockAnswers value view o left (Err e) = StopsAt view o left e.at e.stop
