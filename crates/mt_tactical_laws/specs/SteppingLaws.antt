-- How a closed tactical and its tinycals, taken one by one, agree.
use Rattle.std.specs.Prelude.{◌≡◌, ◌≤◌, ℕ, List, Some, None}
use Rattle.mt_tiny.specs.Outcomes.{Done, Stopped}
use Rattle.mt_tiny.specs.Provers.{ProverRules}
use Rattle.mt_tiny.specs.Stepping.{Stacked, stack, stepped}
use Rattle.mt_tiny.specs.declared.levels.Level.{Level}
use Rattle.mt_tactical.specs.Tacticals.{Sequence}
use Rattle.mt_tactical.specs.Meaning.{Stop, meaning, block_step}
use Rattle.mt_tactical.specs.Tinycals.{tinycals}

module _ {P A R : Type 0} (v : ProverRules P A R) where
  -- Where the tactical succeeds at an allowance, its tinycals in the order written, each at an allowance no smaller, lead to
  -- the same state, the same focus and the same pending. All else in the stack is as before, but for `fresh` of the top.
  abbrev pub SteppingLaw : Type 0
  SteppingLaw =
      (c : Sequence A) (s : P) (T : Level) (bs : List Level) (n full : ℕ) → n ≤ full
      → (x : P × List ℕ × List ℕ) (left : ℕ) → meaning v c s T.focus T.pending n ≡ Done x left
      → (fresh : ℕ) × (stepped v full (tinycals c) s (stack T bs) ≡ Some (x.0, stack (record T { focus = x.1; pending = x.2; fresh = fresh }) bs))

  -- where a step stops, the tactical stops
  abbrev pub StoppingLaw : Type 0
  StoppingLaw =
      (c : Sequence A) (s : P) (T : Level) (bs : List Level) (n full : ℕ) → n ≤ full
      → stepped v full (tinycals c) s (stack T bs) ≡ None
      → (r : Stop R) × (left : ℕ) × (meaning v c s T.focus T.pending n ≡ Stopped r left)

  -- the same of a block: its stack, and the stack after the steps, differ in `fresh` of the top alone
  abbrev pub BlockLaw : Type 0
  BlockLaw =
      (c : Sequence A) (s : P) (T : Level) (bs : List Level) (n full : ℕ) → n ≤ full
      → (y : P × Stacked) (left : ℕ) → block_step v c s T bs n ≡ Done y left
      → (fresh : ℕ) × (stepped v full (tinycals c) s (stack T bs) ≡ Some (y.0, stack (record y.1.top { fresh = fresh }) y.1.below))
