-- The laws as they are stated.
use Rattle.std.proofs.Common.{◌≡◌, ℕ, List, refl}
use Rattle.mt_tiny.specs.Outcomes.{Outcome, Done, Stopped}
use Rattle.mt_tiny.specs.Provers.{ProverRules, LeavesNoMore, SucceedsOn}
use Rattle.mt_tactical.specs.Meaning.{Stop, meaning}
use Rattle.mt_tactical_laws.specs.SteppingLaws.{SteppingLaw, StoppingLaw, BlockLaw}
use Rattle.mt_tactical_laws.proofs.Greater.{LawfulOn}
use Rattle.mt_tactical_laws.proofs.Law.{stepping, stopped, block-stepping}

module _ {P A R : Type 0} (v : ProverRules P A R) (greater : SucceedsOn v) (no_more : LeavesNoMore v) where
  lawful : LawfulOn v
  lawful = record { greater = greater; no_more = no_more }

  pub stepping_law : SteppingLaw v
  stepping_law c s T bs n full h x left e = stepping v lawful full c s T bs n h x left e

  stop_of : (o : Outcome (Stop R) (P × List ℕ × List ℕ)) → ((x : P × List ℕ × List ℕ) (left : ℕ) → o ≡ Done x left → ⊥)
      → (r : Stop R) × (left : ℕ) × (o ≡ Stopped r left)
  stop_of (Done x left) h = absurd (h x left refl)
  stop_of (Stopped r left) h = (r, left, refl)

  pub stopping_law : StoppingLaw v
  stopping_law c s T bs n full h e = stop_of (meaning v c s T.focus T.pending n) (λ x left d. stopped v lawful full c s T bs n h e x left d)

  pub block_law : BlockLaw v
  block_law c s T bs n full h y left e = block-stepping v lawful full c s T bs n h y left e
