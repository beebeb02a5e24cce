-- How stops go through a sequence.
use Rattle.std.proofs.Common.{◌≡◌, ◌≤◌, ℕ, Err, refl, ap, sym, arith, subst}
use Rattle.mt_tiny.specs.Outcomes.{Outcome, Done, Stopped, Charged, and_then, read_stop, rest}
use Rattle.mt_tiny.specs.Goals.{Refusal}
use Rattle.mt_tiny.specs.Answers.{Answers}
use Rattle.mt_tiny.specs.declared.stops.TinyStop.{TinyStop}
use Rattle.mt_tiny.specs.declared.stops.TinyStop.TheVariants as stops
use Rattle.mt_tiny.proofs.Acting.{Within, rest-then}
use Rattle.mt_tactical.specs.Meaning.{Stop}
use Rattle.mt_tactical.specs.BlockAnswers.{StopsAt}

-- a stop of a part is one of the whole
pub stops-through : {S R A B : Type 0} (view : S → R) (o : Outcome (Stop R) A) (f : A → Charged (Stop R) B) (left at : ℕ) (e : TinyStop S)
    → ((a : A) → Within (f a)) → StopsAt view o left at e → StopsAt view (and_then o f) left at e
stops-through view o f left at stops.NoGoal w h = ap (λ o'. and_then o' f) h
stops-through view o f left at stops.NoBranch w h = ap (λ o'. and_then o' f) h
stops-through view o f left at stops.NoSuchPosition w h = ap (λ o'. and_then o' f) h
stops-through view o f left at stops.NotHere w h = ap (λ o'. and_then o' f) h
stops-through view o f left at (stops.Prover s) w h = ap (λ o'. and_then o' f) h
stops-through view o f left at stops.OutOfMemory w h = let u = rest-then o f w in omega (arith, u, h)

rest-read : {R Q A : Type 0} (f : R → Q) (o : Outcome R A) → rest (read_stop f o) ≡ rest o
rest-read f (Done a left) = refl
rest-read f (Stopped r left) = refl

-- a stop of a step is one at a place
pub stops-at : {S R A B : Type 0} (value : B → A) (view : S → R) (o : Outcome (Refusal R) A) (left at : ℕ) (e : TinyStop S)
    → Answers value view o left (Err e) → StopsAt view (read_stop (λ r. (r, at)) o) left at e
stops-at value view o left at stops.NoGoal h = ap (read_stop (λ r. (r, at))) h
stops-at value view o left at stops.NoBranch h = ap (read_stop (λ r. (r, at))) h
stops-at value view o left at stops.NoSuchPosition h = ap (read_stop (λ r. (r, at))) h
stops-at value view o left at stops.NotHere h = ap (read_stop (λ r. (r, at))) h
stops-at value view o left at (stops.Prover s) h = ap (read_stop (λ r. (r, at))) h
stops-at {R = R} value view o left at stops.OutOfMemory h = let u = rest-read {Q = Stop R} (λ r. (r, at)) o in omega (arith, u, h)

-- where memory is wanting
pub memory-stops : {S R A : Type 0} (view : S → R) (o : Outcome (Stop R) A) (left at : ℕ) (e : TinyStop S)
    → e ≡ stops.OutOfMemory → rest o ≤ left → StopsAt view o left at e
memory-stops view o left at e m h = subst (λ e'. StopsAt view o left at e') (sym m) h
