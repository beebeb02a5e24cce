-- What holds of an answer, where there is one: its rules.
use Rattle.std.proofs.Common.{◌≡◌, ℕ, refl, subst}
use Rattle.mt_tiny.specs.Outcomes.{Outcome, Done, Stopped, Charged, and_then, read_stop, Then}

pub then-of : {R A : Type 0} (Q : A → ℕ → Type 0) (o : Outcome R A) → ((x : A) (l : ℕ) → o ≡ Done x l → Q x l) → Then o Q
then-of Q (Done x l) h = h x l refl
then-of Q (Stopped r l) h = tt

pub then-at : {R A : Type 0} (Q : A → ℕ → Type 0) (o : Outcome R A) (x : A) (l : ℕ) → Then o Q → o ≡ Done x l → Q x l
then-at Q o x l t e = subst (λ o'. Then o' Q) e t

pub then-map : {R A : Type 0} (Q Q' : A → ℕ → Type 0) (o : Outcome R A) → Then o Q → ((x : A) (l : ℕ) → Q x l → Q' x l) → Then o Q'
then-map Q Q' (Done x l) t h = h x l t
then-map Q Q' (Stopped r l) t h = tt

pub then-bind : {R A B : Type 0} (Q : A → ℕ → Type 0) (Q' : B → ℕ → Type 0) (o : Outcome R A) (f : A → Charged R B)
    → Then o Q → ((x : A) (l : ℕ) → Q x l → Then (f x l) Q') → Then (and_then o f) Q'
then-bind Q Q' (Done x l) f t h = h x l t
then-bind Q Q' (Stopped r l) f t h = tt

pub then-stopping : {R S A : Type 0} (Q : A → ℕ → Type 0) (r : R → S) (o : Outcome R A) → Then o Q → Then (read_stop r o) Q
then-stopping Q r (Done x l) t = t
then-stopping Q r (Stopped e l) t = tt
