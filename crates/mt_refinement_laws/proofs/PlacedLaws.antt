-- Definitions with charges and places go by their allowance, whichever way they are put together.
use Rattle.std.specs.Prelude.{ℕ, ◌+◌, Bool, true, false}
use Rattle.std.proofs.Common.{ap}
use Rattle.mt_term.specs.Declarations.{Declaration}
use Rattle.mt_term.specs.Reasons.{Reason}
use Rattle.mt_rules.specs.Charges.{Outcome, Done, Refused, Spent, Charged}
use Rattle.mt_rules_laws.proofs.Charged.{Tied, Agree, give-agree, then-agree}
use Rattle.mt_unification_rules.specs.Placeholders.{Metas}
use Rattle.mt_resolver.specs.Resolution.{Resolution, Found, Faults}
use Rattle.mt_refinement_rules.specs.Placed.{Placed, found, faults, on_found, ◌>>=◌, on_fault, tried, with_place, by, with_number, by_kernel, only, shown, in_store, holding, knowing}

with_place-tied : {A : Type 0} (at n i : ℕ) (o o' : Outcome A) → Tied n i o o' → Tied n i (with_place at o) (with_place at o')
with_place-tied at n i (Done a left) o' t = (t.0, ap (with_place at) t.1)
with_place-tied at n i (Refused r left) o' t = (t.0, ap (with_place at) t.1)
with_place-tied at n i Spent o' t = λ e. ap (with_place at) (t e)

with_number-tied : {A : Type 0} (at n i : ℕ) (o o' : Outcome A) → Tied n i o o' → Tied n i (with_number at o) (with_number at o')
with_number-tied at n i (Done a left) o' t = (t.0, ap (with_number at) t.1)
with_number-tied at n i (Refused r left) o' t = (t.0, ap (with_number at) t.1)
with_number-tied at n i Spent o' t = λ e. ap (with_number at) (t e)

module _ (k i : ℕ) where
  pub found-agree : {A : Type 0} (a : A) → Agree k i (found a) (found a)
  found-agree a = give-agree k i (Found a)

  pub faults-agree : {A : Type 0} (r : Reason) (at : ℕ) → Agree {A = Resolution A} k i (faults r at) (faults r at)
  faults-agree r at = give-agree k i (Faults r at)

  pub by-agree : {A : Type 0} (at : ℕ) (m m' : Charged A) → Agree k i m m' → Agree k i (by at m) (by at m')
  by-agree at m m' h = record { at = λ n l. with_place-tied at n i (m n) (m' (n + i)) (h.at n l) }

  on_found-agree : {A B : Type 0} (f f' : A → Placed B) → ((a : A) → Agree k i (f a) (f' a)) → (o : Resolution A) → Agree k i (on_found f o) (on_found f' o)
  on_found-agree f f' h (Found a) = h a
  on_found-agree f f' h (Faults r at) = faults-agree r at

  -- a sequence
  pub next-agree : {A B : Type 0} (m m' : Placed A) (f f' : A → Placed B) → Agree k i m m' → ((a : A) → Agree k i (f a) (f' a)) → Agree k i (m >>= f) (m' >>= f')
  next-agree m m' f f' a h = then-agree k i m m' (on_found f) (on_found f') a (on_found-agree f f' h)

  on_fault-agree : {A : Type 0} (f f' : Reason → ℕ → Placed A) → ((r : Reason) (at : ℕ) → Agree k i (f r at) (f' r at)) → (o : Resolution A) → Agree k i (on_fault f o) (on_fault f' o)
  on_fault-agree f f' h (Found a) = found-agree a
  on_fault-agree f f' h (Faults r at) = h r at

  -- a tried part
  pub attempt-agree : {A : Type 0} (m m' : Placed A) (f f' : Reason → ℕ → Placed A) → Agree k i m m' → ((r : Reason) (at : ℕ) → Agree k i (f r at) (f' r at)) → Agree k i (tried m f) (tried m' f')
  attempt-agree m m' f f' a h = then-agree k i m m' (on_fault f) (on_fault f') a (on_fault-agree f f' h)

  -- a refusal that shows instances
  pub in_store-agree : {A : Type 0} (ms : Metas) (m m' : Placed A) → Agree k i m m' → Agree k i (in_store ms m) (in_store ms m')
  in_store-agree ms m m' h = attempt-agree m m' _ _ h (λ r at. faults-agree (shown ms r) at)

  -- and one that holds an entry
  pub knowing-agree : {A : Type 0} (d : Declaration) (m m' : Placed A) → Agree k i m m' → Agree k i (knowing d m) (knowing d m')
  knowing-agree d m m' h = attempt-agree m m' _ _ h (λ r at. faults-agree (holding d r) at)

  -- a condition, and the kernel
  pub only-agree : (b : Bool) (r : Reason) (at : ℕ) → Agree k i (only b r at) (only b r at)
  only-agree true r at = found-agree tt
  only-agree false r at = faults-agree r at

  pub by_kernel-agree : {A : Type 0} (at : ℕ) (m m' : Charged A) → Agree k i m m' → Agree k i (by_kernel at m) (by_kernel at m')
  by_kernel-agree at m m' h = record { at = λ n l. with_number-tied at n i (m n) (m' (n + i)) (h.at n l) }
