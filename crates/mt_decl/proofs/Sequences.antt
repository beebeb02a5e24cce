-- Answers one after the other, as a program follows them.
use Rattle.std.specs.Prelude.{ℕ, ◌≡◌, ◌≤◌, List, [], ◌∷◌, suc, zero, drop, Some, None, slice_get, refl}
use Rattle.std.proofs.Common.{ap, arith}
use Rattle.std.proofs.Math.Seq.{drop-nil}
use Rattle.mt_rules.specs.Charges as charges
use Rattle.mt_rules.specs.Charges.{Outcome}
use Rattle.mt_resolver.specs.Resolution.{Resolution, Found, Faults, then_found}
use Rattle.mt_decl.specs.Answers.{Answer, Made, Refused, Spent, Answering, and_then, from_kernel, yes_or_no, taken}
use Rattle.mt_decl.specs.EntryLaws.{rest}

pub kernel_rest : {A : Type 0} (at : ℕ) (o : Outcome A) → rest (from_kernel at o) ≡ charges.rest o
kernel_rest at (charges.Done a l) = refl
kernel_rest at (charges.Refused r l) = refl
kernel_rest at charges.Spent = refl

pub yes_rest : {A : Type 0} (o : Outcome A) → rest (yes_or_no o) ≡ charges.rest o
yes_rest (charges.Done a l) = refl
yes_rest (charges.Refused r l) = refl
yes_rest charges.Spent = refl

pub then_rest : {A B : Type 0} (o : Answer A) (f : A → Answering B) → ((a : A) (l : ℕ) → rest (f a l) ≤ l) → rest (and_then o f) ≤ rest o
then_rest (Made a l) f h = h a l
then_rest (Refused r at l) f h = omega arith
then_rest Spent f h = omega arith

pub taken_rest : {A B : Type 0} (r : Resolution A) (f : A → Answering B) (n : ℕ) → ((a : A) → rest (f a n) ≤ n) → rest (and_then (taken r n) f) ≤ n
taken_rest (Found a) f n h = h a
taken_rest (Faults r at) f n h = omega arith

-- two parts that cost nothing are one
pub taken_then : {A B C : Type 0} (r : Resolution A) (f : A → Resolution B) (g : B → Answering C) (n : ℕ) → and_then (taken r n) (λ a m. and_then (taken (f a) m) g) ≡ and_then (taken (then_found r f) n) g
taken_then (Found a) f g n = refl
taken_then (Faults r at) f g n = refl

-- ---- lists from a place on

pub drop_one : {A : Type 0} (xs : List A) (k : ℕ) (x : A) → slice_get xs k ≡ Some x → drop k xs ≡ x ∷ drop (suc k) xs
drop_one [] k x e = let no : ⊥ = cc in absurd no
drop_one (y ∷ xs) zero x e = let same : y ≡ x = cc in ap (λ z. z ∷ xs) same
drop_one (y ∷ xs) (suc k) x e = drop_one xs k x e

pub drop_past : {A : Type 0} (xs : List A) (k : ℕ) → slice_get xs k ≡ None → drop k xs ≡ []
drop_past [] k e = drop-nil k
drop_past (y ∷ xs) zero e = let no : ⊥ = cc in absurd no
drop_past (y ∷ xs) (suc k) e = drop_past xs k e
