-- Answers of units, with charges: what is answered, or why a unit is refused and where.
use Rattle.std.specs.Prelude.{ℕ, Bool, true, false}
use Rattle.mt_term.specs.Reasons.{Reason, KernelRefused, number_of}
use Rattle.mt_rules.specs.Charges as charges
use Rattle.mt_rules.specs.Charges.{Outcome, Charged}
use Rattle.mt_resolver.specs.Resolution.{Resolution, Found, Faults}

infixl 1 ◌>>=◌
-- what is answered, or a reason and its place; and how much of the allowance is left
pub data Answer (A : Type 0) : Type 0 where
  Made : A → ℕ → Answer A
  Refused : Reason → ℕ → ℕ → Answer A
  Spent : Answer A

abbrev pub Answering : Type 0 → Type 0
Answering A = ℕ → Answer A

abbrev pub make : {A : Type 0} → A → Answering A
make a n = Made a n

abbrev pub refuse : {A : Type 0} → Reason → ℕ → Answering A
refuse r at n = Refused r at n

abbrev pub and_then : {A B : Type 0} → Answer A → (A → Answering B) → Answer B
and_then (Made a left) f = f a left
and_then (Refused r at left) f = Refused r at left
and_then Spent f = Spent

-- a sequence
abbrev pub ◌>>=◌ : {A B : Type 0} → Answering A → (A → Answering B) → Answering B
◌>>=◌ m f n = and_then (m n) f

-- what is taken by its names; this costs nothing
abbrev pub taken : {A : Type 0} → Resolution A → Answering A
taken (Found a) = make a
taken (Faults r at) = refuse r at

-- what the kernel says; its No is refused at the place, with the number of the kernel's reason
abbrev pub from_kernel : {A : Type 0} → ℕ → Outcome A → Answer A
from_kernel at (charges.Done a left) = Made a left
from_kernel at (charges.Refused r left) = Refused (KernelRefused (number_of r)) at left
from_kernel at charges.Spent = Spent

abbrev pub by_kernel : {A : Type 0} → ℕ → Charged A → Answering A
by_kernel at m n = from_kernel at (m n)

-- whether the kernel says Yes
abbrev pub yes_or_no : {A : Type 0} → Outcome A → Answer Bool
yes_or_no (charges.Done a left) = Made true left
yes_or_no (charges.Refused r left) = Made false left
yes_or_no charges.Spent = Spent

abbrev pub is_accepted : {A : Type 0} → Charged A → Answering Bool
is_accepted m n = yes_or_no (m n)
