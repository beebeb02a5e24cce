-- Definitions that take charges from an allowance.
use Rattle.std.specs.Prelude.{ℕ, zero, suc}
use Rattle.mt_term.specs.Reasons.{Reason}

infixl 1 ◌>>=◌
-- what is answered, and how much of the allowance is left
pub data Outcome (A : Type 0) : Type 0 where
  Done : A → ℕ → Outcome A
  Refused : Reason → ℕ → Outcome A
  Spent : Outcome A

abbrev pub Charged : Type 0 → Type 0
Charged A = ℕ → Outcome A

abbrev pub give : {A : Type 0} → A → Charged A
give a n = Done a n

abbrev pub refuse : {A : Type 0} → Reason → Charged A
refuse r n = Refused r n

abbrev pub and_then : {A B : Type 0} → Outcome A → (A → Charged B) → Outcome B
and_then (Done a left) f = f a left
and_then (Refused r left) f = Refused r left
and_then Spent f = Spent

-- a sequence
abbrev pub ◌>>=◌ : {A B : Type 0} → Charged A → (A → Charged B) → Charged B
◌>>=◌ m f n = and_then (m n) f

-- one charge, and then m
abbrev pub charge : {A : Type 0} → Charged A → Charged A
charge m zero = Spent
charge m (suc n) = m n

abbrev pub or_else : {A : Type 0} → Outcome A → Charged A → Outcome A
or_else (Done a left) m = Done a left
or_else (Refused r left) m = m left
or_else Spent m = Spent

-- a tried part: where it is refused, the charges stay spent and the other goes on
abbrev pub tried : {A : Type 0} → Charged A → Charged A → Charged A
tried m other n = or_else (m n) other

-- what is left of the allowance, nothing where it is spent
abbrev pub rest : {A : Type 0} → Outcome A → ℕ
rest (Done a left) = left
rest (Refused r left) = left
rest Spent = zero
