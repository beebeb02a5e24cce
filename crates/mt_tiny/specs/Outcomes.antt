-- What is answered from an allowance, with stops of any type. A prover that has spent its allowance has a stop for that.
use Rattle.std.specs.Prelude.{ℕ}

infixl 1 ◌>>=◌
-- an answer or a stop, and how much of the allowance is left
pub data Outcome (R A : Type 0) : Type 0 where
  Done : A → ℕ → Outcome R A
  Stopped : R → ℕ → Outcome R A

abbrev pub Charged : Type 0 → Type 0 → Type 0
Charged R A = ℕ → Outcome R A

abbrev pub give : {R A : Type 0} → A → Charged R A
give a n = Done a n

abbrev pub stop : {R A : Type 0} → R → Charged R A
stop r n = Stopped r n

abbrev pub and_then : {R A B : Type 0} → Outcome R A → (A → Charged R B) → Outcome R B
and_then (Done a left) f = f a left
and_then (Stopped r left) f = Stopped r left

-- a sequence
abbrev pub ◌>>=◌ : {R A B : Type 0} → Charged R A → (A → Charged R B) → Charged R B
◌>>=◌ m f n = and_then (m n) f

abbrev pub read_stop : {R Q A : Type 0} → (R → Q) → Outcome R A → Outcome Q A
read_stop f (Done a left) = Done a left
read_stop f (Stopped r left) = Stopped (f r) left

-- the same with its stops read otherwise, as at a place
abbrev pub stopping : {R Q A : Type 0} → (R → Q) → Charged R A → Charged Q A
stopping f m n = read_stop f (m n)

-- what is left of the allowance
abbrev pub rest : {R A : Type 0} → Outcome R A → ℕ
rest (Done a left) = left
rest (Stopped r left) = left

-- what holds of an answer, where there is one
abbrev pub Then : {R A : Type 0} → Outcome R A → (A → ℕ → Type 0) → Type 0
Then (Done a left) Q = Q a left
Then (Stopped r left) Q = Unit {0}
