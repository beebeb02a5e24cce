-- Definitions with charges whose refusals have a place in the script.
use Rattle.std.specs.Prelude.{ℕ, [], ◌∷◌, ◌++◌, Bool, true, false}
use Rattle.mt_term.specs.Declarations.{Declaration}
use Rattle.mt_term.specs.Reasons.{Reason, Mismatch, KernelRefused, number_of}
use Rattle.mt_term.specs.Instancing.{instance}
use Rattle.mt_rules.specs.Charges.{Outcome, Done, Refused, Spent, Charged, give, and_then}
use Rattle.mt_unification_rules.specs.Placeholders.{Metas}
use Rattle.mt_resolver.specs.Resolution.{Resolution, Found, Faults}

infixl 1 ◌>>=◌
-- what is found, or why it is refused and where; and what is left of the allowance
abbrev pub Placed : Type 0 → Type 0
Placed A = Charged (Resolution A)

abbrev pub found : {A : Type 0} → A → Placed A
found a = give (Found a)

abbrev pub faults : {A : Type 0} → Reason → ℕ → Placed A
faults r at = give (Faults r at)

abbrev pub on_found : {A B : Type 0} → (A → Placed B) → Resolution A → Placed B
on_found f (Found a) = f a
on_found f (Faults r at) = faults r at

-- a sequence
abbrev pub ◌>>=◌ : {A B : Type 0} → Placed A → (A → Placed B) → Placed B
◌>>=◌ m f n = and_then (m n) (on_found f)

abbrev pub on_fault : {A : Type 0} → (Reason → ℕ → Placed A) → Resolution A → Placed A
on_fault other (Found a) = found a
on_fault other (Faults r at) = other r at

-- a tried part: where it is refused, the charges stay spent and the other goes on
abbrev pub tried : {A : Type 0} → Placed A → (Reason → ℕ → Placed A) → Placed A
tried m other n = and_then (m n) (on_fault other)

-- a definition without places, whose refusals have this place
abbrev pub with_place : {A : Type 0} → ℕ → Outcome A → Outcome (Resolution A)
with_place at (Done a left) = Done (Found a) left
with_place at (Refused r left) = Done (Faults r at) left
with_place at Spent = Spent

abbrev pub by : {A : Type 0} → ℕ → Charged A → Placed A
by at m n = with_place at (m n)

-- the kernel at a place: its No tells the number of its reason alone
abbrev pub with_number : {A : Type 0} → ℕ → Outcome A → Outcome (Resolution A)
with_number at (Done a left) = Done (Found a) left
with_number at (Refused r left) = Done (Faults (KernelRefused (number_of r)) at) left
with_number at Spent = Spent

abbrev pub by_kernel : {A : Type 0} → ℕ → Charged A → Placed A
by_kernel at m n = with_number at (m n)

-- only where it is so
abbrev pub only : Bool → Reason → ℕ → Placed (Unit {0})
only true r at = found tt
only false r at = faults r at

-- a refusal shows its terms as instances in this store
abbrev pub shown : Metas → Reason → Reason
shown ms (Mismatch Γ T U es) = Mismatch Γ (instance ms T) (instance ms U) es
shown ms r = r

abbrev pub in_store : {A : Type 0} → Metas → Placed A → Placed A
in_store ms m = tried m (λ r at. faults (shown ms r) at)

-- an entry taken as known past the environment: refusals hold it, the first such entry first
abbrev pub holding : Declaration → Reason → Reason
holding d (Mismatch Γ T U es) = Mismatch Γ T U (es ++ d ∷ [])
holding d r = r

abbrev pub knowing : {A : Type 0} → Declaration → Placed A → Placed A
knowing d m = tried m (λ r at. faults (holding d r) at)
