-- Provers as definitions see them.
use Rattle.std.specs.Prelude.{ℕ, Bool, true, false, List, ◌≡◌, ◌+◌, ◌≤◌}
use Rattle.mt_tiny.specs.Outcomes.{Done, Charged, rest}

-- whether a goal is open in a state; an action on a goal: the new state and the new goals, or a stop
pub record ProverRules (P A R : Type 0) : Type 0 where
  pub is_open : P → ℕ → Bool
  pub apply : A → ℕ → P → Charged R (P × List ℕ)

-- never more of the allowance is left than was given, whatever the outcome
abbrev pub LeavesNoMore : {P A R : Type 0} → ProverRules P A R → Type 0
LeavesNoMore {P} {A} v = (a : A) (g : ℕ) (s : P) (n : ℕ) → rest (v.apply a g s n) ≤ n

-- actions lead from a state to a state
pub data Leads {P A R : Type 0} (v : ProverRules P A R) : P → P → Type 0 where
  Nowhere : (s : P) → Leads v s s
  Further : (s t u : P) (a : A) (g n left : ℕ) (gs : List ℕ) → Leads v s t → v.apply a g t n ≡ Done (u, gs) left → Leads v s u

-- a closed goal is never opened again
abbrev pub KeepsClosed : {P A R : Type 0} → ProverRules P A R → Type 0
KeepsClosed {P} v =
    (s t u : P) (g : ℕ) → Leads v s t → Leads v t u → v.is_open s g ≡ true → v.is_open t g ≡ false → v.is_open u g ≡ false

-- a success at an allowance is the same success at each greater one, with as much more left
abbrev pub SucceedsOn : {P A R : Type 0} → ProverRules P A R → Type 0
SucceedsOn {P} {A} v =
    (a : A) (g : ℕ) (s : P) (n i : ℕ) (x : P × List ℕ) (left : ℕ) → v.apply a g s n ≡ Done x left → v.apply a g s (n + i) ≡ Done x (left + i)
