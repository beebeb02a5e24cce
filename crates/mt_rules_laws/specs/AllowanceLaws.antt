-- The law on allowances, as a statement.
use Rattle.std.specs.Prelude.{◌≡◌, ◌≤◌, ◌+◌, ℕ, List}
use Rattle.mt_term.specs.Trees.{Tree}
use Rattle.mt_term.specs.Declarations.{Hypothesis, Environment}
use Rattle.mt_term.specs.declared.modes.Mode.{Mode}
use Rattle.mt_rules.specs.Charges.{Outcome, Done, Refused, Spent, Charged, rest}
use Rattle.mt_term.specs.Stores.{Store}
use Rattle.mt_rules.specs.WeakHead.{whd, step, normal}
use Rattle.mt_rules.specs.Comparison.{convert}
use Rattle.mt_rules.specs.Inference.{Family, infer, elimination}
use Rattle.mt_rules.specs.KernelCheck.{check_type, check}

-- an outcome with more left
abbrev pub with_more : {A : Type 0} → ℕ → Outcome A → Outcome A
with_more i (Done a left) = Done a (left + i)
with_more i (Refused r left) = Refused r (left + i)
with_more i Spent = Spent

-- what is not spent at an allowance is the same at a greater one, with as much more left; and never
-- more is left than was given
abbrev pub GoesByAllowance : {A : Type 0} → Charged A → Type 0
GoesByAllowance m =
    ((n i : ℕ) → (m n ≡ Spent → ⊥) → m (n + i) ≡ with_more i (m n)) × ((n : ℕ) → rest (m n) ≤ n)

-- weak head, step, normal form, comparison, inference, elimination and the kernel's checks go by
-- their allowance
abbrev pub AllowanceLaw : Type 0
AllowanceLaw = (E : Environment) (S : Store) →
    ((t : Tree) → GoesByAllowance (whd E S t)) × ((t : Tree) → GoesByAllowance (step E S t)) × ((t :
    Tree) → GoesByAllowance (normal E S t))
    × ((mode : Mode) (t u : Tree) → GoesByAllowance (convert E S mode t u))
    × ((Γ : List Hypothesis) (t : Tree) → GoesByAllowance (infer E S Γ t))
    × ((Γ : List Hypothesis) (f : Family) (r : Tree) → GoesByAllowance (elimination E S Γ f r))
    × ((ty : Tree) → GoesByAllowance (check_type E ty))
    × ((term ty : Tree) → GoesByAllowance (check E term ty))
