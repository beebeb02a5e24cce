-- Definitions that go on with themselves only after a charge: the allowance bounds how often they
-- do.
use Rattle.std.specs.Prelude.{ℕ, zero, suc}
use Rattle.mt_rules.specs.Charges.{Spent, Charged}

-- questions, the answer of each, and a body that is given the definition itself, to be used after a
-- charge
module _ (Q : Type 0) (R : Q → Type 0) (body : ((q : Q) → Charged (R q)) → (q : Q) → Charged (R q))
  where
    -- the body inside itself, so many times
    abbrev pub within : ℕ → (q : Q) → Charged (R q)
    within zero = body (λ q n. Spent)
    within (suc k) = body (λ q. within k q)

    -- the definition: with an allowance of n the body goes on with itself at most n times
    unfoldable pub fixed : (q : Q) → Charged (R q)
    fixed q n = within n q n
