-- The principle of a declared type, checked by the kernel.
use Rattle.std.specs.Prelude.{ℕ, List, [], ◌∷◌, length, Option, Some, None}
use Rattle.mt_term.specs.Declarations.{Declaration, Axiom, Recursive, Environment}
use Rattle.mt_calculus.specs.SoundEnvironment.{with_entry}
use Rattle.mt_rules.specs.KernelCheck.{check_type, check}
use Rattle.mt_refinement_rules.specs.Placed.{Placed, found, ◌>>=◌, by_kernel}
use Rattle.mt_induction_rules.specs.Principles.{principle}

-- The kernel on a function: its closed type, and then its body, where the environment knows the
-- function as an axiom. A refusal stands at this place.
abbrev pub function_checked : Environment → ℕ → Declaration → Placed (Unit {0})
function_checked E start (Recursive x co n r T b made) = do
  _ ← by_kernel start (check_type E T)
  by_kernel start (check (with_entry E (Axiom x T)) b T)
function_checked E start d = found tt

-- a declared type, and its principle where it has one
abbrev pub and_principle : Environment → ℕ → Declaration → Option Declaration
    → Placed (List Declaration)
and_principle E start d None = found (d ∷ [])
and_principle E start d (Some q) = do
  _ ← function_checked (with_entry E d) start q
  found (d ∷ q ∷ [])

-- the entries that a unit adds, which declares this entry after those of E and begins at this place
unfoldable pub with_principle : Environment → ℕ → Declaration → Placed (List Declaration)
with_principle E start d = and_principle E start d (principle (length E.entries) d)
