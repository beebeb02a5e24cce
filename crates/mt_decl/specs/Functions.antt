-- The parts of a function, by names that stay as they are in a goal.
use Rattle.std.specs.Prelude.{ℕ, Bool, true, false, List, length, Option, Some, None}
use Rattle.mt_term.specs.Trees.{Tree, Bytes}
use Rattle.mt_term.specs.Declarations.{Hypothesis, Declaration, Recursive, Environment}
use Rattle.mt_term.specs.Reasons.{NotGuarded, Unbound}
use Rattle.mt_guard.specs.Entries.{guards_entry}
use Rattle.mt_resolver.specs.Resolution.{Resolution, Found, Faults, first_place, resolved}
use Rattle.mt_term_parser.specs.WrittenOf.{written_of}
use Rattle.mt_unit_parser.specs.declared.units.RawFunction.{RawFunction}
use Rattle.mt_decl.specs.Answers.{Answering, make, taken, ◌>>=◌}
use Rattle.mt_decl.specs.Declaring.{assuming, place_of}
use Rattle.mt_decl.specs.Judging.{term_judged}
use Rattle.mt_decl.specs.Telescopes.{abstracted, names_of}

-- only a binder, else Unbound
abbrev pub bound_at : ℕ → Bytes → Option ℕ → Resolution ℕ
bound_at start y None = Faults (Unbound y) start
bound_at start y (Some r) = Found r

-- the place of a binder, counted from the oldest
unfoldable pub placed : ℕ → List Hypothesis → Bytes → Resolution ℕ
placed start Γ y = bound_at start y (place_of (length Γ) (first_place (names_of Γ) y))

-- only where it is so, else NotGuarded
abbrev pub guarded_or : ℕ → Bool → Resolution (Unit {0})
guarded_or start true = Found tt
guarded_or start false = Faults NotGuarded start

-- only a function that is guarded
unfoldable pub guard_said : Environment → ℕ → Declaration → Resolution (Unit {0})
guard_said E start d = guarded_or start (guards_entry E (length E.entries) d)

-- the closed body of a function of this place and closed type after the entries of E, where E' is
-- the environment that knows it
unfoldable pub body_within : Environment → Environment → ℕ → RawFunction → Bool → ℕ
    → List Hypothesis → Tree → Answering Tree
body_within E E' start f co r Γ T = do
  b ← taken (resolved E' (names_of Γ) (written_of f.body))
  _ ← taken (guard_said E start (Recursive f.name co (length Γ) r T (abstracted Γ b) false))
  _ ← term_judged E' start (abstracted Γ b) T
  make (abstracted Γ b)

-- the same, where the environment knows the function as an axiom
unfoldable pub function_body : Environment → ℕ → RawFunction → Bool → ℕ → List Hypothesis → Tree
    → Answering Tree
function_body E start f co r Γ T = body_within E (assuming E f.name T) start f co r Γ T

-- the function as an entry
unfoldable pub function_end : Environment → ℕ → RawFunction → Bool → ℕ → List Hypothesis → Tree
    → Answering Declaration
function_end E start f co r Γ T = do
  b ← function_body E start f co r Γ T
  make (Recursive f.name co (length Γ) r T b false)
