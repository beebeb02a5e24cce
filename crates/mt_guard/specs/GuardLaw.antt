-- The tests of the guard are the relations, as statements.
use Rattle.std.specs.Prelude.{◌↔◌, ℕ, IsTrue}
use Rattle.mt_term.specs.Trees.{Tree}
use Rattle.mt_term.specs.Declarations.{Environment}
use Rattle.mt_calculus.specs.Guard.{GuardedRecursive, GuardedCorecursive}
use Rattle.mt_guard.specs.Deciding.{is_guarded}
use Rattle.mt_guard.specs.Corecursive.{is_co_guarded}

-- a recursive function, entry f with n binders and the recursive place r, is guarded exactly where the test says so
abbrev pub GuardLaw : Type 0
GuardLaw = (E : Environment) (f n r : ℕ) (b : Tree) → IsTrue (is_guarded E f n r b) ↔ GuardedRecursive E f n r b

-- a corecursive function, entry f with n binders and the type T, is guarded exactly where the test says so
abbrev pub CoGuardLaw : Type 0
CoGuardLaw = (E : Environment) (f n : ℕ) (T b : Tree) → IsTrue (is_co_guarded E f n T b) ↔ GuardedCorecursive E f n T b
