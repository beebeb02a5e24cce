-- The guard of an entry.
use Rattle.std.specs.Prelude.{ℕ, Bool, true, false}
use Rattle.mt_term.specs.Declarations.{Declaration, Recursive, Environment}
use Rattle.mt_calculus.specs.Guard.{GuardedRecursive, GuardedCorecursive}
use Rattle.mt_guard.specs.Corecursive.{is_co_guarded}
use Rattle.mt_guard.specs.Deciding.{is_guarded}

-- whether entry f, over the entries before it, is a function that is guarded
abbrev pub guards_entry : Environment → ℕ → Declaration → Bool
guards_entry E f (Recursive x false n r T b made) = is_guarded E f n r b
guards_entry E f (Recursive x true n r T b made) = is_co_guarded E f n T b
guards_entry E f _ = false

-- entry f is a recursive or corecursive function that is guarded
abbrev pub GuardedEntry : Environment → ℕ → Declaration → Type 0
GuardedEntry E f (Recursive x false n r T b made) = GuardedRecursive E f n r b
GuardedEntry E f (Recursive x true n r T b made) = GuardedCorecursive E f n T b
GuardedEntry E f _ = ⊥
