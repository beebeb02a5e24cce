-- The test of an entry is the relation.
use Rattle.std.proofs.Common.{ℕ, ◌≡◌, ◌∙◌, sym, Bool, true, false, IsTrue, ◌↔◌}
use Rattle.mt_calculus_laws.proofs.AlikeLaws.{never}
use Rattle.mt_term.specs.Declarations.{Declaration, Recursive, Environment}
use Rattle.mt_guard.specs.Entries.{guards_entry, GuardedEntry}
use Rattle.mt_guard.proofs.Deciding.{guarded-decides}
use Rattle.mt_guard.proofs.Corecursive.{co_guarded-decides}

entry-iff : (E : Environment) (f : ℕ) (d : Declaration) → IsTrue (guards_entry E f d) ↔ GuardedEntry E f d
entry-iff E f (Recursive x false n r T b made) = guarded-decides E f n r b
entry-iff E f (Recursive x true n r T b made) = co_guarded-decides E f n T b
entry-iff E f _ = (λ e. never e, λ h. absurd h)

pub entry_decides : (E : Environment) (f : ℕ) (d : Declaration) (b : Bool) → b ≡ guards_entry E f d → IsTrue b ↔ GuardedEntry E f d
entry_decides E f d b e = let i = entry-iff E f d in ((λ (h : b ≡ true). i.0 (sym e ∙ h)), (λ (h : GuardedEntry E f d). e ∙ i.1 h))
