use Rattle.std.proofs.Common.{◌≡◌, length}
use Rattle.mt_term.specs.Alike.{same_atoms}
use Rattle.mt_pool.proofs.alikeness.have_same_atoms.Given as goal

abbrev pub invariant-loop-left : goal.invariant-loop-left
invariant-loop-left l = same_atoms l.fn.a l.fn.b ≡ same_atoms l.left l.right

abbrev pub decreases-loop-left : goal.decreases-loop-left
decreases-loop-left l = length l.left
