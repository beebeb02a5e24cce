use Rattle.std.proofs.Common.{ℕ, ◌<◌, get_or}
use Rattle.mt_kernel.proofs.order.places.Given as goal

abbrev pub invariant-loop-i : goal.invariant-loop-i
invariant-loop-i l = (k : ℕ) (d : ℕ × ℕ) → k < l.i → ((get_or l.below k d).0 < l.most) × ((get_or l.below k d).1 < l.most)
