use Rattle.std.proofs.Common.{◌≡◌, ℕ, ◌<◌, length, slice_index}
use Rattle.mt_kernel.proofs.order.row_of.Given as goal

abbrev pub invariant-loop : goal.invariant-loop
invariant-loop l = (length l.row.items ≡ l.counter) × ((b : ℕ) → b < l.counter → slice_index l.row.items b ≡ l.number)
