use Rattle.std.proofs.Common.{◌≡◌, ℕ, ◌<◌, ◌≤◌, true, false, length, slice_index, slice_index_or}
use Rattle.std.specs.Prelude.{sum}
use Rattle.mt_term.specs.Universes.{Valuation, MeetsAll}
use Rattle.mt_kernel.specs.Rows.{Holds, IsBounded, IsShort}
use Rattle.mt_kernel.proofs.order.lengthen_by_all.Given as goal

abbrev pub invariant-loop-i : goal.invariant-loop-i
invariant-loop-i l = record {
  size : length l.row.items ≡ length l.fn.row.items;
  short : IsShort l.row.items;
  bound : (v : Valuation) (o : ℕ) → MeetsAll l.below v → IsBounded v o l.fn.row.items → IsBounded v o l.row.items;
  grown : (b : ℕ) → slice_index l.fn.row.items b ≤ slice_index l.row.items b;
  rises : sum l.fn.row.items ≤ sum l.row.items;
  longer : l.longer ≡ true → sum l.fn.row.items < sum l.row.items;
  settled : l.longer ≡ false → (k : ℕ) → k < l.i → Holds l.row.items (slice_index_or l.below k (0, 0));
}
