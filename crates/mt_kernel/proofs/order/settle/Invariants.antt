use Rattle.std.proofs.Common.{◌≡◌, ℕ, ◌≤◌, ◌+◌, ◌*◌, ◌-◌, length, slice_index}
use Rattle.std.specs.Prelude.{sum}
use Rattle.mt_term.specs.Universes.{Valuation, MeetsAll}
use Rattle.mt_kernel.specs.Rows.{IsBounded, IsShort}
use Rattle.mt_kernel.proofs.order.settle.Given as goal

abbrev pub invariant-rounds : goal.invariant-rounds
invariant-rounds l = record {
  size : length l.row.items ≡ length l.fn.row.items;
  short : IsShort l.row.items;
  bound : (v : Valuation) (o : ℕ) → MeetsAll l.below v → IsBounded v o l.fn.row.items → IsBounded v o l.row.items;
  grown : (b : ℕ) → slice_index l.fn.row.items b ≤ slice_index l.row.items b;
}

abbrev pub decreases-rounds : goal.decreases-rounds
decreases-rounds l = length l.row.items * (length l.row.items + 1) - sum l.row.items
