use Rattle.std.proofs.Common.{◌≡◌, ◌-◌, max, drop, slice_index}
use Rattle.mt_term.specs.Universes.{value, value_of_atoms}
use Rattle.mt_kernel.proofs.order.least_value.Given as goal

abbrev pub invariant-loop-a : goal.invariant-loop-a
invariant-loop-a l = max l.most (value_of_atoms (λ b. slice_index l.row b - 1) (drop l.a-index l.a-items)) ≡ value (λ b. slice_index l.row b - 1) l.u
