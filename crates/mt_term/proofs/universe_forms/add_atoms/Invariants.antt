use Rattle.std.proofs.Common.{◌≡◌, ◌≤◌, length, drop}
use Rattle.mt_term.specs.UniverseForms.{with_atoms}
use Rattle.mt_term.proofs.universe_forms.add_atoms.Given as goal

abbrev pub invariant-loop-left : goal.invariant-loop-left
invariant-loop-left l = record {
  within : l.left ≤ length l.more;
  added : l.atoms.items ≡ with_atoms (drop l.left l.more) l.fn.atoms.items;
}

abbrev pub decreases-loop-left : goal.decreases-loop-left
decreases-loop-left l = l.left
