use Rattle.std.proofs.Common.{◌≡◌, ◌++◌, drop}
use Rattle.mt_printer.specs.TermText.{atoms_text}
use Rattle.mt_printer.proofs.sorts.put_atoms.Given as goal

abbrev pub invariant-loop-atom : goal.invariant-loop-atom
invariant-loop-atom l = l.out.items ++ atoms_text l.names (drop l.atom-index l.atoms) ≡ l.initial.out.items ++ atoms_text l.names l.atoms
