use Rattle.std.proofs.Common.{◌≡◌, ◌++◌, drop}
use Rattle.std.specs.List.{list_all}
use Rattle.mt_term.specs.UniverseForms.{raised_atoms, fits_atom}
use Rattle.mt_term.proofs.universe_forms.raised_atoms.Given as goal

abbrev pub invariant-loop-atom : goal.invariant-loop-atom
invariant-loop-atom l = record {
  raised : raised_atoms l.atoms ≡ l.higher.items ++ raised_atoms (drop l.atom-index l.atoms);
  fits : list_all fits_atom (raised_atoms l.atoms) ≡ list_all fits_atom (raised_atoms (drop l.atom-index l.atoms));
}
