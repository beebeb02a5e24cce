use Rattle.std.proofs.Common.{◌≡◌, ◌++◌, take, drop}
use Rattle.mt_term.specs.UniverseForms.{with_atom}
use Rattle.mt_term.proofs.universe_forms.place_of.Given as goal

abbrev pub invariant-loop-i : goal.invariant-loop-i
invariant-loop-i l = with_atom l.atom l.atoms ≡ take l.i l.atoms ++ with_atom l.atom (drop l.i l.atoms)
