use Rattle.std.proofs.Common.{◌≡◌, drop, map}
use Rattle.mt_unit_parser.specs.UnitOf.{con_of}
use Rattle.mt_session.specs.Plans.{are_constructors_built}
use Rattle.mt_session.proofs.forms.are_constructors_built.Given as goal

abbrev pub invariant-loop-i : goal.invariant-loop-i
invariant-loop-i l = are_constructors_built (map con_of l.cons) ≡ are_constructors_built (map con_of (drop l.i l.cons))
