use Rattle.std.proofs.Common.{◌≡◌, drop, map}
use Rattle.mt_unit_parser.specs.UnitOf.{group_of}
use Rattle.mt_session.specs.Plans.{are_groups_built}
use Rattle.mt_session.proofs.forms.are_groups_built.Given as goal

abbrev pub invariant-loop-i : goal.invariant-loop-i
invariant-loop-i l = are_groups_built (map group_of l.groups) ≡ are_groups_built (map group_of (drop l.i l.groups))
