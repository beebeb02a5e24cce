use Rattle.std.proofs.Common.{◌≡◌, map, vec_len}
use Rattle.mt_tactical.specs.Tacticals.{End as NoItem, NoBranch}
use Rattle.mt_tactical.specs.TacticalOf.{choices_of}
use Rattle.mt_unit_parser.specs.UnitOf.{action_of}
use Rattle.mt_unit_parser.specs.BlockOf.{branch_of}
use Rattle.mt_unit_parser.specs.Blocks.{choices_onto}
use Rattle.mt_unit_parser.proofs.blocks.branches_of.Given as goal

abbrev pub invariant-row : goal.invariant-row
invariant-row l = choices_onto (map branch_of l.items.items) (choices_of action_of l.rest) ≡ choices_onto (map branch_of l.fn.items.items) NoBranch

abbrev pub decreases-row : goal.decreases-row
decreases-row l = vec_len l.items
