use Rattle.std.proofs.Common.{◌≡◌, map, vec_len}
use Rattle.mt_tactical.specs.Tacticals.{End as NoItem, NoBranch}
use Rattle.mt_tactical.specs.TacticalOf.{sequence_of}
use Rattle.mt_unit_parser.specs.UnitOf.{action_of}
use Rattle.mt_unit_parser.specs.BlockOf.{led_of}
use Rattle.mt_unit_parser.specs.Blocks.{led_onto}
use Rattle.mt_unit_parser.proofs.blocks.led_onto.Given as goal

abbrev pub invariant-row : goal.invariant-row
invariant-row l = led_onto (map led_of l.items.items) (sequence_of action_of l.rest) ≡ led_onto (map led_of l.fn.items.items) NoItem

abbrev pub decreases-row : goal.decreases-row
decreases-row l = vec_len l.items
