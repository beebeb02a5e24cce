-- What items and branches that are being read say.
use Rattle.std.specs.Prelude.{Option, Some, None}
use Rattle.mt_tactical.specs.Tacticals.{Step}
use Rattle.mt_tactical.specs.TacticalOf.{sequence_of, step_of}
use Rattle.mt_tactical.specs.declared.TacBranch.{TacBranch}
use Rattle.mt_tactical.specs.declared.TacItem.{TacItem}
use Rattle.mt_unit_parser.specs.declared.blocks.Led.{Led}
use Rattle.mt_unit_parser.specs.declared.units.Action.{Action}
use Rattle.mt_unit_parser.specs.UnitOf.{action_of}
use Rattle.mt_unit_parser.specs.WrittenUnits.{WrittenAction}
use Rattle.mt_unit_parser.specs.Blocks.{WrittenBranch, WrittenLed, separated_by}

abbrev pub branch_of : TacBranch Action → WrittenBranch
branch_of b = record { at = b.at; pick = b.pick; body = sequence_of action_of b.body }

abbrev pub optional_step : Option (TacItem Action) → Option (Step WrittenAction)
optional_step None = None
optional_step (Some s) = Some (step_of action_of s)

abbrev pub led_of : Led → WrittenLed
led_of l = record { sign = separated_by (l.dot, l.place); item = optional_step l.item }
