use Rattle.std.proofs.Common.{map, sym, ap, ◌∙◌}
use Rattle.mt_tactical.specs.TacticalOf.{sequence_of}
use Rattle.mt_unit_parser.specs.UnitOf.{action_of}
use Rattle.mt_unit_parser.specs.BlockOf.{led_of}
use Rattle.mt_unit_parser.specs.Blocks.{led_onto}
use Rattle.mt_unit_parser.proofs.Lists.{led_onto-push}
use Rattle.mt_unit_parser.proofs.blocks.led_onto.Goals as goal

pub row-preserved : goal.row-preserved
row-preserved c =
    ap (led_onto (map led_of c.pop.new.self.items)) c.in_ok-rest.ensures
    ∙ sym (led_onto-push c.pop.new.self.items c.in-Some.led (sequence_of action_of c.row.rest))
    ∙ ap (λ xs. led_onto (map led_of xs) (sequence_of action_of c.row.rest)) (sym c.in-Some.ensures.items)
    ∙ c.row.invariant
