use Rattle.std.proofs.Common.{map, sym, ap, ◌∙◌}
use Rattle.mt_tactical.specs.TacticalOf.{choices_of}
use Rattle.mt_unit_parser.specs.UnitOf.{action_of}
use Rattle.mt_unit_parser.specs.BlockOf.{branch_of}
use Rattle.mt_unit_parser.specs.Blocks.{choices_onto}
use Rattle.mt_unit_parser.proofs.Lists.{choices_onto-push}
use Rattle.mt_unit_parser.proofs.blocks.branches_of.Goals as goal

pub row-preserved : goal.row-preserved
row-preserved c =
    ap (choices_onto (map branch_of c.pop.new.self.items)) c.in_ok-rest.ensures
    ∙ sym (choices_onto-push c.pop.new.self.items c.in-Some.branch (choices_of action_of c.row.rest))
    ∙ ap (λ xs. choices_onto (map branch_of xs) (choices_of action_of c.row.rest)) (sym c.in-Some.ensures.items)
    ∙ c.row.invariant
