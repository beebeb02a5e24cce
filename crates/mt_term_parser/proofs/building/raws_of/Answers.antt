use Rattle.std.proofs.Common.{map, sym, ap, ◌∙◌}
use Rattle.mt_term_parser.specs.WrittenOf.{written_of, arguments_of}
use Rattle.mt_term_parser.specs.Grammar.{arguments_onto}
use Rattle.mt_term_parser.proofs.Onto.{arguments_onto-push}
use Rattle.mt_term_parser.proofs.building.raws_of.Goals as goal

pub row-preserved : goal.row-preserved
row-preserved c =
    ap (arguments_onto (map written_of c.pop.new.self.items)) c.in_ok-raws.ensures
    ∙ sym (arguments_onto-push c.pop.new.self.items c.in-Some.raw (arguments_of c.row.raws))
    ∙ ap (λ xs. arguments_onto (map written_of xs) (arguments_of c.row.raws)) (sym c.in-Some.ensures.items)
    ∙ c.row.invariant
