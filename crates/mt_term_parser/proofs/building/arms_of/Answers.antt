use Rattle.std.proofs.Common.{map, sym, ap, ◌∙◌}
use Rattle.mt_term_parser.specs.WrittenOf.{case_of, cases_of}
use Rattle.mt_term_parser.specs.Grammar.{cases_onto}
use Rattle.mt_term_parser.proofs.Onto.{cases_onto-push}
use Rattle.mt_term_parser.proofs.building.arms_of.Goals as goal

pub row-preserved : goal.row-preserved
row-preserved c =
    ap (cases_onto (map case_of c.pop.new.self.items)) c.in_ok-arms.ensures
    ∙ sym (cases_onto-push c.pop.new.self.items c.in-Some.arm (cases_of c.row.arms))
    ∙ ap (λ xs. cases_onto (map case_of xs) (cases_of c.row.arms)) (sym c.in-Some.ensures.items)
    ∙ c.row.invariant
