use Rattle.std.proofs.Common.{◌≡◌, map, vec_len}
use Rattle.mt_term_parser.specs.WrittenOf.{case_of, cases_of}
use Rattle.mt_term_parser.specs.Grammar.{cases, cases_onto}
use Rattle.mt_term_parser.proofs.building.arms_of.Given as goal

abbrev pub invariant-row : goal.invariant-row
invariant-row l = cases_onto (map case_of l.items.items) (cases_of l.arms) ≡ cases (map case_of l.fn.items.items)

abbrev pub decreases-row : goal.decreases-row
decreases-row l = vec_len l.items
