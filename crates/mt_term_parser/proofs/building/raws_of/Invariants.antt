use Rattle.std.proofs.Common.{◌≡◌, map, vec_len}
use Rattle.mt_term_parser.specs.WrittenOf.{written_of, arguments_of}
use Rattle.mt_term_parser.specs.Grammar.{arguments, arguments_onto}
use Rattle.mt_term_parser.proofs.building.raws_of.Given as goal

abbrev pub invariant-row : goal.invariant-row
invariant-row l = arguments_onto (map written_of l.items.items) (arguments_of l.raws) ≡ arguments (map written_of l.fn.items.items)

abbrev pub decreases-row : goal.decreases-row
decreases-row l = vec_len l.items
