use Rattle.std.proofs.lemmas.Str.{IsCharBoundary-start}
use Rattle.mt_syntax_tests.proofs.term_parser.outcome.Goals as goal

pub term_at-requires : goal.term_at-requires
term_at-requires c = IsCharBoundary-start c.args.text.now c.utf8.text
