use Rattle.std.proofs.lemmas.Str.{IsCharBoundary-start}
use Rattle.mt_syntax_tests.proofs.lexer.first.Goals as goal

pub next-requires : goal.next-requires
next-requires c = IsCharBoundary-start c.args.text.now c.utf8.text
