use Rattle.std.proofs.lemmas.Str.{IsCharBoundary-start}
use Rattle.mt_session_tests.proofs.units.first_unit.Goals as goal

pub unit_at-requires : goal.unit_at-requires
unit_at-requires c = IsCharBoundary-start c.args.text.now c.utf8.text
