use Rattle.std.proofs.Common.{refl}
use Rattle.mt_session.proofs.Holding.{tables_kept}
use Rattle.mt_session.proofs.declaring.declare.Goals as goal

pub returns-clause-tables : goal.returns-clause-tables
returns-clause-tables g c = tables_kept c.args.session.now _ c.requires.tables c.declare_plain.ensures.kept c.declare_plain.ensures.env c.declare_plain.ensures.names refl
