use Rattle.std.proofs.Common.{refl, sym}
use Rattle.mt_term.specs.EntryOf.{declaration_of}
use Rattle.mt_session.proofs.Holding.{distinct_held, tables_added}
use Rattle.mt_session.proofs.applying.enter.Goals as goal

pub hold-requires : goal.hold-requires
hold-requires c = distinct_held c.args.session.now.pool c.args.session.now.held.entries c.args.session.now.env.entries (declaration_of c.args.entry) c.requires.tables.entries c.requires.names

pub returns-clause-tables : goal.returns-clause-tables
returns-clause-tables c =
    tables_added c.args.session.now _ (declaration_of c.args.entry) c.requires.tables
    (c.in_ok-add.ensures.names c.args.session.now.env.entries (sym c.len-number.ensures) c.requires.tables.names)
    c.hold.ensures.kept c.in_ok-hold.ensures.added c.in_ok-push.ensures.ok refl refl
