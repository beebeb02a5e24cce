use Rattle.mt_term.specs.EntryOf.{declaration_of}
use Rattle.mt_term.specs.EnvironmentOf.{environment_of}
use Rattle.mt_session_tests.proofs.HoldingRules.{added-below, added-said}
use Rattle.mt_session_tests.proofs.units.add.Goals as goal

pub returns-clause-held : goal.returns-clause-held
returns-clause-held c =
    added-said c.args.known.now.held c.add.new.self c.args.known.now.pool c.add.new.pool (declaration_of c.args.entry)
    (environment_of c.args.known.now.env) (environment_of c.enter.new.env)
    c.in_ok-add.ensures.kept c.requires.below c.in_ok-add.ensures.added c.requires.held c.in_ok-enter.ensures.known

pub returns-clause-below : goal.returns-clause-below
returns-clause-below c =
    added-below c.args.known.now.held c.add.new.self c.args.known.now.pool c.add.new.pool (declaration_of c.args.entry)
    c.in_ok-add.ensures.kept c.requires.below c.in_ok-add.ensures.added
