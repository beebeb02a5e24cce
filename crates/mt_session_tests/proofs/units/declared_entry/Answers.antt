use Rattle.mt_term.specs.EnvironmentOf.{environment_of}
use Rattle.mt_session_tests.proofs.HoldingRules.{still-said}
use Rattle.mt_session_tests.proofs.units.declared_entry.Goals as goal

pub returns-clause-held : goal.returns-clause-held
returns-clause-held g c =
    still-said c.args.known.now.pool c.declare_plain.new.pool c.args.known.now.held
    (environment_of c.args.known.now.env) (environment_of c.declare_plain.new.env)
    c.declare_plain.ensures.kept c.requires.below c.requires.held c.declare_plain.ensures.env
