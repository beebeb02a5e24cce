use Rattle.mt_session.proofs.Bodies.{close_state}
use Rattle.mt_session.proofs.applying.apply.Goals as goal

pub returns-in-Close-clause-state : goal.returns-in-Close-clause-state
returns-in-Close-clause-state c =
    close_state c.args.session.now c.args.end c.args.task c.in-Close.field-0 c.in-Close.field-1 c.in-Close.term _ c.in-Close.is c.requires.fits c.close.ensures.state
