use Rattle.mt_session.proofs.Bodies.{closes_none, closes_some}
use Rattle.mt_session.proofs.applying.with_term.Goals as goal

pub returns-in-None-clause-store : goal.returns-in-None-clause-store
returns-in-None-clause-store c = λ ms. closes_none c.args.proof ms _ c.in-None.is

pub returns-in-Some-clause-store : goal.returns-in-Some-clause-store
returns-in-Some-clause-store c = λ ms. closes_some c.args.proof c.in-Some.begun ms _ c.in-Some.is
