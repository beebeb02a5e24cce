use Rattle.mt_session.proofs.Ordering.{finished_found}
use Rattle.mt_session.proofs.asking.end_of_proof.Goals as goal

pub returns-in_ok-body-in-Some : goal.returns-in_ok-body-in-Some
returns-in_ok-body-in-Some c =
    finished_found c.args.session.now c.args.begun.now _ _ _ _ c.args.at c.requires.sound c.requires.begun c.in-Some.is c.in_ok-name-in-Some.ensures c.in_ok-ty-in-Some.ensures c.in_ok-body-in-Some.ensures
