use Rattle.mt_session.proofs.Endings.{other_is_none, other_is_bad, bad_status, bad_output, other_uncharged}
use Rattle.mt_session.proofs.serving.answer.Goals as goal

pub returns-in-Err-clause-whole : goal.returns-in-Err-clause-whole
returns-in-Err-clause-whole g c = λ _.
    let no = other_is_none _ c.in-Err.ensures.cases.0 c.requires in
    (bad_status _ c.requires (other_is_bad _ c.in-Err.ensures.cases.0), bad_output _ _ no)

pub returns-in-Err-clause-charges : goal.returns-in-Err-clause-charges
returns-in-Err-clause-charges g c = λ _. other_uncharged _ _ (other_is_none _ c.in-Err.ensures.cases.0 c.requires)
