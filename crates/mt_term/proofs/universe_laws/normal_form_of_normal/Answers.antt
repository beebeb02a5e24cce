use Rattle.mt_term.proofs.universe_laws.normal_form_of_normal.Goals as goal
use Rattle.mt_term.proofs.UniverseNormalLaws.{normal_form_kept}

pub returns : goal.returns
returns c = record { law = normal_form_kept }
