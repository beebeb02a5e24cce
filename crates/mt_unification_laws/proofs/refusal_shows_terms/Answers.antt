use Rattle.mt_unification_laws.proofs.refusal_shows_terms.Goals as goal
use Rattle.mt_unification_laws.proofs.UnificationGrowth.{unification_refusal_law}

pub returns : goal.returns
returns c = record { law = unification_refusal_law }
