use Rattle.mt_unification_laws.proofs.proper_stores.Goals as goal
use Rattle.mt_unification_laws.proofs.ProperUnification.{unification_proper_law}

pub returns : goal.returns
returns c = record { law = unification_proper_law }
