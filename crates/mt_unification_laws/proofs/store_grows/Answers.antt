use Rattle.mt_unification_laws.proofs.store_grows.Goals as goal
use Rattle.mt_unification_laws.proofs.UnificationGrowth.{unification_growth_law}

pub returns : goal.returns
returns c = record { law = unification_growth_law }
