use Rattle.mt_calculus_laws.proofs.derivations.growth_of_environment.Goals as goal
use Rattle.mt_calculus_laws.proofs.DerivationLaws.{growth_law}

pub returns : goal.returns
returns c = record { law = growth_law }
