use Rattle.mt_calculus_laws.proofs.derivations.growth_of_conversion.Goals as goal
use Rattle.mt_calculus_laws.proofs.GrowthLaws.{conversion_growth_law}

pub returns : goal.returns
returns c = record { law = conversion_growth_law }
