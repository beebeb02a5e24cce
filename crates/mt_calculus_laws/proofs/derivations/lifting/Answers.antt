use Rattle.mt_calculus_laws.proofs.derivations.lifting.Goals as goal
use Rattle.mt_calculus_laws.proofs.PlaceLaws.{lift_law}

pub returns : goal.returns
returns c = record { law = lift_law }
