use Rattle.mt_calculus_laws.proofs.derivations.weakening.Goals as goal
use Rattle.mt_calculus_laws.proofs.DerivationLaws.{weakening_law}

pub returns : goal.returns
returns c = record { law = weakening_law }
