use Rattle.mt_calculus_laws.proofs.derivations.substitution.Goals as goal
use Rattle.mt_calculus_laws.proofs.DerivationLaws.{substitution_law}

pub returns : goal.returns
returns c = record { law = substitution_law }
