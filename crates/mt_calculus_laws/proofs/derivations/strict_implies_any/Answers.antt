use Rattle.mt_calculus_laws.proofs.derivations.strict_implies_any.Goals as goal
use Rattle.mt_calculus_laws.proofs.DerivationLaws.{strict_law}

pub returns : goal.returns
returns c = record { law = strict_law }
