use Rattle.mt_calculus_laws.proofs.derivations.renumbering.Goals as goal
use Rattle.mt_calculus_laws.proofs.DerivationLaws.{renumbering_law}

pub returns : goal.returns
returns c = record { law = renumbering_law }
