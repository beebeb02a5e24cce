use Rattle.mt_calculus_laws.proofs.derivations.context_of_judgement.Goals as goal
use Rattle.mt_calculus_laws.proofs.DerivationLaws.{context_law}

pub returns : goal.returns
returns c = record { law = context_law }
