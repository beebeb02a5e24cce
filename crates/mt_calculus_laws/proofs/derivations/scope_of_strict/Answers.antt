use Rattle.mt_calculus_laws.proofs.derivations.scope_of_strict.Goals as goal
use Rattle.mt_calculus_laws.proofs.DerivationLaws.{scope_law}

pub returns : goal.returns
returns c = record { law = scope_law }
