use Rattle.mt_calculus_laws.proofs.derivations.assigning.Goals as goal
use Rattle.mt_calculus_laws.proofs.StoreSteps.{assign_law}

pub returns : goal.returns
returns c = record { law = assign_law }
