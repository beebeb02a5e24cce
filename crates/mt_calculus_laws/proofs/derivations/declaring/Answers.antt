use Rattle.mt_calculus_laws.proofs.derivations.declaring.Goals as goal
use Rattle.mt_calculus_laws.proofs.StoreSteps.{declare_law}

pub returns : goal.returns
returns c = record { law = declare_law }
