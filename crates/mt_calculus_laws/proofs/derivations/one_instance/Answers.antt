use Rattle.mt_calculus_laws.proofs.derivations.one_instance.Goals as goal
use Rattle.mt_calculus_laws.proofs.StoreSteps.{one_instance_law}

pub returns : goal.returns
returns c = record { law = one_instance_law }
