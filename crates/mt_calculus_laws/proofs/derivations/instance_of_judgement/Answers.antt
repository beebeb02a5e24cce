use Rattle.mt_calculus_laws.proofs.derivations.instance_of_judgement.Goals as goal
use Rattle.mt_calculus_laws.proofs.StoreSteps.{instance_law}

pub returns : goal.returns
returns c = record { law = instance_law }
