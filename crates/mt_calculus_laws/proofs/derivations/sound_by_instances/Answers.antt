use Rattle.mt_calculus_laws.proofs.derivations.sound_by_instances.Goals as goal
use Rattle.mt_calculus_laws.proofs.StoreSteps.{sound_instances_law}

pub returns : goal.returns
returns c = record { law = sound_instances_law }
