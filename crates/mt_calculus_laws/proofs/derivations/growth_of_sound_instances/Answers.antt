use Rattle.mt_calculus_laws.proofs.derivations.growth_of_sound_instances.Goals as goal
use Rattle.mt_calculus_laws.proofs.GrowthLaws.{sound_instances_growth_law}

pub returns : goal.returns
returns c = record { law = sound_instances_growth_law }
