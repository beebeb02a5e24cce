use Rattle.mt_calculus_laws.proofs.derivations.growth_of_sound_store.Goals as goal
use Rattle.mt_calculus_laws.proofs.GrowthLaws.{sound_store_growth_law}

pub returns : goal.returns
returns c = record { law = sound_store_growth_law }
