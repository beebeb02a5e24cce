use Rattle.mt_calculus_laws.proofs.derivations.no_other_instance.Goals as goal
use Rattle.mt_calculus_laws.proofs.GrowthLaws.{no_other_instance_law}

pub returns : goal.returns
returns c = record { law = no_other_instance_law }
