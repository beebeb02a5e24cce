use Rattle.mt_unification_laws.proofs.unification_gives_conversion.Goals as goal
use Rattle.mt_unification_laws.proofs.UnificationSoundness.{unification_law}

pub returns : goal.returns
returns c = record { law = unification_law }
