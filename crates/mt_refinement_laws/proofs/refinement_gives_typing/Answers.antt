use Rattle.mt_refinement_laws.proofs.refinement_gives_typing.Goals as goal
use Rattle.mt_refinement_laws.proofs.RefinementSoundness.{refinement_law}

pub returns : goal.returns
returns c = record { law = refinement_law }
