use Rattle.mt_refinement_laws.proofs.proper_stores.Goals as goal
use Rattle.mt_refinement_laws.proofs.ProperRefinement.{refinement_proper_law}

pub returns : goal.returns
returns c = record { law = refinement_proper_law }
