use Rattle.mt_refinement_laws.proofs.refinement_meets_laws.Goals as goal
use Rattle.mt_refinement_laws.proofs.RefinementMeets.{refinement_meets_law}

pub returns : goal.returns
returns c = record { law = refinement_meets_law }
