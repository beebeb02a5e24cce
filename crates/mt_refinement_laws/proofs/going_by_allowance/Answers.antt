use Rattle.mt_refinement_laws.proofs.going_by_allowance.Goals as goal
use Rattle.mt_refinement_laws.proofs.RefinementAllowance.{refinement_allowance_law}

pub returns : goal.returns
returns c = record { law = refinement_allowance_law }
