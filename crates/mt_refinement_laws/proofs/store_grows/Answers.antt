use Rattle.mt_refinement_laws.proofs.store_grows.Goals as goal
use Rattle.mt_refinement_laws.proofs.RefinementGrowth.{refinement_growth_law}

pub returns : goal.returns
returns c = record { law = refinement_growth_law }
