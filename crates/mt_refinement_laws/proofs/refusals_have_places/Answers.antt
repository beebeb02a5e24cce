use Rattle.mt_refinement_laws.proofs.refusals_have_places.Goals as goal
use Rattle.mt_refinement_laws.proofs.RefinementPlaces.{refinement_place_law}

pub returns : goal.returns
returns c = record { law = refinement_place_law }
