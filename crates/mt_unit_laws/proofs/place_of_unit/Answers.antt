use Rattle.mt_unit_laws.proofs.Places.{place_law}
use Rattle.mt_unit_laws.proofs.place_of_unit.Goals as goal

pub returns : goal.returns
returns c = record { law = place_law }
