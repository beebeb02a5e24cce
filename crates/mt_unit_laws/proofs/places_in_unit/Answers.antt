use Rattle.mt_unit_laws.proofs.PlacedUnits.{each_place_law}
use Rattle.mt_unit_laws.proofs.places_in_unit.Goals as goal

pub returns : goal.returns
returns c = record { law = each_place_law }
