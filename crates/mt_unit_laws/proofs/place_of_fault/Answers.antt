use Rattle.mt_unit_laws.proofs.Places.{fault_law}
use Rattle.mt_unit_laws.proofs.place_of_fault.Goals as goal

pub returns : goal.returns
returns c = record { law = fault_law }
