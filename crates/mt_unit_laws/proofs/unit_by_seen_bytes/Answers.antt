use Rattle.mt_unit_laws.proofs.Units.{unit_law}
use Rattle.mt_unit_laws.proofs.unit_by_seen_bytes.Goals as goal

pub returns : goal.returns
returns c = record { law = unit_law }
