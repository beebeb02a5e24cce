use Rattle.mt_universe.proofs.CycleLaws.{cycle_law}
use Rattle.mt_universe.proofs.laws.cycle_by_valuations.Goals as goal

pub returns : goal.returns
returns c = record { law = cycle_law }
