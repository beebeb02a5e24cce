use Rattle.mt_universe.proofs.UniverseOrderLaws.{sort_same_decides}
use Rattle.mt_universe.proofs.laws.same_sorts_by_valuations.Goals as goal

pub returns : goal.returns
returns c = record { law = sort_same_decides }
