use Rattle.mt_universe.proofs.UniverseOrderLaws.{sort_at_most_decides}
use Rattle.mt_universe.proofs.laws.sort_order_by_valuations.Goals as goal

pub returns : goal.returns
returns c = record { law = sort_at_most_decides }
