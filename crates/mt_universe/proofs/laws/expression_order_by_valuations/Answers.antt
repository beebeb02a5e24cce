use Rattle.mt_universe.proofs.UniverseOrderLaws.{at_most_decides}
use Rattle.mt_universe.proofs.laws.expression_order_by_valuations.Goals as goal

pub returns : goal.returns
returns c = record { law = at_most_decides }
