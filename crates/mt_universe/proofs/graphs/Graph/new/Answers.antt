use Rattle.mt_universe.proofs.GraphLaws.{kept_empty}
use Rattle.mt_universe.proofs.graphs.Graph.new.Goals as goal

pub invariant_of-result : goal.invariant_of-result
invariant_of-result c = kept_empty _ _ _ _ c.new.ensures.items c.new-2.ensures.items c.new-3.ensures.items c.new-4.ensures.items
