use Rattle.std.proofs.Common.{subst}
use Rattle.mt_universe.specs.Graphs.{IsGraph}
use Rattle.mt_universe.proofs.GraphLaws.{kept_graph}
use Rattle.mt_universe.proofs.graphs.Graph.count.Goals as goal

pub returns-clause-graph : goal.returns-clause-graph
returns-clause-graph c = subst IsGraph c.self.view_is (kept_graph _ _ _ c.self.invariant)
