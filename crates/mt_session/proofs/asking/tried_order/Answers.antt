use Rattle.mt_session.proofs.Ordering.{graph_same}
use Rattle.mt_session.proofs.asking.tried_order.Goals as goal

pub returns-clause-ok : goal.returns-clause-ok
returns-clause-ok c = graph_same c.declare.result _ _ _ _ _ _ c.in_ok-tried.ensures c.in_ok-clone.ensures c.in_ok-clone-2.ensures c.declare.ensures.graph
