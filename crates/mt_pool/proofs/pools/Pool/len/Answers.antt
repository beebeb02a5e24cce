use Rattle.mt_pool.proofs.NodeAtDepth.{placed-length}
use Rattle.mt_pool.proofs.pools.Pool.len.Goals as goal

pub returns : goal.returns
returns c = rw (← c.self.view_is, placed-length, c.len.ensures) c.self.inside.nodes.ok.0
