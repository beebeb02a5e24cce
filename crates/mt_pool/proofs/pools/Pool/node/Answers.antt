use Rattle.std.proofs.Common.{◌<◌, length}
use Rattle.mt_pool.proofs.NodeAtDepth.{placed-tree, placed-below, placed-length}
use Rattle.mt_pool.proofs.pools.Pool.node.Goals as goal

pub index-requires : goal.index-requires
index-requires c =
    let h : c.args.id.at < length c.args.self.now = c.requires in
    rw c.self.inside.nodes.ok.0 (rw (← c.self.view_is, placed-length) at h)

pub returns-clause-tree : goal.returns-clause-tree
returns-clause-tree c =
    let h : c.args.id.at < length c.args.self.now = c.requires in
    let l = rw (← c.self.view_is, placed-length) at h in
    rw (← c.self.view_is) (placed-tree c.self.inside.nodes.items c.args.id _ c.self.invariant l c.index.ensures)

pub returns-clause-below : goal.returns-clause-below
returns-clause-below c =
    let h : c.args.id.at < length c.args.self.now = c.requires in
    let l = rw (← c.self.view_is, placed-length) at h in
    placed-below c.self.inside.nodes.items c.args.id _ c.self.invariant l c.index.ensures
