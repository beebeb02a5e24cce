use Rattle.std.proofs.Common.{◌<◌, length}
use Rattle.mt_pool.proofs.NodeAtDepth.{placed-depth, placed-most, placed-length}
use Rattle.mt_pool.proofs.pools.Pool.depth.Goals as goal

pub index-requires : goal.index-requires
index-requires c =
    let h : c.args.id.at < length c.args.self.now = c.requires in
    rw c.self.inside.nodes.ok.0 (rw (← c.self.view_is, placed-length) at h)

pub returns-clause-depth : goal.returns-clause-depth
returns-clause-depth c =
    let h : c.args.id.at < length c.args.self.now = c.requires in
    let l = rw (← c.self.view_is, placed-length) at h in
    rw (← c.self.view_is) (placed-depth c.self.inside.nodes.items c.args.id _ c.self.invariant l c.index.ensures)

pub returns-clause-most : goal.returns-clause-most
returns-clause-most c =
    let h : c.args.id.at < length c.args.self.now = c.requires in
    let l = rw (← c.self.view_is, placed-length) at h in
    placed-most c.self.inside.nodes.items c.args.id.at _ c.self.invariant l c.index.ensures
