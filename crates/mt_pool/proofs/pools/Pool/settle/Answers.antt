use Rattle.std.proofs.Common.{◌≤◌, length}
use Rattle.mt_pool.proofs.Built.{on_err}
use Rattle.mt_pool.proofs.NodeAtDepth.{placed-length, placed-take, take-order}
use Rattle.mt_pool.proofs.pools.Pool.settle.Goals as goal

pub invariant_of-self : goal.invariant_of-self
invariant_of-self c =
    let h : c.args.held ≤ length c.args.self.now = c.requires in
    let l = rw (← c.self.view_is, placed-length) at h in
    rw c.truncate.ensures.items (take-order c.args.held _ l c.self.invariant)

pub returns-then-is_err-clause-err : goal.returns-then-is_err-clause-err
returns-then-is_err-clause-err c =
    let h : c.args.held ≤ length c.args.self.now = c.requires in
    let l = rw (← c.self.view_is, placed-length) at h in
    on_err c.args.made _ (rw (c.truncate.ensures.items, ← c.self.view_is) (placed-take c.args.held c.self.inside.nodes.items l))
