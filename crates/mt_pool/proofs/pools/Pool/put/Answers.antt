use Rattle.mt_pool.proofs.NodeAtDepth.{place-tree, place-order, place-held, place-kept, placed-length}
use Rattle.mt_pool.proofs.pools.Pool.put.Goals as goal

pub invariant_of-self-2 : goal.invariant_of-self-2
invariant_of-self-2 c =
    let b = c.requires in
    let d = c.in_ok-depth.ensures.depth in
    rw c.in_ok-push.ensures.items
    (place-order _ _ c.self.invariant (rw (← c.self.view_is) at b) (rw (← c.self.view_is) at d) c.in_ok-depth.ensures.most)

pub returns-clause-kept : goal.returns-clause-kept
returns-clause-kept c =
    rw (c.in_ok-push.ensures.items, ← c.self.view_is)
    (place-kept c.self.inside.nodes.items record { node = c.args.node; depth = c.in_ok-depth.depth })

pub returns-clause-tree : goal.returns-clause-tree
returns-clause-tree c =
    rw (c.in_ok-push.ensures.items, ← c.self.view_is, c.len-at.ensures, c.self.inside.nodes.ok.0) (
      place-held c.self.inside.nodes.items record { node = c.args.node; depth = c.in_ok-depth.depth },
      place-tree c.self.inside.nodes.items record { node = c.args.node; depth = c.in_ok-depth.depth },
    )

pub returns-clause-new : goal.returns-clause-new
returns-clause-new c =
    rw (← c.self.view_is, placed-length, c.len-at.ensures) c.self.inside.nodes.ok.0
