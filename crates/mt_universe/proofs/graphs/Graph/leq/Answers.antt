use Rattle.std.proofs.Common.{◌↔◌, IsTrue, subst}
use Rattle.mt_term.specs.Universes.{IsAtMost}
use Rattle.mt_universe.specs.Graphs.{Universes}
use Rattle.mt_universe.proofs.GraphLaws.{order_kept}
use Rattle.mt_universe.proofs.graphs.Graph.leq.Goals as goal

pub returns : goal.returns
returns c =
    let e = rw (c.deref.ensures.value, c.deref-2.ensures.value) at c.at_most.ensures in
    subst (λ (g : Universes). IsTrue c.at_most.result ↔ IsAtMost g.below c.args.u.now c.args.w.now) c.self.view_is
    (order_kept _ _ _ c.self.invariant c.args.u.now c.args.w.now c.at_most.result e)
