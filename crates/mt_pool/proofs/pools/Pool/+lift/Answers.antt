use Rattle.std.proofs.Common.{refl, ap, subst, ◌∙◌, IfOk}
use Rattle.mt_term.specs.Passing.{lift_past, lift_past_arms}
use Rattle.mt_term.specs.Trees.{Tree}
use Rattle.mt_pool.specs.Region.{tree_in, branches_of, Denotes}
use Rattle.mt_pool.proofs.Replaced.{match-made}
use Rattle.mt_pool.proofs.pools.Pool.+lift.Goals as goal

pub lift_within-returns-in_ok-bs-in-Match-2-clause-tree : goal.lift_within-returns-in_ok-bs-in-Match-2-clause-tree
lift_within-returns-in_ok-bs-in-Match-2-clause-tree t c =
    let f = lift_past c.args.by c.args.from in
    let g = lift_past_arms c.args.by c.args.from in
    let e = match-made f f g g refl refl (λ _ _ _ _. refl)
    c.args.self.now c.lift_within-in-Match.new.self c.lift_within-in-Match-2.new.self c.lift_branches.new.self
    c.lift_within-in-Match.ensures.kept c.lift_within-in-Match-2.ensures.kept c.lift_branches.ensures.kept
    c.args.t c.in-Match.n c.in-Match.r c.in-Match.c (branches_of c.in-Match.bs) (branches_of c.in_ok-bs-in-Match.bs)
    c.requires (rw c.in-Match.is at c.node.ensures.below) (c.in_ok-bs-in-Match.ensures {u = tt})
    (c.node.ensures.tree ∙ ap (tree_in c.args.self.now) c.in-Match.is)
    c.in_ok-r-in-Match.r c.in_ok-c-in-Match.c (branches_of c.in_ok-bs-in-Match-2.bs)
    (c.in_ok-r-in-Match.ensures {u = tt}).tree (c.in_ok-c-in-Match.ensures {u = tt}).tree (c.in_ok-bs-in-Match-2.ensures {u = tt}).arms in
    subst (λ (x : Tree). IfOk c.put-in-Match.result (λ v. Denotes c.put-in-Match.new.self v x)) e c.put-in-Match.ensures.tree
