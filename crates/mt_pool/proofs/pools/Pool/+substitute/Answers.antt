use Rattle.std.proofs.Common.{refl, ap, subst, ◌∙◌, IfOk}
use Rattle.mt_term.specs.Passing.{sub_past, sub_past_arms}
use Rattle.mt_term.specs.Trees.{Tree}
use Rattle.mt_pool.specs.Region.{tree_in, branches_of, Denotes, Kept}
use Rattle.mt_pool.specs.Replaced.{replacement_in}
use Rattle.mt_pool.proofs.Region.{kept-then}
use Rattle.mt_pool.proofs.Replaced.{match-made, replacement-kept}
use Rattle.mt_pool.proofs.pools.Pool.+substitute.Goals as goal

pub substitute_within-returns-in_ok-bs-in-Match-2-clause-tree : goal.substitute_within-returns-in_ok-bs-in-Match-2-clause-tree
substitute_within-returns-in_ok-bs-in-Match-2-clause-tree t c =
    let p0 = c.args.self.now in
    let p1 = c.substitute_within-in-Match.new.self in
    let p2 = c.substitute_within-in-Match-2.new.self in
    let k1 = c.substitute_within-in-Match.ensures.kept in
    let k2 : Kept p0 p2 = kept-then p0 p1 p2 k1 c.substitute_within-in-Match-2.ensures.kept in
    let σ = replacement_in p0 c.args.by in
    let e = match-made (sub_past c.args.binders σ) (sub_past c.args.binders (replacement_in p1 c.args.by))
    (sub_past_arms c.args.binders σ) (sub_past_arms c.args.binders (replacement_in p2 c.args.by))
    (ap (sub_past c.args.binders) (replacement-kept p0 p1 c.args.by k1 c.requires.by))
    (ap (sub_past_arms c.args.binders) (replacement-kept p0 p2 c.args.by k2 c.requires.by))
    (λ _ _ _ _. refl)
    p0 p1 p2 c.substitute_branches.new.self
    k1 c.substitute_within-in-Match-2.ensures.kept c.substitute_branches.ensures.kept
    c.args.t c.in-Match.n c.in-Match.r c.in-Match.c (branches_of c.in-Match.bs) (branches_of c.in_ok-bs-in-Match.bs)
    c.requires.t (rw c.in-Match.is at c.node.ensures.below) (c.in_ok-bs-in-Match.ensures {u = tt})
    (c.node.ensures.tree ∙ ap (tree_in p0) c.in-Match.is)
    c.in_ok-r-in-Match.r c.in_ok-c-in-Match.c (branches_of c.in_ok-bs-in-Match-2.bs)
    (c.in_ok-r-in-Match.ensures {u = tt}).tree (c.in_ok-c-in-Match.ensures {u = tt}).tree (c.in_ok-bs-in-Match-2.ensures {u = tt}).arms in
    subst (λ (x : Tree). IfOk c.put-in-Match.result (λ v. Denotes c.put-in-Match.new.self v x)) e c.put-in-Match.ensures.tree

pub substitute_within-returns-in_ok-bs-in-Match-2-clause-kept : goal.substitute_within-returns-in_ok-bs-in-Match-2-clause-kept
substitute_within-returns-in_ok-bs-in-Match-2-clause-kept t c =
    let p0 = c.args.self.now in
    let p1 = c.substitute_within-in-Match.new.self in
    let p2 = c.substitute_within-in-Match-2.new.self in
    let p3 = c.substitute_branches.new.self in
    let p4 = c.put-in-Match.new.self in
    kept-then p0 p1 p4 c.substitute_within-in-Match.ensures.kept
    (kept-then p1 p2 p4 c.substitute_within-in-Match-2.ensures.kept
    (kept-then p2 p3 p4 c.substitute_branches.ensures.kept c.put-in-Match.ensures.kept))
