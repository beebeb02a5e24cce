use Rattle.std.proofs.Common.{IfOk, subst}
use Rattle.mt_term.specs.Trees.{Tree}
use Rattle.mt_pool.specs.Region.{Denotes}
use Rattle.mt_reduce.proofs.Held.{fill-next}
use Rattle.mt_reduce.proofs.branches.+fill_in.Goals as goal

pub returns-in_ok-next-in-More-clause-tree : goal.returns-in_ok-next-in-More-clause-tree
returns-in_ok-next-in-More-clause-tree t c =
    let below = rw c.in-More.is at c.requires.others in
    let same = fill-next c.args.pool.now c.substitute.new.self c.in-More.a c.in_ok-next-in-More.next c.args.body c.in-More.rest.now c.in_ok-count-in-More.field-0
    c.substitute.ensures.kept below.1 (c.in_ok-count-in-More.ensures c.args.pool.now) (c.in_ok-next-in-More.ensures.tree.1) in
    rw c.in-More.is (subst (λ (u : Tree). IfOk c.fill_in.result (λ v. Denotes c.fill_in.new.pool v u)) same c.fill_in.ensures.tree)
