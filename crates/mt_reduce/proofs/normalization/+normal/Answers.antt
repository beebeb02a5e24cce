use Rattle.std.proofs.Common.{ap}
use Rattle.std.proofs.lemmas.Result.{err_from_is_err_and}
use Rattle.mt_pool.specs.declared.nodes.BranchIds.{BranchIds}
use Rattle.mt_pool.specs.Region.{arms_at, branches_of, tree_at}
use Rattle.mt_reduce.proofs.Matches.{branches_stopped}
use Rattle.mt_reduce.proofs.normalization.+normal.Goals as goal

pub normal_match-returns-in_err-bs-clause-outcome : goal.normal_match-returns-in_err-bs-clause-outcome
normal_match-returns-in_err-bs-clause-outcome g t c =
    let p = err_from_is_err_and c.from_residual-in_err-bs.result c.from_residual-in_err-bs.ensures.1 in
    let first = c.in_ok-r.ensures in
    let second = c.in_ok-c.ensures in
    let stopped = branches_stopped c.args.w.now.pool.now c.normal.new.w.pool.now c.normal-2.new.w.pool.now c.args.w.now.env.now c.normal.new.w.env.now c.normal-2.new.w.env.now c.args.w.now.store.now c.normal.new.w.store.now c.normal-2.new.w.store.now
    (ap (λ r. r.now) first.env) (ap (λ r. r.now) second.env) (ap (λ r. r.now) first.store) (ap (λ r. r.now) second.store) first.kept second.kept c.requires.env_held c.requires.store_held
    c.args.e c.args.r c.args.c c.in_ok-r.r c.in_ok-c.c (branches_of c.args.bs.now) (λ (cs : BranchIds). arms_at c.normal_branches.new.w.pool.now (branches_of cs)) (tree_at c.normal_branches.new.w.pool.now) c.args.w.now.left c.normal.new.w.left c.normal-2.new.w.left c.normal_branches.new.w.left c.in_err-bs.field-0.0
    c.requires.matched c.requires.branches first.outcome second.outcome c.in_err-bs.ensures.outcome in
    rw (p.1, p.2) stopped
