use Rattle.std.proofs.Common.{◌∙◌}
use Rattle.mt_pool.specs.Region.{branches_of, ids_of}
use Rattle.mt_pool.proofs.Region.{kept-then}
use Rattle.mt_layers.proofs.Instancing.{match-made, assigned-made}
use Rattle.mt_layers.proofs.instances.+instance.Goals as goal

pub instance_match-returns-clause-kept : goal.instance_match-returns-clause-kept
instance_match-returns-clause-kept t c =
    kept-then _ _ _ c.instance.ensures.kept (kept-then _ _ _ c.instance-2.ensures.kept (kept-then _ _ _ c.instance_branches.ensures.kept c.put.ensures.kept))

pub instance_match-returns-clause-instance : goal.instance_match-returns-clause-instance
instance_match-returns-clause-instance t c =
    match-made c.args.store.now c.args.pool.now c.instance.new.pool c.instance-2.new.pool c.instance_branches.new.pool c.put.new.self c.args.e c.args.r c.args.c c.in_ok-r.r c.in_ok-c.c (branches_of c.args.bs.now) (branches_of c.in_ok-bs.bs) c.put.result
    c.requires.store_held c.instance.ensures.kept c.instance-2.ensures.kept c.instance_branches.ensures.kept c.requires.function c.requires.matched c.requires.branches c.in_ok-r.ensures.result_held c.in_ok-c.ensures.result_held
    c.in_ok-r.ensures.instance c.in_ok-c.ensures.instance c.in_ok-bs.ensures.instance c.put.ensures.tree

pub instance_meta-returns-in_ok-s-in-Some-clause-instance : goal.instance_meta-returns-in_ok-s-in-Some-clause-instance
instance_meta-returns-in_ok-s-in-Some-clause-instance t c =
    assigned-made c.args.store.now c.args.pool.now c.instance_ids.new.pool c.instance.new.pool c.under.new.self c.args.n (ids_of c.args.s.now) (ids_of c.in_ok-s.s) c.deref.result.now c.in-Some.body c.in_ok-body-in-Some.body c.under.result
    c.requires.store_held c.instance_ids.ensures.kept c.instance.ensures.kept c.in_ok-s.ensures.result_held (c.in-Some.ensures.body c.instance_ids.new.pool) c.in_ok-s.ensures.instance c.in_ok-body-in-Some.ensures.instance
    (c.deref.ensures.value ∙ c.in_ok-s-in-Some.ensures) c.under.ensures.tree
