use Rattle.std.proofs.Common.{rules, arith, ap}
use Rattle.mt_layers.specs.Environments.{environment_in}
use Rattle.mt_pool.specs.Region.{tree_at}
use Rattle.mt_store.specs.Held.{store_in}
use Rattle.mt_rules.specs.Charges.{rest}
use Rattle.mt_term.specs.Trees.{End}
use Rattle.mt_rules_laws.proofs.WeakHeadLaws.{look-rest}
use Rattle.mt_reduce.proofs.reduction.+whd.Goals as goal

pub unfold-whd-requires : goal.unfold-whd-requires
unfold-whd-requires g t c κs within = (search rules, (search rules, (c.in-Some.ensures.held _ c.requires.others, (c.requires.env_held, c.requires.store_held))))

pub whd-loop-next-smaller : goal.whd-loop-next-smaller
whd-loop-next-smaller g t c =
    let charged = c.in_ok-charge.ensures.ok in
    let bound = look-rest (environment_in c.loop-next.w.pool.now c.loop-next.w.env.now) (store_in c.loop-next.w.pool.now c.loop-next.w.store.now) (tree_at c.loop-next.w.pool.now c.loop-next.head) End c.loop-next.w.left in
    omega (arith, bound, ap rest c.in_ok-next.ensures.outcome, charged.0, charged.1)
