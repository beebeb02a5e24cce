use Rattle.std.proofs.Common.{◌≡◌, ◌+◌, ◌<◌, length}
use Rattle.mt_layers.specs.Environments.{environment_in, EnvBelow}
use Rattle.mt_pool.specs.Region.{tree_at, Kept}
use Rattle.mt_store.specs.Held.{store_in, StoreBelow}
use Rattle.mt_rules.specs.WeakHead.{whd}
use Rattle.mt_reduce.proofs.reduction.+whd.Given as goal

abbrev pub decreases-whd : goal.decreases-whd
decreases-whd g l = l.depth_left

abbrev pub decreases-look : goal.decreases-look
decreases-look g l = l.depth_left

abbrev pub decreases-unfold : goal.decreases-unfold
decreases-unfold g l = l.depth_left

abbrev pub invariant-whd-loop-next : goal.invariant-whd-loop-next
invariant-whd-loop-next g l = record {
  same_pool : l.w.pool.ghost_name ≡ l.initial.w.pool.ghost_name;
  env : l.w.env ≡ l.initial.w.env;
  store : l.w.store ≡ l.initial.w.store;
  kept : Kept l.initial.w.pool.now l.w.pool.now;
  held : l.head.at < length l.w.pool.now;
  env_held : EnvBelow (length l.w.pool.now) l.w.env.now;
  store_held : StoreBelow (length l.w.pool.now) l.w.store.now;
  same : whd (environment_in l.initial.w.pool.now l.initial.w.env.now) (store_in l.initial.w.pool.now l.initial.w.store.now) (tree_at l.initial.w.pool.now l.initial.head) l.initial.w.left ≡ whd (environment_in l.initial.w.pool.now l.initial.w.env.now) (store_in l.initial.w.pool.now l.initial.w.store.now) (tree_at l.w.pool.now l.head) l.w.left;
  cost : l.steps + l.w.left ≡ l.initial.steps + l.initial.w.left;
}

abbrev pub decreases-whd-loop-next : goal.decreases-whd-loop-next
decreases-whd-loop-next g l = l.w.left
