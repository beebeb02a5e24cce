use Rattle.std.proofs.Common.{◌≡◌, ◌+◌}
use Rattle.mt_term.specs.EnvironmentOf.{environment_of}
use Rattle.mt_term.specs.Stores.{no_store}
use Rattle.mt_term.specs.TreeOf.{tree_of}
use Rattle.mt_rules.specs.WeakHead.{whd}
use Rattle.mt_kernel.proofs.reduction.+whd.Given as goal

abbrev pub decreases-whd : goal.decreases-whd
decreases-whd g l = l.depth_left

abbrev pub decreases-look : goal.decreases-look
decreases-look g l = l.depth_left

abbrev pub decreases-unfold : goal.decreases-unfold
decreases-unfold g l = l.depth_left

abbrev pub invariant-whd-loop-head : goal.invariant-whd-loop-head
invariant-whd-loop-head g l = record {
  same : whd (environment_of l.env) no_store (tree_of l.initial.head) l.initial.left ≡ whd (environment_of l.env) no_store (tree_of l.head) l.left;
  cost : l.steps + l.left ≡ l.initial.steps + l.initial.left;
}

abbrev pub decreases-whd-loop-head : goal.decreases-whd-loop-head
decreases-whd-loop-head g l = l.left
