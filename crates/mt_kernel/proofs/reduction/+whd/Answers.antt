use Rattle.std.proofs.Common.{arith, ap}
use Rattle.mt_rules.specs.Charges.{rest}
use Rattle.mt_term.specs.Stores.{no_store}
use Rattle.mt_term.specs.Trees.{End}
use Rattle.mt_term.specs.TreeOf.{tree_of}
use Rattle.mt_rules_laws.proofs.WeakHeadLaws.{look-rest}
use Rattle.mt_term.specs.EnvironmentOf.{environment_of}
use Rattle.mt_kernel.proofs.reduction.+whd.Goals as goal

pub whd-loop-head-smaller : goal.whd-loop-head-smaller
whd-loop-head-smaller g t c =
    let charged = c.in_ok-charge.ensures.ok in
    let bound = look-rest (environment_of c.args.env.now) no_store (tree_of c.loop-head.head) End c.loop-head.left in
    omega (arith, bound, ap rest c.in_ok-next.ensures.answer, charged.0, charged.1)
