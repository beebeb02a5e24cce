use Rattle.std.proofs.Common.{refl}
use Rattle.mt_term.specs.EnvironmentOf.{environment_of}
use Rattle.mt_printer.specs.GoalsText.{each_goal_text, goal_text}
use Rattle.mt_printer.proofs.Listing.{one_more}
use Rattle.mt_printer.proofs.goals.put_each_goal.Goals as goal

pub loop-n-preserved : goal.loop-n-preserved
loop-n-preserved c =
    one_more (goal_text (environment_of c.args.env.now) c.args.metas.now) (each_goal_text (environment_of c.args.env.now) c.args.metas.now) (λ x xs. refl) c.args.goals.now c.loop-n.n _ _ _
    (rw c.len-n-end.ensures at c.loop-n-test.true) c.loop-n.invariant c.in_ok-put_goal.ensures
