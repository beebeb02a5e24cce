use Rattle.std.proofs.Common.{refl}
use Rattle.mt_term.specs.Instancing.{instance_part, instances}
use Rattle.mt_printer.proofs.Listing.{one_more}
use Rattle.mt_printer.proofs.goals.instances.Goals as goal

pub loop-n-preserved : goal.loop-n-preserved
loop-n-preserved c =
    one_more (instance_part c.args.metas.now) (instances c.args.metas.now) (λ x xs. refl) c.args.hyps.now c.loop-n.n _ _ _
    (rw c.len-n-end.ensures at c.loop-n-test.true) c.loop-n.invariant c.in_ok-add_instance.ensures
