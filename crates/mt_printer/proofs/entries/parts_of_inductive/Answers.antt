use Rattle.std.proofs.Common.{refl}
use Rattle.mt_printer.specs.EnvText.{constructor_part, parts_of_constructors}
use Rattle.mt_printer.proofs.Listing.{one_more}
use Rattle.mt_printer.proofs.entries.parts_of_inductive.Goals as goal

pub loop-k-preserved : goal.loop-k-preserved
loop-k-preserved c =
    one_more (constructor_part c.args.params) (parts_of_constructors c.args.params) (λ x xs. refl) c.args.cons.now c.loop-k.k _ _ _
    (rw c.len-k-end.ensures at c.loop-k-test.true) c.loop-k.invariant c.in_ok-put_part.ensures
