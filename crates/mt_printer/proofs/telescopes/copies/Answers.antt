use Rattle.std.proofs.Common.{refl}
use Rattle.mt_printer.specs.EnvText.{alone}
use Rattle.mt_printer.proofs.Listing.{one_more}
use Rattle.mt_printer.proofs.telescopes.copies.Goals as goal

pub loop-n-preserved : goal.loop-n-preserved
loop-n-preserved c =
    one_more alone (λ hs. hs) (λ x xs. refl) c.args.hyps.now c.loop-n.n _ _ _
    (rw c.len-n-end.ensures at c.loop-n-test.true) c.loop-n.invariant c.in_ok-put_copy.ensures
