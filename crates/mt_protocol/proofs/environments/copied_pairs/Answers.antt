use Rattle.mt_protocol.proofs.Listing.{one_more}
use Rattle.mt_protocol.proofs.environments.copied_pairs.Goals as goal

pub loop-n-preserved : goal.loop-n-preserved
loop-n-preserved c =
    one_more c.args.pairs.now c.loop-n.n _ _ _ (rw c.len-n-end.ensures at c.loop-n-test.true) c.loop-n.invariant c.in_ok-put_pair.ensures
