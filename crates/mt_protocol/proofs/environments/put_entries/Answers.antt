use Rattle.mt_protocol.proofs.Listing.{one_more}
use Rattle.mt_protocol.proofs.environments.put_entries.Goals as goal

pub loop-n-preserved : goal.loop-n-preserved
loop-n-preserved c =
    one_more c.args.from.now c.loop-n.n _ _ _ (rw c.len-n-end.ensures at c.loop-n-test.true) c.loop-n.invariant c.in_ok-put_entry.ensures
