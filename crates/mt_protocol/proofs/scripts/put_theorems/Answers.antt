use Rattle.mt_protocol.proofs.Listing.{theorem_more}
use Rattle.mt_protocol.proofs.scripts.put_theorems.Goals as goal

pub loop-i-preserved : goal.loop-i-preserved
loop-i-preserved c = theorem_more c.args.out.now.items c.loop-i.out.items _ c.loop-i.i c.loop-i.invariant c.in_ok-put_theorem.ensures
