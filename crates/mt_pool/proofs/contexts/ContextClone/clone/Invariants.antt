use Rattle.std.proofs.Common.{◌≡◌, take}
use Rattle.mt_pool.proofs.contexts.ContextClone.clone.Given as goal

abbrev pub invariant-loop-hyp : goal.invariant-loop-hyp
invariant-loop-hyp l = l.items.items ≡ take l.hyp-index l.hyp-items
