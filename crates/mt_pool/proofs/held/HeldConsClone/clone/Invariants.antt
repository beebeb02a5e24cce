use Rattle.std.proofs.Common.{◌≡◌, take}
use Rattle.mt_pool.proofs.held.HeldConsClone.clone.Given as goal

abbrev pub invariant-loop-constructor : goal.invariant-loop-constructor
invariant-loop-constructor l = l.items.items ≡ take l.constructor-index l.constructor-items
