use Rattle.std.proofs.Common.{take}
use Rattle.mt_store.specs.Search.{types_held, Adds}
use Rattle.mt_store.proofs.found.Found.insert_types.Given as goal

abbrev pub invariant-loop-hyp : goal.invariant-loop-hyp
invariant-loop-hyp l = Adds l.initial.self l.self (types_held (take l.hyp-index l.context))
