use Rattle.std.proofs.Common.{◌≡◌, take}
use Rattle.mt_pool.specs.HeldOf.{hypotheses_in}
use Rattle.mt_store.proofs.plain.plain_context.Given as goal

abbrev pub invariant-loop-hyp : goal.invariant-loop-hyp
invariant-loop-hyp l = l.hyps ≡ hypotheses_in l.pool (take l.hyp-index l.context)
