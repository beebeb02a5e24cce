use Rattle.std.proofs.Common.{◌≡◌, take}
use Rattle.mt_pool.specs.HeldOf.{constructors_in}
use Rattle.mt_env.proofs.plain.plain_constructors.Given as goal

abbrev pub invariant-loop-constructor : goal.invariant-loop-constructor
invariant-loop-constructor l = l.cons ≡ constructors_in l.pool (take l.constructor-index l.held)
