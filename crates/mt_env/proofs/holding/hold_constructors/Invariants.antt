use Rattle.std.proofs.Common.{◌≡◌, length, take}
use Rattle.mt_pool.specs.Region.{Kept}
use Rattle.mt_pool.specs.HeldOf.{constructors_in, ConstructorsBelow}
use Rattle.mt_env.proofs.holding.hold_constructors.Given as goal

abbrev pub invariant-loop-k : goal.invariant-loop-k
invariant-loop-k l =
    Kept l.initial.pool l.pool × ConstructorsBelow (length l.pool) l.held × (constructors_in l.pool l.held ≡ take l.k l.cons)
