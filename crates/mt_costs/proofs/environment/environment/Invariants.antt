use Rattle.std.proofs.Common.{length}
use Rattle.mt_layers.specs.Environments.{EnvBelow}
use Rattle.mt_costs.proofs.environment.environment.Given as goal

abbrev pub invariant-loop-number : goal.invariant-loop-number
invariant-loop-number l = EnvBelow (length l.pool) l.env
