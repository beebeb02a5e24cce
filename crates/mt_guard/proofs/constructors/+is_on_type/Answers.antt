use Rattle.std.proofs.Common.{arith}
use Rattle.mt_guard.proofs.constructors.+is_on_type.Goals as goal

pub returns-in-Ind : goal.returns-in-Ind
returns-in-Ind t c = let same = c.is_of_kind.ensures c.args.pool.now in grind (arith, same)
