use Rattle.std.proofs.Common.{◌≡◌, ◌++◌}
use Rattle.mt_protocol.specs.Scripts.{theorems}
use Rattle.mt_protocol.proofs.scripts.put_theorems.Given as goal

abbrev pub invariant-loop-i : goal.invariant-loop-i
invariant-loop-i l = l.out.items ≡ l.initial.out.items ++ theorems l.i
