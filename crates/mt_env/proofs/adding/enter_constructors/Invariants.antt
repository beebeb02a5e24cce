use Rattle.std.proofs.Common.{◌≡◌, ◌++◌, take}
use Rattle.mt_term.specs.Naming.{naming_constructors}
use Rattle.mt_env.specs.Names.{Distinct}
use Rattle.mt_env.proofs.adding.enter_constructors.Given as goal

abbrev pub invariant-loop-k : goal.invariant-loop-k
invariant-loop-k l =
    (l.table ≡ l.initial.table ++ naming_constructors l.number 0 (take l.k l.cons)) × Distinct l.table
