use Rattle.std.proofs.Common.{◌++◌, take}
use Rattle.mt_term.specs.Naming.{naming_constructors}
use Rattle.mt_resolver.specs.TableOf.{Extends, FindsSame}
use Rattle.mt_resolver.proofs.table.Table.add_constructors.Given as goal

abbrev pub invariant-loop-k : goal.invariant-loop-k
invariant-loop-k l = record {
  same : FindsSame l.self (l.initial.self ++ naming_constructors l.number 0 (take l.k l.cons));
  kept : Extends l.initial.self l.self;
}
