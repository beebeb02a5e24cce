use Rattle.std.proofs.Common.{◌≡◌, ◌++◌, drop}
use Rattle.mt_printer.specs.NamedIn.{named_each}
use Rattle.mt_printer.specs.ScopeOf.{trees_behind}
use Rattle.mt_printer.proofs.named.add_named_of_parts.Given as goal

abbrev pub invariant-loop-part : goal.invariant-loop-part
invariant-loop-part l = l.found.items ++ named_each (trees_behind (drop l.part-index l.parts)) ≡ l.initial.found.items ++ named_each (trees_behind l.parts)
