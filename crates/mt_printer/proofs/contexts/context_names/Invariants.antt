use Rattle.std.proofs.Common.{◌≡◌, [], drop}
use Rattle.mt_printer.specs.Chosen.{scope_of_names}
use Rattle.mt_printer.specs.Contexts.{names_onto}
use Rattle.mt_printer.specs.ScopeOf.{trees_behind}
use Rattle.mt_printer.proofs.contexts.context_names.Given as goal

abbrev pub invariant-loop-n : goal.invariant-loop-n
invariant-loop-n l = record {
  scope : l.scope ≡ scope_of_names l.names [];
  names : names_onto l.env.entries l.names (drop l.n l.context) (trees_behind l.parts) ≡ names_onto l.env.entries [] l.context (trees_behind l.parts);
}
