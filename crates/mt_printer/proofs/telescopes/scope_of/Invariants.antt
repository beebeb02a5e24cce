use Rattle.std.proofs.Common.{◌≡◌, [], drop}
use Rattle.mt_printer.specs.Chosen.{scope_of_names}
use Rattle.mt_printer.proofs.telescopes.scope_of.Given as goal

abbrev pub invariant-loop-name : goal.invariant-loop-name
invariant-loop-name l = scope_of_names (drop l.name-index l.names) l.scope ≡ scope_of_names l.names []
