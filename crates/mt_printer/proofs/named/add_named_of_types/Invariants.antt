use Rattle.std.proofs.Common.{◌≡◌, ◌++◌, drop}
use Rattle.mt_printer.specs.NamedIn.{named_each}
use Rattle.mt_printer.specs.ScopeOf.{hypotheses_of}
use Rattle.mt_printer.specs.Telescopes.{types_in}
use Rattle.mt_printer.proofs.named.add_named_of_types.Given as goal

abbrev pub invariant-loop-hyp : goal.invariant-loop-hyp
invariant-loop-hyp l = l.found.items ++ named_each (types_in (hypotheses_of (drop l.hyp-index l.hyps))) ≡ l.initial.found.items ++ named_each (types_in (hypotheses_of l.hyps))
