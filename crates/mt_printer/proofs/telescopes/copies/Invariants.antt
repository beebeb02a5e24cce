use Rattle.std.proofs.Common.{◌≡◌, ◌++◌, drop}
use Rattle.mt_printer.specs.ScopeOf.{hypotheses_of}
use Rattle.mt_printer.proofs.telescopes.copies.Given as goal

abbrev pub invariant-loop-n : goal.invariant-loop-n
invariant-loop-n l = hypotheses_of l.answer.items ++ drop l.n l.hyps ≡ l.hyps
