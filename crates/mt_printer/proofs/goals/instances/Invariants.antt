use Rattle.std.proofs.Common.{◌≡◌, ◌++◌, drop}
use Rattle.mt_term.specs.Instancing.{instances}
use Rattle.mt_printer.specs.ScopeOf.{hypotheses_of}
use Rattle.mt_printer.proofs.goals.instances.Given as goal

abbrev pub invariant-loop-n : goal.invariant-loop-n
invariant-loop-n l = hypotheses_of l.answer.items ++ instances l.metas (drop l.n l.hyps) ≡ instances l.metas l.hyps
