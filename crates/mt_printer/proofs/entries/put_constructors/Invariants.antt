use Rattle.std.proofs.Common.{◌≡◌, ◌++◌, drop}
use Rattle.mt_term.specs.EnvironmentOf.{environment_of}
use Rattle.mt_printer.specs.EnvText.{constructor_text, constructors_text}
use Rattle.mt_printer.proofs.entries.put_constructors.Given as goal

abbrev pub invariant-loop-k : goal.invariant-loop-k
invariant-loop-k l = l.out.items ++ constructors_text (environment_of l.env) l.names l.params (drop l.k l.cons) ≡ l.initial.out.items ++ constructors_text (environment_of l.env) l.names l.params l.cons
