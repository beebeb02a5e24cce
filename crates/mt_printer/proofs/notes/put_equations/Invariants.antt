use Rattle.std.proofs.Common.{◌≡◌, ◌++◌, drop}
use Rattle.mt_term.specs.EnvironmentOf.{environment_of}
use Rattle.mt_printer.specs.EnvText.{equation_text, equations_text}
use Rattle.mt_printer.proofs.notes.put_equations.Given as goal

abbrev pub invariant-loop-n : goal.invariant-loop-n
invariant-loop-n l = l.out.items ++ equations_text (environment_of l.env) l.names (drop l.n l.eqs) ≡ l.initial.out.items ++ equations_text (environment_of l.env) l.names l.eqs
