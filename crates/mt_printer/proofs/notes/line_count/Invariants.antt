use Rattle.std.proofs.Common.{◌≡◌, ◌≤◌, ◌+◌, drop}
use Rattle.mt_term.specs.EnvironmentOf.{environment_of}
use Rattle.mt_printer.specs.EnvText.{line_count}
use Rattle.mt_printer.proofs.notes.line_count.Given as goal

abbrev pub invariant-loop-n : goal.invariant-loop-n
invariant-loop-n l = record {
  same : l.count + line_count (environment_of l.env) (drop l.n l.notes) ≡ line_count (environment_of l.env) l.notes;
  most : l.count ≤ l.n;
}
