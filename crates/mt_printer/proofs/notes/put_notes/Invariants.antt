use Rattle.std.proofs.Common.{◌≡◌, ◌++◌, drop}
use Rattle.mt_term.specs.EnvironmentOf.{environment_of}
use Rattle.mt_printer.specs.EnvText.{note_text, notes_text}
use Rattle.mt_printer.proofs.notes.put_notes.Given as goal

abbrev pub invariant-loop-n : goal.invariant-loop-n
invariant-loop-n l = l.out.items ++ notes_text (environment_of l.env) (drop l.n l.notes) ≡ l.initial.out.items ++ notes_text (environment_of l.env) l.notes
