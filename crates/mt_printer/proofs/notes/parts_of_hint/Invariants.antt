use Rattle.std.proofs.Common.{◌≡◌, ◌++◌, drop}
use Rattle.mt_printer.specs.EnvText.{terms_in}
use Rattle.mt_printer.specs.ScopeOf.{trees_behind}
use Rattle.mt_printer.proofs.notes.parts_of_hint.Given as goal

abbrev pub invariant-loop-n : goal.invariant-loop-n
invariant-loop-n l = trees_behind l.parts.items ++ terms_in (drop l.n l.hint.eqs) ≡ terms_in l.hint.eqs
