use Rattle.std.proofs.Common.{◌≡◌, drop}
use Rattle.mt_printer.specs.Chosen.{is_one_of}
use Rattle.mt_printer.specs.NamedIn.{names_in}
use Rattle.mt_printer.proofs.named.is_name_of_one.Given as goal

abbrev pub invariant-loop-named : goal.invariant-loop-named
invariant-loop-named l = is_one_of (names_in l.entries (drop l.named-index l.found)) l.name ≡ is_one_of (names_in l.entries l.found) l.name
