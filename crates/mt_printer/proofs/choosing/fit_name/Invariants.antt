use Rattle.std.proofs.Common.{◌≡◌, ◌<◌, ℕ}
use Rattle.std.specs.Prelude.{true}
use Rattle.mt_printer.specs.Chosen.{candidate, is_one_of}
use Rattle.mt_printer.specs.NamedIn.{avoided_by}
use Rattle.mt_printer.proofs.choosing.fit_name.Given as goal

abbrev pub invariant-loop-k : goal.invariant-loop-k
invariant-loop-k l = (j : ℕ) → j < l.k → is_one_of (avoided_by l.entries l.scope l.found) (candidate l.base j) ≡ true
