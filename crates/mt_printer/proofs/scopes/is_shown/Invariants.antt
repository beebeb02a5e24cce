use Rattle.std.proofs.Common.{◌≡◌, drop, []}
use Rattle.mt_printer.specs.Chosen.{is_one_of, shown_names}
use Rattle.mt_printer.specs.ScopeOf.{turned}
use Rattle.mt_printer.proofs.scopes.is_shown.Given as goal

abbrev pub invariant-loop-x : goal.invariant-loop-x
invariant-loop-x l = is_one_of (shown_names (turned (drop l.x-index l.shown) [])) l.name ≡ is_one_of (shown_names (turned l.shown [])) l.name
