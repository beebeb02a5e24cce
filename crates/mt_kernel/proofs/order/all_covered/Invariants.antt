use Rattle.std.proofs.Common.{◌≡◌, drop}
use Rattle.std.specs.List.{list_all}
use Rattle.mt_term.specs.UniverseOrder.{is_covered, path}
use Rattle.mt_kernel.proofs.order.all_covered.Given as goal

abbrev pub invariant-loop-a : goal.invariant-loop-a
invariant-loop-a l = list_all (is_covered (path l.below) l.bounds) (drop l.a-index l.atoms) ≡ list_all (is_covered (path l.below) l.bounds) l.atoms
