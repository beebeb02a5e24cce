use Rattle.std.proofs.Common.{◌≡◌, ℕ, ◌<◌, ◌≤◌, length}
use Rattle.mt_term.specs.UniverseOrder.{more_paths}
use Rattle.mt_universe.specs.Tables.{entry}
use Rattle.mt_universe.proofs.paths.extend_paths.Given as goal

abbrev pub invariant-loop-a : goal.invariant-loop-a
invariant-loop-a l = record {
  size : length l.paths ≡ 65536;
  done : (p q : ℕ) → p < l.a → entry l.paths p q ≡ more_paths (entry l.fn.paths) l.low l.high p q;
  rest : (p q : ℕ) → l.a ≤ p → entry l.paths p q ≡ entry l.fn.paths p q;
}
