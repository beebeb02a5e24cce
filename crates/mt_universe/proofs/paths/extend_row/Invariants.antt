use Rattle.std.proofs.Common.{◌≡◌, ◌≢◌, ℕ, ◌<◌, ◌≤◌, max, length}
use Rattle.mt_term.specs.UniverseOrder.{joined}
use Rattle.mt_universe.specs.Tables.{entry}
use Rattle.mt_universe.proofs.paths.extend_row.Given as goal

abbrev pub invariant-loop-b : goal.invariant-loop-b
invariant-loop-b l = record {
  size : length l.paths ≡ 65536;
  done : (q : ℕ) → q < l.b → entry l.paths l.row q ≡ max (entry l.fn.paths l.row q) (joined l.into (entry l.fn.paths l.high q));
  rest : (q : ℕ) → l.b ≤ q → entry l.paths l.row q ≡ entry l.fn.paths l.row q;
  others : (p q : ℕ) → p ≢ l.row → entry l.paths p q ≡ entry l.fn.paths p q;
}
