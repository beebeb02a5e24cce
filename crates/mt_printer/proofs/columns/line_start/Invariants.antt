use Rattle.std.proofs.Common.{◌≡◌, ◌≤◌}
use Rattle.mt_printer.specs.Columns.{line_start}
use Rattle.mt_printer.proofs.columns.line_start.Given as goal

abbrev pub invariant-loop-start : goal.invariant-loop-start
invariant-loop-start l = record {
  within : l.start ≤ l.at;
  same : line_start l.text l.start ≡ line_start l.text l.at;
}

abbrev pub decreases-loop-start : goal.decreases-loop-start
decreases-loop-start l = l.start
