use Rattle.std.proofs.Common.{◌≡◌, ◌≤◌, drop}
use Rattle.mt_protocol.specs.Frames.{value_onto}
use Rattle.mt_protocol.proofs.numbers.value.Given as goal

abbrev pub invariant-loop-digit : goal.invariant-loop-digit
invariant-loop-digit l = record {
  onto : value_onto l.value (drop l.digit-index l.digits) ≡ value_onto 0 l.digits;
  small : l.value ≤ 4294967295;
}
