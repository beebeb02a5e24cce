use Rattle.std.proofs.Common.{◌≡◌, drop}
use Rattle.mt_protocol.specs.Frames.{are_digits}
use Rattle.mt_protocol.proofs.numbers.are_digits.Given as goal

abbrev pub invariant-loop-byte : goal.invariant-loop-byte
invariant-loop-byte l = are_digits l.bytes ≡ are_digits (drop l.byte-index l.bytes)
