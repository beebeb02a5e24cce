use Rattle.std.proofs.Common.{◌≡◌, ◌+◌, ◌-◌, ◌*◌, get_or, arith}
use Rattle.mt_protocol.proofs.Digits.{value_more, value_past}
use Rattle.mt_protocol.proofs.numbers.value.Goals as goal

pub returns-then-value-gt-GREATEST : goal.returns-then-value-gt-GREATEST
returns-then-value-gt-GREATEST c =
    let xs = c.args.digits.now in
    let i = c.loop-digit.digit-index in
    let m = c.loop-digit.value * 10 + c.from.result in
    let is : m ≡ c.loop-digit.value * 10 + (get_or xs i 0 - 48) = omega (arith, c.from.ensures, c.saturating_sub.ensures) in
    value_past xs (i + 1) m (value_more xs i c.loop-digit.value m c.loop-digit-test.true c.loop-digit.invariant.onto is) c.if-value-gt-GREATEST.true
