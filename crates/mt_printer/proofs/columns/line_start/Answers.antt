use Rattle.std.proofs.Common.{◌≡◌, ◌<◌, ◌-◌, ◌+◌, length, get_or, subst, arith}
use Rattle.std.specs.Str.{IsCharBoundary}
use Rattle.std.proofs.lemmas.Str.{IsCharBoundary-start, IsCharBoundary-after_ascii}
use Rattle.mt_printer.proofs.columns.line_start.Goals as goal

pub returns-else-bytes-start-ne10-clause-boundary :
    goal.returns-else-bytes-start-ne10-clause-boundary
returns-else-bytes-start-ne10-clause-boundary c =
    let text = c.args.text.now in
    let n = c.loop-start.start - 1 in
    let is : get_or text n 0 ≡ 10 = rw c.as_bytes-bytes.ensures.value at c.if-bytes-start-ne10.false in
    let within : n < length text = omega (arith, c.requires.0, c.loop-start.invariant.within, c.loop-start-test.true) in
    let same : n + 1 ≡ c.loop-start.start = omega (arith, c.loop-start-test.true) in
    let P : _ → Type 0 = IsCharBoundary text in
    subst P same (IsCharBoundary-after_ascii text n c.utf8.text within (omega (arith, is)))

pub returns-after-loop-start-clause-boundary : goal.returns-after-loop-start-clause-boundary
returns-after-loop-start-clause-boundary c =
    let text = c.args.text.now in
    let zero : 0 ≡ c.loop-start.start = omega (arith, c.loop-start-test.false) in
    subst (IsCharBoundary text) zero (IsCharBoundary-start text c.utf8.text)
