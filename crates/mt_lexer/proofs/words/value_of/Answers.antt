use Rattle.std.proofs.Common.{arith}
use Rattle.mt_lexer.proofs.Digits.{value_onto-take}
use Rattle.mt_lexer.proofs.words.value_of.Goals as goal

pub loop-digit-preserved : goal.loop-digit-preserved
loop-digit-preserved c =
    let e = value_onto-take c.args.digits.now c.loop-digit.digit-index c.loop-digit-test.true in omega (arith, e)
