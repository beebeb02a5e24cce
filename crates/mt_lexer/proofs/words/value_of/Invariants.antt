use Rattle.std.proofs.Common.{◌≡◌, min, take}
use Rattle.mt_lexer.specs.Tokens.{value_onto}
use Rattle.mt_lexer.proofs.words.value_of.Given as goal

abbrev pub invariant-loop-digit : goal.invariant-loop-digit
invariant-loop-digit l = l.value ≡ min (value_onto 0 (take l.digit-index l.digits)) 4294967296
