-- Where tokens stand.
use Rattle.std.proofs.Common.{◌≤◌, List, ℕ, Result, Ok, Err, IfOk, arith}
use Rattle.mt_lexer.specs.declared.Token.{Token}
use Rattle.mt_lexer.specs.declared.LexStop.{LexStop}
use Rattle.mt_lexer.specs.Places.{IsPlaced}

-- a token that was read from a place on was read from each place before
pub IsPlaced-before : (text : List ℕ) (from at : ℕ) (r : Result Token LexStop) → from ≤ at → IfOk r (IsPlaced text at) → IfOk r (IsPlaced text from)
IsPlaced-before text from at (Ok t) order h = record { after = omega arith; order = h.order; start = h.start; stop = h.stop; progress = h.progress }
IsPlaced-before text from at (Err stop) order h = tt
