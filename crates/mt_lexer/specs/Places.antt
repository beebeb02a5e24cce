-- Where tokens and faults stand.
use Rattle.std.specs.Prelude.{◌≡◌, ◌≢◌, ℕ, ◌<◌, ◌≤◌, List, length}
use Rattle.std.specs.Str.{IsCharBoundary}
use Rattle.mt_lexer.specs.declared.Token.{Token}
use Rattle.mt_lexer.specs.declared.TokenKind.TheVariants.{End}
use Rattle.mt_lexer.specs.declared.LexStop.{LexStop}
use Rattle.mt_lexer.specs.declared.LexStop.TheVariants.{Lex, Incomplete}

-- a token that was read from a place on: it stands within the text, on the bounds of characters,
-- and has
-- text unless it is the end
pub record IsPlaced (text : List ℕ) (at : ℕ) (t : Token) : Type 0 where
  pub after : at ≤ t.start
  pub order : t.start ≤ t.end
  pub start : IsCharBoundary text t.start
  pub stop : IsCharBoundary text t.end
  pub progress : t.kind ≢ End → t.start < t.end

-- a fault at a character from a place on, or at the end of the text
abbrev pub IsStop : List ℕ → ℕ → LexStop → Type 0
IsStop text from (Lex at) = (from ≤ at) × IsCharBoundary text at
IsStop text from (Incomplete at) = at ≡ length text
