-- Names of the grammar.
use Rattle.std.specs.Prelude.{◌≡◌, ◌≢◌, ℕ, ◌≤◌, true, false, List, length, slice_index, codes}
use Rattle.std.specs.List.{list_all}
use Rattle.std.specs.Str.{IsUtf8, chars}
use Rattle.mt_lexer.specs.Tokens.{is_start, is_continue, is_reserved}

-- text that is one word: a character that begins a name and others that continue it, 255 bytes at
-- most
pub record IsWord (x : List ℕ) : Type 0 where
  pub utf8 : IsUtf8 x
  pub starts : is_start (slice_index (chars x) 0) ≡ true
  pub continues : list_all is_continue (chars x) ≡ true
  pub short : length x ≤ 255

-- a name of the grammar: a word that is not reserved, and not `_`
pub record IsName (x : List ℕ) : Type 0 where
  pub word : IsWord x
  pub free : is_reserved x ≡ false
  pub named : x ≢ codes "_"
