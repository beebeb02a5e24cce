-- Texts that begin with the same bytes.
use Rattle.std.specs.Prelude.{◌≡◌, ℕ, ◌+◌, ◌<◌, Bool, ◌||◌, ◌==◌, IsTrue, List, ◌∷◌, ◌++◌, length}
use Rattle.std.specs.Str.{IsUtf8}

-- `.`, `;`, `[`, `|`, `]`, `}` and `:`
abbrev pub is_closing : ℕ → Bool
is_closing c =
    (c == 46) || (c == 59) || (c == 91) || (c == 124) || (c == 93) || (c == 125) || (c == 58)

-- the two texts begin with the same bytes, the last of which is a closing sign and ends at n
pub record ShareFront (a b : List ℕ) (n : ℕ) : Type 0 where
  pub front : List ℕ
  pub last : ℕ
  pub rest_of_first : List ℕ
  pub rest_of_second : List ℕ
  pub first : a ≡ front ++ last ∷ rest_of_first
  pub second : b ≡ front ++ last ∷ rest_of_second
  pub closing : IsTrue (is_closing last)
  pub place : length front + 1 ≡ n
  pub first_is_text : IsUtf8 a
  pub second_is_text : IsUtf8 b
