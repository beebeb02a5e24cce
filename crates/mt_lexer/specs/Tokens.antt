-- The tokens of a text. A text is read as characters, each with the place of its first byte.
use Rattle.std.specs.Prelude.{ℕ, zero, suc, ◌+◌, ◌-◌, ◌*◌, Bool, true, false, not, ◌&&◌, ◌||◌, ◌==◌}
use Rattle.std.specs.Prelude.{nat_lt, nat_le, if◌then◌else◌, List, [], ◌∷◌, ◌++◌, length, drop}
use Rattle.std.specs.Prelude.{slice_index, bytes_eq, codes, encode_utf8, Result, Ok, Err}
use Rattle.std.specs.Char.{len_utf8}
use Rattle.std.specs.List.{list_any}
use Rattle.std.specs.Str.{chars}
use Rattle.unicode_ident.specs.Ident.{is_xid_start, is_xid_continue}
use Rattle.mt_lexer.specs.declared.words.Class.{Class}
use Rattle.mt_lexer.specs.declared.words.Class.TheVariants.{Continue, Digit}
use Rattle.mt_lexer.specs.declared.gaps.Piece.{Piece}
use Rattle.mt_lexer.specs.declared.gaps.Piece.TheVariants.{Opening, Closing, Passed, Other}
use Rattle.mt_lexer.specs.declared.Token.{Token}
use Rattle.mt_lexer.specs.declared.TokenKind.{TokenKind}
use Rattle.mt_lexer.specs.declared.TokenKind.TheVariants.{Name, Reserved, Number, Sign, End}
use Rattle.mt_lexer.specs.declared.LexStop.{LexStop}
use Rattle.mt_lexer.specs.declared.LexStop.TheVariants.{Lex, Incomplete}

-- space, tab, CR and LF
abbrev pub is_blank : ℕ → Bool
is_blank c = (c == 32) || (c == 9) || (c == 13) || (c == 10)

-- `λ` is a sign, and stands in no name
abbrev pub is_start : ℕ → Bool
is_start c = ((c == 95) || is_xid_start c) && not (c == 955)

abbrev pub is_continue : ℕ → Bool
is_continue c = is_xid_continue c && not (c == 955)

abbrev pub is_digit : ℕ → Bool
is_digit c = nat_le 48 c && nat_le c 57

abbrev pub is_in : Class → ℕ → Bool
is_in Continue c = is_continue c
is_in Digit c = is_digit c

-- ---- blanks and comments

-- what a character is between tokens, within so many open comments, where d is the next character
abbrev pub piece : ℕ → ℕ → ℕ → Piece
piece zero c d = if (c == 40) && (d == 42) then Opening else (if is_blank c then Passed else Other)
piece (suc depth) c d =
    if (c == 40) && (d == 42) then Opening else (if (c == 42) && (d == 41) then Closing else Passed)

-- the place after the blanks and comments at the front, within so many open comments;
-- `used` says that the first character is the second one of `(*` or `*)`
abbrev pub gap : ℕ → Bool → ℕ → List ℕ → Result ℕ LexStop
gap zero used at [] = Ok at
gap (suc depth) used at [] = Err (Incomplete at)
gap depth true at (c ∷ cs) = gap depth false (at + len_utf8 c) cs
gap depth false at (c ∷ cs) = elim (piece depth c (slice_index cs 0)) [
  | Opening ↦ gap (depth + 1) true (at + len_utf8 c) cs
  | Closing ↦ gap (depth - 1) true (at + len_utf8 c) cs
  | Passed ↦ gap depth false (at + len_utf8 c) cs
  | Other ↦ Ok at
]

-- ---- tokens

abbrev pub token : TokenKind → ℕ → ℕ → Token
token kind start end = record { kind = kind; start = start; end = end }

-- the bytes of the longest run of characters of a class
abbrev pub run : Class → List ℕ → List ℕ
run class [] = []
run class (c ∷ cs) = if is_in class c then encode_utf8 c ++ run class cs else []

abbrev pub is_reserved : List ℕ → Bool
is_reserved w =
    bytes_eq w (codes "Prop") || bytes_eq w (codes "Type") || bytes_eq w (codes "match")
    || bytes_eq w (codes "return")
    || bytes_eq w (codes "with") || bytes_eq w (codes "fun") || bytes_eq w (codes "forall")
    || bytes_eq w (codes "let")
    || bytes_eq w (codes "in")

-- a name has at most 255 bytes
abbrev pub name_token : ℕ → List ℕ → Result Token LexStop
name_token at w =
    if nat_lt 255 (length w) then Err (Lex at) else
    Ok (token (if is_reserved w then Reserved else Name) at (at + length w))

-- the value of decimal digits, after a value
abbrev pub value_onto : ℕ → List ℕ → ℕ
value_onto v [] = v
value_onto v (d ∷ ds) = value_onto (v * 10 + (d - 48)) ds

-- a number has no leading zero, but `0` itself, and is below 2 ^ 32
abbrev pub number_token : ℕ → List ℕ → Result Token LexStop
number_token at ds =
    if ((slice_index ds 0 == 48) && nat_lt 1 (length ds))
    || nat_lt 4294967295 (value_onto 0 ds) then Err (Lex at) else
    Ok (token (Number (value_onto 0 ds)) at (at + length ds))

-- `( ) [ ] { } . ; , | : * < + ? @ # … λ ∀ → ⇒ ≝ ≔ ≟ ≡ ⊢`
abbrev pub signs : List ℕ
signs =
    40 ∷ 41 ∷ 91 ∷ 93 ∷ 123 ∷ 125 ∷ 46 ∷ 59 ∷ 44 ∷ 124 ∷ 58 ∷ 42 ∷ 60 ∷ 43 ∷ 63 ∷ 64 ∷ 35
    ∷ 0x2026 ∷ 0x3BB ∷ 0x2200 ∷ 0x2192 ∷ 0x21D2 ∷ 0x225D ∷ 0x2254 ∷ 0x225F ∷ 0x2261 ∷ 0x22A2 ∷ []

-- `->` and `=>`
abbrev pub is_arrow : ℕ → ℕ → Bool
is_arrow c d = ((c == 45) || (c == 61)) && (d == 62)

abbrev pub sign_token : ℕ → ℕ → ℕ → Result Token LexStop
sign_token at c d =
    if is_arrow c d then Ok (token Sign at (at + 2)) else
    (if list_any (λ s. s == c) signs then Ok (token Sign at (at + len_utf8 c)) else Err (Lex at))

-- the token that begins with these characters
abbrev pub token_at : ℕ → List ℕ → Result Token LexStop
token_at at [] = Ok (token End at at)
token_at at (c ∷ cs) =
    if is_start c then name_token at (run Continue (c ∷ cs)) else
    (if is_digit c then number_token at (run Digit (c ∷ cs)) else sign_token at c (slice_index cs 0))

-- the characters of a text from a place on
abbrev pub chars_from : List ℕ → ℕ → List ℕ
chars_from text at = chars (drop at text)

abbrev pub after_gap : List ℕ → Result ℕ LexStop → Result Token LexStop
after_gap text (Ok at) = token_at at (chars_from text at)
after_gap text (Err stop) = Err stop

-- the next token of a text from a place on
abbrev pub next_token : List ℕ → ℕ → Result Token LexStop
next_token text at = after_gap text (gap 0 false at (chars_from text at))
