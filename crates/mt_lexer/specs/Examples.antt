-- Tokens of short texts.
use Rattle.std.specs.Prelude.{◌≡◌, [], ◌∷◌, ◌++◌, codes, replicate, Ok, Err, refl}
use lib.Utf8.{encode}
use Rattle.std.specs.Str.{chars}
use Rattle.unicode_ident.proofs.Computing.{unicode_ident}
use Rattle.mt_lexer.specs.declared.TokenKind.TheVariants.{Name, Reserved, Number, Sign, End}
use Rattle.mt_lexer.specs.declared.LexStop.TheVariants.{Lex, Incomplete}
use Rattle.mt_lexer.specs.Tokens.{token, next_token}

-- nothing but blanks
blanks : next_token (codes " ") 0 ≡ Ok (token End 1 1)
unfolding chars encode unicode_ident
blanks = refl

-- a name after a comment that holds a comment
nested : next_token (codes "(*(**)a*) b1'") 0 ≡ Ok (token Name 10 12)
unfolding chars encode unicode_ident
nested = refl

-- the `)` of `(*)` is text of the comment
star_used : next_token (codes "(*)*)x") 0 ≡ Ok (token Name 5 6)
unfolding chars encode unicode_ident
star_used = refl

-- an open comment
open_comment : next_token (codes "a (*(**)") 1 ≡ Err (Incomplete 8)
unfolding chars encode unicode_ident
open_comment = refl

-- a sign that begins no comment
parenthesis : next_token (codes "(a") 0 ≡ Ok (token Sign 0 1)
unfolding chars encode unicode_ident
parenthesis = refl

-- `λ` ends the name before it, and is a sign
lambda_ends : next_token (codes "a" ++ 206 ∷ 187 ∷ codes "b") 0 ≡ Ok (token Name 0 1)
unfolding chars encode unicode_ident
lambda_ends = refl

lambda_sign : next_token (codes "a" ++ 206 ∷ 187 ∷ codes "b") 1 ≡ Ok (token Sign 1 3)
unfolding chars encode unicode_ident
lambda_sign = refl

-- `αβ`
greek : next_token (206 ∷ 177 ∷ 206 ∷ 178 ∷ []) 0 ≡ Ok (token Name 0 4)
unfolding chars encode unicode_ident
greek = refl

reserved : next_token (codes "match") 0 ≡ Ok (token Reserved 0 5)
unfolding chars encode unicode_ident
reserved = refl

longer_than_reserved : next_token (codes "in_") 0 ≡ Ok (token Name 0 3)
unfolding chars encode unicode_ident
longer_than_reserved = refl

number : next_token (codes "407.") 0 ≡ Ok (token (Number 407) 0 3)
unfolding chars encode unicode_ident
number = refl

greatest : next_token (codes "4294967295") 0 ≡ Ok (token (Number 4294967295) 0 10)
unfolding chars encode unicode_ident
greatest = refl

past_greatest : next_token (codes " 4294967296") 0 ≡ Err (Lex 1)
unfolding chars encode unicode_ident
past_greatest = refl

zero_alone : next_token (codes "0") 0 ≡ Ok (token (Number 0) 0 1)
unfolding chars encode unicode_ident
zero_alone = refl

leading_zero : next_token (codes "007") 0 ≡ Err (Lex 0)
unfolding chars encode unicode_ident
leading_zero = refl

arrow : next_token (codes "->>") 0 ≡ Ok (token Sign 0 2)
unfolding chars encode unicode_ident
arrow = refl

double_arrow : next_token (codes "=>") 0 ≡ Ok (token Sign 0 2)
unfolding chars encode unicode_ident
double_arrow = refl

-- `→`
arrow_sign : next_token (226 ∷ 134 ∷ 146 ∷ []) 0 ≡ Ok (token Sign 0 3)
unfolding chars encode unicode_ident
arrow_sign = refl

half_arrow : next_token (codes "a - b") 1 ≡ Err (Lex 2)
unfolding chars encode unicode_ident
half_arrow = refl

no_token : next_token (codes "axiom a : %.") 9 ≡ Err (Lex 10)
unfolding chars encode unicode_ident
no_token = refl

longest_name : next_token (replicate 255 97) 0 ≡ Ok (token Name 0 255)
unfolding chars encode unicode_ident
longest_name = refl

too_long_name : next_token (replicate 256 97) 0 ≡ Err (Lex 0)
unfolding chars encode unicode_ident
too_long_name = refl
