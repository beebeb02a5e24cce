-- A token that begins within the shared front of two texts, which ends in a closing sign, is the same in both.
use Rattle.std.proofs.Common.{◌≡◌, ◌≢◌, ℕ, zero, suc, ◌+◌, ◌-◌, ◌<◌, ◌≤◌, Bool, true, false, not, cond, ◌&&◌, ◌||◌, ◌==◌, List, [], ◌∷◌, ◌++◌, length, take, drop, get_or, Ok, Err, refl, sym, ap, ◌∙◌, subst, arith}
use Rattle.std.specs.Prelude.{encode_utf8, slice_index, Result}
use Rattle.std.specs.Char.{len_utf8}
use Rattle.std.proofs.lemmas.Bool.Decides.{nat_tests}
use Rattle.mt_lexer.specs.declared.gaps.Piece.{Piece}
use Rattle.mt_lexer.specs.declared.gaps.Piece.TheVariants.{Opening, Closing, Passed, Other}
use Rattle.mt_lexer.specs.declared.words.Class.{Class}
use Rattle.mt_lexer.specs.declared.words.Class.TheVariants.{Continue, Digit}
use Rattle.mt_lexer.specs.declared.LexStop.{LexStop}
use Rattle.mt_lexer.specs.Tokens.{piece, gap, run, is_in, is_start, is_continue, is_digit, name_token, number_token, sign_token, token_at}

-- what a gap does at a character
abbrev goes : ℕ → ℕ → ℕ → List ℕ → Piece → Result ℕ LexStop
goes depth at c cs p = elim p as (λ _. Result ℕ LexStop) [
  | Opening ↦ gap (depth + 1) true (at + len_utf8 c) cs
  | Closing ↦ gap (depth - 1) true (at + len_utf8 c) cs
  | Passed ↦ gap depth false (at + len_utf8 c) cs
  | Other ↦ Ok at
]

gap-goes : (depth at c : ℕ) (cs : List ℕ) → gap depth false at (c ∷ cs) ≡ goes depth at c cs (piece depth c (slice_index cs 0))
gap-goes zero at c cs = refl
gap-goes (suc depth) at c cs = refl

gap-used : (depth at c : ℕ) (cs : List ℕ) → gap depth true at (c ∷ cs) ≡ gap depth false (at + len_utf8 c) cs
gap-used zero at c cs = refl
gap-used (suc depth) at c cs = refl

at_piece : (depth at s c : ℕ) (cs : List ℕ) (p : Piece) → ((depth_left : ℕ) (used : Bool) → gap depth_left used (at + len_utf8 c) cs ≡ Ok s → at + len_utf8 c ≤ s)
    → goes depth at c cs p ≡ Ok s → at ≤ s
at_piece depth at s c cs Opening later e = let h = later (depth + 1) true e in omega arith
at_piece depth at s c cs Closing later e = let h = later (depth - 1) true e in omega arith
at_piece depth at s c cs Passed later e = let h = later depth false e in omega arith
at_piece depth at s c cs Other later e = let same : at ≡ s = cc in omega arith

-- a gap ends no earlier than it begins
pub gap-after : (cs : List ℕ) (depth : ℕ) (used : Bool) (at s : ℕ) → gap depth used at cs ≡ Ok s → at ≤ s
gap-after [] zero used at s e = let same : at ≡ s = cc in omega arith
gap-after [] (suc depth) used at s e = absurd (cc)
gap-after (c ∷ cs) depth true at s e =
    let later = gap-after cs depth false (at + len_utf8 c) s (sym (gap-used depth at c cs) ∙ e) in omega arith
gap-after (c ∷ cs) depth false at s e =
    at_piece depth at s c cs (piece depth c (slice_index cs 0))
    (λ depth_left used h. gap-after cs depth_left used (at + len_utf8 c) s h) (sym (gap-goes depth at c cs) ∙ e)

-- the next character is the same
next_same : (ds : List ℕ) (z : ℕ) (xs ys : List ℕ) → slice_index (ds ++ z ∷ xs) 0 ≡ slice_index (ds ++ z ∷ ys) 0
next_same [] z xs ys = refl
next_same (d ∷ ds) z xs ys = refl

-- how many bytes characters take
abbrev pub width : List ℕ → ℕ
width [] = 0
width (c ∷ cs) = len_utf8 c + width cs

piece_other : (depth z d e : ℕ) → z ≢ 40 → piece depth z d ≡ Other → piece depth z e ≡ Other
piece_other zero z d e ne h = grind (arith, nat_tests)
piece_other (suc depth) z d e ne h = absurd (grind (arith, nat_tests))

last_piece : (depth at s z : ℕ) (xs ys : List ℕ) → z ≢ 40 → s < at + 0 + len_utf8 z → (p : Piece) → piece depth z (slice_index xs 0) ≡ p
    → goes depth at z xs p ≡ Ok s → gap depth false at (z ∷ ys) ≡ Ok s
last_piece depth at s z xs ys ne near Opening h e = absurd (let later = gap-after xs (depth + 1) true (at + len_utf8 z) s e in omega arith)
last_piece depth at s z xs ys ne near Closing h e = absurd (let later = gap-after xs (depth - 1) true (at + len_utf8 z) s e in omega arith)
last_piece depth at s z xs ys ne near Passed h e = absurd (let later = gap-after xs depth false (at + len_utf8 z) s e in omega arith)
last_piece depth at s z xs ys ne near Other h e =
    gap-goes depth at z ys ∙ ap (goes depth at z ys) (piece_other depth z (slice_index xs 0) (slice_index ys 0) ne h) ∙ e

inner_piece : (depth at s c : ℕ) (xs ys : List ℕ) → ((depth_left : ℕ) (used : Bool) → gap depth_left used (at + len_utf8 c) xs ≡ Ok s → gap depth_left used (at + len_utf8 c) ys ≡ Ok s)
    → (p : Piece) → goes depth at c xs p ≡ Ok s → goes depth at c ys p ≡ Ok s
inner_piece depth at s c xs ys same Opening e = same (depth + 1) true e
inner_piece depth at s c xs ys same Closing e = same (depth - 1) true e
inner_piece depth at s c xs ys same Passed e = same depth false e
inner_piece depth at s c xs ys same Other e = e

-- a gap that ends before or at the last shared character is the same
pub gap-shared : (ds : List ℕ) (depth : ℕ) (used : Bool) (at s z : ℕ) (xs ys : List ℕ) → z ≢ 40 → s < at + width ds + len_utf8 z
    → gap depth used at (ds ++ z ∷ xs) ≡ Ok s → gap depth used at (ds ++ z ∷ ys) ≡ Ok s
gap-shared [] depth true at s z xs ys ne near e =
    absurd (let later = gap-after xs depth false (at + len_utf8 z) s (sym (gap-used depth at z xs) ∙ e) in omega arith)
gap-shared [] depth false at s z xs ys ne near e =
    last_piece depth at s z xs ys ne near (piece depth z (slice_index xs 0)) refl (sym (gap-goes depth at z xs) ∙ e)
gap-shared (c ∷ ds) depth true at s z xs ys ne near e =
    gap-used depth at c (ds ++ z ∷ ys)
    ∙ gap-shared ds depth false (at + len_utf8 c) s z xs ys ne (omega arith) (sym (gap-used depth at c (ds ++ z ∷ xs)) ∙ e)
gap-shared (c ∷ ds) depth false at s z xs ys ne near e =
    gap-goes depth at c (ds ++ z ∷ ys)
    ∙ ap (λ d. goes depth at c (ds ++ z ∷ ys) (piece depth c d)) (sym (next_same ds z xs ys))
    ∙ inner_piece depth at s c (ds ++ z ∷ xs) (ds ++ z ∷ ys)
    (λ depth_left used h. gap-shared ds depth_left used (at + len_utf8 c) s z xs ys ne (omega arith) h)
    (piece depth c (slice_index (ds ++ z ∷ xs) 0)) (sym (gap-goes depth at c (ds ++ z ∷ xs)) ∙ e)

-- a run of a class that the last shared character is not of is the same
pub run-shared : (class : Class) (ds : List ℕ) (z : ℕ) (xs ys : List ℕ) → is_in class z ≡ false → run class (ds ++ z ∷ xs) ≡ run class (ds ++ z ∷ ys)
run-shared class [] z xs ys out = ap (λ b. cond b (encode_utf8 z ++ run class xs) []) out ∙ sym (ap (λ b. cond b (encode_utf8 z ++ run class ys) []) out)
run-shared class (c ∷ ds) z xs ys out = ap (λ r. cond (is_in class c) (encode_utf8 c ++ r) []) (run-shared class ds z xs ys out)

-- a character that can stand in no name or number and begins no arrow
pub record IsMark (z : ℕ) : Type 0 where
  pub no_start : is_start z ≡ false
  pub no_continue : is_in Continue z ≡ false
  pub no_digit : is_digit z ≡ false
  pub no_arrow : (d : ℕ) (e : ℕ) (s : ℕ) → sign_token s z d ≡ sign_token s z e

pub token_at-shared : (ds : List ℕ) (s z : ℕ) (xs ys : List ℕ) → IsMark z → token_at s (ds ++ z ∷ xs) ≡ token_at s (ds ++ z ∷ ys)
token_at-shared [] s z xs ys mark =
    ap (λ b. cond b (name_token s (run Continue (z ∷ xs))) (cond (is_digit z) (number_token s (run Digit (z ∷ xs))) (sign_token s z (slice_index xs 0)))) mark.no_start
    ∙ ap (λ b. cond b (number_token s (run Digit (z ∷ xs))) (sign_token s z (slice_index xs 0))) mark.no_digit
    ∙ mark.no_arrow (slice_index xs 0) (slice_index ys 0) s
    ∙ sym (ap (λ b. cond b (number_token s (run Digit (z ∷ ys))) (sign_token s z (slice_index ys 0))) mark.no_digit)
    ∙ sym (ap (λ b. cond b (name_token s (run Continue (z ∷ ys))) (cond (is_digit z) (number_token s (run Digit (z ∷ ys))) (sign_token s z (slice_index ys 0)))) mark.no_start)
token_at-shared (c ∷ ds) s z xs ys mark =
    let names = ap (name_token s) (run-shared Continue (c ∷ ds) z xs ys mark.no_continue) in
    let numbers = ap (number_token s) (run-shared Digit (c ∷ ds) z xs ys mark.no_digit) in
    let signs = ap (sign_token s c) (next_same ds z xs ys) in
    λ i. cond (is_start c) (names i) (cond (is_digit c) (numbers i) (signs i))
