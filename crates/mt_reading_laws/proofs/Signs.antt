-- The signs and numbers of printed terms, and what the grammar makes of a token.
use Rattle.std.proofs.Common.{◌≡◌, ℕ, zero, suc, ◌+◌, ◌-◌, ◌*◌, ◌/◌, ◌%◌, ◌^◌, ◌<◌, ◌≤◌, Bool, true, false, cond, not, ◌&&◌, ◌||◌, ◌==◌, List, [], ◌∷◌, ◌++◌, length, drop, Ok, Err, refl, sym, ap, ◌∙◌, arith, lit<}
use Rattle.std.specs.Prelude.{slice_index, nat_lt}
use Rattle.std.specs.List.{list_all}
use Rattle.std.specs.Str.{chars}
use Rattle.std.specs.Fmt.{decimal}
use Rattle.std.specs.Char.{is_ascii_alphabetic}
use lib.Utf8.{encode, encodes}
use Rattle.std.proofs.lemmas.Bool.{and_parts, and_from}
use Rattle.std.proofs.lemmas.Bool.Decides.{nat_tests}
use Rattle.std.proofs.lemmas.Str.{chars-IsAscii, IsUtf8-from_ascii, encodes-IsAscii}
use Rattle.std.proofs.lemmas.Fmt.{decimal_by_steps, decimal_digit, decimal_nonempty, first_decimal, IsAscii-decimal}
use Rattle.unicode_ident.proofs.Computing.{unicode_ident}
use Rattle.unicode_ident.proofs.IdentLemmas.{is_xid_start-ascii}
use Rattle.mt_lexer.specs.declared.gaps.Piece.TheVariants.{Other}
use Rattle.mt_lexer.specs.declared.words.Class.TheVariants.{Continue, Digit}
use Rattle.mt_lexer.specs.declared.TokenKind.TheVariants as kind
use Rattle.mt_lexer.specs.declared.LexStop.TheVariants.{Lex}
use Rattle.mt_lexer.specs.Tokens.{piece, run, is_start, is_digit, value_onto, name_token, number_token, sign_token, token, token_at}
use Rattle.mt_reading_laws.proofs.Words.{head_of, TokenAt, IsSignText, stands, run-over, piece-other}

-- ---- signs of one byte

pub close : IsSignText 41 (41 ∷ [])
unfolding chars encode unicode_ident
close = record { utf8 = (41 ∷ [], (refl, refl)); char = refl; wide = refl; no_start = refl; no_digit = refl; no_arrow = λ d. refl; listed = refl }

pub opening : IsSignText 40 (40 ∷ [])
unfolding chars encode unicode_ident
opening = record { utf8 = (40 ∷ [], (refl, refl)); char = refl; wide = refl; no_start = refl; no_digit = refl; no_arrow = λ d. refl; listed = refl }

pub bracket : IsSignText 91 (91 ∷ [])
unfolding chars encode unicode_ident
bracket = record { utf8 = (91 ∷ [], (refl, refl)); char = refl; wide = refl; no_start = refl; no_digit = refl; no_arrow = λ d. refl; listed = refl }

pub shut : IsSignText 93 (93 ∷ [])
unfolding chars encode unicode_ident
shut = record { utf8 = (93 ∷ [], (refl, refl)); char = refl; wide = refl; no_start = refl; no_digit = refl; no_arrow = λ d. refl; listed = refl }

pub comma : IsSignText 44 (44 ∷ [])
unfolding chars encode unicode_ident
comma = record { utf8 = (44 ∷ [], (refl, refl)); char = refl; wide = refl; no_start = refl; no_digit = refl; no_arrow = λ d. refl; listed = refl }

pub colon : IsSignText 58 (58 ∷ [])
unfolding chars encode unicode_ident
colon = record { utf8 = (58 ∷ [], (refl, refl)); char = refl; wide = refl; no_start = refl; no_digit = refl; no_arrow = λ d. refl; listed = refl }

pub plus : IsSignText 43 (43 ∷ [])
unfolding chars encode unicode_ident
plus = record { utf8 = (43 ∷ [], (refl, refl)); char = refl; wide = refl; no_start = refl; no_digit = refl; no_arrow = λ d. refl; listed = refl }

pub dot : IsSignText 46 (46 ∷ [])
unfolding chars encode unicode_ident
dot = record { utf8 = (46 ∷ [], (refl, refl)); char = refl; wide = refl; no_start = refl; no_digit = refl; no_arrow = λ d. refl; listed = refl }

-- ---- `λ`, `∀` and `→`

pub lambda : IsSignText 955 (206 ∷ 187 ∷ [])
unfolding chars encode unicode_ident
lambda = record { utf8 = (955 ∷ [], (refl, refl)); char = refl; wide = refl; no_start = refl; no_digit = refl; no_arrow = λ d. refl; listed = refl }

pub forall : IsSignText 8704 (226 ∷ 136 ∷ 128 ∷ [])
unfolding chars encode unicode_ident
forall = record { utf8 = (8704 ∷ [], (refl, refl)); char = refl; wide = refl; no_start = refl; no_digit = refl; no_arrow = λ d. refl; listed = refl }

pub arrow : IsSignText 8594 (226 ∷ 134 ∷ 146 ∷ [])
unfolding chars encode unicode_ident
arrow = record { utf8 = (8594 ∷ [], (refl, refl)); char = refl; wide = refl; no_start = refl; no_digit = refl; no_arrow = λ d. refl; listed = refl }

-- ---- numbers

record Digits (n : ℕ) (ds : List ℕ) : Type 0 where
  pub value : value_onto 0 ds ≡ n
  pub all : list_all is_digit ds ≡ true

value-append : (v d : ℕ) (ds : List ℕ) → value_onto v (ds ++ d ∷ []) ≡ value_onto v ds * 10 + (d - 48)
value-append v d [] = refl
value-append v d (e ∷ ds) = value-append (v * 10 + (e - 48)) d ds

all-append : (p : ℕ → Bool) (d : ℕ) (ds : List ℕ) → list_all p ds ≡ true → p d ≡ true → list_all p (ds ++ d ∷ []) ≡ true
all-append p d [] h e = and_from (p d) true e refl
all-append p d (x ∷ ds) h e = let parts = and_parts (p x) (list_all p ds) h in and_from (p x) (list_all p (ds ++ d ∷ [])) parts.0 (all-append p d ds parts.1 e)

digit-is : (d : ℕ) → d < 10 → is_digit (48 + d) ≡ true
digit-is d h = grind (arith, nat_tests)

digits-one : (n : ℕ) → n < 10 → Digits n ((48 + n) ∷ [])
digits-one n h = record { value = omega arith; all = and_from (is_digit (48 + n)) true (digit-is n h) refl }

digits-more : (n : ℕ) (ds : List ℕ) → 10 ≤ n → Digits (n / 10) ds → Digits n (ds ++ ((48 + n % 10) ∷ []))
digits-more n ds h d =
    let small : n % 10 < 10 = omega arith in
    let value : value_onto 0 ds ≡ n / 10 = d.value in
    record { value = value-append 0 (48 + n % 10) ds ∙ (let e : value_onto 0 ds * 10 + (48 + n % 10 - 48) ≡ n = omega arith in e); all = all-append is_digit (48 + n % 10) ds d.all (digit-is (n % 10) small) }

digits-of : (n : ℕ) → n < 2 ^ 64 → Digits n (decimal n)
digits-of n h = decimal_by_steps Digits digits-one digits-more n h

-- a number has no leading zero
no-zero-first : (n : ℕ) → n < 2 ^ 64 → ((slice_index (decimal n) 0 == 48) && nat_lt 1 (length (decimal n))) ≡ false
no-zero-first zero h = ap (λ ds. (slice_index ds 0 == 48) && nat_lt 1 (length ds)) (decimal_digit 0 (lit< tt))
no-zero-first (suc n) h = let first : 48 < slice_index (decimal (suc n)) 0 = first_decimal (suc n) (omega arith) h in grind (arith, nat_tests)

digit-is-no-start : (c : ℕ) → is_digit c ≡ true → is_start c ≡ false
digit-is-no-start c h =
    let small : c < 128 = grind (arith, nat_tests) in
    let no : is_ascii_alphabetic c ≡ false = grind (arith, nat_tests) in
    let e : (c == 95) ≡ false = grind (arith, nat_tests) in
    λ i. (e i || (is_xid_start-ascii c small ∙ no) i) && not (c == 955)

digit-is-other : (c d : ℕ) → is_digit c ≡ true → piece zero c d ≡ Other
digit-is-other c d h = piece-other c d (grind (arith, nat_tests)) (grind (arith, nat_tests))

number-token : (n : ℕ) (rest : List ℕ) (at c : ℕ) (cs : List ℕ) → n ≤ 4294967295 → decimal n ≡ c ∷ cs → is_digit (head_of rest) ≡ false
    → token_at at (c ∷ (cs ++ chars rest)) ≡ Ok (token (kind.Number n) at (at + length (decimal n)))
number-token n rest at c cs small h e =
    let wide : n < 2 ^ 64 = omega arith in
    let d : Digits n (decimal n) = digits-of n wide in
    let all : list_all is_digit (c ∷ cs) ≡ true = sym (ap (list_all is_digit) h) ∙ d.all in
    let first : is_digit c ≡ true = (and_parts (is_digit c) (list_all is_digit cs) all).0 in
    let bytes : run Digit (c ∷ (cs ++ chars rest)) ≡ decimal n =
    run-over Digit (c ∷ cs) (chars rest) all e ∙ ap encodes (sym h) ∙ encodes-IsAscii (decimal n) (IsAscii-decimal n wide) in
    let within : nat_lt 4294967295 n ≡ false = grind (arith, nat_tests) in
    ap (λ b. cond b (name_token at (run Continue (c ∷ (cs ++ chars rest)))) (cond (is_digit c) (number_token at (run Digit (c ∷ (cs ++ chars rest)))) (sign_token at c (slice_index (cs ++ chars rest) 0)))) (digit-is-no-start c first)
    ∙ ap (λ b. cond b (number_token at (run Digit (c ∷ (cs ++ chars rest)))) (sign_token at c (slice_index (cs ++ chars rest) 0))) first
    ∙ ap (number_token at) bytes
    ∙ ap (λ b. cond (b || nat_lt 4294967295 (value_onto 0 (decimal n))) (Err (Lex at)) (Ok (token (kind.Number (value_onto 0 (decimal n))) at (at + length (decimal n))))) (no-zero-first n wide)
    ∙ ap (λ v. cond (nat_lt 4294967295 v) (Err (Lex at)) (Ok (token (kind.Number v) at (at + length (decimal n))))) d.value
    ∙ ap (λ b. cond b (Err (Lex at)) (Ok (token (kind.Number n) at (at + length (decimal n))))) within

none-long : {A : Type 0} (n : ℕ) → n < 2 ^ 64 → decimal n ≡ [] → A
none-long n h e = let some : 0 < length (decimal n) = decimal_nonempty n h in let none : length (decimal n) ≡ 0 = ap length e in absurd (omega arith)

number-by : (text rest : List ℕ) (at n : ℕ) (ks : List ℕ) → decimal n ≡ ks → n ≤ 4294967295 → is_digit (head_of rest) ≡ false → drop at text ≡ decimal n ++ rest → TokenAt text at (kind.Number n) (decimal n) rest
number-by text rest at n [] h small e there = none-long n (omega arith) h
number-by text rest at n (c ∷ cs) h small e there =
    let wide : n < 2 ^ 64 = omega arith in
    let ascii = IsAscii-decimal n wide in
    let first : is_digit c ≡ true = (and_parts (is_digit c) (list_all is_digit cs) (sym (ap (list_all is_digit) h) ∙ (digits-of n wide).all)).0 in
    stands text (decimal n) rest at c cs (kind.Number n) there (IsUtf8-from_ascii (decimal n) ascii) (chars-IsAscii (decimal n) ascii ∙ h)
    (digit-is-other c (slice_index (cs ++ chars rest) 0) first) (number-token n rest at c cs small h e) (λ t. refl) (λ t. refl)

pub number-at : (text rest : List ℕ) (at n : ℕ) → n ≤ 4294967295 → is_digit (head_of rest) ≡ false → drop at text ≡ decimal n ++ rest → TokenAt text at (kind.Number n) (decimal n) rest
number-at text rest at n small e there = number-by text rest at n (decimal n) refl small e there
