-- Tokens that stand in a text before other text.
use Rattle.std.proofs.Common.{◌≡◌, ℕ, zero, suc, ◌+◌, ◌-◌, ◌<◌, ◌≤◌, Bool, true, false, cond, ◌&&◌, ◌||◌, ◌==◌, List, [], ◌∷◌, ◌++◌, length, take, drop, Ok, Err, Some, refl, sym, ap, ◌∙◌, arith, lit<}
use Rattle.std.specs.Prelude.{slice_index, nat_lt, encode_utf8, Result}
use Rattle.std.specs.Char.{len_utf8}
use Rattle.std.specs.List.{list_all, list_any}
use Rattle.std.specs.Str.{chars, IsUtf8, IsAscii}
use lib.Utf8.{encode, encodes}
use Rattle.std.proofs.lemmas.Bool.{and_parts, eqb-true}
use Rattle.std.proofs.lemmas.Bool.Decides.{nat_tests}
use Rattle.std.proofs.lemmas.List.{drop-drop, drop_at, take_at}
use Rattle.std.proofs.lemmas.Str.{chars-append, chars-IsAscii, IsUtf8-from_ascii, encodes-chars}
use Rattle.unicode_ident.proofs.Computing.{unicode_ident}
use Rattle.mt_lexer.specs.declared.gaps.Piece.{Piece}
use Rattle.mt_lexer.specs.declared.gaps.Piece.TheVariants.{Opening, Closing, Passed, Other}
use Rattle.mt_lexer.specs.declared.words.Class.{Class}
use Rattle.mt_lexer.specs.declared.words.Class.TheVariants.{Continue, Digit}
use Rattle.mt_lexer.specs.declared.Token.{Token}
use Rattle.mt_lexer.specs.declared.TokenKind.{TokenKind}
use Rattle.mt_lexer.specs.declared.TokenKind.TheVariants.{Name, Reserved, Sign}
use Rattle.mt_lexer.specs.declared.LexStop.{LexStop}
use Rattle.mt_lexer.specs.declared.LexStop.TheVariants.{Lex}
use Rattle.mt_lexer.specs.Tokens.{is_blank, piece, gap, run, is_in, is_start, is_continue, is_digit, is_reserved, is_arrow, signs, name_token, number_token, sign_token, token, token_at, chars_from, after_gap, next_token}
use Rattle.mt_term_parser.specs.Readings.{Got, needed_token, seen_token, word_of}
use Rattle.mt_reading_laws.specs.Names.{IsWord}

-- ---- characters

pub ascii-one : (c : ℕ) → c < 128 → IsAscii (c ∷ [])
ascii-one c small zero = small
ascii-one c small (suc i) = lit< tt

-- an ASCII byte is a character
pub chars-byte : (c : ℕ) (rest : List ℕ) → c < 128 → chars (c ∷ rest) ≡ c ∷ chars rest
chars-byte c rest small =
    chars-append (c ∷ []) rest (IsUtf8-from_ascii (c ∷ []) (ascii-one c small)) ∙ ap (λ cs. cs ++ chars rest) (chars-IsAscii (c ∷ []) (ascii-one c small))

-- the character that a text begins with, 0 where there is none
abbrev pub head_of : List ℕ → ℕ
head_of rest = slice_index (chars rest) 0

pub head-byte : (c : ℕ) (rest : List ℕ) → c < 128 → head_of (c ∷ rest) ≡ c
head-byte c rest small = ap (λ cs. slice_index cs 0) (chars-byte c rest small)

-- ---- places

-- what follows some bytes
pub drop-past : (text x rest : List ℕ) (at : ℕ) → drop at text ≡ x ++ rest → drop (at + length x) text ≡ rest
drop-past text x rest at e = sym (drop-drop (length x) at text) ∙ ap (drop (length x)) e ∙ drop_at x rest (length x) refl

-- ---- what is read at a place

-- a token with these bytes, and what follows it
pub record TokenAt (text : List ℕ) (at : ℕ) (k : TokenKind) (w rest : List ℕ) : Type 0 where
  pub token : Token
  pub is : next_token text at ≡ Ok token
  pub kind : token.kind ≡ k
  pub word : word_of text token ≡ w
  pub head : slice_index (chars_from text token.start) 0 ≡ head_of w
  pub after : drop token.end text ≡ rest
  pub needed : (t : Token) → needed_token t k ≡ Got t t.end
  pub seen : (t : Token) → seen_token t k ≡ Some t

abbrev goes : ℕ → ℕ → List ℕ → Piece → Result ℕ LexStop
goes at c cs p = elim p as (λ _. Result ℕ LexStop) [
  | Opening ↦ gap (0 + 1) true (at + len_utf8 c) cs
  | Closing ↦ gap (0 - 1) true (at + len_utf8 c) cs
  | Passed ↦ gap 0 false (at + len_utf8 c) cs
  | Other ↦ Ok at
]

gap-ends : (at c : ℕ) (cs : List ℕ) → piece zero c (slice_index cs 0) ≡ Other → gap 0 false at (c ∷ cs) ≡ Ok at
gap-ends at c cs h = ap (goes at c cs) h

gap-blank : (at : ℕ) (cs : List ℕ) → gap 0 false at (32 ∷ cs) ≡ gap 0 false (at + 1) cs
gap-blank at cs = refl

-- a token that stands where it is looked for
next-here : (text rest : List ℕ) (at c : ℕ) (cs : List ℕ) → drop at text ≡ rest → chars rest ≡ c ∷ cs → piece zero c (slice_index cs 0) ≡ Other
    → next_token text at ≡ token_at at (c ∷ cs)
next-here text rest at c cs e h p =
    let same : chars_from text at ≡ c ∷ cs = ap chars e ∙ h in
    ap (λ r. after_gap text (gap 0 false at r)) same ∙ ap (after_gap text) (gap-ends at c cs p) ∙ ap (token_at at) same

-- a blank before a token
pub past-blank : (text rest : List ℕ) (at : ℕ) → drop at text ≡ 32 ∷ rest → next_token text at ≡ next_token text (at + 1)
past-blank text rest at e =
    let same : chars_from text at ≡ 32 ∷ chars rest = ap chars e ∙ chars-byte 32 rest (lit< tt) in
    let next : chars_from text (at + 1) ≡ chars rest = ap chars (drop-past text (32 ∷ []) rest at e) in
    ap (λ r. after_gap text (gap 0 false at r)) same ∙ ap (after_gap text) (gap-blank at (chars rest)) ∙ ap (λ r. after_gap text (gap 0 false (at + 1) r)) (sym next)

pub after-blank : {text w rest more : List ℕ} {k : TokenKind} (at : ℕ) → drop at text ≡ 32 ∷ more → TokenAt text (at + 1) k w rest → TokenAt text at k w rest
after-blank {text} {w} {rest} {more} at e t =
    record { token = t.token; is = past-blank text more at e ∙ t.is; kind = t.kind; word = t.word; head = t.head; after = t.after; needed = t.needed; seen = t.seen }

-- a token made of some characters
pub stands : (text x rest : List ℕ) (at c : ℕ) (cs : List ℕ) (k : TokenKind) → drop at text ≡ x ++ rest → IsUtf8 x → chars x ≡ c ∷ cs
    → piece zero c (slice_index (cs ++ chars rest) 0) ≡ Other → token_at at (c ∷ (cs ++ chars rest)) ≡ Ok (token k at (at + length x))
    → ((t : Token) → needed_token t k ≡ Got t t.end) → ((t : Token) → seen_token t k ≡ Some t) → TokenAt text at k x rest
stands text x rest at c cs k e utf8 h p t needed seen =
    let whole : chars (x ++ rest) ≡ c ∷ (cs ++ chars rest) = chars-append x rest utf8 ∙ ap (λ r. r ++ chars rest) h in
    let long : at + length x - at ≡ length x = omega arith in
    record {
      token = token k at (at + length x);
      is = next-here text (x ++ rest) at c (cs ++ chars rest) e whole p ∙ t;
      kind = refl;
      word = ap (λ n. take n (drop at text)) long ∙ ap (take (length x)) e ∙ take_at x rest (length x) refl;
      head = ap (λ r. slice_index (chars r) 0) e ∙ ap (λ r. slice_index r 0) whole ∙ sym (ap (λ r. slice_index r 0) h);
      after = drop-past text x rest at e;
      needed = needed;
      seen = seen;
    }

-- ---- words

pub run-over : (class : Class) (ks ds : List ℕ) → list_all (is_in class) ks ≡ true → is_in class (slice_index ds 0) ≡ false → run class (ks ++ ds) ≡ encodes ks
run-over class [] [] h e = refl
run-over class [] (d ∷ ds) h e = ap (λ b. cond b (encode_utf8 d ++ run class ds) []) e
run-over class (k ∷ ks) ds h e =
    let parts = and_parts (is_in class k) (list_all (is_in class) ks) h in
    ap (λ b. cond b (encode_utf8 k ++ run class (ks ++ ds)) []) parts.0 ∙ ap (λ r. encode_utf8 k ++ r) (run-over class ks ds parts.1 e)

is-other : (p : ℕ → Bool) (n c : ℕ) (b : Bool) → (c == n) ≡ b → p n ≡ false → p c ≡ true → b ≡ false
is-other p n c false t e h = refl
is-other p n c true t e h = sym h ∙ ap p (eqb-true c n t) ∙ e

pub piece-other : (c d : ℕ) → (c == 40) ≡ false → is_blank c ≡ false → piece zero c d ≡ Other
piece-other c d e h = ap (λ v. cond (v && (d == 42)) Opening (cond (is_blank c) Passed Other)) e ∙ ap (λ v. cond v Passed Other) h

blank-false : (c : ℕ) → (c == 32) ≡ false → (c == 9) ≡ false → (c == 13) ≡ false → (c == 10) ≡ false → is_blank c ≡ false
blank-false c e f g h = λ i. e i || f i || g i || h i

start-is-other : (c d : ℕ) → is_start c ≡ true → piece zero c d ≡ Other
unfolding unicode_ident
start-is-other c d h =
    let off : (n : ℕ) → is_start n ≡ false → (c == n) ≡ false = λ n e. is-other is_start n c (c == n) refl e h in
    piece-other c d (off 40 refl) (blank-false c (off 32 refl) (off 9 refl) (off 13 refl) (off 10 refl))

pub nothing-starts : is_start 0 ≡ true → false ≡ true
unfolding unicode_ident
nothing-starts h = h

long-false : (n : ℕ) → n ≤ 255 → nat_lt 255 n ≡ false
long-false n h = grind (arith, nat_tests)

word-token : (x rest : List ℕ) (at c : ℕ) (cs : List ℕ) → IsWord x → chars x ≡ c ∷ cs → is_continue (head_of rest) ≡ false
    → token_at at (c ∷ (cs ++ chars rest)) ≡ Ok (token (cond (is_reserved x) Reserved Name) at (at + length x))
word-token x rest at c cs w h e =
    let starts : is_start c ≡ true = sym (ap (λ r. is_start (slice_index r 0)) h) ∙ w.starts in
    let all : list_all is_continue (c ∷ cs) ≡ true = sym (ap (list_all is_continue) h) ∙ w.continues in
    let bytes : run Continue (c ∷ (cs ++ chars rest)) ≡ x =
    run-over Continue (c ∷ cs) (chars rest) all e ∙ ap encodes (sym h) ∙ encodes-chars x w.utf8 in
    ap (λ b. cond b (name_token at (run Continue (c ∷ (cs ++ chars rest)))) (cond (is_digit c) (number_token at (run Digit (c ∷ (cs ++ chars rest)))) (sign_token at c (slice_index (cs ++ chars rest) 0)))) starts
    ∙ ap (name_token at) bytes
    ∙ ap (λ b. cond b (Err (Lex at)) (Ok (token (cond (is_reserved x) Reserved Name) at (at + length x)))) (long-false (length x) w.short)

pub false≢true : {A : Type 0} → false ≡ true → A
false≢true e = absurd (cc)

name-by : (text x rest : List ℕ) (at : ℕ) (ks : List ℕ) → chars x ≡ ks → IsWord x → is_reserved x ≡ false → drop at text ≡ x ++ rest → is_continue (head_of rest) ≡ false → TokenAt text at Name x rest
name-by text x rest at [] h w free e ends = false≢true (nothing-starts (sym (ap (λ r. is_start (slice_index r 0)) h) ∙ w.starts))
name-by text x rest at (c ∷ cs) h w free e ends =
    stands text x rest at c cs Name e w.utf8 h (start-is-other c (slice_index (cs ++ chars rest) 0) (sym (ap (λ r. is_start (slice_index r 0)) h) ∙ w.starts))
    (word-token x rest at c cs w h ends ∙ ap (λ b. Ok (token (cond b Reserved Name) at (at + length x))) free) (λ t. refl) (λ t. refl)

-- a word that is not reserved
pub name-at : (text x rest : List ℕ) (at : ℕ) → IsWord x → is_reserved x ≡ false → drop at text ≡ x ++ rest → is_continue (head_of rest) ≡ false → TokenAt text at Name x rest
name-at text x rest at w free e ends = name-by text x rest at (chars x) refl w free e ends

reserved-by : (text x rest : List ℕ) (at : ℕ) (ks : List ℕ) → chars x ≡ ks → IsWord x → is_reserved x ≡ true → drop at text ≡ x ++ rest → is_continue (head_of rest) ≡ false → TokenAt text at Reserved x rest
reserved-by text x rest at [] h w free e ends = false≢true (nothing-starts (sym (ap (λ r. is_start (slice_index r 0)) h) ∙ w.starts))
reserved-by text x rest at (c ∷ cs) h w free e ends =
    stands text x rest at c cs Reserved e w.utf8 h (start-is-other c (slice_index (cs ++ chars rest) 0) (sym (ap (λ r. is_start (slice_index r 0)) h) ∙ w.starts))
    (word-token x rest at c cs w h ends ∙ ap (λ b. Ok (token (cond b Reserved Name) at (at + length x))) free) (λ t. refl) (λ t. refl)

pub reserved-at : (text x rest : List ℕ) (at : ℕ) → IsWord x → is_reserved x ≡ true → drop at text ≡ x ++ rest → is_continue (head_of rest) ≡ false → TokenAt text at Reserved x rest
reserved-at text x rest at w free e ends = reserved-by text x rest at (chars x) refl w free e ends

-- ---- signs

-- bytes that are one sign
pub record IsSignText (c : ℕ) (w : List ℕ) : Type 0 where
  pub utf8 : IsUtf8 w
  pub char : chars w ≡ c ∷ []
  pub wide : length w ≡ len_utf8 c
  pub no_start : is_start c ≡ false
  pub no_digit : is_digit c ≡ false
  pub no_arrow : (d : ℕ) → is_arrow c d ≡ false
  pub listed : list_any (λ s. s == c) signs ≡ true

sign-tokens : (at c : ℕ) (cs w : List ℕ) → IsSignText c w → token_at at (c ∷ cs) ≡ Ok (token Sign at (at + length w))
sign-tokens at c cs w s =
    ap (λ b. cond b (name_token at (run Continue (c ∷ cs))) (cond (is_digit c) (number_token at (run Digit (c ∷ cs))) (sign_token at c (slice_index cs 0)))) s.no_start
    ∙ ap (λ b. cond b (number_token at (run Digit (c ∷ cs))) (sign_token at c (slice_index cs 0))) s.no_digit
    ∙ ap (λ b. cond b (Ok (token Sign at (at + 2))) (cond (list_any (λ s. s == c) signs) (Ok (token Sign at (at + len_utf8 c))) (Err (Lex at)))) (s.no_arrow (slice_index cs 0))
    ∙ ap (λ b. cond b (Ok (token Sign at (at + len_utf8 c))) (Err (Lex at))) s.listed
    ∙ ap (λ n. Ok (token Sign at (at + n))) (sym s.wide)

pub sign-at : (text w rest : List ℕ) (at c : ℕ) → IsSignText c w → piece zero c (head_of rest) ≡ Other → drop at text ≡ w ++ rest → TokenAt text at Sign w rest
sign-at text w rest at c s p e = stands text w rest at c [] Sign e s.utf8 s.char p (sign-tokens at c (chars rest) w s) (λ t. refl) (λ t. refl)
