-- Tokens of a text begin and end at characters.
use Rattle.std.proofs.Common.{◌≡◌, ◌≢◌, ℕ, zero, suc, ◌+◌, ◌-◌, ◌<◌, ◌≤◌, Bool, true, false, cond, ◌&&◌, ◌||◌, ◌==◌, List, [], ◌∷◌, ◌++◌, length, drop, Ok, Err, refl, sym, ap, ap₂, ◌∙◌, subst, arith, append-nil, length-append, length-drop}
use Rattle.std.specs.Prelude.{encode_utf8, slice_index, nat_lt, Result}
use Rattle.std.specs.Char.{len_utf8}
use Rattle.std.specs.List.{list_any}
use Rattle.std.specs.Str.{chars, IsUtf8}
use lib.Utf8.{scalar, scalars, encode, encodes}
use Rattle.std.proofs.lemmas.Bool.{and_parts}
use Rattle.std.proofs.lemmas.Bool.Decides.{nat_tests}
use Rattle.std.proofs.lemmas.List.{drop-drop, drop_at}
use Rattle.std.proofs.lemmas.Str.{length-encode, len_utf8_bounds, len_utf8_ascii, chars-encodes, encodes-append}
use Rattle.mt_lexer.specs.declared.gaps.Piece.{Piece}
use Rattle.mt_lexer.specs.declared.gaps.Piece.TheVariants.{Opening, Closing, Passed, Other}
use Rattle.mt_lexer.specs.declared.words.Class.{Class}
use Rattle.mt_lexer.specs.declared.words.Class.TheVariants.{Continue, Digit}
use Rattle.mt_lexer.specs.declared.Token.{Token}
use Rattle.mt_lexer.specs.declared.TokenKind.{TokenKind}
use Rattle.mt_lexer.specs.declared.TokenKind.TheVariants.{Name, Reserved, Number, Sign, End}
use Rattle.mt_lexer.specs.declared.LexStop.{LexStop}
use Rattle.mt_lexer.specs.declared.LexStop.TheVariants.{Lex, Incomplete}
use Rattle.mt_lexer.specs.Tokens.{piece, gap, run, is_in, is_start, is_digit, is_reserved, is_arrow, signs, value_onto, name_token, number_token, sign_token, token, token_at, chars_from, after_gap, next_token}
use Rattle.mt_lexer.proofs.Characters.{run-step, run-stop, start-continues}
use Rattle.mt_lexer.proofs.Shared_tokens.{width}

-- ---- the bytes of characters

pub length-encodes : (cs : List ℕ) → length (encodes cs) ≡ width cs
length-encodes [] = refl
length-encodes (c ∷ cs) = length-append (encode c) (encodes cs) ∙ ap₂ (λ (x : ℕ) (y : ℕ). x + y) (length-encode c) (length-encodes cs)

pub width-append : (xs ys : List ℕ) → width (xs ++ ys) ≡ width xs + width ys
width-append [] ys = omega arith
width-append (x ∷ xs) ys = let h = width-append xs ys in omega arith

pub scalars-rest : (xs ys : List ℕ) → scalars (xs ++ ys) ≡ true → scalars ys ≡ true
scalars-rest [] ys e = e
scalars-rest (x ∷ xs) ys e = scalars-rest xs ys (and_parts (scalar x) (scalars (xs ++ ys)) e).1

-- ---- places

-- characters begin at a place of a text
pub record Stands (text : List ℕ) (at : ℕ) : Type 0 where
  pub inside : at ≤ length text
  pub utf8 : IsUtf8 (drop at text)

pub chars-stand : (text : List ℕ) (at : ℕ) (v : Stands text at) → chars_from text at ≡ v.utf8.0
chars-stand text at v = ap chars (sym v.utf8.1.1) ∙ chars-encodes v.utf8.0 v.utf8.1.0

-- a place further on
Stands-cut : (text front rest : List ℕ) (at s : ℕ) (v : Stands text at) → v.utf8.0 ≡ front ++ rest → s ≡ at + width front
    → (scalars rest ≡ true) × (encodes rest ≡ drop s text)
Stands-cut text front rest at s v e place =
    let bytes : drop at text ≡ encodes front ++ encodes rest = sym v.utf8.1.1 ∙ ap encodes e ∙ encodes-append front rest in (
      scalars-rest front rest (ap scalars (sym e) ∙ v.utf8.1.0),
      sym (ap (λ p. drop p text) place ∙ sym (drop-drop (width front) at text) ∙ ap (drop (width front)) bytes ∙ drop_at (encodes front) (encodes rest) (width front) (length-encodes front)),
    )

Stands-inside : (text front rest : List ℕ) (at s : ℕ) (v : Stands text at) → v.utf8.0 ≡ front ++ rest → s ≡ at + width front → s ≤ length text
Stands-inside text front rest at s v e place =
    let long : length (drop at text) ≡ width front + width rest =
    ap length (sym v.utf8.1.1) ∙ length-encodes v.utf8.0 ∙ ap width e ∙ width-append front rest in
    let inside : at ≤ length text = v.inside in
    omega (arith, long, length-drop at text)

-- ---- gaps

abbrev goes : ℕ → ℕ → ℕ → List ℕ → Piece → Result ℕ LexStop
goes depth at c cs p = elim p as (λ _. Result ℕ LexStop) [
  | Opening ↦ gap (depth + 1) true (at + len_utf8 c) cs
  | Closing ↦ gap (depth - 1) true (at + len_utf8 c) cs
  | Passed ↦ gap depth false (at + len_utf8 c) cs
  | Other ↦ Ok at
]

gap-goes : (depth at c : ℕ) (cs : List ℕ) → gap depth false at (c ∷ cs) ≡ goes depth at c cs (piece depth c (slice_index cs 0))
gap-goes zero at c cs = refl
gap-goes (suc depth) at c cs = refl

gap-used : (depth at c : ℕ) (cs : List ℕ) → gap depth true at (c ∷ cs) ≡ gap depth false (at + len_utf8 c) cs
gap-used zero at c cs = refl
gap-used (suc depth) at c cs = refl

-- a gap from a place to another, where a token or the end stands
pub record Gap (cs : List ℕ) (at s : ℕ) : Type 0 where
  pub front : List ℕ
  pub rest : List ℕ
  pub whole : cs ≡ front ++ rest
  pub place : s ≡ at + width front
  pub stops : gap 0 false s rest ≡ Ok s

longer : (c : ℕ) (cs : List ℕ) (at s : ℕ) → Gap cs (at + len_utf8 c) s → Gap (c ∷ cs) at s
longer c cs at s g = record { front = c ∷ g.front; rest = g.rest; whole = ap (λ r. c ∷ r) g.whole; place = let p = g.place in omega arith; stops = g.stops }

other-cut : (depth at s c : ℕ) (cs : List ℕ) → piece depth c (slice_index cs 0) ≡ Other → goes depth at c cs Other ≡ Ok s → Gap (c ∷ cs) at s
other-cut zero at s c cs h e =
    let same : at ≡ s = cc in
    record { front = []; rest = c ∷ cs; whole = refl; place = omega arith; stops = subst (λ p. gap 0 false p (c ∷ cs) ≡ Ok p) same (gap-goes zero at c cs ∙ ap (goes zero at c cs) h) }
other-cut (suc depth) at s c cs h e = absurd (grind (arith, nat_tests))

piece-cut : (depth at s c : ℕ) (cs : List ℕ) → ((depth_left : ℕ) (used : Bool) → gap depth_left used (at + len_utf8 c) cs ≡ Ok s → Gap cs (at + len_utf8 c) s)
    → (p : Piece) → piece depth c (slice_index cs 0) ≡ p → goes depth at c cs p ≡ Ok s → Gap (c ∷ cs) at s
piece-cut depth at s c cs later Opening h e = longer c cs at s (later (depth + 1) true e)
piece-cut depth at s c cs later Closing h e = longer c cs at s (later (depth - 1) true e)
piece-cut depth at s c cs later Passed h e = longer c cs at s (later depth false e)
piece-cut depth at s c cs later Other h e = other-cut depth at s c cs h e

pub gap-cut : (cs : List ℕ) (depth : ℕ) (used : Bool) (at s : ℕ) → gap depth used at cs ≡ Ok s → Gap cs at s
gap-cut [] zero used at s e =
    let same : at ≡ s = cc in record { front = []; rest = []; whole = refl; place = omega arith; stops = refl }
gap-cut [] (suc depth) used at s e = absurd (cc)
gap-cut (c ∷ cs) depth true at s e = longer c cs at s (gap-cut cs depth false (at + len_utf8 c) s (sym (gap-used depth at c cs) ∙ e))
gap-cut (c ∷ cs) depth false at s e =
    piece-cut depth at s c cs (λ depth_left used h. gap-cut cs depth_left used (at + len_utf8 c) s h) (piece depth c (slice_index cs 0)) refl (sym (gap-goes depth at c cs) ∙ e)

-- ---- tokens

record Run (class : Class) (cs : List ℕ) : Type 0 where
  pub front : List ℕ
  pub rest : List ℕ
  pub whole : cs ≡ front ++ rest
  pub bytes : run class cs ≡ encodes front

run-cut-by : (class : Class) (c : ℕ) (cs : List ℕ) (b : Bool) → is_in class c ≡ b → Run class cs → Run class (c ∷ cs)
run-cut-by class c cs true e r =
    record { front = c ∷ r.front; rest = r.rest; whole = ap (λ x. c ∷ x) r.whole; bytes = run-step class c cs e ∙ ap (λ x. encode_utf8 c ++ x) r.bytes }
run-cut-by class c cs false e r = record { front = []; rest = c ∷ cs; whole = refl; bytes = run-stop class c cs e }

run-cut : (class : Class) (cs : List ℕ) → Run class cs
run-cut class [] = record { front = []; rest = []; whole = refl; bytes = refl }
run-cut class (c ∷ cs) = run-cut-by class c cs (is_in class c) refl (run-cut class cs)

-- a token at the front of characters
pub record Cut (s : ℕ) (cs : List ℕ) (t : Token) : Type 0 where
  pub front : List ℕ
  pub rest : List ℕ
  pub whole : cs ≡ front ++ rest
  pub start : t.start ≡ s
  pub end : t.end ≡ s + width front
  pub some : t.kind ≢ End → 0 < width front

ok-of-cond : (b : Bool) (x : LexStop) (u t : Token) → cond b (Err x) (Ok u) ≡ Ok t → u ≡ t
ok-of-cond true x u t e = absurd (cc)
ok-of-cond false x u t e = cc

-- a token whose text is a run
run-token : (class : Class) (s c : ℕ) (cs : List ℕ) (k : TokenKind) (t : Token) → is_in class c ≡ true
    → token k s (s + length (run class (c ∷ cs))) ≡ t → Cut s (c ∷ cs) t
run-token class s c cs k t first e =
    let r = run-cut class (c ∷ cs) in
    let long : length (run class (c ∷ cs)) ≡ width r.front = ap length r.bytes ∙ length-encodes r.front in
    let least : 1 ≤ len_utf8 c = (len_utf8_bounds c).0 in
    let more : length (run class (c ∷ cs)) ≡ length (encode_utf8 c) + length (run class cs) = ap length (run-step class c cs first) ∙ length-append (encode_utf8 c) (run class cs) in
    let one : length (encode_utf8 c) ≡ len_utf8 c = length-encode c in
    let end : t.end ≡ s + length (run class (c ∷ cs)) = sym (ap (λ (u : Token). u.end) e) in
    record { front = r.front; rest = r.rest; whole = r.whole; start = sym (ap (λ (u : Token). u.start) e); end = omega arith; some = λ _. omega arith }

sign-cut : (s c : ℕ) (cs : List ℕ) (t : Token) → token Sign s (s + len_utf8 c) ≡ t → Cut s (c ∷ cs) t
sign-cut s c cs t e =
    let least : 1 ≤ len_utf8 c = (len_utf8_bounds c).0 in
    let end : t.end ≡ s + len_utf8 c = sym (ap (λ (u : Token). u.end) e) in
    record { front = c ∷ []; rest = cs; whole = refl; start = sym (ap (λ (u : Token). u.start) e); end = omega arith; some = λ _. omega arith }

arrow-cut : (s c : ℕ) (cs : List ℕ) (t : Token) → is_arrow c (slice_index cs 0) ≡ true → token Sign s (s + 2) ≡ t → Cut s (c ∷ cs) t
arrow-cut s c [] t h e = absurd (grind (arith, nat_tests))
arrow-cut s c (d ∷ cs) t h e =
    let low : c < 128 = grind (arith, nat_tests) in
    let next : d < 128 = grind (arith, nat_tests) in
    let one : len_utf8 c ≡ 1 = len_utf8_ascii c low in
    let two : len_utf8 d ≡ 1 = len_utf8_ascii d next in
    let end : t.end ≡ s + 2 = sym (ap (λ (u : Token). u.end) e) in
    record { front = c ∷ d ∷ []; rest = cs; whole = refl; start = sym (ap (λ (u : Token). u.start) e); end = omega arith; some = λ _. omega arith }

sign-by : (s c : ℕ) (cs : List ℕ) (t : Token) (b : Bool) → cond b (Ok (token Sign s (s + len_utf8 c))) (Err (Lex s)) ≡ Ok t → Cut s (c ∷ cs) t
sign-by s c cs t true e = sign-cut s c cs t (cc)
sign-by s c cs t false e = absurd (cc)

arrow-by : (s c : ℕ) (cs : List ℕ) (t : Token) (b : Bool) → is_arrow c (slice_index cs 0) ≡ b
    → cond b (Ok (token Sign s (s + 2))) (cond (list_any (λ s. s == c) signs) (Ok (token Sign s (s + len_utf8 c))) (Err (Lex s))) ≡ Ok t → Cut s (c ∷ cs) t
arrow-by s c cs t true h e = arrow-cut s c cs t h (cc)
arrow-by s c cs t false h e = sign-by s c cs t (list_any (λ s. s == c) signs) e

number-cut : (s c : ℕ) (cs : List ℕ) (t : Token) (b : Bool) → is_digit c ≡ b
    → cond b (number_token s (run Digit (c ∷ cs))) (sign_token s c (slice_index cs 0)) ≡ Ok t → Cut s (c ∷ cs) t
number-cut s c cs t true h e =
    let ds : List ℕ = run Digit (c ∷ cs) in
    run-token Digit s c cs (Number (value_onto 0 ds)) t h
    (ok-of-cond (((slice_index ds 0 == 48) && nat_lt 1 (length ds)) || nat_lt 4294967295 (value_onto 0 ds)) (Lex s) (token (Number (value_onto 0 ds)) s (s + length ds)) t e)
number-cut s c cs t false h e = arrow-by s c cs t (is_arrow c (slice_index cs 0)) refl e

name-cut : (s c : ℕ) (cs : List ℕ) (t : Token) (b : Bool) → is_start c ≡ b
    → cond b (name_token s (run Continue (c ∷ cs))) (cond (is_digit c) (number_token s (run Digit (c ∷ cs))) (sign_token s c (slice_index cs 0))) ≡ Ok t → Cut s (c ∷ cs) t
name-cut s c cs t true h e =
    let w : List ℕ = run Continue (c ∷ cs) in
    run-token Continue s c cs (cond (is_reserved w) Reserved Name) t (start-continues c h)
    (ok-of-cond (nat_lt 255 (length w)) (Lex s) (token (cond (is_reserved w) Reserved Name) s (s + length w)) t e)
name-cut s c cs t false h e = number-cut s c cs t (is_digit c) refl e

pub token-cut : (s : ℕ) (cs : List ℕ) (t : Token) → token_at s cs ≡ Ok t → Cut s cs t
token-cut s [] t e =
    let same : token End s s ≡ t = cc in
    let end : t.end ≡ s = sym (ap (λ (u : Token). u.end) same) in
    record { front = []; rest = []; whole = refl; start = sym (ap (λ (u : Token). u.start) same); end = omega arith; some = λ other. absurd (other (sym (ap (λ (u : Token). u.kind) same))) }
token-cut s (c ∷ cs) t e = name-cut s c cs t (is_start c) refl e

-- ---- the next token

-- the next token from a place on, which is the next from its own start too
pub record Next (text : List ℕ) (at : ℕ) (t : Token) : Type 0 where
  pub after : at ≤ t.start
  pub begins : Stands text t.start
  pub ends : Stands text t.end
  pub gap_ends : gap 0 false at (chars_from text at) ≡ Ok t.start
  pub token_is : token_at t.start (chars_from text t.start) ≡ Ok t
  pub again : next_token text t.start ≡ Ok t
  pub order : t.start ≤ t.end
  pub some : t.kind ≢ End → t.start < t.end

next-at : (text : List ℕ) (at s : ℕ) (t : Token) (v : Stands text at) → gap 0 false at v.utf8.0 ≡ Ok s → token_at s (chars_from text s) ≡ Ok t → Next text at t
next-at text at s t v e h =
    let g : Gap v.utf8.0 at s = gap-cut v.utf8.0 0 false at s e in
    let place : s ≡ at + width g.front = g.place in
    let w : Stands text s =
    record { inside = Stands-inside text g.front g.rest at s v g.whole g.place; utf8 = (g.rest, Stands-cut text g.front g.rest at s v g.whole g.place) } in
    let rest : chars_from text s ≡ g.rest = chars-stand text s w in
    let k : Cut s g.rest t = token-cut s g.rest t (ap (token_at s) (sym rest) ∙ h) in
    let start : t.start ≡ s = k.start in
    let end : t.end ≡ s + width k.front = k.end in
    let gap_same : gap 0 false s (chars_from text s) ≡ Ok s = ap (gap 0 false s) rest ∙ g.stops in
    record {
      after = omega arith;
      begins = subst (Stands text) (sym start) w;
      ends = record { inside = Stands-inside text k.front k.rest s t.end w k.whole k.end; utf8 = (k.rest, Stands-cut text k.front k.rest s t.end w k.whole k.end) };
      gap_ends = ap (gap 0 false at) (chars-stand text at v) ∙ e ∙ ap Ok (sym start);
      token_is = subst (λ p. token_at p (chars_from text p) ≡ Ok t) (sym start) h;
      again = subst (λ p. next_token text p ≡ Ok t) (sym start) (ap (after_gap text) gap_same ∙ h);
      order = omega arith;
      some = λ other. let more = k.some other in omega arith;
    }

next-by : (text : List ℕ) (at : ℕ) (t : Token) (v : Stands text at) (r : Result ℕ LexStop) → gap 0 false at v.utf8.0 ≡ r → after_gap text r ≡ Ok t → Next text at t
next-by text at t v (Ok s) e h = next-at text at s t v e h
next-by text at t v (Err stop) e h = absurd (cc)

pub next-stands : (text : List ℕ) (at : ℕ) (t : Token) → Stands text at → next_token text at ≡ Ok t → Next text at t
next-stands text at t v e =
    next-by text at t v (gap 0 false at v.utf8.0) refl (ap (λ cs. after_gap text (gap 0 false at cs)) (sym (chars-stand text at v)) ∙ e)

-- ---- faults

abbrev pub place_of : LexStop → ℕ
place_of (Lex at) = at
place_of (Incomplete at) = at

stop-of-cond : (b : Bool) (x : LexStop) (u : Token) (e : LexStop) → cond b (Err x) (Ok u) ≡ Err e → x ≡ e
stop-of-cond true x u e h = cc
stop-of-cond false x u e h = absurd (cc)

sign-stops : (s : ℕ) (a b : Bool) (t u : Token) (e : LexStop) → cond a (Ok t) (cond b (Ok u) (Err (Lex s))) ≡ Err e → Lex s ≡ e
sign-stops s true b t u e h = absurd (cc)
sign-stops s false true t u e h = absurd (cc)
sign-stops s false false t u e h = cc

number-stops : (s c : ℕ) (cs : List ℕ) (e : LexStop) (b : Bool) → cond b (number_token s (run Digit (c ∷ cs))) (sign_token s c (slice_index cs 0)) ≡ Err e → Lex s ≡ e
number-stops s c cs e true h =
    let ds : List ℕ = run Digit (c ∷ cs) in
    stop-of-cond (((slice_index ds 0 == 48) && nat_lt 1 (length ds)) || nat_lt 4294967295 (value_onto 0 ds)) (Lex s) (token (Number (value_onto 0 ds)) s (s + length ds)) e h
number-stops s c cs e false h =
    sign-stops s (is_arrow c (slice_index cs 0)) (list_any (λ s. s == c) signs) (token Sign s (s + 2)) (token Sign s (s + len_utf8 c)) e h

name-stops : (s c : ℕ) (cs : List ℕ) (e : LexStop) (b : Bool)
    → cond b (name_token s (run Continue (c ∷ cs))) (cond (is_digit c) (number_token s (run Digit (c ∷ cs))) (sign_token s c (slice_index cs 0))) ≡ Err e → Lex s ≡ e
name-stops s c cs e true h =
    let w : List ℕ = run Continue (c ∷ cs) in
    stop-of-cond (nat_lt 255 (length w)) (Lex s) (token (cond (is_reserved w) Reserved Name) s (s + length w)) e h
name-stops s c cs e false h = number-stops s c cs e (is_digit c) h

token-stops : (s : ℕ) (cs : List ℕ) (e : LexStop) → token_at s cs ≡ Err e → Lex s ≡ e
token-stops s [] e h = absurd (cc)
token-stops s (c ∷ cs) e h = name-stops s c cs e (is_start c) h

abbrev open_at : ℕ → List ℕ → LexStop
open_at at cs = Incomplete (at + width cs)

further : (at c : ℕ) (cs : List ℕ) (e : LexStop) → open_at (at + len_utf8 c) cs ≡ e → open_at at (c ∷ cs) ≡ e
further at c cs e h = ap Incomplete (let z : at + width (c ∷ cs) ≡ at + len_utf8 c + width cs = omega arith in z) ∙ h

piece-stops : (depth at c : ℕ) (cs : List ℕ) (e : LexStop) → ((depth_left : ℕ) (used : Bool) → gap depth_left used (at + len_utf8 c) cs ≡ Err e → open_at (at + len_utf8 c) cs ≡ e)
    → (p : Piece) → goes depth at c cs p ≡ Err e → open_at at (c ∷ cs) ≡ e
piece-stops depth at c cs e later Opening h = further at c cs e (later (depth + 1) true h)
piece-stops depth at c cs e later Closing h = further at c cs e (later (depth - 1) true h)
piece-stops depth at c cs e later Passed h = further at c cs e (later depth false h)
piece-stops depth at c cs e later Other h = absurd (cc)

gap-stops : (cs : List ℕ) (depth : ℕ) (used : Bool) (at : ℕ) (e : LexStop) → gap depth used at cs ≡ Err e → open_at at cs ≡ e
gap-stops [] zero used at e h = absurd (cc)
gap-stops [] (suc depth) used at e h = ap Incomplete (let z : at + width [] ≡ at = omega arith in z) ∙ (let z : Incomplete at ≡ e = cc in z)
gap-stops (c ∷ cs) depth true at e h = further at c cs e (gap-stops cs depth false (at + len_utf8 c) e (sym (gap-used depth at c cs) ∙ h))
gap-stops (c ∷ cs) depth false at e h =
    piece-stops depth at c cs e (λ depth_left used q. gap-stops cs depth_left used (at + len_utf8 c) e q) (piece depth c (slice_index cs 0)) (sym (gap-goes depth at c cs) ∙ h)

fault-by : (text : List ℕ) (at : ℕ) (e : LexStop) (v : Stands text at) (r : Result ℕ LexStop) → gap 0 false at v.utf8.0 ≡ r → after_gap text r ≡ Err e → Stands text (place_of e)
fault-by text at e v (Ok s) q h =
    let g : Gap v.utf8.0 at s = gap-cut v.utf8.0 0 false at s q in
    let w : Stands text s =
    record { inside = Stands-inside text g.front g.rest at s v g.whole g.place; utf8 = (g.rest, Stands-cut text g.front g.rest at s v g.whole g.place) } in
    subst (λ x. Stands text (place_of x)) (token-stops s (chars_from text s) e h) w
fault-by text at e v (Err stop) q h =
    let cs : List ℕ = v.utf8.0 in
    let whole : cs ≡ cs ++ [] = sym (append-nil cs) in
    let place : at + width cs ≡ at + width cs = refl in
    let w : Stands text (at + width cs) =
    record { inside = Stands-inside text cs [] at (at + width cs) v whole refl; utf8 = ([], Stands-cut text cs [] at (at + width cs) v whole refl) } in
    let same : stop ≡ e = cc in
    subst (λ x. Stands text (place_of x)) (gap-stops cs 0 false at stop q ∙ same) w

-- where there is no token, the fault's place is that of a character or the end
pub fault-stands : (text : List ℕ) (at : ℕ) (e : LexStop) → Stands text at → next_token text at ≡ Err e → Stands text (place_of e)
fault-stands text at e v h =
    fault-by text at e v (gap 0 false at v.utf8.0) refl (ap (λ cs. after_gap text (gap 0 false at cs)) (sym (chars-stand text at v)) ∙ h)
