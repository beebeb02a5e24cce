-- A token that begins before the end of a closing sign is the same in each text that begins with the bytes up to there.
use Rattle.std.proofs.Common.{◌≡◌, ◌≢◌, ℕ, ◌+◌, ◌-◌, ◌<◌, ◌≤◌, true, false, ◌||◌, ◌==◌, List, [], ◌∷◌, ◌++◌, length, take, drop, get_or, Ok, refl, sym, ap, ◌∙◌, subst, arith, inl, inr, lit<, length-drop, length-take}
use Rattle.std.specs.Prelude.{slice_index, IsTrue}
use Rattle.std.specs.Str.{chars, IsUtf8, IsCharBoundary}
use lib.Utf8.{encode}
use Rattle.std.proofs.lemmas.Bool.{or_cases, eqb-true}
use Rattle.std.proofs.lemmas.List.{drop-drop, drop-take, take-take, take-append-drop, drop_more, get_or-take, get_or-drop, length-take-le}
use Rattle.std.proofs.lemmas.Str.{encode_ascii, len_utf8_ascii, chars-append, chars_past_char, encodes-chars, IsUtf8-take, IsUtf8-drop, IsCharBoundary-before_ascii}
use Rattle.unicode_ident.proofs.Computing.{unicode_ident}
use Rattle.mt_lexer.specs.declared.Token.{Token}
use Rattle.mt_lexer.specs.Shared.{is_closing}
use Rattle.mt_lexer.specs.Tokens.{gap, token_at, chars_from, after_gap, next_token}
use Rattle.mt_lexer.proofs.Shared_tokens.{width, IsMark, gap-shared, token_at-shared}
use Rattle.mt_unit_laws.proofs.Tokens.{length-encodes, width-append, Stands, Cut, token-cut, Next, next-stands}

-- ---- closing signs

pub record Closes (z : ℕ) : Type 0 where
  pub small : z < 128
  pub mark : IsMark z
  pub not_open : z ≢ 40

dot : Closes 46
unfolding unicode_ident
dot = record { small = lit< tt; mark = record { no_start = refl; no_continue = refl; no_digit = refl; no_arrow = λ d e s. refl }; not_open = λ e. omega arith }

semicolon : Closes 59
unfolding unicode_ident
semicolon = record { small = lit< tt; mark = record { no_start = refl; no_continue = refl; no_digit = refl; no_arrow = λ d e s. refl }; not_open = λ e. omega arith }

bracket : Closes 91
unfolding unicode_ident
bracket = record { small = lit< tt; mark = record { no_start = refl; no_continue = refl; no_digit = refl; no_arrow = λ d e s. refl }; not_open = λ e. omega arith }

bar : Closes 124
unfolding unicode_ident
bar = record { small = lit< tt; mark = record { no_start = refl; no_continue = refl; no_digit = refl; no_arrow = λ d e s. refl }; not_open = λ e. omega arith }

close : Closes 93
unfolding unicode_ident
close = record { small = lit< tt; mark = record { no_start = refl; no_continue = refl; no_digit = refl; no_arrow = λ d e s. refl }; not_open = λ e. omega arith }

brace : Closes 125
unfolding unicode_ident
brace = record { small = lit< tt; mark = record { no_start = refl; no_continue = refl; no_digit = refl; no_arrow = λ d e s. refl }; not_open = λ e. omega arith }

colon : Closes 58
unfolding unicode_ident
colon = record { small = lit< tt; mark = record { no_start = refl; no_continue = refl; no_digit = refl; no_arrow = λ d e s. refl }; not_open = λ e. omega arith }

is-one : (z c : ℕ) → Closes c → (z == c) ≡ true → Closes z
is-one z c h e = subst Closes (sym (eqb-true z c e)) h

pub closes : (z : ℕ) → IsTrue (is_closing z) → Closes z
closes z h =
    elim (or_cases ((z == 46) || (z == 59) || (z == 91) || (z == 124) || (z == 93) || (z == 125)) (z == 58) h) [
      | inr e ↦ is-one z 58 colon e
      | inl h ↦
          elim (or_cases ((z == 46) || (z == 59) || (z == 91) || (z == 124) || (z == 93)) (z == 125) h) [
            | inr e ↦ is-one z 125 brace e
            | inl h ↦
                elim (or_cases ((z == 46) || (z == 59) || (z == 91) || (z == 124)) (z == 93) h) [
                  | inr e ↦ is-one z 93 close e
                  | inl h ↦
                      elim (or_cases ((z == 46) || (z == 59) || (z == 91)) (z == 124) h) [
                        | inr e ↦ is-one z 124 bar e
                        | inl h ↦
                            elim (or_cases ((z == 46) || (z == 59)) (z == 91) h) [
                              | inr e ↦ is-one z 91 bracket e
                              | inl h ↦
                                  elim (or_cases (z == 46) (z == 59) h) [
                                    | inr e ↦ is-one z 59 semicolon e
                                    | inl h ↦
                                        is-one z 46 dot h
                                  ]
                            ]
                      ]
                ]
          ]
    ]

-- ---- two texts

-- two texts that begin with the same n bytes
pub record Front : Type 0 where
  pub first : List ℕ
  pub second : List ℕ
  pub n : ℕ
  pub shared : take n first ≡ take n second
  pub second_is_text : IsUtf8 second

-- the last of these bytes is a closing sign
pub record Closed (text : List ℕ) (n : ℕ) : Type 0 where
  pub some : 0 < n
  pub within : n ≤ length text
  pub sign : IsTrue (is_closing (slice_index text (n - 1)))

pub shared-take : (f : Front) (s k : ℕ) → s + k ≤ f.n → take k (drop s f.first) ≡ take k (drop s f.second)
shared-take f s k h =
    sym (drop-take s k f.first)
    ∙ ap (drop s) (sym (take-take (s + k) f.n f.first h) ∙ ap (take (s + k)) f.shared ∙ take-take (s + k) f.n f.second h)
    ∙ drop-take s k f.second

shared-byte : (f : Front) (i : ℕ) → i < f.n → get_or f.first i 0 ≡ get_or f.second i 0
shared-byte f i h = sym (get_or-take f.n f.first i 0 h) ∙ ap (λ xs. get_or xs i 0) f.shared ∙ get_or-take f.n f.second i 0 h

pub shared-length : (f : Front) → f.n ≤ length f.first → f.n ≤ length f.second
shared-length f h =
    let e : length (take f.n f.first) ≡ length (take f.n f.second) = ap length f.shared in
    omega (arith, e, length-take f.n f.first, length-take f.n f.second)

-- the characters of a text up to an ASCII character and after it
split-chars : (D : List ℕ) (k z : ℕ) → IsUtf8 (take k D) → IsUtf8 (drop k D) → k < length D → get_or D k 0 ≡ z → z < 128
    → chars D ≡ chars (take k D) ++ z ∷ chars (drop (k + 1) D)
split-chars D k z u v lt e small =
    let rest : drop k D ≡ encode z ++ drop (k + 1) D =
    drop_more D k 0 lt ∙ ap (λ b. b ∷ drop (k + 1) D) e ∙ ap (λ (w : List ℕ). w ++ drop (k + 1) D) (sym (encode_ascii z small)) in
    ap chars (sym (take-append-drop k D)) ∙ chars-append (take k D) (drop k D) u
    ∙ ap (λ r. chars (take k D) ++ r) (chars_past_char (drop k D) (drop (k + 1) D) z v rest)

-- the characters of the two texts from a place on
pub record Inside (f : Front) (at : ℕ) : Type 0 where
  pub front : List ℕ
  pub last : ℕ
  pub rest_of_first : List ℕ
  pub rest_of_second : List ℕ
  pub first : chars_from f.first at ≡ front ++ last ∷ rest_of_first
  pub second : chars_from f.second at ≡ front ++ last ∷ rest_of_second
  pub place : at + width front + 1 ≡ f.n
  pub closing : IsTrue (is_closing last)

pub inside : (f : Front) (at : ℕ) → Closed f.first f.n → Stands f.first at → at < f.n → Inside f at
inside f at c v near =
    let z : ℕ = slice_index f.first (f.n - 1) in
    let k : ℕ = f.n - 1 - at in
    let some : 0 < f.n = c.some in
    let within : f.n ≤ length f.first = c.within in
    let also : f.n ≤ length f.second = shared-length f c.within in
    let small : z < 128 = (closes z c.sign).small in
    let sum : at + k ≡ f.n - 1 = omega arith in
    let D : List ℕ = drop at f.first in
    let E : List ℕ = drop at f.second in
    let lD : k < length D = omega (arith, length-drop at f.first) in
    let lE : k < length E = omega (arith, length-drop at f.second) in
    let byte : get_or D k 0 ≡ z = get_or-drop at f.first k 0 ∙ ap (λ i. get_or f.first i 0) sum in
    let other : get_or f.second (at + k) 0 ≡ z = ap (λ i. get_or f.second i 0) sum ∙ sym (shared-byte f (f.n - 1) (omega arith)) in
    let same : take k D ≡ take k E = shared-take f at k (omega arith) in
    let bound : IsCharBoundary D k = IsCharBoundary-before_ascii D k lD (omega arith) in
    let front : IsUtf8 (take k D) = IsUtf8-take D k v.utf8 bound in
    let later : IsUtf8 (drop k E) =
    subst IsUtf8 (sym (drop-drop k at f.second)) (IsUtf8-drop f.second (at + k) f.second_is_text (IsCharBoundary-before_ascii f.second (at + k) (omega arith) (omega arith))) in
    let long : width (chars (take k D)) ≡ k = sym (length-encodes (chars (take k D))) ∙ ap length (encodes-chars (take k D) front) ∙ length-take-le k D (omega arith) in
    record {
      front = chars (take k D);
      last = z;
      rest_of_first = chars (drop (k + 1) D);
      rest_of_second = chars (drop (k + 1) E);
      first = split-chars D k z front (IsUtf8-drop D k v.utf8 bound) lD byte small;
      second = split-chars E k z (subst IsUtf8 same front) later lE (get_or-drop at f.second k 0 ∙ other) small ∙ ap (λ xs. chars xs ++ z ∷ chars (drop (k + 1) E)) (sym same);
      place = omega arith;
      closing = c.sign;
    }

-- ---- tokens

-- the text of a token, and the character that it begins with, are the same in both texts
pub record SameToken (f : Front) (t : Token) : Type 0 where
  pub begins : Stands f.first t.start
  pub word : take (t.end - t.start) (drop t.start f.first) ≡ take (t.end - t.start) (drop t.start f.second)
  pub head : slice_index (chars_from f.first t.start) 0 ≡ slice_index (chars_from f.second t.start) 0

-- in two texts that are one text
pub one-text : (f : Front) (t : Token) → f.first ≡ f.second → Stands f.first t.start → SameToken f t
one-text f t e v = record {
  begins = v;
  word = ap (λ (x : List ℕ). take (t.end - t.start) (drop t.start x)) e;
  head = ap (λ x. slice_index (chars_from x t.start) 0) e;
}

head-same : (ds : List ℕ) (z : ℕ) (xs ys : List ℕ) → slice_index (ds ++ z ∷ xs) 0 ≡ slice_index (ds ++ z ∷ ys) 0
head-same [] z xs ys = refl
head-same (d ∷ ds) z xs ys = refl

-- a token that begins before the end of the closing sign ends there at the latest
token-within : (f : Front) (s : ℕ) (t : Token) (i : Inside f s) → t.start ≡ s → token_at s (chars_from f.first s) ≡ Ok t → t.end ≤ f.n
token-within f s t i start h =
    let z : ℕ = i.last in
    let cut : token_at s (i.front ++ z ∷ []) ≡ Ok t = sym (token_at-shared i.front s z i.rest_of_first [] (closes z i.closing).mark) ∙ ap (token_at s) (sym i.first) ∙ h in
    let k : Cut s (i.front ++ z ∷ []) t = token-cut s (i.front ++ z ∷ []) t cut in
    let end : t.end ≡ s + width k.front = k.end in
    let place : s + width i.front + 1 ≡ f.n = i.place in
    let one : width (z ∷ []) ≡ 1 = let w = len_utf8_ascii z (closes z i.closing).small in omega arith in
    let whole : width i.front + width (z ∷ []) ≡ width k.front + width k.rest = sym (width-append i.front (z ∷ [])) ∙ ap width k.whole ∙ width-append k.front k.rest in
    omega arith

pub record Again (f : Front) (at : ℕ) (t : Token) : Type 0 where
  pub same : next_token f.second at ≡ Ok t
  pub token : SameToken f t
  pub within : t.end ≤ f.n

pub again : (f : Front) (at : ℕ) (t : Token) → Closed f.first f.n → Stands f.first at → next_token f.first at ≡ Ok t → t.start < f.n → Again f at t
again f at t c v e near =
    let n : Next f.first at t = next-stands f.first at t v e in
    let after : at ≤ t.start = n.after in
    let order : t.start ≤ t.end = n.order in
    let i : Inside f at = inside f at c v (omega arith) in
    let j : Inside f t.start = inside f t.start c n.begins near in
    let z : Closes i.last = closes i.last i.closing in
    let one = len_utf8_ascii i.last z.small in
    let place : at + width i.front + 1 ≡ f.n = i.place in
    let gap_first : gap 0 false at (i.front ++ i.last ∷ i.rest_of_first) ≡ Ok t.start = ap (gap 0 false at) (sym i.first) ∙ n.gap_ends in
    let gap_second : gap 0 false at (chars_from f.second at) ≡ Ok t.start =
    ap (gap 0 false at) i.second ∙ gap-shared i.front 0 false at t.start i.last i.rest_of_first i.rest_of_second z.not_open (omega arith) gap_first in
    let token_second : token_at t.start (chars_from f.second t.start) ≡ Ok t =
    ap (token_at t.start) j.second
    ∙ sym (token_at-shared j.front t.start j.last j.rest_of_first j.rest_of_second (closes j.last j.closing).mark)
    ∙ ap (token_at t.start) (sym j.first) ∙ n.token_is in
    let within : t.end ≤ f.n = token-within f t.start t j refl n.token_is in
    record {
      same = ap (after_gap f.second) gap_second ∙ token_second;
      token = record {
        begins = n.begins;
        word = shared-take f t.start (t.end - t.start) (omega arith);
        head = ap (λ cs. slice_index cs 0) j.first ∙ head-same j.front j.last j.rest_of_first j.rest_of_second ∙ ap (λ cs. slice_index cs 0) (sym j.second);
      };
      within = within;
    }
