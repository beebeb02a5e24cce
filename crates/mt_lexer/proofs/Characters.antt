-- A step over one character of a text.
use Rattle.std.proofs.Common.{◌≡◌, ℕ, ◌+◌, ◌-◌, ◌≤◌, true, false, cond, List, [], ◌∷◌, ◌++◌, length, take, drop, not, ◌||◌, ◌==◌, sym, ap, ◌∙◌, arith, append-nil, append_assoc, length-take, length-drop, inl, inr, lit<}
use Rattle.std.specs.Prelude.{encode_utf8}
use Rattle.std.specs.Char.{len_utf8}
use Rattle.std.specs.Str.{chars, IsUtf8, IsCharBoundary}
use Rattle.std.proofs.lemmas.Str.{length-encode, IsUtf8-drop, chars_past_char, drop_past_char, IsCharBoundary-past_char, chars-nil}
use Rattle.std.proofs.lemmas.Bool.{and_parts, and_from, or_cases, eqb-true}
use Rattle.std.proofs.lemmas.List.{at_drop_all, drop-drop, take_at}
use Rattle.std.proofs.Math.Seq.{take-add}
use Rattle.unicode_ident.specs.Ident.{is_xid_start, is_xid_continue}
use Rattle.unicode_ident.proofs.IdentLemmas.{is_xid_start-is_xid_continue, is_xid_continue-ascii}
use Rattle.mt_lexer.specs.declared.words.Class.{Class}
use Rattle.mt_lexer.specs.declared.words.Class.TheVariants.{Continue}
use Rattle.mt_lexer.specs.Tokens.{chars_from, is_start, is_in, run}

pub chars_from-step : (text rest : List ℕ) (at c : ℕ) → IsUtf8 text → IsCharBoundary text at → drop at text ≡ encode_utf8 c ++ rest → chars_from text at ≡ c ∷ chars_from text (at + len_utf8 c)
chars_from-step text rest at c utf8 boundary e =
    chars_past_char (drop at text) rest c (IsUtf8-drop text at utf8 boundary) e ∙ ap (λ r. c ∷ chars r) (sym (drop_past_char text rest at c e))

pub IsCharBoundary-step : (text rest : List ℕ) (at c : ℕ) → IsUtf8 text → IsCharBoundary text at → drop at text ≡ encode_utf8 c ++ rest → IsCharBoundary text (at + len_utf8 c)
IsCharBoundary-step text rest at c utf8 boundary e =
    IsCharBoundary-past_char text rest at c boundary.0 (IsUtf8-drop text at utf8 boundary) e

pub chars_from-end : (text : List ℕ) (at : ℕ) → length text ≤ at → chars_from text at ≡ []
chars_from-end text at h = at_drop_all chars text at h ∙ chars-nil

pub drop-step : (text rest : List ℕ) (at c : ℕ) → drop at text ≡ encode_utf8 c ++ rest → drop at text ≡ encode_utf8 c ++ drop (at + len_utf8 c) text
drop-step text rest at c e = e ∙ ap (λ r. encode_utf8 c ++ r) (sym (drop_past_char text rest at c e))

-- a part of a text with one more character
pub take-step : (text rest : List ℕ) (from k c : ℕ) → drop (from + k) text ≡ encode_utf8 c ++ rest → take (k + len_utf8 c) (drop from text) ≡ take k (drop from text) ++ encode_utf8 c
take-step text rest from k c e =
    take-add k (len_utf8 c) (drop from text)
    ∙ ap (λ r. take k (drop from text) ++ take (len_utf8 c) r) (drop-drop k from text ∙ e)
    ∙ ap (λ r. take k (drop from text) ++ r) (take_at (encode_utf8 c) rest (len_utf8 c) (length-encode c))

pub run-step : (class : Class) (c : ℕ) (cs : List ℕ) → is_in class c ≡ true → run class (c ∷ cs) ≡ encode_utf8 c ++ run class cs
run-step class c cs e = ap (λ b. cond b (encode_utf8 c ++ run class cs) []) e

pub run-stop : (class : Class) (c : ℕ) (cs : List ℕ) → is_in class c ≡ false → run class (c ∷ cs) ≡ []
run-stop class c cs e = ap (λ b. cond b (encode_utf8 c ++ run class cs) []) e

-- a run goes on over one more character
pub run-moves : (text rest r : List ℕ) (class : Class) (from at c : ℕ) → from ≤ at → drop at text ≡ encode_utf8 c ++ rest
    → chars_from text at ≡ c ∷ chars_from text (at + len_utf8 c) → is_in class c ≡ true
    → r ≡ take (at - from) (drop from text) ++ run class (chars_from text at)
    → r ≡ take (at + len_utf8 c - from) (drop from text) ++ run class (chars_from text (at + len_utf8 c))
run-moves text rest r class from at c order bytes step passes same =
    let more : List ℕ = run class (chars_from text (at + len_utf8 c)) in
    let place : from + (at - from) ≡ at = omega arith in
    let longer : (at - from) + len_utf8 c ≡ at + len_utf8 c - from = omega arith in
    let front : take (at + len_utf8 c - from) (drop from text) ≡ take (at - from) (drop from text) ++ encode_utf8 c =
    ap (λ n. take n (drop from text)) (sym longer) ∙ take-step text rest from (at - from) c (ap (λ n. drop n text) place ∙ bytes) in
    same
    ∙ ap (λ r. take (at - from) (drop from text) ++ run class r) step
    ∙ ap (λ r. take (at - from) (drop from text) ++ r) (run-step class c (chars_from text (at + len_utf8 c)) passes)
    ∙ sym (append_assoc (take (at - from) (drop from text)) (encode_utf8 c) more)
    ∙ ap (λ r. r ++ more) (sym front)

-- a run that has reached its end
pub run-ends : (text r : List ℕ) (class : Class) (from at : ℕ) → from ≤ at → at ≤ length text
    → r ≡ take (at - from) (drop from text) ++ run class (chars_from text at) → run class (chars_from text at) ≡ []
    → (r ≡ take (at - from) (drop from text)) × (at ≡ from + length r)
run-ends text r class from at order within same stop =
    let bytes : r ≡ take (at - from) (drop from text) =
    same ∙ ap (λ r. take (at - from) (drop from text) ++ r) stop ∙ append-nil (take (at - from) (drop from text)) in
    (bytes, omega (arith, ap length bytes, length-take (at - from) (drop from text), length-drop from text))

-- what begins a name may stand within it
pub start-continues : (c : ℕ) → is_start c ≡ true → is_in Continue c ≡ true
start-continues c e =
    let parts = and_parts ((c == 95) || is_xid_start c) (not (c == 955)) e in
    let passes : is_xid_continue c ≡ true =
    elim (or_cases (c == 95) (is_xid_start c) parts.0) [
      | inl h ↦ ap is_xid_continue (eqb-true c 95 h) ∙ is_xid_continue-ascii 95 (lit< tt)
      | inr h ↦ is_xid_start-is_xid_continue c h
    ] in
    and_from (is_xid_continue c) (not (c == 955)) passes parts.1
