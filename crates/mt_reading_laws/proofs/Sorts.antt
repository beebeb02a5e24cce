-- Printed sorts are read as they were.
use Rattle.std.proofs.Common.{◌≡◌, ℕ, zero, suc, ◌-◌, ◌^◌, ◌<◌, ◌≤◌, true, false, cond, not, ◌&&◌, ◌==◌, List, [], ◌∷◌, ◌++◌, length, drop, Some, refl, sym, ap, ◌∙◌, arith, lit<, length-append, length-drop, append_assoc}
use Rattle.std.specs.Prelude.{max, slice_index}
use Rattle.std.specs.Str.{chars}
use Rattle.std.specs.Fmt.{decimal}
use Rattle.unicode_ident.proofs.Computing.{unicode_ident}
use Rattle.mt_lexer.specs.declared.gaps.Piece.TheVariants.{Other}
use Rattle.mt_lexer.specs.declared.TokenKind.TheVariants as kind
use Rattle.mt_lexer.specs.Tokens.{piece, is_continue, is_digit}
use Rattle.mt_term.specs.declared.universes.Atom.{Atom}
use Rattle.mt_term.specs.Reasons.{Syntax}
use Rattle.mt_term_parser.specs.declared.raw.Part.{Part}
use Rattle.mt_term_parser.specs.declared.raw.Part.TheVariants as part
use Rattle.mt_term_parser.specs.Readings.{Got, Stops, then_read, many, many_from, word_of, is_name, sign, number, sees_sign, sign_from}
use Rattle.mt_term_parser.specs.Grammar.{offset, part_by, part_at, parts, led, separated}
use Rattle.mt_printer.specs.TermText.{universe_name, offset_text, atom_text, atoms_text, universe_text}
use Rattle.mt_resolver.specs.Resolution.{Found, then_found, or_unbound, first_place, resolved_parts, with_number, with_name}
use Rattle.mt_reading_laws.specs.Names.{IsName}
use Rattle.mt_reading_laws.proofs.Bytes.{not-blank}
use Rattle.mt_reading_laws.proofs.Words.{head_of, head-byte, TokenAt, IsSignText, sign-at, name-at}
use Rattle.mt_reading_laws.proofs.Signs.{comma, shut, plus, bracket, number-at}
use Rattle.mt_reading_laws.proofs.Seen.{sign_with, needed-is, sees_sign-is, sign-read, name-is, number-read}
use Rattle.mt_reading_laws.proofs.Rows.{ReadTo, read-same, read-got, many-one, many-stops}

-- a sign that ends a part of a sort: `,` or `]`
pub record EndsPart (c : ℕ) : Type 0 where
  pub text : IsSignText c (c ∷ [])
  pub small : c < 128
  pub other : (d : ℕ) → piece zero c d ≡ Other
  pub no_plus : (sign_from c == 43) ≡ false
  pub no_continue : is_continue c ≡ false

at-comma : EndsPart 44
unfolding unicode_ident
at-comma = record { text = comma; small = lit< tt; other = λ d. refl; no_plus = refl; no_continue = refl }

at-shut : EndsPart 93
unfolding unicode_ident
at-shut = record { text = shut; small = lit< tt; other = λ d. refl; no_plus = refl; no_continue = refl }

-- the sign as a token
pub stop-token : (text rest : List ℕ) (at c : ℕ) → EndsPart c → drop at text ≡ c ∷ rest → TokenAt text at kind.Sign (c ∷ []) rest
stop-token text rest at c s e = sign-at text (c ∷ []) rest at c s.text (s.other (head_of rest)) e

pub stop-sign : (c : ℕ) → EndsPart c → sign_with kind.Sign (c ∷ []) ≡ sign_from c
stop-sign c s = ap (λ cs. sign_from (slice_index cs 0)) s.text.char

-- ---- parts

-- the name of an atom is a name of the grammar, and its offset a number of the grammar
pub record IsWrittenAtom (names : List (List ℕ)) (a : Atom) : Type 0 where
  pub name : IsName (universe_name names a.name)
  pub offset : a.offset < 2 ^ 32
  pub found : first_place names (universe_name names a.name) ≡ Some a.name

abbrev pub AreWritten : List (List ℕ) → List Atom → Type 0
AreWritten names [] = Unit {0}
AreWritten names (a ∷ rest) = IsWrittenAtom names a × AreWritten names rest

abbrev pub atom_part : List (List ℕ) → Atom → Part
atom_part names a = part.Name (universe_name names a.name) a.offset

abbrev pub atom_parts : List (List ℕ) → List Atom → List Part
atom_parts names [] = []
atom_parts names (a ∷ rest) = atom_part names a ∷ atom_parts names rest

abbrev pub universe_parts : List (List ℕ) → ℕ → List Atom → List Part
universe_parts names zero (a ∷ rest) = atom_part names a ∷ atom_parts names rest
universe_parts names n rest = part.Number n ∷ atom_parts names rest

plus-sign : sign_with kind.Sign (43 ∷ []) ≡ 43
unfolding chars
plus-sign = refl

plus-token : (text rest : List ℕ) (at : ℕ) → drop at text ≡ 43 ∷ rest → TokenAt text at kind.Sign (43 ∷ []) rest
plus-token text rest at e = sign-at text (43 ∷ []) rest at 43 plus refl e

offset-read : (text rest : List ℕ) (at k c : ℕ) → EndsPart c → k < 2 ^ 32 → drop at text ≡ offset_text k ++ c ∷ rest → ReadTo text (offset text at) k (c ∷ rest)
offset-read text rest at zero c s small e =
    let t = stop-token text rest at c s e in
    let none : sees_sign 43 text at ≡ false = sees_sign-is t 43 ∙ ap (λ x. x == 43) (stop-sign c s) ∙ s.no_plus in
    read-same (ap (λ b. cond b (then_read (sign 43 text at) (λ _ a. number text a)) (Got 0 at)) none) (read-got 0 at e)
offset-read text rest at (suc k) c s small e =
    let more : List ℕ = decimal (suc k) ++ c ∷ rest in
    let t = plus-token text more at e in
    let some : sees_sign 43 text at ≡ true = sees_sign-is t 43 ∙ ap (λ x. x == 43) plus-sign in
    let n = number-at text (c ∷ rest) t.token.end (suc k) (omega arith) (ap is_digit (head-byte c rest s.small) ∙ s.text.no_digit) t.after in
    read-same (ap (λ b. cond b (then_read (sign 43 text at) (λ _ a. number text a)) (Got 0 at)) some)
    (read-same (ap (λ r. then_read r (λ _ a. number text a)) (sign-read t 43 (ap (λ x. x == 43) plus-sign)) ∙ number-read n) (read-got (suc k) n.token.end n.after))

-- text that ends a name: an offset or a sign
ends-name : (k c : ℕ) (rest : List ℕ) → EndsPart c → is_continue (head_of (offset_text k ++ c ∷ rest)) ≡ false
unfolding unicode_ident
ends-name zero c rest s = ap is_continue (head-byte c rest s.small) ∙ s.no_continue
ends-name (suc k) c rest s = ap is_continue (head-byte 43 (decimal (suc k) ++ c ∷ rest) (lit< tt))

atom-read : (names : List (List ℕ)) (a : Atom) (text rest : List ℕ) (at c : ℕ) → EndsPart c → IsWrittenAtom names a → drop at text ≡ atom_text names a ++ c ∷ rest
    → ReadTo text (part_at text at) (atom_part names a) (c ∷ rest)
atom-read names a text rest at c s w e =
    let x : List ℕ = universe_name names a.name in
    let more : List ℕ = offset_text a.offset ++ c ∷ rest in
    let t = name-at text x more at w.name.word w.name.free (e ∙ append_assoc x (offset_text a.offset) (c ∷ rest)) (ends-name a.offset c rest s) in
    let o = offset-read text rest t.token.end a.offset c s w.offset t.after in
    let named : is_name text t.token ≡ true = name-is t ∙ ap (λ b. true && not b) (not-blank x w.name) in
    record {
      end = o.end;
      is =
          ap (λ r. then_read r (λ t _. part_by text t t.kind)) (needed-is t) ∙ ap (part_by text t.token) t.kind
          ∙ ap (λ b. cond b (then_read (offset text t.token.end) (λ k end. Got (part.Name (word_of text t.token) k) end)) (Stops Syntax t.token.start)) named
          ∙ ap (λ r. then_read r (λ k end. Got (part.Name (word_of text t.token) k) end)) o.is
          ∙ ap (λ w. Got (part.Name w a.offset) o.end) t.word;
      after = o.after;
    }

base-read : (text rest : List ℕ) (at n c : ℕ) → EndsPart c → n < 2 ^ 32 → drop at text ≡ decimal n ++ c ∷ rest → ReadTo text (part_at text at) (part.Number n) (c ∷ rest)
base-read text rest at n c s small e =
    let t = number-at text (c ∷ rest) at n (omega arith) (ap is_digit (head-byte c rest s.small) ∙ s.text.no_digit) e in
    record {
      end = t.token.end;
      is = ap (λ r. then_read r (λ t _. part_by text t t.kind)) (needed-is t) ∙ ap (part_by text t.token) t.kind;
      after = t.after;
    }

-- what follows a part: a further one or the end
abbrev ends_part : List Atom → ℕ
ends_part [] = 93
ends_part (a ∷ rest) = 44

abbrev after_part : List (List ℕ) → List Atom → List ℕ → List ℕ
after_part names [] rest = rest
after_part names (a ∷ more) rest = atom_text names a ++ (atoms_text names more ++ 93 ∷ rest)

after-part : (names : List (List ℕ)) (rest : List Atom) (post : List ℕ) → atoms_text names rest ++ 93 ∷ post ≡ ends_part rest ∷ after_part names rest post
after-part names [] post = refl
after-part names (a ∷ rest) post = ap (λ x. 44 ∷ x) (append_assoc (atom_text names a) (atoms_text names rest) (93 ∷ post))

at-end : (rest : List Atom) → EndsPart (ends_part rest)
at-end [] = at-shut
at-end (a ∷ rest) = at-comma

-- further parts, each after a comma
more-parts : (names : List (List ℕ)) (rest : List Atom) (text post : List ℕ) (at n : ℕ) → AreWritten names rest → length rest ≤ n
    → drop at text ≡ atoms_text names rest ++ 93 ∷ post → ReadTo text (many (sees_sign 44 text) (led 44 text (part_at text)) n at) (atom_parts names rest) (93 ∷ post)
more-parts names [] text post at n w h e =
    let t = stop-token text post at 93 at-shut e in
    let none : sees_sign 44 text at ≡ false = sees_sign-is t 44 ∙ ap (λ x. x == 44) (stop-sign 93 at-shut) in
    record { end = at; is = many-stops (sees_sign 44 text) (led 44 text (part_at text)) at n none; after = e }
more-parts names (a ∷ rest) text post at zero w h e = absurd (let z : suc (length rest) ≤ 0 = h in omega arith)
more-parts names (a ∷ rest) text post at (suc n) w h e =
    let t = stop-token text (after_part names (a ∷ rest) post) at 44 at-comma (e ∙ after-part names (a ∷ rest) post) in
    let sign44 : (sign_with kind.Sign (44 ∷ []) == 44) ≡ true = ap (λ x. x == 44) (stop-sign 44 at-comma) in
    let some : sees_sign 44 text at ≡ true = sees_sign-is t 44 ∙ sign44 in
    let p = atom-read names a text (after_part names rest post) t.token.end (ends_part rest) (at-end rest) w.0 (t.after ∙ ap (λ x. atom_text names a ++ x) (after-part names rest post)) in
    let m = more-parts names rest text post p.end n w.1 (omega arith) (p.after ∙ sym (after-part names rest post)) in
    let one : led 44 text (part_at text) at ≡ Got (atom_part names a) p.end = ap (λ r. then_read r (λ _ place. part_at text place)) (sign-read t 44 sign44) ∙ p.is in
    record {
      end = m.end;
      is =
          many-one (sees_sign 44 text) (led 44 text (part_at text)) at p.end n (atom_part names a) some one
          ∙ ap (λ r. then_read r (λ more last. Got (atom_part names a ∷ more) last)) m.is;
      after = m.after;
    }

atoms-long : (names : List (List ℕ)) (rest : List Atom) → length rest ≤ length (atoms_text names rest)
atoms-long names [] = omega arith
atoms-long names (a ∷ rest) =
    let h = atoms-long names rest in
    let e : length (atoms_text names (a ∷ rest)) ≡ suc (length (atom_text names a ++ atoms_text names rest)) = refl in
    omega (arith, e, length-append (atom_text names a) (atoms_text names rest))

-- the parts after the first
rest-read : (names : List (List ℕ)) (rest : List Atom) (text post : List ℕ) (at : ℕ) (p : Part) → AreWritten names rest → ReadTo text (part_at text at) p (ends_part rest ∷ after_part names rest post)
    → ReadTo text (separated 44 text (part_at text) at) (p ∷ atom_parts names rest) (93 ∷ post)
rest-read names rest text post at p w r =
    let there : drop r.end text ≡ atoms_text names rest ++ 93 ∷ post = r.after ∙ sym (after-part names rest post) in
    let room : length rest ≤ length text - r.end = omega (arith, length-drop r.end text, ap length there, atoms-long names rest, length-append (atoms_text names rest) (93 ∷ post)) in
    let m = more-parts names rest text post r.end (length text - r.end) w room there in
    record {
      end = m.end;
      is =
          ap (λ q. then_read q (λ a end. then_read (many_from text (sees_sign 44 text) (led 44 text (part_at text)) end) (λ more last. Got (a ∷ more) last))) r.is
          ∙ ap (λ q. then_read q (λ more last. Got (p ∷ more) last)) m.is;
      after = m.after;
    }

universe-read : (names : List (List ℕ)) (n : ℕ) (rest : List Atom) (text post : List ℕ) (at : ℕ) → n < 2 ^ 32 → AreWritten names rest
    → drop at text ≡ universe_text names n rest ++ 93 ∷ post → ReadTo text (separated 44 text (part_at text) at) (universe_parts names n rest) (93 ∷ post)
universe-read names zero [] text post at h w e =
    rest-read names [] text post at (part.Number 0) tt (base-read text post at 0 93 at-shut h (e ∙ append_assoc (decimal 0) [] (93 ∷ post)))
universe-read names zero (a ∷ rest) text post at h w e =
    rest-read names rest text post at (atom_part names a) w.1
    (atom-read names a text (after_part names rest post) at (ends_part rest) (at-end rest) w.0
    (e ∙ append_assoc (atom_text names a) (atoms_text names rest) (93 ∷ post) ∙ ap (λ x. atom_text names a ++ x) (after-part names rest post)))
universe-read names (suc n) rest text post at h w e =
    rest-read names rest text post at (part.Number (suc n)) w
    (base-read text (after_part names rest post) at (suc n) (ends_part rest) (at-end rest) h
    (e ∙ append_assoc (decimal (suc n)) (atoms_text names rest) (93 ∷ post) ∙ ap (λ x. decimal (suc n) ++ x) (after-part names rest post)))

bracket-other : (d : ℕ) → piece zero 91 d ≡ Other
bracket-other d = refl

bracket-sign : (sign_with kind.Sign (91 ∷ []) == 91) ≡ true
unfolding chars
bracket-sign = refl

-- what stands after the word `Type`
pub parts-read : (names : List (List ℕ)) (n : ℕ) (rest : List Atom) (text post : List ℕ) (at : ℕ) → n < 2 ^ 32 → AreWritten names rest
    → drop at text ≡ 91 ∷ (universe_text names n rest ++ 93 ∷ post) → ReadTo text (parts text at) (universe_parts names n rest) post
parts-read names n rest text post at h w e =
    let more : List ℕ = universe_text names n rest ++ 93 ∷ post in
    let t = sign-at text (91 ∷ []) more at 91 bracket (bracket-other (head_of more)) e in
    let u = universe-read names n rest text post t.token.end h w t.after in
    let s = stop-token text post u.end 93 at-shut u.after in
    record {
      end = s.token.end;
      is =
          ap (λ q. then_read q (λ _ a. then_read (separated 44 text (part_at text) a) (λ ps b. then_read (sign 93 text b) (λ _ end. Got ps end)))) (sign-read t 91 bracket-sign)
          ∙ ap (λ q. then_read q (λ ps b. then_read (sign 93 text b) (λ _ end. Got ps end))) u.is
          ∙ ap (λ q. then_read q (λ _ end. Got (universe_parts names n rest) end)) (sign-read s 93 (ap (λ x. x == 93) (stop-sign 93 at-shut)));
      after = s.after;
    }

-- ---- what the parts stand for

atoms-found : (names : List (List ℕ)) (at : ℕ) (rest : List Atom) → AreWritten names rest → resolved_parts names at (atom_parts names rest) ≡ Found (record { base = 0; atoms = rest })
atoms-found names at [] w = refl
atoms-found names at (a ∷ rest) w =
    ap (λ o. then_found (or_unbound (universe_name names a.name) at o) (λ n. then_found (resolved_parts names at (atom_parts names rest)) (λ u. Found (with_name n a.offset u)))) w.0.found
    ∙ ap (λ r. then_found r (λ u. Found (with_name a.name a.offset u))) (atoms-found names at rest w.1)

number-found : (names : List (List ℕ)) (at n : ℕ) (rest : List Atom) → AreWritten names rest → resolved_parts names at (part.Number n ∷ atom_parts names rest) ≡ Found (record { base = n; atoms = rest })
number-found names at n rest w =
    ap (λ r. then_found r (λ u. Found (with_number n u))) (atoms-found names at rest w)
    ∙ ap (λ k. Found (record { base = k; atoms = rest })) (let z : max n 0 ≡ n = omega arith in z)

pub universe-found : (names : List (List ℕ)) (at n : ℕ) (rest : List Atom) → AreWritten names rest → resolved_parts names at (universe_parts names n rest) ≡ Found (record { base = n; atoms = rest })
universe-found names at zero [] w = number-found names at 0 [] w
universe-found names at zero (a ∷ rest) w = atoms-found names at (a ∷ rest) w
universe-found names at (suc n) rest w = number-found names at (suc n) rest w
