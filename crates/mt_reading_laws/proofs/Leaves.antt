-- Names and sorts are read as the terms that they are.
use Rattle.std.proofs.Common.{◌≡◌, ℕ, ◌^◌, ◌<◌, ◌≤◌, true, false, cond, not, ◌&&◌, ◌||◌, List, [], ◌∷◌, ◌++◌, drop, Option, Some, None, refl, ap, ◌∙◌, arith, lit<, eq-eqb}
use Rattle.std.specs.Prelude.{codes, slice_get, nat_lt, unwrap_or}
use Rattle.std.specs.List.{list_all}
use Rattle.std.proofs.lemmas.Bool.{and_parts, and_from}
use Rattle.std.proofs.lemmas.Bool.Decides.{nat_tests}
use Rattle.unicode_ident.proofs.Computing.{unicode_ident}
use Rattle.mt_lexer.specs.declared.TokenKind.TheVariants as kind
use Rattle.mt_lexer.specs.Tokens.{is_continue}
use Rattle.mt_term.specs.Trees.{Tree, Bytes, Var, Sort, Const}
use Rattle.mt_term.specs.Declarations.{Environment}
use Rattle.mt_term.specs.Naming.{named}
use Rattle.mt_term.specs.Alike.{alike, same_atoms, same_universe}
use Rattle.mt_term.specs.UniverseForms.{normal_form, fits, fits_atom}
use Rattle.mt_term.proofs.UniverseNormalLaws.{normal_form_kept}
use Rattle.mt_term.specs.declared.universes.Atom.{Atom}
use Rattle.mt_term.specs.declared.universes.UnivExpr.{UnivExpr}
use Rattle.mt_term.specs.declared.universes.Sort.TheVariants.{Prop, Typ}
use Rattle.mt_term_parser.specs.declared.terms.Lead.TheVariants as lead
use Rattle.mt_term_parser.specs.declared.raw.RawSort.TheVariants as raw_sort
use Rattle.mt_term_parser.specs.Written as raw
use Rattle.mt_term_parser.specs.Written.{Written, Term}
use Rattle.mt_term_parser.specs.Readings.{Reading, Got, then_read}
use Rattle.mt_printer.specs.Chosen.{Scope, shown_names, is_one_of, entry_name, name_of_entry}
use Rattle.mt_printer.specs.TermText.{term_text, universe_text, variable_text}
use Rattle.mt_resolver.specs.Resolution.{Found, then_found, first_place, variable_or, meant, or_unbound}
use Rattle.mt_reading_laws.specs.Names.{IsName}
use Rattle.mt_reading_laws.specs.ReadingBack.{AreApart, IsConstant, IsNormalSort, AreUniverseNames, AreSortNames}
use Rattle.mt_reading_laws.proofs.Bytes.{not-blank, bytes-same}
use Rattle.mt_reading_laws.proofs.Words.{head_of, head-byte, name-at, reserved-at}
use Rattle.mt_reading_laws.proofs.Seen.{sign_with, lead_with, needed-is, seen-is, lead-is}
use Rattle.mt_reading_laws.proofs.Sorts.{AreWritten, universe_parts, parts-read, universe-found}
use Rattle.mt_reading_laws.proofs.Scopes.{names_of, place-none}
use Rattle.mt_reading_laws.proofs.Parts.{name-long, Within}
use Rattle.mt_reading_laws.proofs.Heads.{self, prop-word, type-word, sort-flat}
use Rattle.mt_reading_laws.proofs.Atoms.{AtomRead}

-- ---- names

name-lead : (x : Bytes) → IsName x → lead_with kind.Name x (sign_with kind.Name x) ≡ lead.Name
name-lead x n = ap (λ b. cond (true && not b) lead.Name (lead_with kind.End x 0)) (not-blank x n)

name-atom : {E : Environment} {Γ : List Bytes} {inner : ℕ → Reading Written} (text x rest : List ℕ) (at : ℕ) (t : Tree) → IsName x → is_continue (head_of rest) ≡ false
    → drop at text ≡ x ++ rest → meant E Γ x ≡ Some t → alike t t ≡ true → AtomRead E Γ t inner text at rest
name-atom text x rest at t n ends e found same =
    let k = name-at text x rest at n.word n.free e ends in
    record {
      first = record { token = k.token; needed_is = needed-is k; seen_is = seen-is k; lead = lead.Name; lead_is = lead-is k ∙ name-lead x n; begins = refl };
      written = Term k.token.start (raw.Name x);
      read = record { end = k.token.end; is = ap (λ w. Got (Term k.token.start (raw.Name w)) k.token.end) k.word; after = k.after };
      stands = record { term = t; found = ap (or_unbound x k.token.start) found; same = same };
    }

pub variable-atom : {E : Environment} {inner : ℕ → Reading Written} (s : Scope) (text rest : List ℕ) (at i : ℕ) → Within E s (Var i) → is_continue (head_of rest) ≡ false
    → drop at text ≡ term_text E s (Var i) ++ rest → AtomRead E (names_of s) (Var i) inner text at rest
variable-atom {E} s text rest at i w ends e =
    let v = w.named i (self i) in
    name-atom text v.name rest at (Var i) v.good ends (e ∙ ap (λ o. variable_text o ++ rest) v.there) (ap (λ p. variable_or p (named E.entries v.name)) v.found) (eq-eqb i i refl)

pub constant-atom : {E : Environment} {inner : ℕ → Reading Written} (s : Scope) (text rest : List ℕ) (at c : ℕ) → AreApart E → IsConstant E.entries c → IsName (entry_name E.entries c) → Within E s (Const c)
    → is_continue (head_of rest) ≡ false → drop at text ≡ term_text E s (Const c) ++ rest → AtomRead E (names_of s) (Const c) inner text at rest
constant-atom {E} s text rest at c apart k n w ends e =
    let x : Bytes = entry_name E.entries c in
    let other : is_one_of (shown_names s) x ≡ false = w.hidden x (ap (λ b. b || false) (bytes-same x)) in
    let named_is : named E.entries x ≡ Some (Const c) = ap (λ o. named E.entries (name_of_entry o)) k.1 ∙ apart.entries c k.0 k.1 ∙ ap Some k.2 in
    name-atom text x rest at (Const c) n ends e (ap (λ p. variable_or p (named E.entries x)) (place-none s x n other) ∙ named_is) (eq-eqb c c refl)

-- ---- sorts

same-atoms : (xs : List Atom) → same_atoms xs xs ≡ true
same-atoms [] = refl
same-atoms (a ∷ xs) = and_from _ _ (and_from _ _ (eq-eqb a.name a.name refl) (eq-eqb a.offset a.offset refl)) (same-atoms xs)

same-universe : (u : UnivExpr) → same_universe u u ≡ true
same-universe u = and_from _ _ (eq-eqb u.base u.base refl) (same-atoms u.atoms)

found-by : (names : List Bytes) (n : ℕ) (o : Option Bytes) → slice_get names n ≡ o → ((x : Bytes) → slice_get names n ≡ Some x → first_place names x ≡ Some n)
    → IsName (unwrap_or o []) → first_place names (unwrap_or o []) ≡ Some n
found-by names n None e apart name = absurd (let z : 1 ≤ 0 = name-long [] name in omega arith)
found-by names n (Some x) e apart name = apart x e

written-from : (names : List Bytes) (atoms : List Atom) → ((n : ℕ) (x : Bytes) → slice_get names n ≡ Some x → first_place names x ≡ Some n) → AreUniverseNames names atoms
    → list_all fits_atom atoms ≡ true → AreWritten names atoms
written-from names [] apart n f = tt
written-from names (a ∷ rest) apart n f =
    let parts = and_parts (fits_atom a) (list_all fits_atom rest) f in
    (record { name = n.0; offset = grind (arith, nat_tests); found = found-by names a.name (slice_get names a.name) refl (apart a.name) n.0 }, written-from names rest apart n.1 parts.1)

base-fits : (u : UnivExpr) → fits u ≡ true → u.base < 2 ^ 32
base-fits u e = let p = and_parts (nat_lt u.base (2 ^ 32)) (list_all fits_atom u.atoms) e in grind (arith, nat_tests)

prop-lead : lead_with kind.Reserved (codes "Prop") (sign_with kind.Reserved (codes "Prop")) ≡ lead.Prop
prop-lead = refl

type-lead : lead_with kind.Reserved (codes "Type") (sign_with kind.Reserved (codes "Type")) ≡ lead.Type
type-lead = refl

pub prop-atom : {E : Environment} {Γ : List Bytes} {inner : ℕ → Reading Written} (text rest : List ℕ) (at : ℕ) → is_continue (head_of rest) ≡ false
    → drop at text ≡ codes "Prop" ++ rest → AtomRead E Γ (Sort Prop) inner text at rest
prop-atom text rest at ends e =
    let k = reserved-at text (codes "Prop") rest at prop-word refl e ends in
    record {
      first = record { token = k.token; needed_is = needed-is k; seen_is = seen-is k; lead = lead.Prop; lead_is = lead-is k ∙ prop-lead; begins = refl };
      written = Term k.token.start (raw.Sort raw_sort.Prop);
      read = record { end = k.token.end; is = refl; after = k.after };
      stands = record { term = Sort Prop; found = refl; same = refl };
    }

ends-type : (rest : List ℕ) → is_continue (head_of (91 ∷ rest)) ≡ false
unfolding unicode_ident
ends-type rest = ap is_continue (head-byte 91 rest (lit< tt))

pub type-atom : {E : Environment} {Γ : List Bytes} {inner : ℕ → Reading Written} (text rest : List ℕ) (at : ℕ) (u : UnivExpr) → AreApart E → IsNormalSort (Typ u) → AreSortNames E.names (Typ u)
    → drop at text ≡ term_text E [] (Sort (Typ u)) ++ rest → AtomRead E Γ (Sort (Typ u)) inner text at rest
type-atom {E} text rest at u apart normal names e =
    let x : List ℕ = universe_text E.names u.base u.atoms in
    let w : AreWritten E.names u.atoms = written-from E.names u.atoms apart.universes names (and_parts (nat_lt u.base (2 ^ 32)) (list_all fits_atom u.atoms) normal.1).1 in
    let k = reserved-at text (codes "Type") (91 ∷ (x ++ 93 ∷ rest)) at type-word refl (e ∙ sort-flat x rest) (ends-type (x ++ 93 ∷ rest)) in
    let p = parts-read E.names u.base u.atoms text rest k.token.end (base-fits u normal.1) w k.after in
    let ps = universe_parts E.names u.base u.atoms in
    record {
      first = record { token = k.token; needed_is = needed-is k; seen_is = seen-is k; lead = lead.Type; lead_is = lead-is k ∙ type-lead; begins = refl };
      written = Term k.token.start (raw.Sort (raw_sort.Typ ps));
      read = record { end = p.end; is = ap (λ q. then_read q (λ ps end. Got (Term k.token.start (raw.Sort (raw_sort.Typ ps))) end)) p.is; after = p.after };
      stands = record {
        term = Sort (Typ u);
        found =
            ap (λ r. then_found r (λ u. Found (Sort (Typ (normal_form u))))) (universe-found E.names k.token.start u.base u.atoms w)
            ∙ ap (λ v. Found (Sort (Typ v))) (normal_form_kept u normal.0);
        same = same-universe u;
      };
    }
