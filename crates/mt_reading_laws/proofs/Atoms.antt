-- What is read where a printed term stands: atoms, atoms on arguments, and whole terms.
use Rattle.std.proofs.Common.{◌≡◌, ℕ, zero, suc, ◌+◌, ◌≤◌, true, false, cond, ◌==◌, List, [], ◌∷◌, ◌++◌, length, drop, Some, refl, ap, ◌∙◌, lit<}
use Rattle.std.specs.Prelude.{codes}
use Rattle.std.specs.Str.{chars}
use Rattle.std.proofs.lemmas.Bool.{and_from}
use Rattle.unicode_ident.proofs.Computing.{unicode_ident}
use Rattle.mt_lexer.specs.declared.Token.{Token}
use Rattle.mt_lexer.specs.declared.TokenKind.TheVariants as kind
use Rattle.mt_lexer.specs.declared.gaps.Piece.TheVariants.{Opening, Other}
use Rattle.mt_lexer.specs.Tokens.{piece, is_continue, next_token}
use Rattle.mt_term.specs.Trees.{Tree, Bytes, App}
use Rattle.mt_term.specs.Declarations.{Environment}
use Rattle.mt_term.specs.Alike.{alike}
use Rattle.mt_term_parser.specs.declared.terms.Lead.{Lead}
use Rattle.mt_term_parser.specs.declared.terms.Lead.TheVariants as lead
use Rattle.mt_term_parser.specs.Written as raw
use Rattle.mt_term_parser.specs.Written.{Written, Term, Arguments, NoArgument, Argument, Absent}
use Rattle.mt_term_parser.specs.Readings.{Reading, Got, then_read, many_from, needed, needed_from, seen, seen_from, sees_by, sign, sees_sign}
use Rattle.mt_term_parser.specs.Grammar.{lead_of, begins_atom, begins_argument, sees_argument, atom_by, argument_by, argument, arguments, applied, app, arrow, term_by, term, domain, cast}
use Rattle.mt_resolver.specs.Resolution.{Resolution, Found, Faults, then_found, resolved, resolved_on}
use Rattle.mt_reading_laws.proofs.Words.{head_of, head-byte, TokenAt, sign-at, after-blank, past-blank, drop-past}
use Rattle.mt_reading_laws.proofs.Signs.{opening, close, dot}
use Rattle.mt_reading_laws.proofs.Seen.{sign_with, lead_with, needed-is, seen-is, lead-is, sees_argument-is, sees_sign-is, sign-read}
use Rattle.mt_reading_laws.proofs.Rows.{ReadTo, Row, row-none, row-more, row-read}

-- ---- what begins an atom

argument-begins : (l : Lead) → begins_atom l ≡ true → begins_argument l ≡ true
argument-begins lead.Vector e = absurd (cc)
argument-begins lead.Name e = e
argument-begins lead.Hole e = e
argument-begins lead.Prop e = e
argument-begins lead.Type e = e
argument-begins lead.Open e = e
argument-begins lead.Match e = e
argument-begins lead.Lambda e = e
argument-begins lead.Forall e = e
argument-begins lead.Other e = e

argument-is : (l : Lead) (inner : ℕ → Reading Written) (text : List ℕ) (t : Token) → begins_atom l ≡ true → argument_by l inner text t ≡ atom_by l inner text t
argument-is lead.Vector inner text t e = absurd (cc)
argument-is lead.Name inner text t e = refl
argument-is lead.Hole inner text t e = refl
argument-is lead.Prop inner text t e = refl
argument-is lead.Type inner text t e = refl
argument-is lead.Open inner text t e = refl
argument-is lead.Match inner text t e = refl
argument-is lead.Lambda inner text t e = absurd (cc)
argument-is lead.Forall inner text t e = absurd (cc)
argument-is lead.Other inner text t e = absurd (cc)

arrow-is : (l : Lead) (inner : ℕ → Reading Written) (text : List ℕ) (t : Token) → begins_atom l ≡ true → term_by l inner text t ≡ arrow inner text t
arrow-is lead.Vector inner text t e = absurd (cc)
arrow-is lead.Name inner text t e = refl
arrow-is lead.Hole inner text t e = refl
arrow-is lead.Prop inner text t e = refl
arrow-is lead.Type inner text t e = refl
arrow-is lead.Open inner text t e = refl
arrow-is lead.Match inner text t e = refl
arrow-is lead.Lambda inner text t e = absurd (cc)
arrow-is lead.Forall inner text t e = absurd (cc)
arrow-is lead.Other inner text t e = absurd (cc)

-- ---- what is read

-- a raw term under these names stands for a term alike to t
pub record StandsFor (E : Environment) (Γ : List Bytes) (w : Written) (t : Tree) : Type 0 where
  pub term : Tree
  pub found : resolved E Γ w ≡ Found term
  pub same : alike t term ≡ true

-- the token at a place begins an atom
pub record Begins (text : List ℕ) (at : ℕ) : Type 0 where
  pub token : Token
  pub needed_is : needed text at ≡ Got token token.end
  pub seen_is : seen text at ≡ Some token
  pub lead : Lead
  pub lead_is : lead_of text token ≡ lead
  pub begins : begins_atom lead ≡ true

-- an atom stands at a place
pub record AtomRead (E : Environment) (Γ : List Bytes) (t : Tree) (inner : ℕ → Reading Written) (text : List ℕ) (at : ℕ) (rest : List ℕ) : Type 0 where
  pub first : Begins text at
  pub written : Written
  pub read : ReadTo text (atom_by first.lead inner text first.token) written rest
  pub stands : StandsFor E Γ written t

-- an atom on arguments stands at a place
pub record SpineRead (E : Environment) (Γ : List Bytes) (t : Tree) (inner : ℕ → Reading Written) (text : List ℕ) (at : ℕ) (rest : List ℕ) : Type 0 where
  pub first : Begins text at
  pub head : Written
  pub mid : ℕ
  pub head_is : atom_by first.lead inner text first.token ≡ Got head mid
  pub args : List Written
  pub row : Row text (sees_argument text) (argument inner text) mid args rest
  pub base : Tree
  pub base_found : resolved E Γ head ≡ Found base
  pub term : Tree
  pub found : resolved_on E Γ base (arguments args) ≡ Found term
  pub same : alike t term ≡ true

-- a whole term stands at a place
pub record WholeRead (E : Environment) (Γ : List Bytes) (t : Tree) (room : ℕ) (text : List ℕ) (at : ℕ) (rest : List ℕ) : Type 0 where
  pub written : Written
  pub read : ReadTo text (term (suc room) text at) written rest
  pub stands : StandsFor E Γ written t

-- text that ends a term
pub record Closes (text rest : List ℕ) : Type 0 where
  pub ends : is_continue (head_of rest) ≡ false
  pub no_argument : (at : ℕ) → drop at text ≡ rest → sees_argument text at ≡ false
  pub no_arrow : (at : ℕ) → drop at text ≡ rest → sees_sign 0x2192 text at ≡ false

-- ---- what ends a term

module _ {text : List ℕ} (rest : List ℕ) where
  close-token : (at : ℕ) → drop at text ≡ 41 ∷ rest → TokenAt text at kind.Sign (41 ∷ []) rest
  close-token at e = sign-at text (41 ∷ []) rest at 41 close refl e

  dot-token : (at : ℕ) → drop at text ≡ 46 ∷ rest → TokenAt text at kind.Sign (46 ∷ []) rest
  dot-token at e = sign-at text (46 ∷ []) rest at 46 dot refl e

close-sign : sign_with kind.Sign (41 ∷ []) ≡ 41
unfolding chars
close-sign = refl

dot-sign : sign_with kind.Sign (46 ∷ []) ≡ 46
unfolding chars
dot-sign = refl

pub closes-close : (text rest : List ℕ) → Closes text (41 ∷ rest)
unfolding unicode_ident
closes-close text rest = record {
  ends = ap is_continue (head-byte 41 rest (lit< tt));
  no_argument = λ at e. sees_argument-is (close-token rest at e) ∙ ap (λ c. begins_argument (lead_with kind.Sign (41 ∷ []) c)) close-sign;
  no_arrow = λ at e. sees_sign-is (close-token rest at e) 0x2192 ∙ ap (λ c. c == 0x2192) close-sign;
}

pub closes-dot : (text rest : List ℕ) → Closes text (46 ∷ rest)
unfolding unicode_ident
closes-dot text rest = record {
  ends = ap is_continue (head-byte 46 rest (lit< tt));
  no_argument = λ at e. sees_argument-is (dot-token rest at e) ∙ ap (λ c. begins_argument (lead_with kind.Sign (46 ∷ []) c)) dot-sign;
  no_arrow = λ at e. sees_sign-is (dot-token rest at e) 0x2192 ∙ ap (λ c. c == 0x2192) dot-sign;
}

-- a blank and a dot
pub closes-end : (text rest : List ℕ) → Closes text (32 ∷ 46 ∷ rest)
unfolding unicode_ident
closes-end text rest = record {
  ends = ap is_continue (head-byte 32 (46 ∷ rest) (lit< tt));
  no_argument = λ at e. sees_argument-is (after-blank at e (dot-token rest (at + 1) (drop-past text (32 ∷ []) (46 ∷ rest) at e))) ∙ ap (λ c. begins_argument (lead_with kind.Sign (46 ∷ []) c)) dot-sign;
  no_arrow = λ at e. sees_sign-is (after-blank at e (dot-token rest (at + 1) (drop-past text (32 ∷ []) (46 ∷ rest) at e))) 0x2192 ∙ ap (λ c. c == 0x2192) dot-sign;
}

-- ---- a raw term on arguments

found-same : (f t : Tree) → Found f ≡ Found t → f ≡ t
found-same f t e = cc

on-by : (E : Environment) (Γ : List Bytes) (a : Written) (args : List Written) (f g u : Tree) (w : Written) (r : Resolution Tree) → resolved E Γ a ≡ r
    → then_found r (λ u. resolved_on E Γ (App f u) (arguments args)) ≡ Found g
    → ((f : Tree) → resolved_on E Γ f (arguments args) ≡ Found g → resolved_on E Γ f (arguments (args ++ w ∷ [])) ≡ Found (App g u))
    → then_found (resolved E Γ a) (λ u. resolved_on E Γ (App f u) (arguments (args ++ w ∷ []))) ≡ Found (App g u)
on-by E Γ a args f g u w (Found b) q e later = ap (λ r. then_found r (λ u. resolved_on E Γ (App f u) (arguments (args ++ w ∷ [])))) q ∙ later (App f b) e
on-by E Γ a args f g u w (Faults r at) q e later = absurd (cc)

-- one more argument
on-more : (E : Environment) (Γ : List Bytes) (args : List Written) (f g u : Tree) (w : Written) → resolved_on E Γ f (arguments args) ≡ Found g → resolved E Γ w ≡ Found u
    → resolved_on E Γ f (arguments (args ++ w ∷ [])) ≡ Found (App g u)
on-more E Γ [] f g u w e h = ap (λ r. then_found r (λ u. resolved_on E Γ (App f u) NoArgument)) h ∙ ap (λ k. Found (App k u)) (found-same f g e)
on-more E Γ (a ∷ args) f g u w e h =
    on-by E Γ a args f g u w (resolved E Γ a) refl e (λ k q. on-more E Γ args k g u w q h)

applied-found : (E : Environment) (Γ : List Bytes) (start : ℕ) (head : Written) (args : List Written) (f t : Tree) → resolved E Γ head ≡ Found f → resolved_on E Γ f (arguments args) ≡ Found t
    → resolved E Γ (applied start head args) ≡ Found t
applied-found E Γ start head [] f t e h = e ∙ h
applied-found E Γ start head (a ∷ args) f t e h = ap (λ r. then_found r (λ t. resolved_on E Γ t (arguments (a ∷ args)))) e ∙ h

module _ {E : Environment} {Γ : List Bytes} {t : Tree} {inner : ℕ → Reading Written} {text rest : List ℕ} {at : ℕ} where
  -- an atom on no arguments
  pub spine-of-atom : AtomRead E Γ t inner text at rest → SpineRead E Γ t inner text at rest
  spine-of-atom a = record {
    first = a.first;
    head = a.written;
    mid = a.read.end;
    head_is = a.read.is;
    args = [];
    row = row-none (sees_argument text) (argument inner text) a.read.end a.read.after;
    base = a.stands.term;
    base_found = a.stands.found;
    term = a.stands.term;
    found = refl;
    same = a.stands.same;
  }

  -- the application that ends there
  pub app-read : (s : SpineRead E Γ t inner text at rest) → sees_argument text s.row.to ≡ false → ReadTo text (app inner text s.first.token) (applied s.first.token.start s.head s.args) rest
  app-read s stop =
      let r = row-read s.row stop in
      record {
        end = r.end;
        is =
            ap (λ l. then_read (atom_by l inner text s.first.token) (λ f a. then_read (many_from text (sees_argument text) (argument inner text) a) (λ args end. Got (applied s.first.token.start f args) end))) s.first.lead_is
            ∙ ap (λ q. then_read q (λ f a. then_read (many_from text (sees_argument text) (argument inner text) a) (λ args end. Got (applied s.first.token.start f args) end))) s.head_is
            ∙ ap (λ q. then_read q (λ args end. Got (applied s.first.token.start s.head args) end)) r.is;
        after = r.after;
      }

  pub app-stands : (s : SpineRead E Γ t inner text at rest) → StandsFor E Γ (applied s.first.token.start s.head s.args) t
  app-stands s = record { term = s.term; found = applied-found E Γ s.first.token.start s.head s.args s.base s.term s.base_found s.found; same = s.same }

-- a term that begins an atom is what an arrow may follow
pub begins-arrow : {text : List ℕ} {at : ℕ} (room : ℕ) (b : Begins text at) → term (suc room) text at ≡ arrow (term room text) text b.token
begins-arrow {text} room b =
    ap (λ r. then_read r (λ t _. term_by (lead_of text t) (term room text) text t)) b.needed_is
    ∙ ap (λ l. term_by l (term room text) text b.token) b.lead_is ∙ arrow-is b.lead (term room text) text b.token b.begins

pub whole-of-spine : {E : Environment} {Γ : List Bytes} {t : Tree} {text rest : List ℕ} {at : ℕ} (room : ℕ) → Closes text rest → SpineRead E Γ t (term room text) text at rest → WholeRead E Γ t room text at rest
whole-of-spine {text = text} room c s =
    let inner : ℕ → Reading Written = term room text in
    let a = app-read s (c.no_argument s.row.to s.row.after) in
    let w : Written = applied s.first.token.start s.head s.args in
    record {
      written = w;
      read = record {
        end = a.end;
        is =
            begins-arrow room s.first
            ∙ ap (λ q. then_read q (λ A a. cond (sees_sign 0x2192 text a) (then_read (sign 0x2192 text a) (λ _ b. then_read (inner b) (λ B end. Got (Term s.first.token.start (raw.Prod (codes "_") A B)) end))) (Got A a))) a.is
            ∙ ap (λ b. cond b (then_read (sign 0x2192 text a.end) (λ _ b. then_read (inner b) (λ B end. Got (Term s.first.token.start (raw.Prod (codes "_") w B)) end))) (Got w a.end)) (c.no_arrow a.end a.after);
        after = a.after;
      };
      stands = app-stands s;
    }

-- ---- parentheses

open-lead : lead_with kind.Sign (40 ∷ []) (sign_with kind.Sign (40 ∷ [])) ≡ lead.Open
unfolding chars
open-lead = refl

star-other : (d : ℕ) → (d == 42) ≡ false → piece zero 40 d ≡ Other
star-other d e = ap (λ b. cond b Opening Other) e

pub atom-of-whole : {E : Environment} {Γ : List Bytes} {t : Tree} {text body rest : List ℕ} (at room : ℕ) → drop at text ≡ 40 ∷ body → (head_of body == 42) ≡ false
    → ((at : ℕ) → drop at text ≡ body → WholeRead E Γ t room text at (41 ∷ rest)) → AtomRead E Γ t (term (suc room) text) text at rest
atom-of-whole {text = text} {body = body} {rest = rest} at room e star whole =
    let o = sign-at text (40 ∷ []) body at 40 opening (star-other (head_of body) star) e in
    let w = whole o.token.end o.after in
    let inner : ℕ → Reading Written = term (suc room) text in
    let c = close-token rest w.read.end w.read.after in
    let none : sees_sign 58 text w.read.end ≡ false = sees_sign-is c 58 ∙ ap (λ x. x == 58) close-sign in
    record {
      first = record { token = o.token; needed_is = needed-is o; seen_is = seen-is o; lead = lead.Open; lead_is = lead-is o ∙ open-lead; begins = refl };
      written = w.written;
      read = record {
        end = c.token.end;
        is =
            ap (λ q. then_read q (λ t a. then_read (domain inner text a) (λ T b. then_read (sign 41 text b) (λ _ end. Got (cast o.token.start t T) end)))) w.read.is
            ∙ ap (λ b. then_read (cond b (then_read (sign 58 text w.read.end) (λ _ a. then_read (inner a) (λ A end. Got (raw.Given A) end))) (Got Absent w.read.end)) (λ T b. then_read (sign 41 text b) (λ _ end. Got (cast o.token.start w.written T) end))) none
            ∙ ap (λ q. then_read q (λ _ end. Got w.written end)) (sign-read c 41 (ap (λ x. x == 41) close-sign));
        after = c.after;
      };
      stands = w.stands;
    }

-- ---- applications

pub spine-of-app : {E : Environment} {Γ : List Bytes} {f a : Tree} {inner : ℕ → Reading Written} {text more rest : List ℕ} {at : ℕ} → SpineRead E Γ f inner text at (32 ∷ more)
    → ((at : ℕ) → drop at text ≡ more → AtomRead E Γ a inner text at rest) → suc (length rest) ≤ length (32 ∷ more) → SpineRead E Γ (App f a) inner text at rest
spine-of-app {E = E} {Γ = Γ} {f = f} {a = x} {inner = inner} {text = text} {more = more} s atom less =
    let to : ℕ = s.row.to in
    let a = atom (to + 1) (drop-past text (32 ∷ []) more to s.row.after) in
    let b = a.first in
    let next : next_token text to ≡ next_token text (to + 1) = past-blank text more to s.row.after in
    let some : sees_argument text to ≡ true =
    ap (λ o. sees_by (seen_from o) (λ t. begins_argument (lead_of text t))) next ∙ ap (λ o. sees_by o (λ t. begins_argument (lead_of text t))) b.seen_is
    ∙ ap begins_argument b.lead_is ∙ argument-begins b.lead b.begins in
    let one : argument inner text to ≡ Got a.written a.read.end =
    ap (λ o. then_read (needed_from o) (λ t _. argument_by (lead_of text t) inner text t)) next ∙ ap (λ o. then_read o (λ t _. argument_by (lead_of text t) inner text t)) b.needed_is
    ∙ ap (λ l. argument_by l inner text b.token) b.lead_is ∙ argument-is b.lead inner text b.token b.begins ∙ a.read.is in
    record {
      first = s.first;
      head = s.head;
      mid = s.mid;
      head_is = s.head_is;
      args = s.args ++ a.written ∷ [];
      row = row-more a.written s.row some (record { end = a.read.end; is = one; after = a.read.after }) less;
      base = s.base;
      base_found = s.base_found;
      term = App s.term a.stands.term;
      found = on-more E Γ s.args s.base s.term a.stands.term a.written s.found a.stands.found;
      same = and_from (alike f s.term) (alike x a.stands.term) s.same a.stands.same;
    }
