-- Terms of two texts that begin with the same bytes.
use Rattle.std.proofs.Common.{◌≡◌, ℕ, zero, suc, ◌-◌, Bool, true, false, not, ◌&&◌, ◌==◌, cond, List, [], ◌∷◌, refl, ap, ap₂}
use Rattle.std.specs.Prelude.{codes, bytes_eq}
use Rattle.mt_lexer.specs.declared.Token.{Token}
use Rattle.mt_lexer.specs.declared.TokenKind.{TokenKind}
use Rattle.mt_lexer.specs.declared.TokenKind.TheVariants as kind
use Rattle.mt_term.specs.Reasons.{Syntax}
use Rattle.mt_term_parser.specs.declared.raw.Part.TheVariants as part
use Rattle.mt_term_parser.specs.declared.raw.RawSort.TheVariants as sort
use Rattle.mt_term_parser.specs.declared.terms.Lead.{Lead}
use Rattle.mt_term_parser.specs.declared.terms.Lead.TheVariants as lead
use Rattle.mt_term_parser.specs.Written.{Written, Term, Name, Hole, Vector, Sort, Lam, Prod, Match, Absent, Given}
use Rattle.mt_term_parser.specs.Readings.{Reading, Got, Stops, then_read, many_from, needed, word_of, sign_from, sign_spelled, sign_by, sign_of, is_reserved_kind, is_word, is_name, is_name_kind, sign, word, name, binder, number_by, number, sees_sign}
use Rattle.mt_term_parser.specs.Grammar.{lead_of_sign, lead_of, begins_argument, led, separated, offset, part_by, part_at, parts, domain, lambda, product, cast, parenthesis, cases, arm, arms, returned, body_of_match, matched, atom_by, argument_by, argument, applied, app, arrow, term_by, term, term_at}
use Rattle.mt_unit_laws.proofs.Texts.{Front, SameToken}
use Rattle.mt_unit_laws.proofs.Local.{Local, local-got, local-stop, local-to, local-weaker, local-under, local-then, local-token, local-pass, local-if, local-row}

-- ---- what a token is

sign-by-same : (f : Front) (t : Token) → SameToken f t → (k : TokenKind) → sign_by k f.first t ≡ sign_by k f.second t
sign-by-same f t e kind.Name = refl
sign-by-same f t e kind.Reserved = ap sign_spelled e.word
sign-by-same f t e (kind.Number n) = refl
sign-by-same f t e kind.Sign = ap sign_from e.head
sign-by-same f t e kind.End = refl

pub sign-same : (f : Front) (t : Token) → SameToken f t → sign_of f.first t ≡ sign_of f.second t
sign-same f t e = sign-by-same f t e t.kind

pub word-same : (f : Front) (t : Token) → SameToken f t → word_of f.first t ≡ word_of f.second t
word-same f t e = e.word

pub is_word-same : (w : List ℕ) (f : Front) (t : Token) → SameToken f t → is_word w f.first t ≡ is_word w f.second t
is_word-same w f t e = ap (λ v. is_reserved_kind t.kind && bytes_eq v w) e.word

pub is_name-same : (f : Front) (t : Token) → SameToken f t → is_name f.first t ≡ is_name f.second t
is_name-same f t e = ap (λ v. is_name_kind t.kind && not (bytes_eq v (codes "_"))) e.word

abbrev lead_with : Token → List ℕ → ℕ → Lead
lead_with t w c =
    cond (is_name_kind t.kind && not (bytes_eq w (codes "_"))) lead.Name (
    cond (is_reserved_kind t.kind && bytes_eq w (codes "Prop")) lead.Prop (
    cond (is_reserved_kind t.kind && bytes_eq w (codes "Type")) lead.Type (
    cond (is_reserved_kind t.kind && bytes_eq w (codes "match")) lead.Match (lead_of_sign c))))

pub lead-same : (f : Front) (t : Token) → SameToken f t → lead_of f.first t ≡ lead_of f.second t
lead-same f t e = ap₂ (lead_with t) e.word (sign-same f t e)

-- ---- tokens

pub sign-local : {f : Front} {S : Type 0} {at : ℕ} (c : ℕ) → Local f S 1 at (sign c f.first at) (sign c f.second at)
sign-local {f} c = local-token (λ t. local-pass t (sign_of f.first t == c) (sign_of f.second t == c) tt tt (λ e. ap (λ s. s == c) (sign-same f t e)) (λ _. refl))

pub word-local : {f : Front} {S : Type 0} {at : ℕ} (w : List ℕ) → Local f S 1 at (word w f.first at) (word w f.second at)
word-local {f} w = local-token (λ t. local-pass t (is_word w f.first t) (is_word w f.second t) tt tt (is_word-same w f t) (λ _. refl))

pub name-local : {f : Front} {S : Type 0} {at : ℕ} → Local f S 1 at (name f.first at) (name f.second at)
name-local {f} = local-token (λ t. local-pass t (is_name f.first t) (is_name f.second t) (word_of f.first t) (word_of f.second t) (is_name-same f t) (λ e. e.word))

pub binder-local : {f : Front} {S : Type 0} {at : ℕ} → Local f S 1 at (binder f.first at) (binder f.second at)
binder-local {f} = local-token (λ t. local-pass t (is_name_kind t.kind) (is_name_kind t.kind) (word_of f.first t) (word_of f.second t) (λ _. refl) (λ e. e.word))

number-kind : {f : Front} (t : Token) (k : TokenKind) → Local f (SameToken f t) 0 t.end (number_by k t) (number_by k t)
number-kind t kind.Name = local-stop Syntax t.start (λ e. e.begins) _
number-kind t kind.Reserved = local-stop Syntax t.start (λ e. e.begins) _
number-kind t (kind.Number n) = local-got n
number-kind t kind.Sign = local-stop Syntax t.start (λ e. e.begins) _
number-kind t kind.End = local-stop Syntax t.start (λ e. e.begins) _

pub number-local : {f : Front} {S : Type 0} {at : ℕ} → Local f S 1 at (number f.first at) (number f.second at)
number-local = local-token (λ t. number-kind t t.kind)

-- a choice by a sign or a word
pub if-sign : {A : Type 0} {f : Front} {S : Type 0} {k at : ℕ} (c : ℕ) {r s r' s' : Reading A}
    → Local f S k at r s → Local f S k at r' s' → Local f S k at (cond (sees_sign c f.first at) r r') (cond (sees_sign c f.second at) s s')
if-sign {f = f} c l m = local-if (λ t. sign_of f.first t == c) (λ t. sign_of f.second t == c) (λ t e. ap (λ s. s == c) (sign-same f t e)) l m

-- parts that begin with a sign
pub row-of-sign : {A : Type 0} {f : Front} {S : Type 0} {at : ℕ} (c : ℕ) (one two : ℕ → Reading A) → ((at : ℕ) → Local f (Unit {0}) 1 at (one at) (two at))
    → Local f S 0 at (many_from f.first (sees_sign c f.first) one at) (many_from f.second (sees_sign c f.second) two at)
row-of-sign {f = f} {at = at} c one two parts =
    local-row f (λ t. sign_of f.first t == c) (λ t. sign_of f.second t == c) (λ t e. ap (λ s. s == c) (sign-same f t e)) one two parts at

pub led-local : {A : Type 0} {f : Front} {S : Type 0} {at k : ℕ} (c : ℕ) (one two : ℕ → Reading A) → ((at : ℕ) → Local f (Unit {0}) k at (one at) (two at))
    → Local f S 1 at (led c f.first one at) (led c f.second two at)
led-local c one two parts = local-then (sign-local c) (λ _ place. local-under (parts place) (λ _. tt))

pub separated-local : {A : Type 0} {f : Front} {S : Type 0} {at k : ℕ} (c : ℕ) (one two : ℕ → Reading A) → ((at : ℕ) → Local f (Unit {0}) k at (one at) (two at))
    → Local f S k at (separated c f.first one at) (separated c f.second two at)
separated-local {f = f} {at = at} c one two parts =
    local-then (local-under (parts at) (λ _. tt)) (λ a end.
    local-then (row-of-sign c (led c f.first one) (led c f.second two) (λ place. led-local c one two parts)) (λ more last. local-got (a ∷ more)))

-- ---- sorts

offset-local : {f : Front} {S : Type 0} {at : ℕ} → Local f S 0 at (offset f.first at) (offset f.second at)
offset-local = if-sign 43 (local-weaker (local-then (sign-local 43) (λ _ a. number-local))) (local-got 0)

raised-by : {f : Front} (t : Token) (b b' : Bool) → (SameToken f t → b ≡ b')
    → Local f (SameToken f t) 0 t.end (cond b (then_read (offset f.first t.end) (λ k end. Got (part.Name (word_of f.first t) k) end)) (Stops Syntax t.start))
    (cond b' (then_read (offset f.second t.end) (λ k end. Got (part.Name (word_of f.second t) k) end)) (Stops Syntax t.start))
raised-by {f} t true b' e =
    local-to (local-then offset-local (λ k end. local-to (local-got (part.Name (word_of f.first t) k)) _ (λ s. ap (λ w. Got (part.Name w k) end) s.word))) _
    (λ s. ap (λ b. cond b (then_read (offset f.second t.end) (λ k end. Got (part.Name (word_of f.second t) k) end)) (Stops Syntax t.start)) (e s))
raised-by t false b' e = local-stop Syntax t.start (λ e. e.begins) _

part-by : {f : Front} (t : Token) (k : TokenKind) → Local f (SameToken f t) 0 t.end (part_by f.first t k) (part_by f.second t k)
part-by {f} t kind.Name = raised-by t (is_name f.first t) (is_name f.second t) (is_name-same f t)
part-by {f} t kind.Reserved = raised-by t (is_name f.first t) (is_name f.second t) (is_name-same f t)
part-by {f} t (kind.Number n) = local-got (part.Number n)
part-by {f} t kind.Sign = raised-by t (is_name f.first t) (is_name f.second t) (is_name-same f t)
part-by {f} t kind.End = raised-by t (is_name f.first t) (is_name f.second t) (is_name-same f t)

part-local : {f : Front} {S : Type 0} {at : ℕ} → Local f S 1 at (part_at f.first at) (part_at f.second at)
part-local = local-token (λ t. part-by t t.kind)

parts-local : {f : Front} {S : Type 0} {at : ℕ} → Local f S 1 at (parts f.first at) (parts f.second at)
parts-local {f} =
    local-then (sign-local 91) (λ _ a.
    local-then (separated-local 44 (part_at f.first) (part_at f.second) (λ place. part-local)) (λ ps b.
    local-then (sign-local 93) (λ _ end. local-got ps)))

-- ---- terms, where a term within the term is local

module _ (f : Front) (ia ib : ℕ → Reading Written) (inner : (at : ℕ) → Local f (Unit {0}) 1 at (ia at) (ib at)) where
  within : {S : Type 0} (at : ℕ) → Local f S 1 at (ia at) (ib at)
  within at = local-under (inner at) (λ _. tt)

  domain-local : {S : Type 0} (at : ℕ) → Local f S 0 at (domain ia f.first at) (domain ib f.second at)
  domain-local at = if-sign 58 (local-weaker (local-then (sign-local 58) (λ _ a. local-then (within a) (λ A end. local-got (Given A))))) (local-got Absent)

  lambda-local : {S : Type 0} (start at : ℕ) → Local f S 1 at (lambda ia f.first start at) (lambda ib f.second start at)
  lambda-local start at =
      local-then binder-local (λ x a.
      local-then (domain-local a) (λ A b.
      local-then (sign-local 46) (λ _ c.
      local-then (within c) (λ body end. local-got (Term start (Lam x A body))))))

  product-local : {S : Type 0} (start at : ℕ) → Local f S 1 at (product ia f.first start at) (product ib f.second start at)
  product-local start at =
      local-then binder-local (λ x a.
      local-then (sign-local 58) (λ _ b.
      local-then (within b) (λ A c.
      local-then (sign-local 46) (λ _ d.
      local-then (within d) (λ B end. local-got (Term start (Prod x A B)))))))

  parenthesis-local : {S : Type 0} (start at : ℕ) → Local f S 1 at (parenthesis ia f.first start at) (parenthesis ib f.second start at)
  parenthesis-local start at =
      local-then (within at) (λ t a.
      local-then (domain-local a) (λ T b.
      local-then (sign-local 41) (λ _ end. local-got (cast start t T))))

  arm-local : {S : Type 0} (at : ℕ) → Local f S 1 at (arm ia f.first at) (arm ib f.second at)
  arm-local at =
      local-then name-local (λ x a.
      local-then (local-row f (λ t. is_name_kind t.kind) (λ t. is_name_kind t.kind) (λ t e. refl) (binder f.first) (binder f.second) (λ place. binder-local) a) (λ xs b.
      local-then (sign-local 0x21D2) (λ _ c.
      local-then (within c) (λ body end. local-got (record { name = x; binders = xs; body = body })))))

  arms-local : {S : Type 0} (at : ℕ) → Local f S 0 at (arms ia f.first at) (arms ib f.second at)
  arms-local at =
      local-if (is_name f.first) (is_name f.second) (is_name-same f)
      (local-weaker (separated-local 124 (arm ia f.first) (arm ib f.second) (λ place. arm-local place))) (local-got [])

  returned-local : {S : Type 0} (at : ℕ) → Local f S 0 at (returned ia f.first at) (returned ib f.second at)
  returned-local at =
      local-if (is_word (codes "return") f.first) (is_word (codes "return") f.second) (is_word-same (codes "return") f)
      (local-weaker (local-then (word-local (codes "return")) (λ _ a. local-then (within a) (λ R end. local-got (Given R))))) (local-got Absent)

  body_of_match-local : {S : Type 0} (at : ℕ) → Local f S 1 at (body_of_match ia f.first at) (body_of_match ib f.second at)
  body_of_match-local at =
      local-then (word-local (codes "with")) (λ _ a.
      local-then (sign-local 91) (λ _ b.
      local-then (arms-local b) (λ cs c.
      local-then (sign-local 93) (λ _ end. local-got cs))))

  matched-local : {S : Type 0} (start at : ℕ) → Local f S 1 at (matched ia f.first start at) (matched ib f.second start at)
  matched-local start at =
      local-then (within at) (λ c a.
      local-then (returned-local a) (λ R b.
      local-then (body_of_match-local b) (λ cs end. local-got (Term start (Match c R (cases cs))))))

  atom-by : (t : Token) (l : Lead) → Local f (SameToken f t) 0 t.end (atom_by l ia f.first t) (atom_by l ib f.second t)
  atom-by t lead.Name = local-to (local-got (Term t.start (Name (word_of f.first t)))) _ (λ s. ap (λ w. Got (Term t.start (Name w)) t.end) s.word)
  atom-by t lead.Hole = local-got (Term t.start Hole)
  atom-by t lead.Prop = local-got (Term t.start (Sort sort.Prop))
  atom-by t lead.Type = local-weaker (local-then parts-local (λ ps end. local-got (Term t.start (Sort (sort.Typ ps)))))
  atom-by t lead.Open = local-weaker (parenthesis-local t.start t.end)
  atom-by t lead.Match = local-weaker (matched-local t.start t.end)
  atom-by t lead.Lambda = local-stop Syntax t.start (λ e. e.begins) _
  atom-by t lead.Forall = local-stop Syntax t.start (λ e. e.begins) _
  atom-by t lead.Vector = local-stop Syntax t.start (λ e. e.begins) _
  atom-by t lead.Other = local-stop Syntax t.start (λ e. e.begins) _

  -- by what the token is in each text
  atom-of : (t : Token) → Local f (SameToken f t) 0 t.end (atom_by (lead_of f.first t) ia f.first t) (atom_by (lead_of f.second t) ib f.second t)
  atom-of t = local-to (atom-by t (lead_of f.first t)) _ (λ s. ap (λ l. atom_by l ib f.second t) (lead-same f t s))

  argument-by : (t : Token) (l : Lead) → Local f (SameToken f t) 0 t.end (argument_by l ia f.first t) (argument_by l ib f.second t)
  argument-by t lead.Vector = local-got (Term t.start Vector)
  argument-by t lead.Name = atom-by t lead.Name
  argument-by t lead.Hole = atom-by t lead.Hole
  argument-by t lead.Prop = atom-by t lead.Prop
  argument-by t lead.Type = atom-by t lead.Type
  argument-by t lead.Open = atom-by t lead.Open
  argument-by t lead.Match = atom-by t lead.Match
  argument-by t lead.Lambda = atom-by t lead.Lambda
  argument-by t lead.Forall = atom-by t lead.Forall
  argument-by t lead.Other = atom-by t lead.Other

  argument-local : {S : Type 0} (at : ℕ) → Local f S 1 at (argument ia f.first at) (argument ib f.second at)
  argument-local at = local-token (λ t. local-to (argument-by t (lead_of f.first t)) _ (λ s. ap (λ l. argument_by l ib f.second t) (lead-same f t s)))

  app-local : (t : Token) → Local f (SameToken f t) 0 t.end (app ia f.first t) (app ib f.second t)
  app-local t =
      local-then (atom-of t) (λ g a.
      local-then (local-row f (λ u. begins_argument (lead_of f.first u)) (λ u. begins_argument (lead_of f.second u)) (λ u e. ap begins_argument (lead-same f u e))
      (argument ia f.first) (argument ib f.second) (λ place. argument-local place) a) (λ args end. local-got (applied t.start g args)))

  arrow-local : (t : Token) → Local f (SameToken f t) 0 t.end (arrow ia f.first t) (arrow ib f.second t)
  arrow-local t =
      local-then (app-local t) (λ A a.
      if-sign 0x2192 (local-weaker (local-then (sign-local 0x2192) (λ _ b. local-then (within b) (λ B end. local-got (Term t.start (Prod (codes "_") A B)))))) (local-got A))

  term-by : (t : Token) (l : Lead) → Local f (SameToken f t) 0 t.end (term_by l ia f.first t) (term_by l ib f.second t)
  term-by t lead.Lambda = local-weaker (lambda-local t.start t.end)
  term-by t lead.Forall = local-weaker (product-local t.start t.end)
  term-by t lead.Vector = local-stop Syntax t.start (λ e. e.begins) _
  term-by t lead.Other = local-stop Syntax t.start (λ e. e.begins) _
  term-by t lead.Name = arrow-local t
  term-by t lead.Hole = arrow-local t
  term-by t lead.Prop = arrow-local t
  term-by t lead.Type = arrow-local t
  term-by t lead.Open = arrow-local t
  term-by t lead.Match = arrow-local t

  pub opened-local : {S : Type 0} (at : ℕ)
      → Local f S 1 at (then_read (needed f.first at) (λ t _. term_by (lead_of f.first t) ia f.first t)) (then_read (needed f.second at) (λ t _. term_by (lead_of f.second t) ib f.second t))
  opened-local at = local-token (λ t. local-to (term-by t (lead_of f.first t)) _ (λ s. ap (λ l. term_by l ib f.second t) (lead-same f t s)))

pub term-local : {f : Front} (room at : ℕ) → Local f (Unit {0}) 1 at (term room f.first at) (term room f.second at)
term-local {f} zero at = local-token {j = 0} (λ t. local-stop _ t.start (λ e. e.begins) _)
term-local {f} (suc room) at = opened-local f (term room f.first) (term room f.second) (term-local room) at

pub term_at-local : {f : Front} {S : Type 0} (at depth : ℕ) → Local f S 1 at (term_at f.first at depth) (term_at f.second at depth)
term_at-local at depth = local-under (term-local (200 - depth) at) (λ _. tt)
