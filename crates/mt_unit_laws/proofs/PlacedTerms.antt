-- The places in a term that is read are bounds of characters.
use Rattle.std.proofs.Common.{ℕ, zero, suc, ◌-◌, List, [], ◌∷◌}
use Rattle.std.specs.Prelude.{codes}
use Rattle.std.specs.Str.{IsCharBoundary}
use Rattle.mt_lexer.specs.declared.Token.{Token}
use Rattle.mt_lexer.specs.declared.TokenKind.{TokenKind}
use Rattle.mt_lexer.specs.declared.TokenKind.TheVariants as kind
use Rattle.mt_term.specs.Reasons.{Syntax}
use Rattle.mt_term_parser.specs.declared.raw.Part.TheVariants as part
use Rattle.mt_term_parser.specs.declared.raw.RawSort.TheVariants as sort
use Rattle.mt_term_parser.specs.declared.terms.Lead.{Lead}
use Rattle.mt_term_parser.specs.declared.terms.Lead.TheVariants as lead
use Rattle.mt_term_parser.specs.Written.{Written, WrittenArm, Domain, Arguments, Cases, Term, Name, Hole, Vector, Sort, Lam, Prod, Match, Absent, Given, NoArgument, NoCase}
use Rattle.mt_term_parser.specs.Readings.{Reading, then_read, is_name, is_name_kind, word_of, binder, sees, sees_sign, sees_word, needed}
use Rattle.mt_term_parser.specs.Grammar.{lead_of, sees_argument, offset, raised_part, part_by, part_at, parts, domain, lambda, product, cast, parenthesis, cases_onto, cases, arm, arms, returned, body_of_match, matched, atom_by, argument_by, argument, arguments_onto, applied, app, arrow, term_by, full, term, term_at}
use Rattle.mt_unit_laws.specs.EachPlace.{EachOf, InTerm, InDomain, InArguments, InCases}
use Rattle.mt_unit_laws.proofs.Carried.{Carries, Nothing, carries-got, carries-stop, carries-then, carries-token, carries-if, row-carries, sign-carries, word-carries, name-carries, binder-carries, number-carries, separated-carries}

-- ---- sorts

offset-carries : {text : List ℕ} {at : ℕ} → Carries text Nothing at (offset text at)
offset-carries {text} {at} = carries-if (sees_sign 43 text at) (carries-then (sign-carries 43) (λ _ a _. number-carries)) (carries-got 0 tt)

raised-carries : {text : List ℕ} (t : Token) → Carries text Nothing t.end (raised_part text t)
raised-carries {text} t = carries-if (is_name text t) (carries-then offset-carries (λ k end _. carries-got (part.Name (word_of text t) k) tt)) (carries-stop Syntax t.start)

part-by : {text : List ℕ} (t : Token) (k : TokenKind) → Carries text Nothing t.end (part_by text t k)
part-by t (kind.Number n) = carries-got (part.Number n) tt
part-by t kind.Name = raised-carries t
part-by t kind.Reserved = raised-carries t
part-by t kind.Sign = raised-carries t
part-by t kind.End = raised-carries t

part-carries : {text : List ℕ} (at : ℕ) → Carries text Nothing at (part_at text at)
part-carries {text} at = carries-token (λ t p. part-by t t.kind)

parts-carries : {text : List ℕ} {at : ℕ} → Carries text Nothing at (parts text at)
parts-carries {text} =
    carries-then (sign-carries 91) (λ _ a _.
    carries-then (separated-carries Nothing 44 (part_at text) part-carries a) (λ ps b _.
    carries-then (sign-carries 93) (λ _ end _. carries-got ps tt)))

-- ---- terms, where the places in a term within the term are bounds

module _ (text : List ℕ) (inner : ℕ → Reading Written) (within : (at : ℕ) → Carries text (InTerm (IsCharBoundary text)) at (inner at)) where
  abbrev P : ℕ → Type 0
  P = IsCharBoundary text

  domain-carries : (at : ℕ) → Carries text (InDomain P) at (domain inner text at)
  domain-carries at =
      carries-if (sees_sign 58 text at)
      (carries-then (sign-carries 58) (λ _ a _. carries-then (within a) (λ A end p. carries-got {Q = InDomain P} (Given A) p)))
      (carries-got {Q = InDomain P} Absent tt)

  lambda-carries : (start at : ℕ) → P start → Carries text (InTerm P) at (lambda inner text start at)
  lambda-carries start at s =
      carries-then binder-carries (λ x a _.
      carries-then (domain-carries a) (λ A b p.
      carries-then (sign-carries 46) (λ _ c _.
      carries-then (within c) (λ body end q. carries-got {Q = InTerm P} (Term start (Lam x A body)) (s, (p, q))))))

  product-carries : (start at : ℕ) → P start → Carries text (InTerm P) at (product inner text start at)
  product-carries start at s =
      carries-then binder-carries (λ x a _.
      carries-then (sign-carries 58) (λ _ b _.
      carries-then (within b) (λ A c p.
      carries-then (sign-carries 46) (λ _ d _.
      carries-then (within d) (λ B end q. carries-got {Q = InTerm P} (Term start (Prod x A B)) (s, (p, q)))))))

  in-cast : (start : ℕ) (t : Written) (T : Domain) → P start → InTerm P t → InDomain P T → InTerm P (cast start t T)
  in-cast start t Absent s p q = p
  in-cast start t (Given T) s p q = (s, (p, q))

  parenthesis-carries : (start at : ℕ) → P start → Carries text (InTerm P) at (parenthesis inner text start at)
  parenthesis-carries start at s =
      carries-then (within at) (λ t a p.
      carries-then (domain-carries a) (λ T b q.
      carries-then (sign-carries 41) (λ _ end _. carries-got {Q = InTerm P} (cast start t T) (in-cast start t T s p q))))

  abbrev InArm : WrittenArm → Type 0
  InArm a = InTerm P a.body

  arm-carries : (at : ℕ) → Carries text InArm at (arm inner text at)
  arm-carries at =
      carries-then name-carries (λ x a _.
      carries-then (row-carries text Nothing (binder text) (λ place. binder-carries) (sees (λ t. is_name_kind t.kind) text) a) (λ xs b _.
      carries-then (sign-carries 0x21D2) (λ _ c _.
      carries-then (within c) (λ body end p. carries-got {Q = InArm} (record { name = x; binders = xs; body = body }) p))))

  arms-carries : (at : ℕ) → Carries text (EachOf InArm) at (arms inner text at)
  arms-carries at = carries-if (sees (is_name text) text at) (separated-carries InArm 124 (arm inner text) arm-carries at) (carries-got {Q = EachOf InArm} [] tt)

  returned-carries : (at : ℕ) → Carries text (InDomain P) at (returned inner text at)
  returned-carries at =
      carries-if (sees_word (codes "return") text at)
      (carries-then (word-carries (codes "return")) (λ _ a _. carries-then (within a) (λ R end p. carries-got {Q = InDomain P} (Given R) p)))
      (carries-got {Q = InDomain P} Absent tt)

  body_of_match-carries : (at : ℕ) → Carries text (EachOf InArm) at (body_of_match inner text at)
  body_of_match-carries at =
      carries-then (word-carries (codes "with")) (λ _ a _.
      carries-then (sign-carries 91) (λ _ b _.
      carries-then (arms-carries b) (λ cs c p.
      carries-then (sign-carries 93) (λ _ end _. carries-got {Q = EachOf InArm} cs p))))

  in-cases : (cs : List WrittenArm) (more : Cases) → EachOf InArm cs → InCases P more → InCases P (cases_onto cs more)
  in-cases [] more p q = q
  in-cases (a ∷ cs) more p q = (p.0, in-cases cs more p.1 q)

  matched-carries : (start at : ℕ) → P start → Carries text (InTerm P) at (matched inner text start at)
  matched-carries start at s =
      carries-then (within at) (λ c a p.
      carries-then (returned-carries a) (λ R b q.
      carries-then (body_of_match-carries b) (λ cs end w. carries-got {Q = InTerm P} (Term start (Match c R (cases cs))) (s, (p, q, in-cases cs NoCase w tt)))))

  atom-by : (t : Token) (l : Lead) → P t.start → Carries text (InTerm P) t.end (atom_by l inner text t)
  atom-by t lead.Name s = carries-got {Q = InTerm P} (Term t.start (Name (word_of text t))) (s, tt)
  atom-by t lead.Hole s = carries-got {Q = InTerm P} (Term t.start Hole) (s, tt)
  atom-by t lead.Prop s = carries-got {Q = InTerm P} (Term t.start (Sort sort.Prop)) (s, tt)
  atom-by t lead.Type s = carries-then parts-carries (λ ps end _. carries-got {Q = InTerm P} (Term t.start (Sort (sort.Typ ps))) (s, tt))
  atom-by t lead.Open s = parenthesis-carries t.start t.end s
  atom-by t lead.Match s = matched-carries t.start t.end s
  atom-by t lead.Lambda s = carries-stop Syntax t.start
  atom-by t lead.Forall s = carries-stop Syntax t.start
  atom-by t lead.Vector s = carries-stop Syntax t.start
  atom-by t lead.Other s = carries-stop Syntax t.start

  argument-by : (t : Token) (l : Lead) → P t.start → Carries text (InTerm P) t.end (argument_by l inner text t)
  argument-by t lead.Vector s = carries-got {Q = InTerm P} (Term t.start Vector) (s, tt)
  argument-by t lead.Name s = atom-by t lead.Name s
  argument-by t lead.Hole s = atom-by t lead.Hole s
  argument-by t lead.Prop s = atom-by t lead.Prop s
  argument-by t lead.Type s = atom-by t lead.Type s
  argument-by t lead.Open s = atom-by t lead.Open s
  argument-by t lead.Match s = atom-by t lead.Match s
  argument-by t lead.Lambda s = atom-by t lead.Lambda s
  argument-by t lead.Forall s = atom-by t lead.Forall s
  argument-by t lead.Other s = atom-by t lead.Other s

  argument-carries : (at : ℕ) → Carries text (InTerm P) at (argument inner text at)
  argument-carries at = carries-token (λ t s. argument-by t (lead_of text t) s)

  in-arguments : (args : List Written) (more : Arguments) → EachOf (InTerm P) args → InArguments P more → InArguments P (arguments_onto args more)
  in-arguments [] more p q = q
  in-arguments (a ∷ args) more p q = (p.0, in-arguments args more p.1 q)

  in-applied : (start : ℕ) (g : Written) (args : List Written) → P start → InTerm P g → EachOf (InTerm P) args → InTerm P (applied start g args)
  in-applied start g [] s p q = p
  in-applied start g (a ∷ args) s p q = (s, (p, in-arguments (a ∷ args) NoArgument q tt))

  app-carries : (t : Token) → P t.start → Carries text (InTerm P) t.end (app inner text t)
  app-carries t s =
      carries-then (atom-by t (lead_of text t) s) (λ g a p.
      carries-then (row-carries text (InTerm P) (argument inner text) argument-carries (sees_argument text) a) (λ args end q.
      carries-got {Q = InTerm P} (applied t.start g args) (in-applied t.start g args s p q)))

  arrow-carries : (t : Token) → P t.start → Carries text (InTerm P) t.end (arrow inner text t)
  arrow-carries t s =
      carries-then (app-carries t s) (λ A a p.
      carries-if (sees_sign 0x2192 text a)
      (carries-then (sign-carries 0x2192) (λ _ b _. carries-then (within b) (λ B end q. carries-got {Q = InTerm P} (Term t.start (Prod (codes "_") A B)) (s, (p, q)))))
      (carries-got {Q = InTerm P} A p))

  term-by : (t : Token) (l : Lead) → P t.start → Carries text (InTerm P) t.end (term_by l inner text t)
  term-by t lead.Lambda s = lambda-carries t.start t.end s
  term-by t lead.Forall s = product-carries t.start t.end s
  term-by t lead.Vector s = carries-stop Syntax t.start
  term-by t lead.Other s = carries-stop Syntax t.start
  term-by t lead.Name s = arrow-carries t s
  term-by t lead.Hole s = arrow-carries t s
  term-by t lead.Prop s = arrow-carries t s
  term-by t lead.Type s = arrow-carries t s
  term-by t lead.Open s = arrow-carries t s
  term-by t lead.Match s = arrow-carries t s

  pub opened-carries : (at : ℕ) → Carries text (InTerm P) at (then_read (needed text at) (λ t _. term_by (lead_of text t) inner text t))
  opened-carries at = carries-token (λ t s. term-by t (lead_of text t) s)

pub term-carries : (text : List ℕ) (room at : ℕ) → Carries text (InTerm (IsCharBoundary text)) at (term room text at)
term-carries text zero at = carries-token {g = λ t. full (lead_of text t) t} (λ t s. carries-stop _ t.start)
term-carries text (suc room) at = opened-carries text (term room text) (term-carries text room) at

pub term_at-carries : (text : List ℕ) (at depth : ℕ) → Carries text (InTerm (IsCharBoundary text)) at (term_at text at depth)
term_at-carries text at depth = term-carries text (200 - depth) at
