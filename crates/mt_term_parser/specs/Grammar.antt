-- The grammar of terms. A reading has the room for terms within terms that is left.
use Rattle.std.specs.Prelude.{ℕ, zero, suc, ◌-◌, Bool, true, false, ◌==◌, if◌then◌else◌, List, []}
use Rattle.std.specs.Prelude.{◌∷◌, codes}
use Rattle.mt_lexer.specs.declared.Token.{Token}
use Rattle.mt_lexer.specs.declared.TokenKind.{TokenKind}
use Rattle.mt_lexer.specs.declared.TokenKind.TheVariants as kind
use Rattle.mt_term.specs.Reasons.{Syntax, TooDeep}
use Rattle.mt_term_parser.specs.declared.raw.Part.{Part}
use Rattle.mt_term_parser.specs.declared.raw.Part.TheVariants as part
use Rattle.mt_term_parser.specs.declared.raw.RawSort.TheVariants as sort
use Rattle.mt_term_parser.specs.declared.terms.Lead.{Lead}
use Rattle.mt_term_parser.specs.declared.terms.Lead.TheVariants as lead
use Rattle.mt_term_parser.specs.Written.{Written, WrittenArm, Domain, Arguments, Cases, Term, Name}
use Rattle.mt_term_parser.specs.Written.{Hole, Vector, Sort, Lam, Prod, App, Match, Cast, Absent}
use Rattle.mt_term_parser.specs.Written.{Given, NoArgument, Argument, NoCase, Case}
use Rattle.mt_term_parser.specs.Readings.{Reading, Got, Stops, then_read, many_from, needed}
use Rattle.mt_term_parser.specs.Readings.{word_of, sign_of, is_word, is_name, is_name_kind, sign}
use Rattle.mt_term_parser.specs.Readings.{word, name, binder, number, sees, sees_sign, sees_word}

-- ---- what a token begins

abbrev pub lead_of_sign : ℕ → Lead
lead_of_sign c =
    if c == 0x3BB then lead.Lambda else
    (if c == 0x2200 then lead.Forall else
    (if c == 63 then lead.Hole else
    (if c == 0x2026 then lead.Vector else
    (if c == 40 then lead.Open else lead.Other))))

-- what the token begins
abbrev pub lead_of : List ℕ → Token → Lead
lead_of text t =
    if is_name text t then lead.Name else
    (if is_word (codes "Prop") text t then lead.Prop else
    (if is_word (codes "Type") text t then lead.Type else
    (if is_word (codes "match") text t then lead.Match else lead_of_sign (sign_of text t))))

abbrev pub begins_atom : Lead → Bool
begins_atom lead.Name = true
begins_atom lead.Hole = true
begins_atom lead.Prop = true
begins_atom lead.Type = true
begins_atom lead.Open = true
begins_atom lead.Match = true
begins_atom _ = false

abbrev pub begins_argument : Lead → Bool
begins_argument lead.Vector = true
begins_argument l = begins_atom l

-- whether the next token begins an argument
abbrev pub sees_argument : List ℕ → ℕ → Bool
sees_argument text at = sees (λ t. begins_argument (lead_of text t)) text at

abbrev pub begins_term : Lead → Bool
begins_term lead.Lambda = true
begins_term lead.Forall = true
begins_term l = begins_atom l

-- ---- lists

-- a sign and then a part
abbrev pub led : {A : Type 0} → ℕ → List ℕ → (ℕ → Reading A) → ℕ → Reading A
led c text one at = then_read (sign c text at) (λ _ place. one place)

-- parts with a sign between them, one at least
abbrev pub separated : {A : Type 0} → ℕ → List ℕ → (ℕ → Reading A) → ℕ → Reading (List A)
separated c text one at =
    then_read (one at) (λ a end.
    then_read (many_from text (sees_sign c text) (led c text one) end) (λ more last.
    Got (a ∷ more) last))

-- ---- sorts

abbrev pub offset : List ℕ → ℕ → Reading ℕ
offset text at =
    if sees_sign 43 text at then then_read (sign 43 text at) (λ _ a. number text a) else Got 0 at

abbrev pub raised_part : List ℕ → Token → Reading Part
raised_part text t =
    if is_name text t
    then then_read (offset text t.end) (λ k end. Got (part.Name (word_of text t) k) end)
    else Stops Syntax t.start

abbrev pub part_by : List ℕ → Token → TokenKind → Reading Part
part_by text t (kind.Number n) = Got (part.Number n) t.end
part_by text t _ = raised_part text t

-- part = number | name ["+" number]
abbrev pub part_at : List ℕ → ℕ → Reading Part
part_at text at = then_read (needed text at) (λ t _. part_by text t t.kind)

-- "[" part { "," part } "]" after `Type`
abbrev pub parts : List ℕ → ℕ → Reading (List Part)
parts text at =
    then_read (sign 91 text at) (λ _ a.
    then_read (separated 44 text (part_at text) a) (λ ps b.
    then_read (sign 93 text b) (λ _ end. Got ps end)))

-- ---- terms, where `inner` reads a term within the term

-- the type after a colon, if there is one
abbrev pub domain : (ℕ → Reading Written) → List ℕ → ℕ → Reading Domain
domain inner text at =
    if sees_sign 58 text at
    then then_read (sign 58 text at) (λ _ a. then_read (inner a) (λ A end. Got (Given A) end))
    else Got Absent at

-- x [":" term] "." term
abbrev pub lambda : (ℕ → Reading Written) → List ℕ → ℕ → ℕ → Reading Written
lambda inner text start at =
    then_read (binder text at) (λ x a.
    then_read (domain inner text a) (λ A b.
    then_read (sign 46 text b) (λ _ c.
    then_read (inner c) (λ body end. Got (Term start (Lam x A body)) end))))

-- x ":" term "." term
abbrev pub product : (ℕ → Reading Written) → List ℕ → ℕ → ℕ → Reading Written
product inner text start at =
    then_read (binder text at) (λ x a.
    then_read (sign 58 text a) (λ _ b.
    then_read (inner b) (λ A c.
    then_read (sign 46 text c) (λ _ d.
    then_read (inner d) (λ B end. Got (Term start (Prod x A B)) end)))))

-- term [":" term] ")"
abbrev pub cast : ℕ → Written → Domain → Written
cast start t Absent = t
cast start t (Given T) = Term start (Cast t T)

abbrev pub parenthesis : (ℕ → Reading Written) → List ℕ → ℕ → ℕ → Reading Written
parenthesis inner text start at =
    then_read (inner at) (λ t a.
    then_read (domain inner text a) (λ T b.
    then_read (sign 41 text b) (λ _ end. Got (cast start t T) end)))

abbrev pub cases_onto : List WrittenArm → Cases → Cases
cases_onto [] more = more
cases_onto (a ∷ rest) more = Case a.name a.binders a.body (cases_onto rest more)

abbrev pub cases : List WrittenArm → Cases
cases arms = cases_onto arms NoCase

-- name { x } "⇒" term
abbrev pub arm : (ℕ → Reading Written) → List ℕ → ℕ → Reading WrittenArm
arm inner text at =
    then_read (name text at) (λ x a.
    then_read (many_from text (sees (λ t. is_name_kind t.kind) text) (binder text) a) (λ xs b.
    then_read (sign 0x21D2 text b) (λ _ c.
    then_read (inner c) (λ body end. Got (record { name = x; binders = xs; body = body }) end))))

-- [arm { "|" arm }]
abbrev pub arms : (ℕ → Reading Written) → List ℕ → ℕ → Reading (List WrittenArm)
arms inner text at =
    if sees (is_name text) text at then separated 124 text (arm inner text) at else Got [] at

abbrev pub returned : (ℕ → Reading Written) → List ℕ → ℕ → Reading Domain
returned inner text at =
    if sees_word (codes "return") text at then
    then_read (word (codes "return") text at) (λ _ a. then_read (inner a) (λ R end. Got (Given R) end))
    else Got Absent at

-- "with" "[" [arm { "|" arm }] "]"
abbrev pub body_of_match : (ℕ → Reading Written) → List ℕ → ℕ → Reading (List WrittenArm)
body_of_match inner text at =
    then_read (word (codes "with") text at) (λ _ a.
    then_read (sign 91 text a) (λ _ b.
    then_read (arms inner text b) (λ cs c.
    then_read (sign 93 text c) (λ _ end. Got cs end))))

-- term ["return" term] "with" "[" [arm { "|" arm }] "]"
abbrev pub matched : (ℕ → Reading Written) → List ℕ → ℕ → ℕ → Reading Written
matched inner text start at =
    then_read (inner at) (λ c a.
    then_read (returned inner text a) (λ R b.
    then_read (body_of_match inner text b) (λ cs end. Got (Term start (Match c R (cases cs))) end)))

-- the atom that begins with this token
abbrev pub atom_by : Lead → (ℕ → Reading Written) → List ℕ → Token → Reading Written
atom_by lead.Name inner text t = Got (Term t.start (Name (word_of text t))) t.end
atom_by lead.Hole inner text t = Got (Term t.start Hole) t.end
atom_by lead.Prop inner text t = Got (Term t.start (Sort sort.Prop)) t.end
atom_by lead.Type inner text t =
    then_read (parts text t.end) (λ ps end. Got (Term t.start (Sort (sort.Typ ps))) end)
atom_by lead.Open inner text t = parenthesis inner text t.start t.end
atom_by lead.Match inner text t = matched inner text t.start t.end
atom_by _ inner text t = Stops Syntax t.start

abbrev pub argument_by : Lead → (ℕ → Reading Written) → List ℕ → Token → Reading Written
argument_by lead.Vector inner text t = Got (Term t.start Vector) t.end
argument_by l inner text t = atom_by l inner text t

-- atom | "…"
abbrev pub argument : (ℕ → Reading Written) → List ℕ → ℕ → Reading Written
argument inner text at =
    then_read (needed text at) (λ t _. argument_by (lead_of text t) inner text t)

abbrev pub arguments_onto : List Written → Arguments → Arguments
arguments_onto [] more = more
arguments_onto (a ∷ rest) more = Argument a (arguments_onto rest more)

abbrev pub arguments : List Written → Arguments
arguments args = arguments_onto args NoArgument

abbrev pub applied : ℕ → Written → List Written → Written
applied start f [] = f
applied start f (a ∷ rest) = Term start (App f (arguments (a ∷ rest)))

-- atom { atom | "…" }
abbrev pub app : (ℕ → Reading Written) → List ℕ → Token → Reading Written
app inner text t =
    then_read (atom_by (lead_of text t) inner text t) (λ f a.
    then_read (many_from text (sees_argument text) (argument inner text) a) (λ args end.
    Got (applied t.start f args) end))

-- app ["→" term]
abbrev pub arrow : (ℕ → Reading Written) → List ℕ → Token → Reading Written
arrow inner text t =
    then_read (app inner text t) (λ A a.
    if sees_sign 0x2192 text a then
    then_read (sign 0x2192 text a) (λ _ b. then_read (inner b) (λ B end. Got (Term t.start (Prod (codes "_") A B)) end))
    else Got A a)

abbrev pub term_by : Lead → (ℕ → Reading Written) → List ℕ → Token → Reading Written
term_by lead.Lambda inner text t = lambda inner text t.start t.end
term_by lead.Forall inner text t = product inner text t.start t.end
term_by lead.Vector inner text t = Stops Syntax t.start
term_by lead.Other inner text t = Stops Syntax t.start
term_by _ inner text t = arrow inner text t

abbrev pub full : Lead → Token → Reading Written
full l t = Stops (if begins_term l then TooDeep else Syntax) t.start

-- a term, where this many terms may be open, it among them
abbrev pub term : ℕ → List ℕ → ℕ → Reading Written
term zero text at = then_read (needed text at) (λ t _. full (lead_of text t) t)
term (suc room) text at =
    then_read (needed text at) (λ t _. term_by (lead_of text t) (term room text) text t)

-- a term at a place within so many terms and sequences
abbrev pub term_at : List ℕ → ℕ → ℕ → Reading Written
term_at text at depth = term (200 - depth) text at
