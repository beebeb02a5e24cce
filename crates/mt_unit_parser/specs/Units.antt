-- The grammar of commands and single steps.
use Rattle.std.specs.Prelude.{ℕ, ◌+◌, Bool, true, false, ◌||◌, ◌&&◌, ◌==◌, if◌then◌else◌, List, []}
use Rattle.std.specs.Prelude.{◌∷◌, codes, bytes_eq, Option, Some, None}
use Rattle.mt_lexer.specs.declared.Token.{Token}
use Rattle.mt_lexer.specs.declared.TokenKind.{TokenKind}
use Rattle.mt_lexer.specs.declared.TokenKind.TheVariants as kind
use Rattle.mt_lexer.specs.declared.LexStop.{LexStop}
use Rattle.mt_lexer.specs.declared.LexStop.TheVariants as lex
use Rattle.mt_lexer.specs.Tokens.{next_token}
use Rattle.mt_term.specs.Reasons.{Lex, Syntax, Incomplete}
use Rattle.mt_term_parser.specs.Written.{Bytes, Written, Domain, Absent, Given}
use Rattle.mt_term_parser.specs.Readings.{Reading, Got, Stops, then_read, many_from, needed}
use Rattle.mt_term_parser.specs.Readings.{word_of, sign_of, is_word, is_name, is_name_kind, passed}
use Rattle.mt_term_parser.specs.Readings.{sign, word, name, binder, number, sees, sees_sign}
use Rattle.mt_term_parser.specs.Readings.{sees_word}
use Rattle.mt_term_parser.specs.Grammar.{term_at, led, separated, domain}
use Rattle.mt_unit_parser.specs.declared.words.Verb.{Verb}
use Rattle.mt_unit_parser.specs.declared.words.Verb.TheVariants as verb
use Rattle.mt_unit_parser.specs.WrittenUnits.{WrittenGroup, WrittenCon, WrittenType}
use Rattle.mt_unit_parser.specs.WrittenUnits.{WrittenFunction, WrittenEq, Deed, WrittenAction}
use Rattle.mt_unit_parser.specs.WrittenUnits.{WrittenKind, Intro, Exact, Refine, Apply, Cut, Lapply}
use Rattle.mt_unit_parser.specs.WrittenUnits.{Change, Whd, Normalize, Assumption, Constructor}
use Rattle.mt_unit_parser.specs.WrittenUnits.{Generalize, Clear, Cases, Elim, Constraint, Axiom}
use Rattle.mt_unit_parser.specs.WrittenUnits.{Definition, Inductive, Recursive, Hint, Coercion}
use Rattle.mt_unit_parser.specs.WrittenUnits.{Theorem, Qed}

-- a term of a command
abbrev pub whole : List ℕ → ℕ → Reading Written
whole text at = term_at text at 0

-- the token is this word, which is a name elsewhere
abbrev pub is_spelled : List ℕ → List ℕ → Token → Bool
is_spelled w text t = is_name_kind t.kind && bytes_eq (word_of text t) w

abbrev pub spelled : List ℕ → List ℕ → ℕ → Reading (Unit {0})
spelled w text at = then_read (needed text at) (λ t _. passed (is_spelled w text t) t tt)

-- ":" term, and a term after a sign
abbrev pub after_sign : ℕ → List ℕ → ℕ → Reading Written
after_sign c text at = then_read (sign c text at) (λ _ a. whole text a)

-- name ":" term
abbrev pub head : List ℕ → ℕ → Reading WrittenGroup
head text at =
    then_read (name text at)
    (λ x a. then_read (after_sign 58 text a) (λ T end. Got (record { name = x; type = T }) end))

-- x ":" term
abbrev pub variable : List ℕ → ℕ → Reading WrittenGroup
variable text at =
    then_read (binder text at)
    (λ x a. then_read (after_sign 58 text a) (λ T end. Got (record { name = x; type = T }) end))

-- group = "(" x ":" term ")"
abbrev pub group : List ℕ → ℕ → Reading WrittenGroup
group text at =
    then_read (sign 40 text at)
    (λ _ a. then_read (variable text a) (λ g b. then_read (sign 41 text b) (λ _ end. Got g end)))

abbrev pub groups : List ℕ → ℕ → Reading (List WrittenGroup)
groups text at = many_from text (sees_sign 40 text) (group text) at

-- nums = number { "," number }
abbrev pub nums : List ℕ → ℕ → Reading (List ℕ)
nums text at = separated 44 text (number text) at

-- ---- commands, each after its first word

-- "constraint" name "<" name "."
abbrev pub constraint : List ℕ → ℕ → Reading WrittenKind
constraint text at =
    then_read (spelled (codes "constraint") text at) (λ _ a.
    then_read (name text a) (λ x b.
    then_read (sign 60 text b) (λ _ c.
    then_read (name text c) (λ y d.
    then_read (sign 46 text d) (λ _ end. Got (Constraint x y) end)))))

-- name ":" term "."
abbrev pub stated : List ℕ → ℕ → Reading WrittenGroup
stated text at = then_read (head text at) (λ g a. then_read (sign 46 text a) (λ _ end. Got g end))

abbrev pub assumed : List ℕ → ℕ → Reading WrittenKind
assumed text at = then_read (stated text at) (λ g end. Got (Axiom g.name g.type) end)

abbrev pub theorem : List ℕ → ℕ → Reading WrittenKind
theorem text at = then_read (stated text at) (λ g end. Got (Theorem g.name g.type) end)

-- [":" term]
abbrev pub optional_type : List ℕ → ℕ → Reading Domain
optional_type text at =
    if sees_sign 58 text at
    then then_read (after_sign 58 text at) (λ T end. Got (Given T) end)
    else Got Absent at

-- "≝" term "."
abbrev pub body : List ℕ → ℕ → Reading Written
body text at =
    then_read (after_sign 0x225D text at) (λ t a. then_read (sign 46 text a) (λ _ end. Got t end))

-- name [":" term] "≝" term "."
abbrev pub defined : List ℕ → ℕ → Reading WrittenKind
defined text at =
    then_read (name text at) (λ x a.
    then_read (optional_type text a) (λ T b.
    then_read (body text b) (λ t end. Got (Definition x T t) end)))

-- name ":" term, with the place of the name
abbrev pub constructor : List ℕ → ℕ → Reading WrittenCon
constructor text at =
    then_read (needed text at) (λ t _.
    then_read (passed (is_name text t) t (word_of text t)) (λ x a.
    then_read (after_sign 58 text a)
    (λ T end. Got (record { at = t.start; name = x; type = T }) end)))

-- ["|"] [name ":" term { "|" name ":" term }]
abbrev pub optional_bar : List ℕ → ℕ → Reading (Unit {0})
optional_bar text at = if sees_sign 124 text at then sign 124 text at else Got tt at

abbrev pub constructors : List ℕ → ℕ → Reading (List WrittenCon)
constructors text at =
    then_read (optional_bar text at)
    (λ _ a. if sees (is_name text) text a then separated 124 text (constructor text) a else Got [] a)

-- group { group }
abbrev pub some_groups : List ℕ → ℕ → Reading (List WrittenGroup)
some_groups text at =
    then_read (group text at) (λ g a. then_read (groups text a) (λ more end. Got (g ∷ more) end))

-- a name, its groups and its type
pub record WrittenSignature : Type 0 where
  pub name : Bytes
  pub groups : List WrittenGroup
  pub type : Written

-- name { group } ":" term
abbrev pub signature : List ℕ → ℕ → Reading WrittenSignature
signature text at =
    then_read (name text at) (λ x a.
    then_read (groups text a) (λ gs b.
    then_read (after_sign 58 text b)
    (λ T end. Got (record { name = x; groups = gs; type = T }) end)))

-- name { group } ":" term "≝" ["|"] [name ":" term { "|" name ":" term }] "."
abbrev pub inductive : Bool → List ℕ → ℕ → Reading WrittenKind
inductive co text at =
    then_read (signature text at) (λ s a.
    then_read (sign 0x225D text a) (λ _ b.
    then_read (constructors text b) (λ cs c.
    then_read (sign 46 text c) (λ _ end.
    Got (Inductive co s.groups (record { name = s.name; arity = s.type; cons = cs } ∷ [])) end))))

-- name group { group } "on" name ":" term
abbrev pub recursion_head : List ℕ → ℕ → Reading (WrittenSignature × Bytes)
recursion_head text at =
    then_read (name text at) (λ x a.
    then_read (some_groups text a) (λ gs b.
    then_read (spelled (codes "on") text b) (λ _ c.
    then_read (name text c) (λ y d.
    then_read (after_sign 58 text d)
    (λ T end. Got (record { name = x; groups = gs; type = T }, y) end)))))

abbrev pub function : WrittenSignature → Option Bytes → Written → WrittenFunction
function s on t = record { name = s.name; groups = s.groups; on = on; type = s.type; body = t }

-- name group { group } "on" name ":" term "≝" term "."
abbrev pub recursion : List ℕ → ℕ → Reading WrittenKind
recursion text at =
    then_read (recursion_head text at) (λ s a.
    then_read (body text a) (λ t end. Got (Recursive false (function s.0 (Some s.1) t ∷ [])) end))

-- name { group } ":" term "≝" term "."
abbrev pub corecursion : List ℕ → ℕ → Reading WrittenKind
corecursion text at =
    then_read (signature text at) (λ s a.
    then_read (body text a) (λ t end. Got (Recursive true (function s None t ∷ [])) end))

-- "rec" or "corec" after `let`
abbrev pub letting : List ℕ → ℕ → Reading WrittenKind
letting text at =
    then_read (needed text at) (λ t a.
    if is_spelled (codes "rec") text t then recursion text a else
    (if is_spelled (codes "corec") text t then corecursion text a else Stops Syntax t.start))

-- [x ":" term { "," x ":" term }]
abbrev pub variables : List ℕ → ℕ → Reading (List WrittenGroup)
variables text at =
    if sees (λ t. is_name_kind t.kind) text at
    then separated 44 text (variable text) at
    else Got [] at

-- ";" name "≟" term
abbrev pub equation : List ℕ → ℕ → Reading WrittenEq
equation text at =
    then_read (sign 59 text at) (λ _ a.
    then_read (name text a) (λ x b.
    then_read (after_sign 0x225F text b) (λ t end. Got (record { name = x; term = t }) end)))

-- term "≡" term "."
abbrev pub sides : List ℕ → ℕ → Reading (Written × Written)
sides text at =
    then_read (after_sign 0x22A2 text at) (λ t a.
    then_read (after_sign 0x2261 text a) (λ u b.
    then_read (sign 46 text b) (λ _ end. Got (t, u) end)))

-- "hint" number "≔"
abbrev pub hint_head : List ℕ → ℕ → Reading ℕ
hint_head text at =
    then_read (spelled (codes "hint") text at) (λ _ a.
    then_read (number text a) (λ n b. then_read (sign 0x2254 text b) (λ _ end. Got n end)))

-- "hint" number "≔" [x ":" term { "," x ":" term }] { ";" name "≟" term } "⊢" term "≡" term "."
abbrev pub hint : List ℕ → ℕ → Reading WrittenKind
hint text at =
    then_read (hint_head text at) (λ n a.
    then_read (variables text a) (λ xs b.
    then_read (many_from text (sees_sign 59 text) (equation text) b) (λ es c.
    then_read (sides text c) (λ s end. Got (Hint n xs es s.0 s.1) end))))

-- name "."
abbrev pub coercion : List ℕ → ℕ → Reading WrittenKind
coercion text at =
    then_read (name text at) (λ x a. then_read (sign 46 text a) (λ _ end. Got (Coercion x) end))

abbrev pub qed : List ℕ → ℕ → Reading WrittenKind
qed text at = then_read (sign 46 text at) (λ _ end. Got Qed end)

-- ---- actions

abbrev pub later_verb : List ℕ → Option Verb
later_verb w =
    if bytes_eq w (codes "whd") then Some verb.Whd else
    (if bytes_eq w (codes "normalize") then Some verb.Normalize else
    (if bytes_eq w (codes "assumption") then Some verb.Assumption else
    (if bytes_eq w (codes "constructor") then Some verb.Constructor else
    (if bytes_eq w (codes "generalize") then Some verb.Generalize else
    (if bytes_eq w (codes "clear") then Some verb.Clear else
    (if bytes_eq w (codes "cases") then Some verb.Cases else
    (if bytes_eq w (codes "elim") then Some verb.Elim else None)))))))

abbrev pub verb_of_word : List ℕ → Option Verb
verb_of_word w =
    if bytes_eq w (codes "intro") then Some verb.Intro else
    (if bytes_eq w (codes "exact") then Some verb.Exact else
    (if bytes_eq w (codes "refine") then Some verb.Refine else
    (if bytes_eq w (codes "apply") then Some verb.Apply else
    (if bytes_eq w (codes "cut") then Some verb.Cut else
    (if bytes_eq w (codes "lapply") then Some verb.Lapply else
    (if bytes_eq w (codes "change") then Some verb.Change else later_verb w))))))

abbrev pub verb_of_sign : ℕ → Option Verb
verb_of_sign c = if c == 35 then Some verb.Intro else (if c == 64 then Some verb.Apply else None)

-- the action that a token begins; `#` is `intro`, and `@` is `apply`
abbrev pub verb_of : List ℕ → Token → Option Verb
verb_of text t =
    if is_name_kind t.kind then verb_of_word (word_of text t) else verb_of_sign (sign_of text t)

abbrev pub with_term : Verb → Written → Deed
with_term verb.Exact t = Exact t
with_term verb.Refine t = Refine t
with_term verb.Apply t = Apply t
with_term verb.Cut t = Cut t
with_term verb.Lapply t = Lapply t
with_term verb.Change t = Change t
with_term verb.Generalize t = Generalize t
with_term verb.Cases t = Cases t
with_term verb.Elim t = Elim t
with_term _ t = Whd

-- what follows the first token of an action, within so many sequences
abbrev pub deed : Verb → ℕ → List ℕ → ℕ → Reading Deed
deed verb.Intro depth text at = then_read (binder text at) (λ x end. Got (Intro x) end)
deed verb.Clear depth text at = then_read (name text at) (λ x end. Got (Clear x) end)
deed verb.Constructor depth text at = then_read (number text at) (λ n end. Got (Constructor n) end)
deed verb.Whd depth text at = Got Whd at
deed verb.Normalize depth text at = Got Normalize at
deed verb.Assumption depth text at = Got Assumption at
deed v depth text at = then_read (term_at text at depth) (λ t end. Got (with_term v t) end)

abbrev pub action : Verb → ℕ → List ℕ → Token → Reading WrittenAction
action v depth text t =
    then_read (deed v depth text t.end) (λ d end. Got (record { start = t.start; deed = d }) end)
