-- How parts of a text are read: each from the place where the one before it ends.
use Rattle.std.specs.Prelude.{◌≡◌, ℕ, zero, suc, ◌-◌, ◌<◌, Bool, true, false, not, ◌&&◌, ◌==◌}
use Rattle.std.specs.Prelude.{if◌then◌else◌, List, [], ◌∷◌, length, take, drop, slice_index}
use Rattle.std.specs.Prelude.{bytes_eq, codes, Option, Some, None, Result, Ok, Err, MatchResult}
use Rattle.std.specs.Str.{IsCharBoundary}
use Rattle.mt_lexer.specs.declared.Token.{Token}
use Rattle.mt_lexer.specs.declared.TokenKind.{TokenKind}
use Rattle.mt_lexer.specs.declared.TokenKind.TheVariants as kind
use Rattle.mt_lexer.specs.declared.LexStop.{LexStop}
use Rattle.mt_lexer.specs.declared.LexStop.TheVariants as lex
use Rattle.mt_lexer.specs.Tokens.{chars_from, next_token}
use Rattle.mt_term.specs.Reasons.{Reason, Lex, Syntax, Incomplete}
use Rattle.mt_term.specs.ReasonOf.{reason_of}
use Rattle.mt_term.specs.declared.refusals.Halt.{Halt}
use Rattle.mt_term.specs.declared.refusals.Halt.TheVariants as halt

-- a part that is read, and its end; or the reason and the place of a fault
pub data Reading (A : Type 0) : Type 0 where
  Got : A → ℕ → Reading A
  Stops : Reason → ℕ → Reading A

-- one part, and then another from its end on
abbrev pub then_read : {A B : Type 0} → Reading A → (A → ℕ → Reading B) → Reading B
then_read (Got a end) rest = rest a end
then_read (Stops r at) rest = Stops r at

-- parts in a row, as long as one is seen to begin; `bound` bounds their number
abbrev pub many : {A : Type 0} → (ℕ → Bool) → (ℕ → Reading A) → ℕ → ℕ → Reading (List A)
many sees one zero at = Got [] at
many sees one (suc bound) at =
    elim (sees at) [
      | true ↦ then_read (one at)
          (λ a end. then_read (many sees one bound end) (λ more last. Got (a ∷ more) last))
      | false ↦ Got [] at
    ]

-- no more parts can be in a text than it has bytes from the place on
abbrev pub many_from : {A : Type 0} → List ℕ → (ℕ → Bool) → (ℕ → Reading A) → ℕ → Reading (List A)
many_from text sees one at = many sees one (length text - at) at

-- ---- tokens

abbrev pub needed_token : Token → TokenKind → Reading Token
needed_token t kind.End = Stops Incomplete t.start
needed_token t _ = Got t t.end

abbrev pub needed_from : Result Token LexStop → Reading Token
needed_from (Ok t) = needed_token t t.kind
needed_from (Err (lex.Lex at)) = Stops Lex at
needed_from (Err (lex.Incomplete at)) = Stops Incomplete at

-- a token that is needed
abbrev pub needed : List ℕ → ℕ → Reading Token
needed text at = needed_from (next_token text at)

-- the bytes of a token
abbrev pub word_of : List ℕ → Token → List ℕ
word_of text t = take (t.end - t.start) (drop t.start text)

-- `→` and `⇒` have a second spelling each
abbrev pub sign_from : ℕ → ℕ
sign_from c = if c == 45 then 0x2192 else (if c == 61 then 0x21D2 else c)

-- `fun` is `λ`, and `forall` is `∀`
abbrev pub sign_spelled : List ℕ → ℕ
sign_spelled w =
    if bytes_eq w (codes "fun") then 0x3BB else (if bytes_eq w (codes "forall") then 0x2200 else 0)

abbrev pub sign_by : TokenKind → List ℕ → Token → ℕ
sign_by kind.Sign text t = sign_from (slice_index (chars_from text t.start) 0)
sign_by kind.Reserved text t = sign_spelled (word_of text t)
sign_by _ text t = 0

-- the character of a sign, in its first spelling, or 0 where the token is no sign
abbrev pub sign_of : List ℕ → Token → ℕ
sign_of text t = sign_by t.kind text t

abbrev pub is_reserved_kind : TokenKind → Bool
is_reserved_kind kind.Reserved = true
is_reserved_kind _ = false

-- the token is this reserved word
abbrev pub is_word : List ℕ → List ℕ → Token → Bool
is_word w text t = is_reserved_kind t.kind && bytes_eq (word_of text t) w

abbrev pub is_name_kind : TokenKind → Bool
is_name_kind kind.Name = true
is_name_kind _ = false

-- the token is a name, and not `_`
abbrev pub is_name : List ℕ → Token → Bool
is_name text t = is_name_kind t.kind && not (bytes_eq (word_of text t) (codes "_"))

-- a token where one that passes is needed
abbrev pub passed : {A : Type 0} → Bool → Token → A → Reading A
passed b t a = if b then Got a t.end else Stops Syntax t.start

-- a sign, a reserved word, a name, the name of a binder, and a number
abbrev pub sign : ℕ → List ℕ → ℕ → Reading (Unit {0})
sign c text at = then_read (needed text at) (λ t _. passed (sign_of text t == c) t tt)

abbrev pub word : List ℕ → List ℕ → ℕ → Reading (Unit {0})
word w text at = then_read (needed text at) (λ t _. passed (is_word w text t) t tt)

abbrev pub name : List ℕ → ℕ → Reading (List ℕ)
name text at = then_read (needed text at) (λ t _. passed (is_name text t) t (word_of text t))

abbrev pub binder : List ℕ → ℕ → Reading (List ℕ)
binder text at = then_read (needed text at) (λ t _. passed (is_name_kind t.kind) t (word_of text t))

abbrev pub number_by : TokenKind → Token → Reading ℕ
number_by (kind.Number n) t = Got n t.end
number_by _ t = Stops Syntax t.start

abbrev pub number : List ℕ → ℕ → Reading ℕ
number text at = then_read (needed text at) (λ t _. number_by t.kind t)

-- the next token, if there is one
abbrev pub seen_token : Token → TokenKind → Option Token
seen_token t kind.End = None
seen_token t _ = Some t

abbrev pub seen_from : Result Token LexStop → Option Token
seen_from (Ok t) = seen_token t t.kind
seen_from (Err stop) = None

abbrev pub seen : List ℕ → ℕ → Option Token
seen text at = seen_from (next_token text at)

-- whether there is a next token, and it passes
abbrev pub sees_by : Option Token → (Token → Bool) → Bool
sees_by (Some t) p = p t
sees_by None p = false

abbrev pub sees : (Token → Bool) → List ℕ → ℕ → Bool
sees p text at = sees_by (seen text at) p

abbrev pub sees_sign : ℕ → List ℕ → ℕ → Bool
sees_sign c text at = sees (λ t. sign_of text t == c) text at

abbrev pub sees_word : List ℕ → List ℕ → ℕ → Bool
sees_word w text at = sees (is_word w text) text at

-- ---- calls against readings

-- the end of a part that was read from a place on
abbrev pub IsEnd : List ℕ → ℕ → ℕ → Type 0
IsEnd text at end = (at < end) × IsCharBoundary text end

-- a call halted as the reading does, or for want of memory
abbrev pub HaltsAs : {A : Type 0} → Reading A → Halt → Type 0
HaltsAs d (halt.Refused fault) = d ≡ Stops (reason_of fault.refusal) fault.at
HaltsAs d halt.Spent = ⊥
HaltsAs d halt.OutOfMemory = Unit {0}

-- a call read what the reading does, or memory was wanting
abbrev pub Reads : {T A : Type 0} → (T → A) → Reading A → Result (T × ℕ) Halt → Type 0
Reads view d r = MatchResult r (λ p. d ≡ Got (view p.0) p.1) (HaltsAs d)

-- the same of a part that has no value
abbrev pub Passes : Reading (Unit {0}) → Result ℕ Halt → Type 0
Passes d r = MatchResult r (λ end. d ≡ Got tt end) (HaltsAs d)

-- a fault's place is the bound of a character
abbrev pub StopsInText : List ℕ → Halt → Type 0
StopsInText text (halt.Refused fault) = IsCharBoundary text fault.at
StopsInText text halt.Spent = Unit {0}
StopsInText text halt.OutOfMemory = Unit {0}
