-- What the parts of a text carry: a part that is read at a character ends at one, and its value is as a relation says.
use Rattle.std.proofs.Common.{◌≡◌, ℕ, zero, suc, ◌-◌, Bool, true, false, cond, ◌==◌, List, [], ◌∷◌, length, refl, sym, ap, ◌∙◌, subst}
use Rattle.std.specs.Str.{IsCharBoundary}
use Rattle.std.proofs.lemmas.Str.{IsCharBoundary-from_drop}
use Rattle.mt_lexer.specs.declared.Token.{Token}
use Rattle.mt_lexer.specs.declared.TokenKind.{TokenKind}
use Rattle.mt_lexer.specs.declared.TokenKind.TheVariants as kind
use Rattle.mt_lexer.specs.Tokens.{next_token}
use Rattle.mt_term.specs.Reasons.{Reason, Syntax}
use Rattle.mt_term_parser.specs.Readings.{Reading, Got, Stops, then_read, many, many_from, needed, passed, sign_of, is_word, is_name, is_name_kind, word_of, sign, word, name, binder, number_by, number, sees_sign}
use Rattle.mt_term_parser.specs.Grammar.{led, separated}
use Rattle.mt_unit_laws.specs.EachPlace.{EachOf}
use Rattle.mt_unit_laws.proofs.Tokens.{Stands, Next, next-stands}
use Rattle.mt_unit_laws.proofs.Local.{Needed, needed-is}

pub record Carries {A : Type 0} (text : List ℕ) (Q : A → Type 0) (at : ℕ) (r : Reading A) : Type 0 where
  pub holds : Stands text at → (x : A) (end : ℕ) → r ≡ Got x end → Q x
  pub stays : Stands text at → (x : A) (end : ℕ) → r ≡ Got x end → Stands text end

-- of a value without places nothing is asked
abbrev pub Nothing : {A : Type 0} → A → Type 0
Nothing x = Unit {0}

pub bound-at : (text : List ℕ) (at : ℕ) → Stands text at → IsCharBoundary text at
bound-at text at v = IsCharBoundary-from_drop text at v.inside v.utf8

pub carries-got : {A : Type 0} {text : List ℕ} {Q : A → Type 0} {at : ℕ} (x : A) → Q x → Carries text Q at (Got x at)
carries-got {text = text} {Q = Q} {at = at} x q = record {
  holds = λ v y end e. let p : x ≡ y = cc in subst Q p q;
  stays = λ v y end e. let p : at ≡ end = cc in subst (Stands text) p v;
}

pub carries-stop : {A : Type 0} {text : List ℕ} {Q : A → Type 0} {at : ℕ} (reason : Reason) (place : ℕ) → Carries text Q at (Stops reason place)
carries-stop reason place = record { holds = λ v y end e. absurd (cc); stays = λ v y end e. absurd (cc) }

-- what is read from another place, which is a character's where this one is
pub carries-at : {A : Type 0} {text : List ℕ} {Q : A → Type 0} {at : ℕ} {r : Reading A} (place : ℕ) → (Stands text at → Stands text place) → Carries text Q place r → Carries text Q at r
carries-at place to c = record { holds = λ v y end e. c.holds (to v) y end e; stays = λ v y end e. c.stays (to v) y end e }

-- where the place is a character's
pub carries-where : {A : Type 0} {text : List ℕ} {Q : A → Type 0} {at : ℕ} {r : Reading A} → (Stands text at → Carries text Q at r) → Carries text Q at r
carries-where c = record { holds = λ v y end e. (c v).holds v y end e; stays = λ v y end e. (c v).stays v y end e }

-- one part, and then another
pub carries-then : {A B : Type 0} {text : List ℕ} {Q : A → Type 0} {R : B → Type 0} {at : ℕ} {r : Reading A} {g : A → ℕ → Reading B}
    → Carries text Q at r → ((x : A) (e : ℕ) → Q x → Carries text R e (g x e)) → Carries text R at (then_read r g)
carries-then {r = Got x e} c k = record {
  holds = λ v y end h. (k x e (c.holds v x e refl)).holds (c.stays v x e refl) y end h;
  stays = λ v y end h. (k x e (c.holds v x e refl)).stays (c.stays v x e refl) y end h;
}
carries-then {r = Stops reason place} c k = carries-stop reason place

carries-token-by : {B : Type 0} {text : List ℕ} {R : B → Type 0} {at : ℕ} (g : Token → ℕ → Reading B) → ((t : Token) → IsCharBoundary text t.start → Carries text R t.end (g t t.end))
    → (r : Reading Token) → needed text at ≡ r → Carries text R at (then_read r g)
carries-token-by {text = text} {at = at} g k (Got t e) q =
    let n : Needed (next_token text at) t e = needed-is (next_token text at) t e q in
    let next : Stands text at → Next text at t = λ v. next-stands text at t v n.is in
    record {
      holds = λ v y end h. (k t (bound-at text t.start (next v).begins)).holds (next v).ends y end (ap (g t) (sym n.end) ∙ h);
      stays = λ v y end h. (k t (bound-at text t.start (next v).begins)).stays (next v).ends y end (ap (g t) (sym n.end) ∙ h);
    }
carries-token-by g k (Stops reason place) q = carries-stop reason place

-- a token that is needed, and a part from its end on
pub carries-token : {B : Type 0} {text : List ℕ} {R : B → Type 0} {at : ℕ} {g : Token → Reading B} → ((t : Token) → IsCharBoundary text t.start → Carries text R t.end (g t))
    → Carries text R at (then_read (needed text at) (λ t _. g t))
carries-token {text = text} {at = at} {g = g} k = carries-token-by (λ t _. g t) k (needed text at) refl

pub carries-after : {B : Type 0} {text : List ℕ} {R : B → Type 0} {at : ℕ} (g : Token → ℕ → Reading B) → ((t : Token) → IsCharBoundary text t.start → Carries text R t.end (g t t.end))
    → Carries text R at (then_read (needed text at) g)
carries-after {text = text} {at = at} g k = carries-token-by g k (needed text at) refl

pub carries-pass : {A : Type 0} {text : List ℕ} {Q : A → Type 0} (t : Token) (b : Bool) (x : A) → Q x → Carries text Q t.end (passed b t x)
carries-pass t true x q = carries-got x q
carries-pass t false x q = carries-stop Syntax t.start

pub carries-if : {A : Type 0} {text : List ℕ} {Q : A → Type 0} {at : ℕ} {r s : Reading A} (b : Bool) → Carries text Q at r → Carries text Q at s → Carries text Q at (cond b r s)
carries-if true c d = c
carries-if false c d = d

-- ---- parts in a row

abbrev onward : {A : Type 0} → (ℕ → Bool) → (ℕ → Reading A) → ℕ → ℕ → Bool → Reading (List A)
onward {A} look one bound at b =
    elim b as (λ _. Reading (List A)) [
      | true ↦ then_read (one at) (λ a end. then_read (many look one bound end) (λ more last. Got (a ∷ more) last))
      | false ↦ Got [] at
    ]

module _ {A : Type 0} (text : List ℕ) (Q : A → Type 0) (one : ℕ → Reading A) (parts : (at : ℕ) → Carries text Q at (one at)) where
  seen-carries : (look : ℕ → Bool) (k at : ℕ) → ((place : ℕ) → Carries text (EachOf Q) place (many look one k place)) → (b : Bool) → Carries text (EachOf Q) at (onward look one k at b)
  seen-carries look k at later true =
      carries-then (parts at) (λ a end q.
      carries-then (later end) (λ more last qs. carries-got {Q = EachOf Q} (a ∷ more) (q, qs)))
  seen-carries look k at later false = carries-got {Q = EachOf Q} [] tt

  many-carries : (look : ℕ → Bool) (k at : ℕ) → Carries text (EachOf Q) at (many look one k at)
  many-carries look zero at = carries-got {Q = EachOf Q} [] tt
  many-carries look (suc k) at = seen-carries look k at (many-carries look k) (look at)

  pub row-carries : (look : ℕ → Bool) (at : ℕ) → Carries text (EachOf Q) at (many_from text look one at)
  row-carries look at = many-carries look (length text - at) at

-- ---- tokens without places

pub sign-carries : {text : List ℕ} {at : ℕ} (c : ℕ) → Carries text Nothing at (sign c text at)
sign-carries {text} c = carries-token (λ t p. carries-pass t (sign_of text t == c) tt tt)

pub word-carries : {text : List ℕ} {at : ℕ} (w : List ℕ) → Carries text Nothing at (word w text at)
word-carries {text} w = carries-token (λ t p. carries-pass t (is_word w text t) tt tt)

pub name-carries : {text : List ℕ} {at : ℕ} → Carries text Nothing at (name text at)
name-carries {text} = carries-token (λ t p. carries-pass t (is_name text t) (word_of text t) tt)

pub binder-carries : {text : List ℕ} {at : ℕ} → Carries text Nothing at (binder text at)
binder-carries {text} = carries-token (λ t p. carries-pass t (is_name_kind t.kind) (word_of text t) tt)

number-by : {text : List ℕ} (t : Token) (k : TokenKind) → Carries text Nothing t.end (number_by k t)
number-by t (kind.Number n) = carries-got n tt
number-by t kind.Name = carries-stop Syntax t.start
number-by t kind.Reserved = carries-stop Syntax t.start
number-by t kind.Sign = carries-stop Syntax t.start
number-by t kind.End = carries-stop Syntax t.start

pub number-carries : {text : List ℕ} {at : ℕ} → Carries text Nothing at (number text at)
number-carries {text} = carries-token (λ t p. number-by t t.kind)

-- ---- parts with a sign between them

pub led-carries : {A : Type 0} {text : List ℕ} (Q : A → Type 0) (c : ℕ) (one : ℕ → Reading A) → ((at : ℕ) → Carries text Q at (one at)) → (at : ℕ) → Carries text Q at (led c text one at)
led-carries Q c one parts at = carries-then (sign-carries c) (λ _ place _. parts place)

pub separated-carries : {A : Type 0} {text : List ℕ} (Q : A → Type 0) (c : ℕ) (one : ℕ → Reading A) → ((at : ℕ) → Carries text Q at (one at)) → (at : ℕ) → Carries text (EachOf Q) at (separated c text one at)
separated-carries {text = text} Q c one parts at =
    carries-then (parts at) (λ a end q.
    carries-then (row-carries text Q (led c text one) (led-carries Q c one parts) (sees_sign c text) end) (λ more last qs.
    carries-got {Q = EachOf Q} (a ∷ more) (q, qs)))
