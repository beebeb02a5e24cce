-- A unit is the same in each text that begins with the same bytes up to its closing sign.
use Rattle.std.proofs.Common.{◌≡◌, ◌≢◌, ℕ, ◌<◌, ◌≤◌, Bool, true, false, ◌&&◌, ◌==◌, cond, List, Ok, Err, refl, sym, ap, ap₂, ◌∙◌, subst, arith}
use Rattle.std.specs.Prelude.{codes, bytes_eq, IsTrue, Option, Some, None, Result}
use Rattle.std.proofs.lemmas.Bool.{eqb-true}
use Rattle.std.proofs.lemmas.Bool.Decides.{nat_tests}
use Rattle.std.proofs.lemmas.Str.{IsUtf8-drop}
use Rattle.mt_lexer.specs.declared.Token.{Token}
use Rattle.mt_lexer.specs.declared.TokenKind.{TokenKind}
use Rattle.mt_lexer.specs.declared.TokenKind.TheVariants as kind
use Rattle.mt_lexer.specs.declared.LexStop.{LexStop}
use Rattle.mt_lexer.specs.declared.LexStop.TheVariants as lex
use Rattle.mt_lexer.specs.Shared.{is_closing}
use Rattle.mt_lexer.specs.Tokens.{next_token}
use Rattle.mt_term.specs.Reasons.{Reason, Syntax}
use Rattle.mt_term_parser.specs.Readings.{Reading, Got, Stops, then_read, sign_of, is_reserved_kind, is_name_kind}
use Rattle.mt_tiny.specs.declared.Tiny.TheVariants as tiny
use Rattle.mt_unit_parser.specs.declared.words.Verb.{Verb}
use Rattle.mt_unit_parser.specs.declared.words.Command.{Command}
use Rattle.mt_unit_parser.specs.declared.words.Command.TheVariants as command
use Rattle.mt_unit_parser.specs.declared.words.Lead.{Lead}
use Rattle.mt_unit_parser.specs.declared.words.Lead.TheVariants as lead
use Rattle.mt_unit_parser.specs.WrittenUnits.{WrittenKind, WrittenUnit, Step as OneStep, Block}
use Rattle.mt_unit_parser.specs.Units.{is_spelled, verb_of}
use Rattle.mt_unit_parser.specs.Blocks.{lead_by, lead_of, is_number_kind, closes, phrase, plain, command_of_word, command_of, command_by, block, named, all_named, signed_step, other_kind, other_step, step_by, is_command, unit_by, unit_from_kind, unit_from, unit}
use Rattle.mt_unit_laws.specs.UnitLaw.{UnitLaw}
use Rattle.mt_unit_laws.proofs.Tokens.{Stands, Next, next-stands}
use Rattle.mt_unit_laws.proofs.Texts.{Front, Closed, SameToken, Again, again}
use Rattle.mt_unit_laws.proofs.Local.{Near, local-under}
use Rattle.mt_unit_laws.proofs.Terms.{sign-same}
use Rattle.mt_unit_laws.proofs.Final.{closed-by, Final, final-stop, final-then, final-map, final-pass, final-sign}
use Rattle.mt_unit_laws.proofs.Commands.{is_spelled-same, nums-local, action-local, constraint-final, assumed-final, theorem-final, defined-final, inductive-final, letting-final, hint-final, coercion-final, qed-final}
use Rattle.mt_unit_laws.proofs.Closed_tacticals.{lead-same, sequence-local}

-- ---- parts that end with a closing sign

closes-closing : (c : ℕ) → closes c ≡ true → IsTrue (is_closing c)
closes-closing c h = grind (arith, nat_tests)

phrase-final : {f : Front} {S : Type 0} {at : ℕ} (start : ℕ) (k : WrittenKind) → Final f S at (phrase start k f.first at) (phrase start k f.second at)
phrase-final {f} {S} {at} start k =
    final-pass (λ t. closes (sign_of f.first t)) (λ t. closes (sign_of f.second t)) (λ t. record { start = start; end = at; seen = t.end; kind = k })
    (λ t e. ap closes (sign-same f t e)) (λ t h. closes-closing (sign_of f.first t) h)

block-final : {f : Front} {S : Type 0} {at : ℕ} → Final f S at (block f.first at) (block f.second at)
block-final {f} {S} {at} = final-then (local-under (sequence-local 200 at) (λ _. tt)) (λ s a. final-map (λ _ end. Block s) (final-sign 125 refl))

named-final : {f : Front} {S : Type 0} (t : Token) → Final f S t.start (named f.first t) (named f.second t)
named-final t = final-then nums-local (λ ns a. final-map (λ _ end. OneStep (tiny.Positions ns)) (final-sign 58 refl))

all-final : {f : Front} {S : Type 0} {at : ℕ} → Final f S at (all_named f.first at) (all_named f.second at)
all-final = final-map (λ _ end. OneStep tiny.Wildcard) (final-sign 58 refl)

command-final : {f : Front} (t : Token) (c : Command) → Final f (SameToken f t) t.end (command_by c f.first t) (command_by c f.second t)
command-final t command.Universe = constraint-final
command-final t command.Axiom = assumed-final
command-final t command.Definition = defined-final
command-final t command.Inductive = inductive-final false
command-final t command.Coinductive = inductive-final true
command-final t command.Let = letting-final
command-final t command.Unification = hint-final
command-final t command.Coercion = coercion-final
command-final t command.Theorem = theorem-final
command-final t command.Qed = qed-final
command-final t command.Other = final-stop Syntax t.start (λ e. e.begins) _

plain-final : {f : Front} {S : Type 0} {at : ℕ} {r s : Reading WrittenKind} (start : ℕ) → Final f S at r s → Final f S at (plain start r) (plain start s)
plain-final start l = final-map (λ k end. record { start = start; end = end; seen = end; kind = k }) l

-- ---- units, by their first token

pub record Whole {A : Type 0} (f : Front) (at : ℕ) (t : Token) (r s : Reading A) : Type 0 where
  pub closed : Next f.first at t → t.kind ≢ kind.End → (x : A) → r ≡ Got x f.n → Closed f.first f.n
  pub early : Next f.first at t → t.kind ≢ kind.End → (x : A) → r ≡ Got x f.n → t.start < f.n
  pub same : SameToken f t → Closed f.first f.n → Next f.first at t → (x : A) → r ≡ Got x f.n → s ≡ Got x f.n
  pub halts : f.first ≡ f.second → SameToken f t → Next f.first at t → (reason : Reason) (place : ℕ) → r ≡ Stops reason place → Stands f.first place

whole-end : {A : Type 0} {f : Front} {at : ℕ} (t : Token) {r s : Reading A} → Final f (SameToken f t) t.end r s → Whole f at t r s
whole-end {f = f} t l = record {
  closed = λ n some x e. l.closed n.ends x e;
  early = λ n some x e.
      let near : Near f t.end = l.near n.ends x e in
      let m : Next f.first t.end near.token = next-stands f.first t.end near.token n.ends near.next in
      let a : t.end ≤ near.token.start = m.after in
      let b : near.token.start < f.n = near.early in
      let o : t.start ≤ t.end = n.order in
      omega arith;
  same = λ d c n x e. l.same d c n.ends x e;
  halts = λ q d n why place e. l.halts q d n.ends why place e;
}

whole-start : {A : Type 0} {f : Front} {at : ℕ} (t : Token) {r s : Reading A} → Final f (SameToken f t) t.start r s → Whole f at t r s
whole-start {f = f} t l = record {
  closed = λ n some x e. l.closed n.begins x e;
  early = λ n some x e.
      let near : Near f t.start = l.near n.begins x e in
      let m : Next f.first t.start near.token = next-stands f.first t.start near.token n.begins near.next in
      let a : t.start ≤ near.token.start = m.after in
      let b : near.token.start < f.n = near.early in
      omega arith;
  same = λ d c n x e. l.same d c n.begins x e;
  halts = λ q d n why place e. l.halts q d n.begins why place e;
}

-- a unit of one token, which is a closing sign
whole-sign : {f : Front} {at : ℕ} (t : Token) (c : ℕ) (k : WrittenKind) → IsTrue (is_closing c) → sign_of f.first t ≡ c
    → Whole f at t (plain t.start (Got k t.end)) (plain t.start (Got k t.end))
whole-sign {f} {at} t c k h e = record {
  closed = λ n some x q. let end : t.end ≡ f.n = cc in subst (Closed f.first) end (closed-by f.first at t c n (n.some some) h e);
  early = λ n some x q. let end : t.end ≡ f.n = cc in let o : t.start < t.end = n.some some in omega arith;
  same = λ d g n x q. q;
  halts = λ o d n why place q. absurd (cc);
}

whole-stop : {A : Type 0} {f : Front} {at : ℕ} (t : Token) (s : Reading A) → Whole f at t (Stops Syntax t.start) s
whole-stop t s = whole-end t (final-stop Syntax t.start (λ e. e.begins) s)

whole-to : {A : Type 0} {f : Front} {at : ℕ} {t : Token} {r s : Reading A} → Whole f at t r s → (s' : Reading A) → (SameToken f t → s ≡ s') → Whole f at t r s'
whole-to l s' e = record {
  closed = l.closed;
  early = l.early;
  same = λ d c n x q. sym (e d) ∙ l.same d c n x q;
  halts = l.halts;
}

-- ---- steps of one sign

is-open : (a b c d e : Bool) → cond a lead.Skip (cond b lead.Focus (cond c lead.Open (cond d lead.Semicolon (cond e lead.Dot lead.Other)))) ≡ lead.Open → c ≡ true
is-open true b c d e h = absurd (cc)
is-open false true c d e h = absurd (cc)
is-open false false true d e h = refl
is-open false false false true e h = absurd (cc)
is-open false false false false true h = absurd (cc)
is-open false false false false false h = absurd (cc)

is-semicolon : (a b c d e : Bool) → cond a lead.Skip (cond b lead.Focus (cond c lead.Open (cond d lead.Semicolon (cond e lead.Dot lead.Other)))) ≡ lead.Semicolon → d ≡ true
is-semicolon true b c d e h = absurd (cc)
is-semicolon false true c d e h = absurd (cc)
is-semicolon false false true d e h = absurd (cc)
is-semicolon false false false true e h = refl
is-semicolon false false false false true h = absurd (cc)
is-semicolon false false false false false h = absurd (cc)

is-dot : (a b c d e : Bool) → cond a lead.Skip (cond b lead.Focus (cond c lead.Open (cond d lead.Semicolon (cond e lead.Dot lead.Other)))) ≡ lead.Dot → e ≡ true
is-dot true b c d e h = absurd (cc)
is-dot false true c d e h = absurd (cc)
is-dot false false true d e h = absurd (cc)
is-dot false false false true e h = absurd (cc)
is-dot false false false false true h = refl
is-dot false false false false false h = absurd (cc)

lead-open : (text : List ℕ) (t : Token) (v : Option Verb) → lead_by v text t ≡ lead.Open → sign_of text t ≡ 91
lead-open text t (Some v) h = absurd (cc)
lead-open text t None h =
    eqb-true (sign_of text t) 91 (is-open (is_spelled (codes "skip") text t) (is_spelled (codes "focus") text t) (sign_of text t == 91) (sign_of text t == 59) (sign_of text t == 46) h)

lead-semicolon : (text : List ℕ) (t : Token) (v : Option Verb) → lead_by v text t ≡ lead.Semicolon → sign_of text t ≡ 59
lead-semicolon text t (Some v) h = absurd (cc)
lead-semicolon text t None h =
    eqb-true (sign_of text t) 59 (is-semicolon (is_spelled (codes "skip") text t) (is_spelled (codes "focus") text t) (sign_of text t == 91) (sign_of text t == 59) (sign_of text t == 46) h)

lead-dot : (text : List ℕ) (t : Token) (v : Option Verb) → lead_by v text t ≡ lead.Dot → sign_of text t ≡ 46
lead-dot text t (Some v) h = absurd (cc)
lead-dot text t None h =
    eqb-true (sign_of text t) 46 (is-dot (is_spelled (codes "skip") text t) (is_spelled (codes "focus") text t) (sign_of text t == 91) (sign_of text t == 59) (sign_of text t == 46) h)

-- ---- steps

abbrev signed_by : List ℕ → Token → Bool → Bool → Bool → Bool → Reading WrittenKind
signed_by text t bar close star brace =
    cond bar (Got (OneStep tiny.Bar) t.end) (cond close (Got (OneStep tiny.BranchClose) t.end) (cond star (all_named text t.end) (cond brace (block text t.end) (Stops Syntax t.start))))

signed-whole : {f : Front} {at : ℕ} (t : Token) (bar close star brace : Bool) → (sign_of f.first t == 124) ≡ bar → (sign_of f.first t == 93) ≡ close
    → Whole f at t (plain t.start (signed_by f.first t bar close star brace)) (plain t.start (signed_by f.second t bar close star brace))
signed-whole {f} t true close star brace e g = whole-sign t 124 (OneStep tiny.Bar) refl (eqb-true (sign_of f.first t) 124 e)
signed-whole {f} t false true star brace e g = whole-sign t 93 (OneStep tiny.BranchClose) refl (eqb-true (sign_of f.first t) 93 g)
signed-whole t false false true brace e g = whole-end t (plain-final t.start all-final)
signed-whole t false false false true e g = whole-end t (plain-final t.start block-final)
signed-whole t false false false false e g = whole-stop t _

kind-whole : {f : Front} {at : ℕ} (t : Token) (number : Bool)
    → Whole f at t (plain t.start (cond number (named f.first t) (signed_step (sign_of f.first t) f.first t))) (plain t.start (cond number (named f.second t) (signed_step (sign_of f.second t) f.second t)))
kind-whole t true = whole-start t (plain-final t.start (named-final t))
kind-whole {f} t false =
    whole-to (signed-whole t (sign_of f.first t == 124) (sign_of f.first t == 93) (sign_of f.first t == 42) (sign_of f.first t == 123) refl refl) _
    (λ e. ap (λ s. plain t.start (signed_by f.second t (s == 124) (s == 93) (s == 42) (s == 123))) (sign-same f t e))

other-by : {f : Front} {at : ℕ} (t : Token) (unfocus : Bool)
    → Whole f at t (cond unfocus (phrase t.start (OneStep tiny.Unfocus) f.first t.end) (plain t.start (other_kind f.first t)))
    (cond unfocus (phrase t.start (OneStep tiny.Unfocus) f.second t.end) (plain t.start (other_kind f.second t)))
other-by t true = whole-end t (phrase-final t.start (OneStep tiny.Unfocus))
other-by t false = kind-whole t (is_number_kind t.kind)

other-whole : {f : Front} {at : ℕ} (t : Token) → Whole f at t (other_step f.first t) (other_step f.second t)
other-whole {f} t =
    whole-to (other-by t (is_spelled (codes "unfocus") f.first t)) _
    (λ e. ap (λ b. cond b (phrase t.start (OneStep tiny.Unfocus) f.second t.end) (plain t.start (other_kind f.second t))) (is_spelled-same (codes "unfocus") f t e))

step-whole : {f : Front} {at : ℕ} (t : Token) (l : Lead) → lead_of f.first t ≡ l → Whole f at t (step_by l f.first t) (step_by l f.second t)
step-whole t (lead.Action v) e = whole-end t (final-then (action-local v 0 t) (λ a end. phrase-final t.start (OneStep (tiny.Action a))))
step-whole t lead.Skip e = whole-end t (phrase-final t.start (OneStep tiny.Skip))
step-whole t lead.Focus e = whole-end t (final-then nums-local (λ ns end. phrase-final t.start (OneStep (tiny.Focus ns))))
step-whole {f} t lead.Open e = whole-sign t 91 (OneStep tiny.BranchOpen) refl (lead-open f.first t (verb_of f.first t) e)
step-whole {f} t lead.Semicolon e = whole-sign t 59 (OneStep tiny.Semicolon) refl (lead-semicolon f.first t (verb_of f.first t) e)
step-whole {f} t lead.Dot e = whole-sign t 46 (OneStep tiny.Dot) refl (lead-dot f.first t (verb_of f.first t) e)
step-whole t lead.Other e = other-whole t

-- ---- units

abbrev chosen : Command → Lead → List ℕ → Token → Reading WrittenUnit
chosen c l text t = cond (is_command c) (plain t.start (command_by c text t)) (step_by l text t)

chosen-whole : {f : Front} {at : ℕ} (t : Token) (c : Command) (l : Lead) → lead_of f.first t ≡ l → Whole f at t (chosen c l f.first t) (chosen c l f.second t)
chosen-whole t command.Universe l e = whole-end t (plain-final t.start (command-final t command.Universe))
chosen-whole t command.Axiom l e = whole-end t (plain-final t.start (command-final t command.Axiom))
chosen-whole t command.Definition l e = whole-end t (plain-final t.start (command-final t command.Definition))
chosen-whole t command.Inductive l e = whole-end t (plain-final t.start (command-final t command.Inductive))
chosen-whole t command.Coinductive l e = whole-end t (plain-final t.start (command-final t command.Coinductive))
chosen-whole t command.Let l e = whole-end t (plain-final t.start (command-final t command.Let))
chosen-whole t command.Unification l e = whole-end t (plain-final t.start (command-final t command.Unification))
chosen-whole t command.Coercion l e = whole-end t (plain-final t.start (command-final t command.Coercion))
chosen-whole t command.Theorem l e = whole-end t (plain-final t.start (command-final t command.Theorem))
chosen-whole t command.Qed l e = whole-end t (plain-final t.start (command-final t command.Qed))
chosen-whole t command.Other l e = step-whole t l e

command-same : (f : Front) (t : Token) → SameToken f t → command_of f.first t ≡ command_of f.second t
command-same f t e =
    ap (λ w. cond (is_reserved_kind t.kind && bytes_eq w (codes "let")) command.Let (cond (is_name_kind t.kind) (command_of_word w) command.Other)) e.word

pub unit-whole : {f : Front} {at : ℕ} (t : Token) → Whole f at t (unit_by f.first t) (unit_by f.second t)
unit-whole {f} t =
    whole-to (chosen-whole t (command_of f.first t) (lead_of f.first t) refl) _
    (λ e. ap₂ (λ c l. chosen c l f.second t) (command-same f t e) (lead-same f t e))

-- ---- the law

pub some-unit : (r : Reading WrittenUnit) (u : WrittenUnit) (n : ℕ) → then_read r (λ u end. Got (Some u) end) ≡ Got (Some u) n → r ≡ Got u n
some-unit (Got w e) u n h =
    let p : Some w ≡ Some u = cc in
    let q : e ≡ n = cc in
    let o : w ≡ u = cc in ap₂ (λ w e. Got w e) o q
some-unit (Stops reason place) u n h = absurd (cc)

pub record Begun (text : List ℕ) (t : Token) (u : WrittenUnit) (n : ℕ) : Type 0 where
  pub some : t.kind ≢ kind.End
  pub reads : unit_by text t ≡ Got u n

pub begun-by : (text : List ℕ) (t : Token) (k : TokenKind) (u : WrittenUnit) (n : ℕ) → t.kind ≡ k → unit_from_kind k text t ≡ Got (Some u) n → Begun text t u n
begun-by text t kind.Name u n q h = record { some = λ x. let z : kind.Name ≡ kind.End = sym q ∙ x in absurd (cc); reads = some-unit (unit_by text t) u n h }
begun-by text t kind.Reserved u n q h = record { some = λ x. let z : kind.Reserved ≡ kind.End = sym q ∙ x in absurd (cc); reads = some-unit (unit_by text t) u n h }
begun-by text t (kind.Number m) u n q h = record { some = λ x. let z : kind.Number m ≡ kind.End = sym q ∙ x in absurd (cc); reads = some-unit (unit_by text t) u n h }
begun-by text t kind.Sign u n q h = record { some = λ x. let z : kind.Sign ≡ kind.End = sym q ∙ x in absurd (cc); reads = some-unit (unit_by text t) u n h }
begun-by text t kind.End u n q h = absurd (cc)

again-by : (text : List ℕ) (t : Token) (k : TokenKind) (u : WrittenUnit) (n : ℕ) → t.kind ≡ k → t.kind ≢ kind.End → unit_by text t ≡ Got u n → unit_from_kind k text t ≡ Got (Some u) n
again-by text t kind.Name u n q some h = ap (λ r. then_read r (λ u end. Got (Some u) end)) h
again-by text t kind.Reserved u n q some h = ap (λ r. then_read r (λ u end. Got (Some u) end)) h
again-by text t (kind.Number m) u n q some h = ap (λ r. then_read r (λ u end. Got (Some u) end)) h
again-by text t kind.Sign u n q some h = ap (λ r. then_read r (λ u end. Got (Some u) end)) h
again-by text t kind.End u n q some h = absurd (some q)

law-by : (f : Front) (at : ℕ) (u : WrittenUnit) → Stands f.first at → (r : Result Token LexStop) → next_token f.first at ≡ r
    → unit_from r f.first ≡ Got (Some u) f.n → unit f.second at ≡ Got (Some u) f.n
law-by f at u v (Ok t) is h =
    let b : Begun f.first t u f.n = begun-by f.first t t.kind u f.n refl h in
    let n : Next f.first at t = next-stands f.first at t v is in
    let w : Whole f at t (unit_by f.first t) (unit_by f.second t) = unit-whole t in
    let c : Closed f.first f.n = w.closed n b.some u b.reads in
    let a : Again f at t = again f at t c v is (w.early n b.some u b.reads) in
    ap (λ r. unit_from r f.second) a.same ∙ again-by f.second t t.kind u f.n refl b.some (w.same a.token c n u b.reads)
law-by f at u v (Err (lex.Lex place)) is h = absurd (cc)
law-by f at u v (Err (lex.Incomplete place)) is h = absurd (cc)

pub unit_law : UnitLaw
unit_law a b at u first second boundary h shared =
    law-by (record { first = a; second = b; n = u.seen; shared = shared; second_is_text = second }) at u (record { inside = boundary.0; utf8 = IsUtf8-drop a at first boundary }) (next_token a at) refl h
