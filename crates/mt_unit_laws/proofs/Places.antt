-- Where units and faults stand.
use Rattle.std.proofs.Common.{◌≡◌, ℕ, ◌+◌, ◌-◌, ◌<◌, ◌≤◌, ◌⊎◌, Bool, true, false, cond, List, length, Ok, Err, refl, sym, ap, ap₂, ◌∙◌, subst, arith, inl, inr}
use Rattle.std.specs.Prelude.{codes, Some, Result}
use Rattle.std.specs.Str.{IsUtf8, IsCharBoundary}
use Rattle.std.proofs.lemmas.Str.{IsUtf8-drop, IsCharBoundary-from_drop, IsCharBoundary-after_ascii}
use Rattle.mt_lexer.specs.declared.Token.{Token}
use Rattle.mt_lexer.specs.declared.TokenKind.{TokenKind}
use Rattle.mt_lexer.specs.declared.TokenKind.TheVariants as kind
use Rattle.mt_lexer.specs.declared.LexStop.{LexStop}
use Rattle.mt_lexer.specs.declared.LexStop.TheVariants as lex
use Rattle.mt_lexer.specs.Tokens.{next_token}
use Rattle.mt_term.specs.Reasons.{Reason}
use Rattle.mt_term_parser.specs.Readings.{Reading, Got, Stops, then_read, needed, passed, sign_of}
use Rattle.mt_tiny.specs.declared.Tiny.TheVariants as tiny
use Rattle.mt_unit_parser.specs.declared.words.Lead.{Lead}
use Rattle.mt_unit_parser.specs.declared.words.Lead.TheVariants as lead
use Rattle.mt_unit_parser.specs.WrittenUnits.{WrittenKind, WrittenUnit, Step as OneStep}
use Rattle.mt_unit_parser.specs.Units.{is_spelled, nums, action}
use Rattle.mt_unit_parser.specs.Blocks.{lead_of, closes, phrase, plain, command_of, command_by, other_kind, step_by, is_command, unit_by, unit_from_kind, unit_from}
use Rattle.mt_unit_laws.specs.UnitLaw.{IsPlacedUnit, PlaceLaw, FaultLaw}
use Rattle.mt_unit_laws.proofs.Tokens.{Stands, Next, next-stands, fault-stands}
use Rattle.mt_unit_laws.proofs.Texts.{Front, Closed, one-text}
use Rattle.mt_unit_laws.proofs.Texts.{closes as closes-sign}
use Rattle.mt_unit_laws.proofs.Local.{Local, Needed, needed-is}
use Rattle.mt_unit_laws.proofs.Commands.{nums-local, action-local}
use Rattle.mt_unit_laws.proofs.Units.{Whole, unit-whole, Begun, begun-by}

-- a text beside itself
abbrev alone : (text : List ℕ) → IsUtf8 text → ℕ → Front
alone text u n = record { first = text; second = text; n = n; shared = refl; second_is_text = u }

-- ---- where a unit stands, by its first token

record Spans (text : List ℕ) (t : Token) (n : ℕ) (u : WrittenUnit) : Type 0 where
  pub starts : u.start ≡ t.start
  pub sees : u.seen ≡ n
  pub reach : u.end ≤ n
  pub stop : (u.end ≡ n) ⊎ (Stands text u.end × (t.end ≤ u.end))

plain-spans : (text : List ℕ) (t : Token) (r : Reading WrittenKind) (u : WrittenUnit) (n : ℕ) → plain t.start r ≡ Got u n → Spans text t n u
plain-spans text t (Got k e) u n h =
    let whole : WrittenUnit = record { start = t.start; end = e; seen = e; kind = k } in
    let p : whole ≡ u = cc in
    let q : e ≡ n = cc in
    let end : u.end ≡ e = sym (ap (λ (w : WrittenUnit). w.end) p) in
    record {
      starts = sym (ap (λ (w : WrittenUnit). w.start) p);
      sees = sym (ap (λ (w : WrittenUnit). w.seen) p) ∙ q;
      reach = omega arith;
      stop = inl (end ∙ q);
    }
plain-spans text t (Stops reason place) u n h = absurd (cc)

phrase-pass : (text : List ℕ) (t : Token) (k : WrittenKind) (e : ℕ) (u : WrittenUnit) (n : ℕ) (s : Token) (b : Bool) → Stands text e → t.end ≤ e → e ≤ s.start → s.start < s.end
    → passed b s (record { start = t.start; end = e; seen = s.end; kind = k }) ≡ Got u n → Spans text t n u
phrase-pass text t k e u n s true v after before order h =
    let whole : WrittenUnit = record { start = t.start; end = e; seen = s.end; kind = k } in
    let p : whole ≡ u = cc in
    let q : s.end ≡ n = cc in
    let end : u.end ≡ e = sym (ap (λ (w : WrittenUnit). w.end) p) in
    record {
      starts = sym (ap (λ (w : WrittenUnit). w.start) p);
      sees = sym (ap (λ (w : WrittenUnit). w.seen) p) ∙ q;
      reach = omega arith;
      stop = inr (subst (Stands text) (sym end) v, omega arith);
    }
phrase-pass text t k e u n s false v after before order h = absurd (cc)

phrase-by : (text : List ℕ) (t : Token) (k : WrittenKind) (e : ℕ) (u : WrittenUnit) (n : ℕ) → Stands text e → t.end ≤ e → (r : Reading Token) → needed text e ≡ r
    → then_read r (λ s _. passed (closes (sign_of text s)) s (record { start = t.start; end = e; seen = s.end; kind = k })) ≡ Got u n → Spans text t n u
phrase-by text t k e u n v after (Got s x) is h =
    let d : Needed (next_token text e) s x = needed-is (next_token text e) s x is in
    let m : Next text e s = next-stands text e s v d.is in
    phrase-pass text t k e u n s (closes (sign_of text s)) v after m.after (m.some d.some) h
phrase-by text t k e u n v after (Stops reason place) is h = absurd (cc)

phrase-spans : (text : List ℕ) (t : Token) (k : WrittenKind) (e : ℕ) (u : WrittenUnit) (n : ℕ) → Stands text e → t.end ≤ e → phrase t.start k text e ≡ Got u n → Spans text t n u
phrase-spans text t k e u n v after h = phrase-by text t k e u n v after (needed text e) refl h

-- a part from the token's end on, and then a unit
then-spans : {A : Type 0} (f : Front) (t : Token) {k : ℕ} (r s : Reading A) (g : A → ℕ → Reading WrittenUnit) (u : WrittenUnit) (n : ℕ) → Local f (Unit {0}) k t.end r s → Stands f.first t.end
    → ((x : A) (e : ℕ) → Stands f.first e → t.end ≤ e → g x e ≡ Got u n → Spans f.first t n u) → then_read r g ≡ Got u n → Spans f.first t n u
then-spans f t (Got x e) s g u n l v m h = let a = l.moves v x e refl in m x e (l.stays v x e refl) (omega arith) h
then-spans f t (Stops reason place) s g u n l v m h = absurd (cc)

other-spans : (text : List ℕ) (t : Token) (u : WrittenUnit) (n : ℕ) (b : Bool) → Stands text t.end
    → cond b (phrase t.start (OneStep tiny.Unfocus) text t.end) (plain t.start (other_kind text t)) ≡ Got u n → Spans text t n u
other-spans text t u n true v h = phrase-spans text t (OneStep tiny.Unfocus) t.end u n v (omega arith) h
other-spans text t u n false v h = plain-spans text t (other_kind text t) u n h

step-spans : (f : Front) (t : Token) (u : WrittenUnit) (n : ℕ) (l : Lead) → Stands f.first t.end → step_by l f.first t ≡ Got u n → Spans f.first t n u
step-spans f t u n (lead.Action v) w h =
    then-spans f t (action v 0 f.first t) (action v 0 f.second t) (λ a e. phrase t.start (OneStep (tiny.Action a)) f.first e) u n (action-local v 0 t) w
    (λ a e there after q. phrase-spans f.first t (OneStep (tiny.Action a)) e u n there after q) h
step-spans f t u n lead.Skip w h = phrase-spans f.first t (OneStep tiny.Skip) t.end u n w (omega arith) h
step-spans f t u n lead.Focus w h =
    then-spans f t (nums f.first t.end) (nums f.second t.end) (λ ns e. phrase t.start (OneStep (tiny.Focus ns)) f.first e) u n nums-local w
    (λ ns e there after q. phrase-spans f.first t (OneStep (tiny.Focus ns)) e u n there after q) h
step-spans f t u n lead.Open w h = plain-spans f.first t (Got (OneStep tiny.BranchOpen) t.end) u n h
step-spans f t u n lead.Semicolon w h = plain-spans f.first t (Got (OneStep tiny.Semicolon) t.end) u n h
step-spans f t u n lead.Dot w h = plain-spans f.first t (Got (OneStep tiny.Dot) t.end) u n h
step-spans f t u n lead.Other w h = other-spans f.first t u n (is_spelled (codes "unfocus") f.first t) w h

unit-spans : (f : Front) (t : Token) (u : WrittenUnit) (n : ℕ) (b : Bool) → Stands f.first t.end
    → cond b (plain t.start (command_by (command_of f.first t) f.first t)) (step_by (lead_of f.first t) f.first t) ≡ Got u n → Spans f.first t n u
unit-spans f t u n true w h = plain-spans f.first t (command_by (command_of f.first t) f.first t) u n h
unit-spans f t u n false w h = step-spans f t u n (lead_of f.first t) w h

-- ---- the laws

bound-of : (text : List ℕ) (at : ℕ) → Stands text at → IsCharBoundary text at
bound-of text at v = IsCharBoundary-from_drop text at v.inside v.utf8

-- the end of a closing sign
closed-bound : (text : List ℕ) (n : ℕ) → IsUtf8 text → Closed text n → IsCharBoundary text n
closed-bound text n u c =
    let some : 0 < n = c.some in
    let within : n ≤ length text = c.within in
    let place : n - 1 + 1 ≡ n = omega arith in
    subst (IsCharBoundary text) place (IsCharBoundary-after_ascii text (n - 1) u (omega arith) (closes-sign _ c.sign).small)

stop-bound : (text : List ℕ) (t : Token) (n : ℕ) (u : WrittenUnit) → IsCharBoundary text n → (u.end ≡ n) ⊎ (Stands text u.end × (t.end ≤ u.end)) → IsCharBoundary text u.end
stop-bound text t n u b (inl e) = subst (IsCharBoundary text) (sym e) b
stop-bound text t n u b (inr h) = bound-of text u.end h.0

stop-order : (text : List ℕ) (t : Token) (n : ℕ) (u : WrittenUnit) → u.start ≡ t.start → t.start < n → t.start < t.end → (u.end ≡ n) ⊎ (Stands text u.end × (t.end ≤ u.end)) → u.start < u.end
stop-order text t n u starts early order (inl e) = omega arith
stop-order text t n u starts early order (inr h) = let after : t.end ≤ u.end = h.1 in omega arith

placed-by : (text : List ℕ) (at : ℕ) (u : WrittenUnit) (n : ℕ) (utf8 : IsUtf8 text) → Stands text at → (r : Result Token LexStop) → next_token text at ≡ r → unit_from r text ≡ Got (Some u) n
    → IsPlacedUnit text at u × (n ≡ u.seen)
placed-by text at u n utf8 v (Ok t) is h =
    let f : Front = alone text utf8 n in
    let b : Begun text t u n = begun-by text t t.kind u n refl h in
    let m : Next text at t = next-stands text at t v is in
    let w : Whole f at t (unit_by text t) (unit_by text t) = unit-whole t in
    let c : Closed text n = w.closed m b.some u b.reads in
    let early : t.start < n = w.early m b.some u b.reads in
    let order : t.start < t.end = m.some b.some in
    let after : at ≤ t.start = m.after in
    let p : Spans text t n u = unit-spans f t u n (is_command (command_of text t)) m.ends b.reads in
    let starts : u.start ≡ t.start = p.starts in
    let sees : u.seen ≡ n = p.sees in
    let reach : u.end ≤ n = p.reach in
    let last : IsCharBoundary text n = closed-bound text n utf8 c in (
      record {
        after = omega arith;
        order = stop-order text t n u starts early order p.stop;
        reach = omega arith;
        start = subst (IsCharBoundary text) (sym starts) (bound-of text t.start m.begins);
        stop = stop-bound text t n u last p.stop;
        bound = subst (IsCharBoundary text) (sym sees) last;
      },
      sym sees,
    )
placed-by text at u n utf8 v (Err (lex.Lex place)) is h = absurd (cc)
placed-by text at u n utf8 v (Err (lex.Incomplete place)) is h = absurd (cc)

pub place_law : PlaceLaw
place_law text at u end utf8 boundary h = placed-by text at u end utf8 (record { inside = boundary.0; utf8 = IsUtf8-drop text at utf8 boundary }) (next_token text at) refl h

stopped-unit : (r : Reading WrittenUnit) (reason : Reason) (place : ℕ) → then_read r (λ u end. Got (Some u) end) ≡ Stops reason place → r ≡ Stops reason place
stopped-unit (Got u e) reason place h = absurd (cc)
stopped-unit (Stops why there) reason place h = let p : why ≡ reason = cc in let q : there ≡ place = cc in ap₂ (λ (w : Reason) (x : ℕ). Stops w x) p q

stopped-by : (text : List ℕ) (t : Token) (k : TokenKind) (reason : Reason) (place : ℕ) → unit_from_kind k text t ≡ Stops reason place → unit_by text t ≡ Stops reason place
stopped-by text t kind.Name reason place h = stopped-unit (unit_by text t) reason place h
stopped-by text t kind.Reserved reason place h = stopped-unit (unit_by text t) reason place h
stopped-by text t (kind.Number n) reason place h = stopped-unit (unit_by text t) reason place h
stopped-by text t kind.Sign reason place h = stopped-unit (unit_by text t) reason place h
stopped-by text t kind.End reason place h = absurd (cc)

fault-by : (text : List ℕ) (at : ℕ) (reason : Reason) (place : ℕ) (utf8 : IsUtf8 text) → Stands text at → (r : Result Token LexStop) → next_token text at ≡ r → unit_from r text ≡ Stops reason place
    → Stands text place
fault-by text at reason place utf8 v (Ok t) is h =
    let f : Front = alone text utf8 0 in
    let m : Next text at t = next-stands text at t v is in
    let w : Whole f at t (unit_by text t) (unit_by text t) = unit-whole t in
    w.halts refl (one-text f t refl m.begins) m reason place (stopped-by text t t.kind reason place h)
fault-by text at reason place utf8 v (Err (lex.Lex p)) is h = let q : p ≡ place = cc in subst (Stands text) q (fault-stands text at (lex.Lex p) v is)
fault-by text at reason place utf8 v (Err (lex.Incomplete p)) is h = let q : p ≡ place = cc in subst (Stands text) q (fault-stands text at (lex.Incomplete p) v is)

pub fault_law : FaultLaw
fault_law text at reason place utf8 boundary h =
    bound-of text place (fault-by text at reason place utf8 (record { inside = boundary.0; utf8 = IsUtf8-drop text at utf8 boundary }) (next_token text at) refl h)
