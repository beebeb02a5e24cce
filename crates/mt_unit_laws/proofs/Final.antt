-- Readings that end with a closing sign.
use Rattle.std.proofs.Common.{◌≡◌, ℕ, ◌+◌, ◌-◌, ◌<◌, ◌≤◌, Bool, true, false, ◌==◌, cond, List, [], ◌∷◌, ◌++◌, length, drop, get_or, Ok, refl, sym, ap, ◌∙◌, subst, arith, length-drop, length-append, inl, inr}
use Rattle.std.specs.Prelude.{slice_index, IsTrue, bytes_eq, codes}
use lib.Utf8.{encode, encodes}
use Rattle.std.proofs.lemmas.Bool.{eqb-true, cases_eq}
use Rattle.std.proofs.lemmas.Bool.Decides.{nat_tests}
use Rattle.std.proofs.lemmas.List.{get_or-drop}
use Rattle.std.proofs.lemmas.Str.{len_utf8_ascii, len_utf8_bounds, byte_from_char, length-encode}
use Rattle.mt_lexer.specs.declared.Token.{Token}
use Rattle.mt_lexer.specs.declared.TokenKind.{TokenKind}
use Rattle.mt_lexer.specs.declared.TokenKind.TheVariants as kind
use Rattle.mt_lexer.specs.Shared.{is_closing}
use Rattle.mt_lexer.specs.Tokens.{token_at, chars_from, next_token}
use Rattle.mt_lexer.proofs.Shared_tokens.{width, token_at-shared}
use Rattle.mt_term.specs.Reasons.{Reason, Syntax}
use Rattle.mt_term_parser.specs.Readings.{Reading, Got, Stops, then_read, needed_from, needed, passed, word_of, sign_from, sign_by, sign_of, sign}
use Rattle.mt_unit_laws.proofs.Tokens.{Stands, chars-stand, Cut, token-cut, Next, next-stands, width-append}
use Rattle.mt_unit_laws.proofs.Texts.{closes, Front, Closed, SameToken, one-text, Again, again}
use Rattle.mt_unit_laws.proofs.Local.{Near, Local, Needed, needed-is, needed-halts, near-token}
use Rattle.mt_unit_laws.proofs.Terms.{sign-same}

-- ---- a closing sign as a token

sign-from-closing : (h c : ℕ) → IsTrue (is_closing c) → sign_from h ≡ c → h ≡ c
sign-from-closing h c k e = grind (arith, nat_tests)

spelled-by : (a b : Bool) (c : ℕ) → IsTrue (is_closing c) → cond a 0x3BB (cond b 0x2200 0) ≡ c → ⊥
spelled-by true b c k e = grind (arith, nat_tests)
spelled-by false true c k e = grind (arith, nat_tests)
spelled-by false false c k e = grind (arith, nat_tests)

not-zero : (c : ℕ) → IsTrue (is_closing c) → 0 ≡ c → ⊥
not-zero c k e = grind (arith, nat_tests)

head-by : (text : List ℕ) (t : Token) (k : TokenKind) (c : ℕ) → IsTrue (is_closing c) → sign_by k text t ≡ c → slice_index (chars_from text t.start) 0 ≡ c
head-by text t kind.Sign c h e = sign-from-closing (slice_index (chars_from text t.start) 0) c h e
head-by text t kind.Reserved c h e = absurd (spelled-by (bytes_eq (word_of text t) (codes "fun")) (bytes_eq (word_of text t) (codes "forall")) c h e)
head-by text t kind.Name c h e = absurd (not-zero c h e)
head-by text t (kind.Number n) c h e = absurd (not-zero c h e)
head-by text t kind.End c h e = absurd (not-zero c h e)

head-cons : (cs : List ℕ) (c : ℕ) → slice_index cs 0 ≡ c → 0 < c → (rest : List ℕ) × (cs ≡ c ∷ rest)
head-cons [] c e some = absurd (omega arith)
head-cons (d ∷ ds) c e some = (ds, ap (λ x. x ∷ ds) e)

closed-at : (text : List ℕ) (t : Token) (c : ℕ) (rest : List ℕ) (v : Stands text t.start) → IsTrue (is_closing c) → v.utf8.0 ≡ c ∷ rest → t.start < t.end → token_at t.start v.utf8.0 ≡ Ok t
    → Closed text t.end
closed-at text t c rest v h e order is =
    let small : c < 128 = (closes c h).small in
    let one : width (c ∷ []) ≡ 1 = let w = len_utf8_ascii c small in omega arith in
    let cut : Cut t.start (c ∷ []) t =
    token-cut t.start (c ∷ []) t (sym (token_at-shared [] t.start c rest [] (closes c h).mark) ∙ ap (token_at t.start) (sym e) ∙ is) in
    let whole : width (c ∷ []) ≡ width cut.front + width cut.rest = ap width cut.whole ∙ width-append cut.front cut.rest in
    let end : t.end ≡ t.start + width cut.front = cut.end in
    let next : t.end ≡ t.start + 1 = omega arith in
    let bytes : drop t.start text ≡ encode c ++ encodes rest = sym v.utf8.1.1 ∙ ap encodes e in
    let byte : get_or text t.start 0 ≡ c = ap (λ i. get_or text i 0) (let z : t.start ≡ t.start + 0 = omega arith in z) ∙ sym (get_or-drop t.start text 0 0) ∙ byte_from_char (drop t.start text) (encodes rest) c bytes small in
    let inside : 1 ≤ length (drop t.start text) = let l = ap length bytes in let m = length-encode c in let b = (len_utf8_bounds c).0 in let a = length-append (encode c) (encodes rest) in omega arith in
    let long = length-drop t.start text in
    record {
      some = omega arith;
      within = omega arith;
      sign = subst (λ z. IsTrue (is_closing z)) (sym (ap (λ i. get_or text i 0) (let z : t.end - 1 ≡ t.start = omega arith in z) ∙ byte)) h;
    }

-- a token that is a closing sign
pub closed-by : (text : List ℕ) (at : ℕ) (t : Token) (c : ℕ) → Next text at t → t.start < t.end → IsTrue (is_closing c) → sign_of text t ≡ c → Closed text t.end
closed-by text at t c n order h e =
    let head = head-by text t t.kind c h e in
    let some : 0 < c = elim (cases_eq 0 c) [ inl z ↦ absurd (not-zero c h z) | inr z ↦ omega arith ] in
    let v : Stands text t.start = n.begins in
    let cs = chars-stand text t.start v in
    let first = head-cons v.utf8.0 c (sym (ap (λ xs. slice_index xs 0) cs) ∙ head) some in
    closed-at text t c first.0 v h first.1 order (ap (token_at t.start) (sym cs) ∙ n.token_is)

-- ---- readings

pub record Final {A : Type 0} (f : Front) (S : Type 0) (at : ℕ) (r s : Reading A) : Type 0 where
  pub closed : Stands f.first at → (x : A) → r ≡ Got x f.n → Closed f.first f.n
  pub near : Stands f.first at → (x : A) → r ≡ Got x f.n → Near f at
  pub same : S → Closed f.first f.n → Stands f.first at → (x : A) → r ≡ Got x f.n → s ≡ Got x f.n
  pub halts : f.first ≡ f.second → S → Stands f.first at → (reason : Reason) (place : ℕ) → r ≡ Stops reason place → Stands f.first place

pub final-halt : {A : Type 0} {f : Front} {S : Type 0} {at : ℕ} (reason : Reason) (place : ℕ) → (f.first ≡ f.second → S → Stands f.first at → Stands f.first place) → (s : Reading A)
    → Final f S at (Stops reason place) s
final-halt {f = f} reason place there s = record {
  closed = λ v x e. absurd (cc);
  near = λ v x e. absurd (cc);
  same = λ d c v x e. absurd (cc);
  halts = λ q d v why at e. let p : place ≡ at = cc in subst (Stands f.first) p (there q d v);
}

pub final-stop : {A : Type 0} {f : Front} {S : Type 0} {at : ℕ} (reason : Reason) (place : ℕ) → (S → Stands f.first place) → (s : Reading A) → Final f S at (Stops reason place) s
final-stop reason place there s = final-halt reason place (λ q d v. there d) s

pub final-to : {A : Type 0} {f : Front} {S : Type 0} {at : ℕ} {r s : Reading A} → Final f S at r s → (t : Reading A) → (S → s ≡ t) → Final f S at r t
final-to l t e = record {
  closed = l.closed;
  near = l.near;
  same = λ d c v x q. sym (e d) ∙ l.same d c v x q;
  halts = l.halts;
}

pub final-then : {A B : Type 0} {f : Front} {S : Type 0} {k at : ℕ} {r s : Reading A} {g h : A → ℕ → Reading B}
    → Local f S k at r s → ((x : A) (e : ℕ) → Final f S e (g x e) (h x e)) → Final f S at (then_read r g) (then_read s h)
final-then {r = Got x e} {h = h} l m = record {
  closed = λ v y q. (m x e).closed (l.stays v x e refl) y q;
  near = λ v y q. l.back v x e refl ((m x e).near (l.stays v x e refl) y q);
  same = λ d c v y q.
      let w = l.stays v x e refl in
      ap (λ p. then_read p h) (l.same d c v x e refl ((m x e).near w y q)) ∙ (m x e).same d c w y q;
  halts = λ q d v why place p. (m x e).halts q d (l.stays v x e refl) why place p;
}
final-then {r = Stops reason place} {s = s} {h = h} l m = final-halt reason place (λ q d v. l.halts q d v reason place refl) (then_read s h)

final-map-by : {A B : Type 0} {f : Front} {S : Type 0} {at : ℕ} (k : A → ℕ → B) (r s : Reading A) → Final f S at r s
    → Final f S at (then_read r (λ x end. Got (k x end) end)) (then_read s (λ x end. Got (k x end) end))
final-map-by {f = f} k (Got x e) s l =
    record {
      closed = λ v y q. let p : e ≡ f.n = cc in l.closed v x (ap (Got x) p);
      near = λ v y q. let p : e ≡ f.n = cc in l.near v x (ap (Got x) p);
      same = λ d c v y q.
          let p : e ≡ f.n = cc in
          ap (λ z. then_read z (λ x end. Got (k x end) end)) (l.same d c v x (ap (Got x) p)) ∙ ap (λ n. Got (k x n) n) (sym p) ∙ q;
      halts = λ q d v why place h. absurd (cc);
    }
final-map-by k (Stops reason place) s l = final-halt reason place (λ q d v. l.halts q d v reason place refl) _

pub final-map : {A B : Type 0} {f : Front} {S : Type 0} {at : ℕ} {r s : Reading A} (k : A → ℕ → B) → Final f S at r s
    → Final f S at (then_read r (λ x end. Got (k x end) end)) (then_read s (λ x end. Got (k x end) end))
final-map {r = r} {s = s} k l = final-map-by k r s l

-- a token that is needed, and a reading that ends with the closing sign
final-token-by : {B : Type 0} {f : Front} {S : Type 0} {at : ℕ} (g h : Token → ℕ → Reading B) → ((t : Token) → Final f (SameToken f t) t.end (g t t.end) (h t t.end))
    → (r : Reading Token) → needed f.first at ≡ r → Final f S at (then_read r g) (then_read (needed f.second at) h)
final-token-by {f = f} {at = at} g h m (Got t e) q =
    let k : Needed (next_token f.first at) t e = needed-is (next_token f.first at) t e q in
    let next : Stands f.first at → Next f.first at t = λ v. next-stands f.first at t v k.is in
    record {
      closed = λ v y p. (m t).closed (next v).ends y (ap (g t) (sym k.end) ∙ p);
      near = λ v y p. near-token f at t k.is ((next v).some k.some) (next v).ends ((m t).near (next v).ends y (ap (g t) (sym k.end) ∙ p));
      same = λ d c v y p.
          let n : Near f at = near-token f at t k.is ((next v).some k.some) (next v).ends ((m t).near (next v).ends y (ap (g t) (sym k.end) ∙ p)) in
          let same_token : n.token ≡ t = let z : Ok n.token ≡ Ok t = sym n.next ∙ k.is in cc in
          let early : t.start < f.n = subst (λ (u : Token). u.start < f.n) same_token n.early in
          let a : Again f at t = again f at t c v k.is early in
          ap (λ (r : Reading Token). then_read r h) (ap needed_from (a.same ∙ sym k.is) ∙ q) ∙ ap (h t) k.end
          ∙ (m t).same a.token c (next v).ends y (ap (g t) (sym k.end) ∙ p);
      halts = λ o d v why place p. (m t).halts o (one-text f t o (next v).begins) (next v).ends why place (ap (g t) (sym k.end) ∙ p);
    }
final-token-by {f = f} {at = at} g h m (Stops reason place) q = final-halt reason place (λ o d v. needed-halts f.first at reason place v q) (then_read (needed f.second at) h)

pub final-token : {B : Type 0} {f : Front} {S : Type 0} {at : ℕ} (g h : Token → ℕ → Reading B) → ((t : Token) → Final f (SameToken f t) t.end (g t t.end) (h t t.end))
    → Final f S at (then_read (needed f.first at) g) (then_read (needed f.second at) h)
final-token {f = f} {at = at} g h m = final-token-by g h m (needed f.first at) refl

-- ---- closing signs

final-pass-by : {A : Type 0} {f : Front} {S : Type 0} {at : ℕ} (p q : Token → Bool) (val : Token → A) → ((t : Token) → SameToken f t → p t ≡ q t)
    → ((t : Token) → p t ≡ true → IsTrue (is_closing (sign_of f.first t)))
    → (t : Token) (e : ℕ) → needed f.first at ≡ Got t e → (b : Bool) → p t ≡ b
    → Final f S at (passed b t (val t)) (then_read (needed f.second at) (λ t _. passed (q t) t (val t)))
final-pass-by {f = f} {at = at} p q val same sign t e is true b =
    let k : Needed (next_token f.first at) t e = needed-is (next_token f.first at) t e is in
    let next : Stands f.first at → Next f.first at t = λ v. next-stands f.first at t v k.is in
    record {
      closed = λ v x h. let end : t.end ≡ f.n = cc in subst (Closed f.first) end (closed-by f.first at t (sign_of f.first t) (next v) ((next v).some k.some) (sign t b) refl);
      near = λ v x h. let end : t.end ≡ f.n = cc in let order : t.start < t.end = (next v).some k.some in record { token = t; next = k.is; early = omega arith };
      same = λ d c v x h.
          let end : t.end ≡ f.n = cc in
          let order : t.start < t.end = (next v).some k.some in
          let a : Again f at t = again f at t c v k.is (omega arith) in
          ap (λ (r : Reading Token). then_read r (λ t _. passed (q t) t (val t))) (ap needed_from (a.same ∙ sym k.is) ∙ is)
          ∙ ap (λ b. passed b t (val t)) (sym (same t a.token) ∙ b) ∙ h;
      halts = λ o d v why place h. absurd (cc);
    }
final-pass-by {f = f} {at = at} p q val same sign t e is false b =
    final-halt Syntax t.start (λ o d v. (next-stands f.first at t v (needed-is (next_token f.first at) t e is).is).begins) _

final-pass-of : {A : Type 0} {f : Front} {S : Type 0} {at : ℕ} (p q : Token → Bool) (val : Token → A) → ((t : Token) → SameToken f t → p t ≡ q t)
    → ((t : Token) → p t ≡ true → IsTrue (is_closing (sign_of f.first t)))
    → (r : Reading Token) → needed f.first at ≡ r
    → Final f S at (then_read r (λ t _. passed (p t) t (val t))) (then_read (needed f.second at) (λ t _. passed (q t) t (val t)))
final-pass-of p q val same sign (Got t e) is = final-pass-by p q val same sign t e is (p t) refl
final-pass-of {f = f} {at = at} p q val same sign (Stops reason place) is = final-halt reason place (λ o d v. needed-halts f.first at reason place v is) _

-- a closing sign, with a value
pub final-pass : {A : Type 0} {f : Front} {S : Type 0} {at : ℕ} (p q : Token → Bool) (val : Token → A) → ((t : Token) → SameToken f t → p t ≡ q t)
    → ((t : Token) → p t ≡ true → IsTrue (is_closing (sign_of f.first t)))
    → Final f S at (then_read (needed f.first at) (λ t _. passed (p t) t (val t))) (then_read (needed f.second at) (λ t _. passed (q t) t (val t)))
final-pass {f = f} {at = at} p q val same sign = final-pass-of p q val same sign (needed f.first at) refl

pub final-sign : {f : Front} {S : Type 0} {at : ℕ} (c : ℕ) → IsTrue (is_closing c) → Final f S at (sign c f.first at) (sign c f.second at)
final-sign {f} c h =
    final-pass (λ t. sign_of f.first t == c) (λ t. sign_of f.second t == c) (λ t. tt) (λ t e. ap (λ s. s == c) (sign-same f t e))
    (λ t e. subst (λ z. IsTrue (is_closing z)) (sym (eqb-true (sign_of f.first t) c e)) h)
