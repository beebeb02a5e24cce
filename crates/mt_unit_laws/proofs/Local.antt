-- Readings of two texts that begin with the same bytes, up to a closing sign: a reading after which a token begins
-- before the end of that sign is the same in both.
use Rattle.std.proofs.Common.{◌≡◌, ◌≢◌, ℕ, zero, suc, ◌+◌, ◌-◌, ◌<◌, ◌≤◌, Bool, true, false, cond, List, [], ◌∷◌, length, Ok, Err, refl, sym, ap, ◌∙◌, subst, arith}
use Rattle.std.specs.Prelude.{Result}
use Rattle.mt_lexer.specs.declared.Token.{Token}
use Rattle.mt_lexer.specs.declared.TokenKind.{TokenKind}
use Rattle.mt_lexer.specs.declared.TokenKind.TheVariants as kind
use Rattle.mt_lexer.specs.declared.LexStop.{LexStop}
use Rattle.mt_lexer.specs.declared.LexStop.TheVariants as lex
use Rattle.mt_lexer.specs.Tokens.{next_token}
use Rattle.mt_term.specs.Reasons.{Reason, Syntax}
use Rattle.mt_term_parser.specs.Readings.{Reading, Got, Stops, then_read, many, many_from, needed_token, needed_from, needed, passed, seen_token, seen_from, sees_by, sees}
use Rattle.mt_unit_laws.proofs.Tokens.{Stands, Next, next-stands, fault-stands}
use Rattle.mt_unit_laws.proofs.Texts.{Front, Closed, SameToken, one-text, Again, again, shared-length}

-- the next token begins before the end of the closing sign
pub record Near (f : Front) (at : ℕ) : Type 0 where
  pub token : Token
  pub next : next_token f.first at ≡ Ok token
  pub early : token.start < f.n

-- a reading from a place on, at least k bytes long, and the same in the other text where S holds
pub record Local {A : Type 0} (f : Front) (S : Type 0) (k at : ℕ) (r s : Reading A) : Type 0 where
  pub moves : Stands f.first at → (x : A) (end : ℕ) → r ≡ Got x end → at + k ≤ end
  pub stays : Stands f.first at → (x : A) (end : ℕ) → r ≡ Got x end → Stands f.first end
  pub back : Stands f.first at → (x : A) (end : ℕ) → r ≡ Got x end → Near f end → Near f at
  pub same : S → Closed f.first f.n → Stands f.first at → (x : A) (end : ℕ) → r ≡ Got x end → Near f end → s ≡ Got x end
  pub halts : f.first ≡ f.second → S → Stands f.first at → (reason : Reason) (place : ℕ) → r ≡ Stops reason place → Stands f.first place

-- ---- simple readings

pub local-got : {A : Type 0} {f : Front} {S : Type 0} {at : ℕ} (x : A) → Local f S 0 at (Got x at) (Got x at)
local-got {A} {f} {S} {at} x = record {
  moves = λ v y end e. let p : at ≡ end = cc in omega arith;
  stays = λ v y end e. let p : at ≡ end = cc in subst (Stands f.first) p v;
  back = λ v y end e near. let p : at ≡ end = cc in subst (Near f) (sym p) near;
  same = λ s c v y end e near. e;
  halts = λ q d v reason place e. absurd (cc);
}

pub local-stop : {A : Type 0} {f : Front} {S : Type 0} {k at : ℕ} (reason : Reason) (place : ℕ) → (S → Stands f.first place) → (s : Reading A) → Local f S k at (Stops reason place) s
local-stop {f = f} reason place there s = record {
  moves = λ v y end e. absurd (cc);
  stays = λ v y end e. absurd (cc);
  back = λ v y end e near. absurd (cc);
  same = λ d c v y end e near. absurd (cc);
  halts = λ q d v why at e. let p : place ≡ at = cc in subst (Stands f.first) p (there d);
}

-- another reading of the second text
pub local-to : {A : Type 0} {f : Front} {S : Type 0} {k at : ℕ} {r s : Reading A} → Local f S k at r s → (t : Reading A) → (S → s ≡ t) → Local f S k at r t
local-to l t e = record {
  moves = l.moves;
  stays = l.stays;
  back = l.back;
  same = λ d c v x end q near. sym (e d) ∙ l.same d c v x end q near;
  halts = l.halts;
}

pub local-weaker : {A : Type 0} {f : Front} {S : Type 0} {k at : ℕ} {r s : Reading A} → Local f S k at r s → Local f S 0 at r s
local-weaker {k = k} {at = at} l = record {
  moves = λ v x end q. let h = l.moves v x end q in omega arith;
  stays = l.stays;
  back = l.back;
  same = l.same;
  halts = l.halts;
}

pub local-under : {A : Type 0} {f : Front} {S T : Type 0} {k at : ℕ} {r s : Reading A} → Local f S k at r s → (T → S) → Local f T k at r s
local-under l w = record {
  moves = l.moves;
  stays = l.stays;
  back = l.back;
  same = λ d c v x end q near. l.same (w d) c v x end q near;
  halts = λ q d v reason place e. l.halts q (w d) v reason place e;
}

-- a fault before another part
pub local-stopped : {A B : Type 0} {f : Front} {S : Type 0} {k at : ℕ} {reason : Reason} {place : ℕ} {s : Reading A} → Local {A = A} f S k at (Stops reason place) s → (t : Reading B)
    → Local {A = B} f S k at (Stops reason place) t
local-stopped {f = f} {reason = reason} {place = place} l t = record {
  moves = λ v y end e. absurd (cc);
  stays = λ v y end e. absurd (cc);
  back = λ v y end e near. absurd (cc);
  same = λ d c v y end e near. absurd (cc);
  halts = λ q d v why at e. let p : place ≡ at = cc in subst (Stands f.first) p (l.halts q d v reason place refl);
}

-- ---- one reading, and then another

pub local-after : {A B : Type 0} {f : Front} {S : Type 0} {k j at : ℕ} {r s : Reading A} {g h : A → ℕ → Reading B}
    → Local f S k at r s → ((x : A) (e : ℕ) → at + k ≤ e → Local f S j e (g x e) (h x e)) → Local f S k at (then_read r g) (then_read s h)
local-after {k = k} {j = j} {at = at} {r = Got x e} {h = h} l m = record {
  moves = λ v y end q.
      let a = l.moves v x e refl in
      let b = (m x e a).moves (l.stays v x e refl) y end q in
      omega arith;
  stays = λ v y end q. (m x e (l.moves v x e refl)).stays (l.stays v x e refl) y end q;
  back = λ v y end q near. l.back v x e refl ((m x e (l.moves v x e refl)).back (l.stays v x e refl) y end q near);
  same = λ d c v y end q near.
      let w = l.stays v x e refl in
      let n = m x e (l.moves v x e refl) in
      ap (λ p. then_read p h) (l.same d c v x e refl (n.back w y end q near)) ∙ n.same d c w y end q near;
  halts = λ q d v why place p. (m x e (l.moves v x e refl)).halts q d (l.stays v x e refl) why place p;
}
local-after {r = Stops reason place} {s = s} {h = h} l m = local-stopped l (then_read s h)

pub local-then : {A B : Type 0} {f : Front} {S : Type 0} {k j at : ℕ} {r s : Reading A} {g h : A → ℕ → Reading B}
    → Local f S k at r s → ((x : A) (e : ℕ) → Local f S j e (g x e) (h x e)) → Local f S k at (then_read r g) (then_read s h)
local-then l m = local-after l (λ x e _. m x e)

-- ---- tokens

pub record Needed (r : Result Token LexStop) (t : Token) (e : ℕ) : Type 0 where
  pub is : r ≡ Ok t
  pub some : t.kind ≢ kind.End
  pub end : e ≡ t.end

needed-token : (u : Token) (k : TokenKind) (t : Token) (e : ℕ) → u.kind ≡ k → needed_token u k ≡ Got t e → Needed (Ok u) t e
needed-token u kind.Name t e q h =
    let p : u ≡ t = cc in let l : u.end ≡ e = cc in record { is = ap Ok p; some = λ x. let z : kind.Name ≡ kind.End = sym q ∙ ap (λ (w : Token). w.kind) p ∙ x in absurd (cc); end = sym l ∙ ap (λ (w : Token). w.end) p }
needed-token u kind.Reserved t e q h =
    let p : u ≡ t = cc in let l : u.end ≡ e = cc in record { is = ap Ok p; some = λ x. let z : kind.Reserved ≡ kind.End = sym q ∙ ap (λ (w : Token). w.kind) p ∙ x in absurd (cc); end = sym l ∙ ap (λ (w : Token). w.end) p }
needed-token u (kind.Number n) t e q h =
    let p : u ≡ t = cc in let l : u.end ≡ e = cc in record { is = ap Ok p; some = λ x. let z : kind.Number n ≡ kind.End = sym q ∙ ap (λ (w : Token). w.kind) p ∙ x in absurd (cc); end = sym l ∙ ap (λ (w : Token). w.end) p }
needed-token u kind.Sign t e q h =
    let p : u ≡ t = cc in let l : u.end ≡ e = cc in record { is = ap Ok p; some = λ x. let z : kind.Sign ≡ kind.End = sym q ∙ ap (λ (w : Token). w.kind) p ∙ x in absurd (cc); end = sym l ∙ ap (λ (w : Token). w.end) p }
needed-token u kind.End t e q h = absurd (cc)

pub needed-is : (r : Result Token LexStop) (t : Token) (e : ℕ) → needed_from r ≡ Got t e → Needed r t e
needed-is (Ok u) t e h = needed-token u u.kind t e refl h
needed-is (Err (lex.Lex at)) t e h = absurd (cc)
needed-is (Err (lex.Incomplete at)) t e h = absurd (cc)

start-of : (t : Token) (k : TokenKind) (reason : Reason) (place : ℕ) → needed_token t k ≡ Stops reason place → t.start ≡ place
start-of t kind.Name reason place h = absurd (cc)
start-of t kind.Reserved reason place h = absurd (cc)
start-of t (kind.Number n) reason place h = absurd (cc)
start-of t kind.Sign reason place h = absurd (cc)
start-of t kind.End reason place h = cc

needed-halts-by : (text : List ℕ) (at : ℕ) (reason : Reason) (place : ℕ) → Stands text at → (r : Result Token LexStop) → next_token text at ≡ r → needed_from r ≡ Stops reason place → Stands text place
needed-halts-by text at reason place v (Ok t) is h = subst (Stands text) (start-of t t.kind reason place h) (next-stands text at t v is).begins
needed-halts-by text at reason place v (Err (lex.Lex p)) is h = let q : p ≡ place = cc in subst (Stands text) q (fault-stands text at (lex.Lex p) v is)
needed-halts-by text at reason place v (Err (lex.Incomplete p)) is h = let q : p ≡ place = cc in subst (Stands text) q (fault-stands text at (lex.Incomplete p) v is)

-- where a token is needed and there is none
pub needed-halts : (text : List ℕ) (at : ℕ) (reason : Reason) (place : ℕ) → Stands text at → needed text at ≡ Stops reason place → Stands text place
needed-halts text at reason place v h = needed-halts-by text at reason place v (next_token text at) refl h

pub local-needed : {B : Type 0} {f : Front} {S : Type 0} {k at : ℕ} (reason : Reason) (place : ℕ) → needed f.first at ≡ Stops reason place → (s : Reading B) → Local f S k at (Stops reason place) s
local-needed {f = f} {at = at} reason place h s = record {
  moves = λ v y end e. absurd (cc);
  stays = λ v y end e. absurd (cc);
  back = λ v y end e near. absurd (cc);
  same = λ d c v y end e near. absurd (cc);
  halts = λ q d v why there e. let p : place ≡ there = cc in subst (Stands f.first) p (needed-halts f.first at reason place v h);
}

-- a token is near where the next one is
pub near-token : (f : Front) (at : ℕ) (t : Token) → next_token f.first at ≡ Ok t → t.start < t.end → Stands f.first t.end → Near f t.end → Near f at
near-token f at t is order v near =
    let n : Next f.first t.end near.token = next-stands f.first t.end near.token v near.next in
    let after : t.end ≤ near.token.start = n.after in
    let early : near.token.start < f.n = near.early in
    record { token = t; next = is; early = omega arith }

local-token-by : {B : Type 0} {f : Front} {S : Type 0} {j at : ℕ} {g h : Token → Reading B} → ((t : Token) → Local f (SameToken f t) j t.end (g t) (h t))
    → (r : Reading Token) → needed f.first at ≡ r → Local f S 1 at (then_read r (λ t _. g t)) (then_read (needed f.second at) (λ t _. h t))
local-token-by {f = f} {j = j} {at = at} {h = h} m (Got t e) q =
    let k : Needed (next_token f.first at) t e = needed-is (next_token f.first at) t e q in
    let next : Stands f.first at → Next f.first at t = λ v. next-stands f.first at t v k.is in
    record {
      moves = λ v y end p.
          let after : at ≤ t.start = (next v).after in
          let order : t.start < t.end = (next v).some k.some in
          let on : t.end + j ≤ end = (m t).moves (next v).ends y end p in
          omega arith;
      stays = λ v y end p. (m t).stays (next v).ends y end p;
      back = λ v y end p near. near-token f at t k.is ((next v).some k.some) (next v).ends ((m t).back (next v).ends y end p near);
      same = λ d c v y end p near.
          let there : Near f t.end = (m t).back (next v).ends y end p near in
          let n : Next f.first t.end there.token = next-stands f.first t.end there.token (next v).ends there.next in
          let after : t.end ≤ there.token.start = n.after in
          let early : there.token.start < f.n = there.early in
          let order : t.start < t.end = (next v).some k.some in
          let a : Again f at t = again f at t c v k.is (omega arith) in
          ap (λ (r : Reading Token). then_read r (λ t _. h t)) (ap needed_from (a.same ∙ sym k.is) ∙ q) ∙ (m t).same a.token c (next v).ends y end p near;
      halts = λ o d v why place p. (m t).halts o (one-text f t o (next v).begins) (next v).ends why place p;
    }
local-token-by {f = f} {at = at} {h = h} m (Stops reason place) q = local-needed reason place q (then_read (needed f.second at) (λ t _. h t))

-- a token that is needed, and a reading from its end on
pub local-token : {B : Type 0} {f : Front} {S : Type 0} {j at : ℕ} {g h : Token → Reading B} → ((t : Token) → Local f (SameToken f t) j t.end (g t) (h t))
    → Local f S 1 at (then_read (needed f.first at) (λ t _. g t)) (then_read (needed f.second at) (λ t _. h t))
local-token {f = f} {at = at} m = local-token-by m (needed f.first at) refl

pub local-pass : {A : Type 0} {f : Front} (t : Token) (b b' : Bool) (x y : A) → (SameToken f t → b ≡ b') → (SameToken f t → x ≡ y) → Local f (SameToken f t) 0 t.end (passed b t x) (passed b' t y)
local-pass t true b' x y p q = local-to (local-got x) (passed b' t y) (λ s. ap (λ a. Got a t.end) (q s) ∙ ap (λ b. passed b t y) (p s))
local-pass t false b' x y p q = local-stop Syntax t.start (λ e. e.begins) (passed b' t y)

-- ---- what is seen

sees-token : (p q : Token → Bool) (t : Token) (k : TokenKind) → p t ≡ q t → sees_by (seen_token t k) q ≡ sees_by (seen_token t k) p
sees-token p q t kind.Name e = sym e
sees-token p q t kind.Reserved e = sym e
sees-token p q t (kind.Number n) e = sym e
sees-token p q t kind.Sign e = sym e
sees-token p q t kind.End e = refl

pub sees-same : (f : Front) (at : ℕ) (p q : Token → Bool) → ((t : Token) → SameToken f t → p t ≡ q t) → Closed f.first f.n → Stands f.first at → Near f at
    → sees q f.second at ≡ sees p f.first at
sees-same f at p q e c v near =
    let a : Again f at near.token = again f at near.token c v near.next near.early in
    ap (λ (r : Result Token LexStop). sees_by (seen_from r) q) a.same
    ∙ sees-token p q near.token near.token.kind (e near.token a.token)
    ∙ ap (λ (r : Result Token LexStop). sees_by (seen_from r) p) (sym near.next)

local-if-by : {A : Type 0} {f : Front} {S : Type 0} {k at : ℕ} (p q : Token → Bool) → ((t : Token) → SameToken f t → p t ≡ q t) → {r s r' s' : Reading A}
    → Local f S k at r s → Local f S k at r' s' → (b : Bool) → sees p f.first at ≡ b → Local f S k at (cond b r r') (cond (sees q f.second at) s s')
local-if-by {f = f} {at = at} p q e {s = s} {s' = s'} l m true h = record {
  moves = l.moves;
  stays = l.stays;
  back = l.back;
  same = λ d c v x end g near. ap (λ b. cond b s s') (sees-same f at p q e c v (l.back v x end g near) ∙ h) ∙ l.same d c v x end g near;
  halts = l.halts;
}
local-if-by {f = f} {at = at} p q e {s = s} {s' = s'} l m false h = record {
  moves = m.moves;
  stays = m.stays;
  back = m.back;
  same = λ d c v x end g near. ap (λ b. cond b s s') (sees-same f at p q e c v (m.back v x end g near) ∙ h) ∙ m.same d c v x end g near;
  halts = m.halts;
}

-- a choice by the next token
pub local-if : {A : Type 0} {f : Front} {S : Type 0} {k at : ℕ} (p q : Token → Bool) → ((t : Token) → SameToken f t → p t ≡ q t) → {r s r' s' : Reading A}
    → Local f S k at r s → Local f S k at r' s' → Local f S k at (cond (sees p f.first at) r r') (cond (sees q f.second at) s s')
local-if {f = f} {at = at} p q e l m = local-if-by p q e l m (sees p f.first at) refl

-- ---- parts in a row

abbrev onward : {A : Type 0} → (ℕ → Bool) → (ℕ → Reading A) → ℕ → ℕ → Bool → Reading (List A)
onward {A} look one bound at b =
    elim b as (λ _. Reading (List A)) [
      | true ↦ then_read (one at) (λ a end. then_read (many look one bound end) (λ more last. Got (a ∷ more) last))
      | false ↦ Got [] at
    ]

many-false : {A : Type 0} (look : ℕ → Bool) (one : ℕ → Reading A) (bound at : ℕ) → look at ≡ false → many look one bound at ≡ Got [] at
many-false look one zero at e = refl
many-false look one (suc bound) at e = ap (onward look one bound at) e

-- where a token is near, the place is in both texts
near-inside : (f : Front) (at : ℕ) → Closed f.first f.n → Stands f.first at → Near f at → (at < length f.first) × (at < length f.second)
near-inside f at c v near =
    let n : Next f.first at near.token = next-stands f.first at near.token v near.next in
    let after : at ≤ near.token.start = n.after in
    let early : near.token.start < f.n = near.early in
    let within : f.n ≤ length f.first = c.within in
    let also : f.n ≤ length f.second = shared-length f c.within in
    (omega arith, omega arith)

module _ {A : Type 0} (f : Front) (p q : Token → Bool) (e : (t : Token) → SameToken f t → p t ≡ q t) (one two : ℕ → Reading A) (parts : (at : ℕ) → Local f (Unit {0}) 1 at (one at) (two at)) where
  row-seen : (k m at : ℕ) → length f.first ≤ at + suc k → length f.second ≤ at + m
      → ((m place : ℕ) → length f.first ≤ place + k → length f.second ≤ place + m → Local f (Unit {0}) 0 place (many (sees p f.first) one k place) (many (sees q f.second) two m place))
      → (b : Bool) → sees p f.first at ≡ b → Local f (Unit {0}) 0 at (onward (sees p f.first) one k at b) (many (sees q f.second) two m at)
  row-seen k zero at h g later true look =
      let l = local-after {h = λ a end. then_read (many (sees q f.second) two (length f.second) end) (λ more last. Got (a ∷ more) last)} (parts at)
      (λ a place order. local-then (later (length f.second) place (omega arith) (omega arith)) (λ more last. local-got (a ∷ more))) in
      record {
        moves = λ v x end r. let z = l.moves v x end r in omega arith;
        stays = l.stays;
        back = l.back;
        same = λ d c v x end r near. absurd (let z = near-inside f at c v (l.back v x end r near) in omega arith);
        halts = l.halts;
      }
  row-seen k (suc m) at h g later true look =
      let l = local-after {h = λ a end. then_read (many (sees q f.second) two m end) (λ more last. Got (a ∷ more) last)} (parts at)
      (λ a place order. local-then (later m place (omega arith) (omega arith)) (λ more last. local-got (a ∷ more))) in
      record {
        moves = λ v x end r. let z = l.moves v x end r in omega arith;
        stays = l.stays;
        back = l.back;
        same = λ d c v x end r near.
            ap (onward (sees q f.second) two m at) (sees-same f at p q e c v (l.back v x end r near) ∙ look) ∙ l.same d c v x end r near;
        halts = l.halts;
      }
  row-seen k m at h g later false look =
      let l = local-got {A = List A} {f = f} {S = Unit {0}} {at = at} [] in
      record {
        moves = l.moves;
        stays = l.stays;
        back = l.back;
        same = λ d c v x end r near.
            many-false (sees q f.second) two m at (sees-same f at p q e c v (l.back v x end r near) ∙ look) ∙ r;
        halts = l.halts;
      }

  rest-of-row : (k m at : ℕ) → length f.first ≤ at + k → length f.second ≤ at + m
      → Local f (Unit {0}) 0 at (many (sees p f.first) one k at) (many (sees q f.second) two m at)
  rest-of-row zero m at h g =
      let l = local-got {A = List A} {f = f} {S = Unit {0}} {at = at} [] in
      record {
        moves = l.moves;
        stays = l.stays;
        back = l.back;
        same = λ d c v x end r near. absurd (let z = near-inside f at c v (l.back v x end r near) in omega arith);
        halts = l.halts;
      }
  rest-of-row (suc k) m at h g = row-seen k m at h g (rest-of-row k) (sees p f.first at) refl

  pub local-row : {S : Type 0} (at : ℕ) → Local f S 0 at (many_from f.first (sees p f.first) one at) (many_from f.second (sees q f.second) two at)
  local-row at = local-under (rest-of-row (length f.first - at) (length f.second - at) at (omega arith) (omega arith)) (λ _. tt)
