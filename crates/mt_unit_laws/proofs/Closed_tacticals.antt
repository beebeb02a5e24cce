-- Closed tacticals of two texts that begin with the same bytes.
use Rattle.std.proofs.Common.{◌≡◌, ◌≢◌, ℕ, zero, suc, ◌-◌, ◌<◌, ◌≤◌, Bool, true, false, ◌&&◌, ◌||◌, ◌==◌, cond, ◌∷◌, Ok, Err, refl, sym, ap, ap₂, ◌∙◌, subst, arith}
use Rattle.std.specs.Prelude.{codes, bytes_eq, Option, Some, None, Result}
use Rattle.mt_lexer.specs.declared.Token.{Token}
use Rattle.mt_lexer.specs.declared.TokenKind.{TokenKind}
use Rattle.mt_lexer.specs.declared.TokenKind.TheVariants as kind
use Rattle.mt_lexer.specs.declared.LexStop.{LexStop}
use Rattle.mt_lexer.specs.Tokens.{next_token}
use Rattle.mt_term.specs.Reasons.{Syntax}
use Rattle.mt_tactical.specs.Tacticals.{End, Action, Skip, Branches, Focus}
use Rattle.mt_tactical.specs.declared.Pick.TheVariants as pick
use Rattle.mt_term_parser.specs.Readings.{Reading, Got, Stops, then_read, needed_from, needed, sign_of, is_name_kind, seen_token, seen_from, seen}
use Rattle.mt_unit_parser.specs.declared.words.Verb.{Verb}
use Rattle.mt_unit_parser.specs.declared.words.Lead.{Lead}
use Rattle.mt_unit_parser.specs.declared.words.Lead.TheVariants as lead
use Rattle.mt_unit_parser.specs.Units.{is_spelled, verb_of}
use Rattle.mt_unit_parser.specs.Blocks.{lead_of_sign, lead_by, lead_of, begins_item, is_separator, Block', item_onto, led_onto, choices, placed, is_number_kind, positions, rest_of, pick_by, picked, branch, barred, branch_list, branches, is_dot, separator, unfocus_place, focus, item_by, optional_by, optional_item, separated_by, led_item, items, ends_sequence, full_at, sequence}
use Rattle.mt_unit_laws.proofs.Tokens.{Stands, Next, next-stands}
use Rattle.mt_unit_laws.proofs.Texts.{Front, Closed, SameToken, one-text, Again, again}
use Rattle.mt_unit_laws.proofs.Local.{Near, Local, Needed, needed-is, near-token, local-got, local-stop, local-needed, local-to, local-weaker, local-under, local-then, local-token, local-pass, local-row}
use Rattle.mt_unit_laws.proofs.Terms.{sign-same, sign-local, row-of-sign}
use Rattle.mt_unit_laws.proofs.Commands.{is_spelled-same, nums-local, verb-same, action-local}

-- ---- what a token is in a sequence

lead-by-same : (f : Front) (t : Token) → SameToken f t → (v : Option Verb) → lead_by v f.first t ≡ lead_by v f.second t
lead-by-same f t e (Some v) = refl
lead-by-same f t e None =
    ap₂ (λ w s. cond (is_name_kind t.kind && bytes_eq w (codes "skip")) lead.Skip (cond (is_name_kind t.kind && bytes_eq w (codes "focus")) lead.Focus (lead_of_sign s))) e.word (sign-same f t e)

pub lead-same : (f : Front) (t : Token) → SameToken f t → lead_of f.first t ≡ lead_of f.second t
lead-same f t e = ap (λ v. lead_by v f.first t) (verb-same f t e) ∙ lead-by-same f t e (verb_of f.second t)

ends-same : (f : Front) (t : Token) → SameToken f t → ends_sequence f.first t ≡ ends_sequence f.second t
ends-same f t e = ap₂ (λ s w. (s == 125) || (s == 124) || (s == 93) || (is_name_kind t.kind && bytes_eq w (codes "unfocus"))) (sign-same f t e) e.word

-- ---- a token that is looked at

record Seen (r : Result Token LexStop) (t : Token) : Type 0 where
  pub is : r ≡ Ok t
  pub some : t.kind ≢ kind.End

seen-token : (u : Token) (k : TokenKind) (t : Token) → u.kind ≡ k → seen_token u k ≡ Some t → Seen (Ok u) t
seen-token u kind.Name t q h =
    let p : u ≡ t = cc in record { is = ap Ok p; some = λ x. let z : kind.Name ≡ kind.End = sym q ∙ ap (λ (w : Token). w.kind) p ∙ x in absurd (cc) }
seen-token u kind.Reserved t q h =
    let p : u ≡ t = cc in record { is = ap Ok p; some = λ x. let z : kind.Reserved ≡ kind.End = sym q ∙ ap (λ (w : Token). w.kind) p ∙ x in absurd (cc) }
seen-token u (kind.Number n) t q h =
    let p : u ≡ t = cc in record { is = ap Ok p; some = λ x. let z : kind.Number n ≡ kind.End = sym q ∙ ap (λ (w : Token). w.kind) p ∙ x in absurd (cc) }
seen-token u kind.Sign t q h =
    let p : u ≡ t = cc in record { is = ap Ok p; some = λ x. let z : kind.Sign ≡ kind.End = sym q ∙ ap (λ (w : Token). w.kind) p ∙ x in absurd (cc) }
seen-token u kind.End t q h = absurd (cc)

seen-is : (r : Result Token LexStop) (t : Token) → seen_from r ≡ Some t → Seen r t
seen-is (Ok u) t h = seen-token u u.kind t refl h
seen-is (Err stop) t h = absurd (cc)

seen-same : (f : Front) (at : ℕ) → Closed f.first f.n → Stands f.first at → Near f at → seen f.second at ≡ seen f.first at
seen-same f at c v near = ap seen_from ((again f at near.token c v near.next near.early).same ∙ sym near.next)

-- a reading from the start of the next token, or from its end, as a reading from the place before it
local-start : {A : Type 0} {f : Front} {S : Type 0} {k : ℕ} (at : ℕ) (t : Token) {r s : Reading A} → next_token f.first at ≡ Ok t → t.kind ≢ kind.End
    → Local f S k t.start r s → Local f S 0 at r s
local-start {f = f} {k = k} at t is some l =
    let next : Stands f.first at → Next f.first at t = λ v. next-stands f.first at t v is in
    record {
      moves = λ v x end e. let a = (next v).after in let b = l.moves (next v).begins x end e in omega arith;
      stays = λ v x end e. l.stays (next v).begins x end e;
      back = λ v x end e near.
          let n : Near f t.start = l.back (next v).begins x end e near in
          let m : Next f.first t.start n.token = next-stands f.first t.start n.token (next v).begins n.next in
          let a : t.start ≤ n.token.start = m.after in
          let b : n.token.start < f.n = n.early in
          record { token = t; next = is; early = omega arith };
      same = λ d c v x end e near. l.same d c (next v).begins x end e near;
      halts = λ q d v why place e. l.halts q d (next v).begins why place e;
    }

local-end : {A : Type 0} {f : Front} {S : Type 0} {k : ℕ} (at : ℕ) (t : Token) {r s : Reading A} → next_token f.first at ≡ Ok t → t.kind ≢ kind.End
    → Local f S k t.end r s → Local f S 0 at r s
local-end {f = f} {k = k} at t is some l =
    let next : Stands f.first at → Next f.first at t = λ v. next-stands f.first at t v is in
    record {
      moves = λ v x end e. let a = (next v).after in let o = (next v).order in let b = l.moves (next v).ends x end e in omega arith;
      stays = λ v x end e. l.stays (next v).ends x end e;
      back = λ v x end e near. near-token f at t is ((next v).some some) (next v).ends (l.back (next v).ends x end e near);
      same = λ d c v x end e near. l.same d c (next v).ends x end e near;
      halts = λ q d v why place e. l.halts q d (next v).ends why place e;
    }

-- what is read by the next token, if there is one
local-peek-by : {A : Type 0} {f : Front} {S : Type 0} {at : ℕ} (G H : Option Token → Reading A) → Local f (Unit {0}) 0 at (G None) (H None)
    → ((t : Token) → next_token f.first at ≡ Ok t → t.kind ≢ kind.End → Local f (SameToken f t) 0 at (G (Some t)) (H (Some t)))
    → (o : Option Token) → seen f.first at ≡ o → Local f S 0 at (G o) (H (seen f.second at))
local-peek-by {f = f} {at = at} G H none some None e = record {
  moves = none.moves;
  stays = none.stays;
  back = none.back;
  same = λ d c v x end q near. ap H (seen-same f at c v (none.back v x end q near) ∙ e) ∙ none.same tt c v x end q near;
  halts = λ q d v why place h. none.halts q tt v why place h;
}
local-peek-by {f = f} {at = at} G H none some (Some t) e =
    let k : Seen (next_token f.first at) t = seen-is (next_token f.first at) t e in
    let l = some t k.is k.some in
    record {
      moves = l.moves;
      stays = l.stays;
      back = l.back;
      same = λ d c v x end q near.
          let n : Near f at = l.back v x end q near in
          let same_token : n.token ≡ t = let z : Ok n.token ≡ Ok t = sym n.next ∙ k.is in cc in
          let early : t.start < f.n = subst (λ (u : Token). u.start < f.n) same_token n.early in
          let a : Again f at t = again f at t c v k.is early in
          ap H (seen-same f at c v n ∙ e) ∙ l.same a.token c v x end q near;
      halts = λ o d v why place h. l.halts o (one-text f t o (next-stands f.first at t v k.is).begins) v why place h;
    }

local-peek : {A : Type 0} {f : Front} {S : Type 0} {at : ℕ} (G H : Option Token → Reading A) → Local f (Unit {0}) 0 at (G None) (H None)
    → ((t : Token) → next_token f.first at ≡ Ok t → t.kind ≢ kind.End → Local f (SameToken f t) 0 at (G (Some t)) (H (Some t)))
    → Local f S 0 at (G (seen f.first at)) (H (seen f.second at))
local-peek {f = f} {at = at} G H none some = local-peek-by G H none some (seen f.first at) refl

-- a token that is needed and not read
local-look-by : {B : Type 0} {f : Front} {S : Type 0} {at : ℕ} {g h : Token → Reading B} → ((t : Token) → Local f (SameToken f t) 0 at (g t) (h t))
    → (r : Reading Token) → needed f.first at ≡ r → Local f S 0 at (then_read r (λ t _. g t)) (then_read (needed f.second at) (λ t _. h t))
local-look-by {f = f} {at = at} {h = h} m (Got t e) q =
    let k : Needed (next_token f.first at) t e = needed-is (next_token f.first at) t e q in
    let l = m t in
    record {
      moves = l.moves;
      stays = l.stays;
      back = l.back;
      same = λ d c v x end p near.
          let n : Near f at = l.back v x end p near in
          let same_token : n.token ≡ t = let z : Ok n.token ≡ Ok t = sym n.next ∙ k.is in cc in
          let early : t.start < f.n = subst (λ (u : Token). u.start < f.n) same_token n.early in
          let a : Again f at t = again f at t c v k.is early in
          ap (λ (r : Reading Token). then_read r (λ t _. h t)) (ap needed_from (a.same ∙ sym k.is) ∙ q) ∙ l.same a.token c v x end p near;
      halts = λ o d v why place h. l.halts o (one-text f t o (next-stands f.first at t v k.is).begins) v why place h;
    }
local-look-by {f = f} {at = at} {h = h} m (Stops reason place) q = local-needed reason place q (then_read (needed f.second at) (λ t _. h t))

local-look : {B : Type 0} {f : Front} {S : Type 0} {at : ℕ} {g h : Token → Reading B} → ((t : Token) → Local f (SameToken f t) 0 at (g t) (h t))
    → Local f S 0 at (then_read (needed f.first at) (λ t _. g t)) (then_read (needed f.second at) (λ t _. h t))
local-look {f = f} {at = at} m = local-look-by m (needed f.first at) refl

-- ---- parts of items

placed-local : {f : Front} {S : Type 0} {at : ℕ} (c : ℕ) → Local f S 1 at (placed c f.first at) (placed c f.second at)
placed-local {f} c = local-token (λ t. local-pass t (sign_of f.first t == c) (sign_of f.second t == c) t.start t.start (λ e. ap (λ s. s == c) (sign-same f t e)) (λ _. refl))

separator-local : {f : Front} {S : Type 0} {at : ℕ} → Local f S 1 at (separator f.first at) (separator f.second at)
separator-local {f} =
    local-token (λ t. local-pass t (is_separator (lead_of f.first t)) (is_separator (lead_of f.second t)) (is_dot (lead_of f.first t), t.start) (is_dot (lead_of f.second t), t.start)
    (λ e. ap is_separator (lead-same f t e)) (λ e. ap (λ l. (is_dot l, t.start)) (lead-same f t e)))

unfocus-local : {f : Front} {S : Type 0} {at : ℕ} → Local f S 1 at (unfocus_place f.first at) (unfocus_place f.second at)
unfocus-local {f} =
    local-token (λ t. local-pass t (is_spelled (codes "unfocus") f.first t) (is_spelled (codes "unfocus") f.second t) t.start t.start (is_spelled-same (codes "unfocus") f t) (λ _. refl))

positions-local : {f : Front} {S : Type 0} (t : Token) → Local f S 1 t.start (positions f.first t) (positions f.second t)
positions-local t = local-then nums-local (λ ns a. local-then (sign-local 58) (λ _ end. local-got (pick.Positions t.start ns)))

rest-local : {f : Front} {S : Type 0} (t : Token) → Local f S 1 t.end (rest_of f.first t) (rest_of f.second t)
rest-local t = local-then (sign-local 58) (λ _ end. local-got (pick.Rest t.start))

picked-by : {f : Front} (at : ℕ) (t : Token) → next_token f.first at ≡ Ok t → t.kind ≢ kind.End → (number star : Bool)
    → Local f (SameToken f t) 0 at (cond number (positions f.first t) (cond star (rest_of f.first t) (Got pick.Next at))) (cond number (positions f.second t) (cond star (rest_of f.second t) (Got pick.Next at)))
picked-by at t is some true star = local-start at t is some (positions-local t)
picked-by at t is some false true = local-end at t is some (rest-local t)
picked-by at t is some false false = local-got pick.Next

picked-local : {f : Front} {S : Type 0} (at : ℕ) → Local f S 0 at (picked f.first at) (picked f.second at)
picked-local {f} at =
    local-peek (λ o. pick_by o f.first at) (λ o. pick_by o f.second at) (local-got pick.Next) (λ t is some.
    local-to (picked-by at t is some (is_number_kind t.kind) (sign_of f.first t == 42)) _
    (λ e. ap (λ s. cond (is_number_kind t.kind) (positions f.second t) (cond (s == 42) (rest_of f.second t) (Got pick.Next at))) (sign-same f t e)))

-- ---- items, where a sequence within the sequence is local

module _ (f : Front) (depth : ℕ) (ia ib : ℕ → Reading Block') (inner : (at : ℕ) → Local f (Unit {0}) 0 at (ia at) (ib at)) where
  within : {S : Type 0} (at : ℕ) → Local f S 0 at (ia at) (ib at)
  within at = local-under (inner at) (λ _. tt)

  branch-local : {S : Type 0} (start at : ℕ) → Local f S 0 at (branch ia f.first start at) (branch ib f.second start at)
  branch-local start at = local-then (picked-local at) (λ p a. local-then (within a) (λ s end. local-got (record { at = start; pick = p; body = s })))

  barred-local : {S : Type 0} (at : ℕ) → Local f S 1 at (barred ia f.first at) (barred ib f.second at)
  barred-local at = local-then (placed-local 124) (λ start a. branch-local start a)

  branch_list-local : {S : Type 0} (start at : ℕ) → Local f S 0 at (branch_list ia f.first start at) (branch_list ib f.second start at)
  branch_list-local start at =
      local-then (branch-local start at) (λ b a.
      local-then (row-of-sign 124 (barred ia f.first) (barred ib f.second) (λ place. barred-local place)) (λ more end. local-got (b ∷ more)))

  branches-local : {S : Type 0} (start at : ℕ) → Local f S 0 at (branches ia f.first start at) (branches ib f.second start at)
  branches-local start at =
      local-then (branch_list-local start at) (λ bs a. local-then (placed-local 93) (λ close end. local-got (Branches (choices bs) close)))

  focus-local : {S : Type 0} (start at : ℕ) → Local f S 1 at (focus ia f.first start at) (focus ib f.second start at)
  focus-local start at =
      local-then nums-local (λ ns a.
      local-then separator-local (λ s b.
      local-then (within b) (λ body c.
      local-then unfocus-local (λ u end. local-got (Focus start ns s.0 s.1 body u)))))

  item-by : (t : Token) (l : Lead) → Local f (SameToken f t) 0 t.end (item_by l depth ia f.first t) (item_by l depth ib f.second t)
  item-by t (lead.Action v) = local-then (action-local v depth t) (λ a end. local-got (Action t.start a))
  item-by t lead.Skip = local-got (Skip t.start)
  item-by t lead.Open = branches-local t.start t.end
  item-by t lead.Focus = local-weaker (focus-local t.start t.end)
  item-by t lead.Semicolon = local-stop Syntax t.start (λ e. e.begins) _
  item-by t lead.Dot = local-stop Syntax t.start (λ e. e.begins) _
  item-by t lead.Other = local-stop Syntax t.start (λ e. e.begins) _

  optional-by : (at : ℕ) (t : Token) → next_token f.first at ≡ Ok t → t.kind ≢ kind.End → (l : Lead) (b : Bool)
      → Local f (SameToken f t) 0 at (cond b (then_read (item_by l depth ia f.first t) (λ s end. Got (Some s) end)) (Got None at))
      (cond b (then_read (item_by l depth ib f.second t) (λ s end. Got (Some s) end)) (Got None at))
  optional-by at t is some l true = local-end at t is some (local-then (item-by t l) (λ s end. local-got (Some s)))
  optional-by at t is some l false = local-got None

  optional-local : {S : Type 0} (at : ℕ) → Local f S 0 at (optional_item depth ia f.first at) (optional_item depth ib f.second at)
  optional-local at =
      local-peek (λ o. optional_by o depth ia f.first at) (λ o. optional_by o depth ib f.second at) (local-got None) (λ t is some.
      local-to (optional-by at t is some (lead_of f.first t) (begins_item (lead_of f.first t))) _
      (λ e. ap (λ l. cond (begins_item l) (then_read (item_by l depth ib f.second t) (λ s end. Got (Some s) end)) (Got None at)) (lead-same f t e)))

  led-item-local : {S : Type 0} (at : ℕ) → Local f S 1 at (led_item depth ia f.first at) (led_item depth ib f.second at)
  led-item-local at =
      local-then separator-local (λ s a. local-then (optional-local a) (λ i end. local-got (record { sign = separated_by s; item = i })))

  pub items-local : {S : Type 0} (at : ℕ) → Local f S 0 at (items depth ia f.first at) (items depth ib f.second at)
  items-local at =
      local-then (optional-local at) (λ first a.
      local-then (local-row f (λ t. is_separator (lead_of f.first t)) (λ t. is_separator (lead_of f.second t)) (λ t e. ap is_separator (lead-same f t e))
      (led_item depth ia f.first) (led_item depth ib f.second) (λ place. led-item-local place) a) (λ rest end. local-got (item_onto first (led_onto rest End))))

full-by : {f : Front} (at : ℕ) (t : Token) (b : Bool) (l l' : Lead) → Local f (SameToken f t) 0 at (cond b (Got End at) (full_at l t.start)) (cond b (Got End at) (full_at l' t.start))
full-by at t true l l' = local-got End
full-by at t false l l' = local-stop _ t.start (λ e. e.begins) _

pub sequence-local : {f : Front} (room at : ℕ) → Local f (Unit {0}) 0 at (sequence room f.first at) (sequence room f.second at)
sequence-local {f} zero at =
    local-look (λ t. local-to (full-by at t (ends_sequence f.first t) (lead_of f.first t) (lead_of f.second t)) _
    (λ e. ap (λ b. cond b (Got End at) (full_at (lead_of f.second t) t.start)) (ends-same f t e)))
sequence-local {f} (suc room) at = items-local f (200 - room) (sequence room f.first) (sequence room f.second) (sequence-local room) at
