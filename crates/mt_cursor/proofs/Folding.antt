-- The units of a text, one after another, from a state.
use Rattle.std.proofs.Common.{◌≡◌, ◌<◌, ◌≤◌, ◌⊎◌, ℕ, zero, suc, ◌+◌, Bool, true, false, if◌then◌else◌, List, [], ◌∷◌, ◌++◌, length, take, slice_get, Option, Some, None, refl, ap, sym, ◌∙◌, subst, arith, inl, inr, length-append}
use Rattle.std.proofs.lemmas.List.{take_all, take-append-le}
use Rattle.std.proofs.lemmas.Bool.{leb-true}
use Rattle.std.proofs.lemmas.Str.{IsCharBoundary-start}
use Rattle.std.specs.Str.{IsUtf8, IsCharBoundary}
use Rattle.mt_term.specs.Trees.{Bytes}
use Rattle.mt_text.specs.declared.UnitSpan.{UnitSpan}
use Rattle.mt_cursor.specs.Runners.{Rules, Parsed, Found, AtEnd, Faults, Stepped, Becomes, Refuses, Spends, PlaceLaw, SeenLaw, IsSameUnit}
use Rattle.mt_cursor.specs.Sessions.{Standing, Turn, Goes, Over, Stops, Refused, Spent, end_after, place_of, without_units, with_unit, ends_within, turn, turn_by, turn_by_step, standing_after, with_next, fold, first_passing, is_seen_by}
use Rattle.mt_cursor.proofs.Lists.{same_front}

pub end_after_push : (at : ℕ) (us : List UnitSpan) (u : UnitSpan) → end_after at (us ++ u ∷ []) ≡ u.end
end_after_push at [] u = refl
end_after_push at (v ∷ us) u = end_after_push v.end us u

-- a unit was accepted
pub record Accepted {S : Type 0} (rules : Rules S) (text : Bytes) (st next : Standing S) (cost : ℕ) : Type 0 where
  pub unit : UnitSpan
  pub state : S
  pub found : rules.parse text (place_of st.units) ≡ Found unit
  pub step : rules.step st.state text unit ≡ Becomes state cost
  pub is : next ≡ with_unit st unit state

accepted_by_step : {S : Type 0} (rules : Rules S) (text : Bytes) (st next : Standing S) (c : ℕ) (u : UnitSpan) (d : Stepped S)
    → rules.parse text (place_of st.units) ≡ Found u → rules.step st.state text u ≡ d → turn_by_step st u d ≡ Goes next c → Accepted rules text st next c
accepted_by_step rules text st next c u (Becomes s k) found step went =
    record { unit = u; state = s; found = found; step = step ∙ ap (λ n. Becomes s n) (cc); is = cc }
accepted_by_step rules text st next c u (Refuses b k) found step went = absurd (cc)
accepted_by_step rules text st next c u (Spends k) found step went = absurd (cc)

accepted_by_limit : {S : Type 0} (rules : Rules S) (text : Bytes) (st next : Standing S) (c : ℕ) (u : UnitSpan) (b : Bool)
    → rules.parse text (place_of st.units) ≡ Found u
    → (if b then turn_by_step st u (rules.step st.state text u) else Over) ≡ Goes next c → Accepted rules text st next c
accepted_by_limit rules text st next c u true found went = accepted_by_step rules text st next c u (rules.step st.state text u) found refl went
accepted_by_limit rules text st next c u false found went = absurd (cc)

accepted_by : {S : Type 0} (rules : Rules S) (limit : Option ℕ) (text : Bytes) (st next : Standing S) (c : ℕ) (p : Parsed)
    → rules.parse text (place_of st.units) ≡ p → turn_by rules limit text st p ≡ Goes next c → Accepted rules text st next c
accepted_by rules limit text st next c (Found u) found went = accepted_by_limit rules text st next c u (ends_within limit u) found went
accepted_by rules limit text st next c AtEnd found went = absurd (cc)
accepted_by rules limit text st next c (Faults b) found went = absurd (cc)

-- what an accepted unit is
pub accepted : {S : Type 0} (rules : Rules S) (limit : Option ℕ) (text : Bytes) (st next : Standing S) (c : ℕ)
    → turn rules limit text st ≡ Goes next c → Accepted rules text st next c
accepted rules limit text st next c went = accepted_by rules limit text st next c (rules.parse text (place_of st.units)) refl went

-- a unit that is read and accepted is the next one
pub turn_of : {S : Type 0} (rules : Rules S) (text : Bytes) (st : Standing S) (u : UnitSpan) (s : S) (c : ℕ)
    → rules.parse text (place_of st.units) ≡ Found u → rules.step st.state text u ≡ Becomes s c
    → turn rules None text st ≡ Goes (with_unit st u s) c
turn_of rules text st u s c found step = rw found (rw step refl)

pub next_of : {S : Type 0} (rules : Rules S) (text : Bytes) (st : Standing S) (u : UnitSpan) (s : S) (c : ℕ)
    → rules.parse text (place_of st.units) ≡ Found u → rules.step st.state text u ≡ Becomes s c
    → with_next rules text st ≡ with_unit st u s
next_of rules text st u s c found step = ap (λ t. standing_after st t) (turn_of rules text st u s c found step)

-- ---- places

placed_after : {S : Type 0} (rules : Rules S) (text : Bytes) (st : Standing S) (t : Turn S) → IsUtf8 text → PlaceLaw rules
    → turn rules None text st ≡ t → IsCharBoundary text (place_of st.units) → IsCharBoundary text (place_of (standing_after st t).units)
placed_after rules text st (Goes next c) utf8 law e at =
    let a : Accepted rules text st next c = accepted rules None text st next c e in
    subst (λ n. IsCharBoundary text (place_of n.units)) (sym a.is)
    (subst (IsCharBoundary text) (sym (end_after_push 0 st.units a.unit)) (law text (place_of st.units) a.unit utf8 at a.found).stop)
placed_after rules text st Over utf8 law e at = at
placed_after rules text st (Stops h c) utf8 law e at = at

-- the next unit is read at the bound of a character
pub fold_placed : {S : Type 0} (rules : Rules S) (text : Bytes) (s : S) (k : ℕ) → IsUtf8 text → PlaceLaw rules
    → IsCharBoundary text (place_of (fold rules text s k).units)
fold_placed rules text s zero utf8 law = IsCharBoundary-start text utf8
fold_placed rules text s (suc k) utf8 law =
    placed_after rules text (fold rules text s k) (turn rules None text (fold rules text s k)) utf8 law refl (fold_placed rules text s k utf8 law)

-- ---- how many

length_after : {S : Type 0} (rules : Rules S) (text : Bytes) (st : Standing S) (t : Turn S) → turn rules None text st ≡ t
    → length (standing_after st t).units ≤ length st.units + 1
length_after rules text st (Goes next c) e =
    let a : Accepted rules text st next c = accepted rules None text st next c e in
    subst (λ n. length n.units ≤ length st.units + 1) (sym a.is) (omega (arith, length-append st.units (a.unit ∷ [])))
length_after rules text st Over e = omega arith
length_after rules text st (Stops h c) e = omega arith

pub fold_length : {S : Type 0} (rules : Rules S) (text : Bytes) (s : S) (k : ℕ) → length (fold rules text s k).units ≤ k
fold_length rules text s zero = omega arith
fold_length rules text s (suc k) =
    omega (arith, length_after rules text (fold rules text s k) (turn rules None text (fold rules text s k)) refl, fold_length rules text s k)

-- the last of so many units, where there are so many
pub record Last {S : Type 0} (rules : Rules S) (text : Bytes) (s : S) (k : ℕ) : Type 0 where
  pub whole : length (fold rules text s k).units ≡ k
  pub cost : ℕ
  pub accepted : Accepted rules text (fold rules text s k) (fold rules text s (suc k)) cost

last_after : {S : Type 0} (rules : Rules S) (text : Bytes) (s : S) (k : ℕ) (t : Turn S) → turn rules None text (fold rules text s k) ≡ t
    → length (standing_after (fold rules text s k) t).units ≡ suc k → fold rules text s (suc k) ≡ standing_after (fold rules text s k) t → Last rules text s k
last_after rules text s k (Goes next c) e whole is =
    let a : Accepted rules text (fold rules text s k) next c = accepted rules None text (fold rules text s k) next c e in
    let n : length next.units ≡ length (fold rules text s k).units + 1 = ap (λ n. length n.units) a.is ∙ length-append (fold rules text s k).units (a.unit ∷ []) in
    record { whole = omega arith; cost = c; accepted = subst (λ n. Accepted rules text (fold rules text s k) n c) (sym is) a }
last_after rules text s k Over e whole is = absurd (omega (arith, fold_length rules text s k))
last_after rules text s k (Stops h c) e whole is = absurd (omega (arith, fold_length rules text s k))

pub last : {S : Type 0} (rules : Rules S) (text : Bytes) (s : S) (k : ℕ) → length (fold rules text s (suc k)).units ≡ suc k → Last rules text s k
last rules text s k whole = last_after rules text s k (turn rules None text (fold rules text s k)) refl whole refl

pub last_units : {S : Type 0} (rules : Rules S) (text : Bytes) (s : S) (k : ℕ) (l : Last rules text s k)
    → (fold rules text s (suc k)).units ≡ (fold rules text s k).units ++ l.accepted.unit ∷ []
last_units rules text s k l = ap (λ n. n.units) l.accepted.is

-- where k units are accepted, the first i of them are the units of the first i
pub record Front {S : Type 0} (rules : Rules S) (text : Bytes) (s : S) (k i : ℕ) : Type 0 where
  pub whole : length (fold rules text s i).units ≡ i
  pub units : (fold rules text s i).units ≡ take i (fold rules text s k).units

pub front : {S : Type 0} (rules : Rules S) (text : Bytes) (s : S) (k i : ℕ) → length (fold rules text s k).units ≡ k → i ≤ k → Front rules text s k i
front rules text s zero zero whole le = record { whole = whole; units = refl }
front rules text s zero (suc i) whole le = absurd (omega arith)
front rules text s (suc k) i whole le =
    elim (split i k le) [
      | inl below ↦
          let l : Last rules text s k = last rules text s k whole in
          let f : Front rules text s k i = front rules text s k i l.whole below in
          record { whole = f.whole; units = f.units ∙ sym (ap (λ us. take i us) (last_units rules text s k l) ∙ take-append-le i (fold rules text s k).units (l.accepted.unit ∷ []) (subst (λ n. i ≤ n) (sym l.whole) below)) }
      | inr same ↦ subst (Front rules text s (suc k)) (sym same) (record { whole = whole; units = sym (take_all (suc k) (fold rules text s (suc k)).units (subst (λ n. n ≤ suc k) (sym whole) (omega arith))) })
    ]
  where
    split : (i k : ℕ) → i ≤ suc k → (i ≤ k) ⊎ (i ≡ suc k)
    split i k le = grind arith

-- ---- another text with the same front

-- all of these units pass a test
abbrev pub AllPass : (UnitSpan → Bool) → List UnitSpan → Type 0
AllPass test [] = Unit {0}
AllPass test (u ∷ us) = (test u ≡ true) × AllPass test us

all_before : (test : UnitSpan → Bool) (us : List UnitSpan) (u : UnitSpan) → AllPass test (us ++ u ∷ []) → AllPass test us
all_before test [] u h = tt
all_before test (v ∷ us) u h = (h.0, all_before test us u h.1)

last_passes : (test : UnitSpan → Bool) (us : List UnitSpan) (u : UnitSpan) → AllPass test (us ++ u ∷ []) → test u ≡ true
last_passes test [] u h = h.0
last_passes test (v ∷ us) u h = last_passes test us u h.1

all_first_by : (test : UnitSpan → Bool) (u : UnitSpan) (us : List UnitSpan) (b : Bool) → test u ≡ b → AllPass test (take (first_passing test us) us)
    → AllPass test (take (if b then suc (first_passing test us) else 0) (u ∷ us))
all_first_by test u us true e rest = (e, rest)
all_first_by test u us false e rest = tt

-- the units that stand first and pass, pass
pub all_first : (test : UnitSpan → Bool) (us : List UnitSpan) → AllPass test (take (first_passing test us) us)
all_first test [] = tt
all_first test (u ∷ us) = all_first_by test u us (test u) refl (all_first test us)

first_within_by : (b : Bool) (m n : ℕ) → m ≤ n → (if b then suc m else 0) ≤ suc n
first_within_by true m n le = omega arith
first_within_by false m n le = omega arith

pub first_within : (test : UnitSpan → Bool) (us : List UnitSpan) → first_passing test us ≤ length us
first_within test [] = omega arith
first_within test (u ∷ us) = first_within_by (test u) (first_passing test us) (length us) (first_within test us)

pub all_front : (test : UnitSpan → Bool) (us : List UnitSpan) (i : ℕ) → AllPass test us → AllPass test (take i us)
all_front test [] zero h = tt
all_front test [] (suc i) h = tt
all_front test (u ∷ us) zero h = tt
all_front test (u ∷ us) (suc i) h = (h.0, all_front test us i h.1)

-- units that are decided by what stands before a place are those of each text with the same bytes before that place
pub same_fold : {S : Type 0} (rules : Rules S) (a b : Bytes) (s : S) (start k : ℕ) → IsUtf8 a → IsUtf8 b → PlaceLaw rules → SeenLaw rules
    → take start a ≡ take start b → length (fold rules a s k).units ≡ k → AllPass (is_seen_by start) (fold rules a s k).units
    → fold rules b s k ≡ fold rules a s k
same_fold rules a b s start zero ua ub place seen same whole all = refl
same_fold rules a b s start (suc k) ua ub place seen same whole all =
    let l : Last rules a s k = last rules a s k whole in
    let u : UnitSpan = l.accepted.unit in
    let all_units : AllPass (is_seen_by start) ((fold rules a s k).units ++ u ∷ []) = subst (AllPass (is_seen_by start)) (last_units rules a s k l) all in
    let passes : is_seen_by start u ≡ true = last_passes (is_seen_by start) (fold rules a s k).units u all_units in
    let le : u.seen ≤ start = leb-true u.seen start passes in
    let at : ℕ = place_of (fold rules a s k).units in
    let same_unit : IsSameUnit rules a b at u = seen a b at u ua ub (fold_placed rules a s k ua place) l.accepted.found (same_front a b u.seen start le same) in
    let before : fold rules b s k ≡ fold rules a s k =
    same_fold rules a b s start k ua ub place seen same l.whole (all_before (is_seen_by start) (fold rules a s k).units u all_units) in
    ap (with_next rules b) before ∙ next_of rules b (fold rules a s k) u l.accepted.state l.cost same_unit.unit (same_unit.step (fold rules a s k).state ∙ l.accepted.step) ∙ sym l.accepted.is
