-- A row that no constraint lengthens has the lengths of the longest paths from a name, or the heights and 1.
use Rattle.std.proofs.Common.{◌≡◌, ℕ, zero, suc, ◌+◌, ◌-◌, ◌*◌, ◌<◌, ◌≤◌, max, Bool, true, false, not, ◌||◌, ◌&&◌, List, [], ◌∷◌, length, length-set, slice_index, slice_set, slice_get, get_or, Some, None, refl, sym, ◌∙◌, ap, subst, inl, inr, arith}
use Rattle.std.proofs.lemmas.Option.{get_or_from_slice_get, slice_get_within, slice_get-get_or}
use Rattle.std.specs.List.{All, list_all}
use Rattle.std.specs.Prelude.{sum, if◌then◌else◌, nat_lt}
use Rattle.std.proofs.lemmas.Bool.{cases_lt, cases_eq, false≢true, le-leb, lt-leb, lt-ltb, le-ltb}
use Rattle.std.proofs.lemmas.List.Sums.{sum_by-set, sum_by-le}
use Rattle.mt_term.specs.declared.universes.Atom.{Atom}
use Rattle.mt_term.specs.declared.universes.UnivExpr.{UnivExpr}
use Rattle.mt_term.specs.Universes.{Constraints, Valuation, MeetsAll, value}
use Rattle.mt_term.specs.UniverseOrder.{joined, path, height, acyclic, covers, is_covered, at_most_by, at_most}
use Rattle.mt_term.proofs.Options.{none_some}
use Rattle.mt_universe.proofs.UniverseOrderLaws.{joined_cases, acyclic_longest, acyclic_decides}
use Rattle.std.proofs.lemmas.List.{get_or_default, get_or_past, get_or-set_same, get_or-set_other}
use Rattle.mt_kernel.specs.Rows.{HasPlaces, IsBounded, IsSettled, IsShort, IsTooLong}

-- a valuation with the names that have a number in a row above n
abbrev above : Valuation → ℕ → (ℕ → ℕ) → Valuation
above h n R b = max (h b) (joined n (R b))

above_meets : (cs : Constraints) (h : Valuation) (n : ℕ) (R : ℕ → ℕ) → MeetsAll cs h → All (λ c. 0 < R c.0 → R c.0 < R c.1) cs → MeetsAll cs (above h n R)
above_meets cs h n R m g k d lt =
    let p = (get_or cs k d).0 in
    let r = (get_or cs k d).1 in
    let s1 : h p < h r = m k d lt in
    let s2 : 0 < R p → R p < R r = g k d lt in
    grind (arith, joined_cases n (R p), joined_cases n (R r), s1, s2)

-- what bounds every valuation is at most what no constraint lengthens
is_least : (cs : Constraints) (h : Valuation) (R R' : ℕ → ℕ) (a : ℕ) → MeetsAll cs h → All (λ c. 0 < R c.0 → R c.0 < R c.1) cs → 0 < R a
    → ((v : Valuation) → MeetsAll cs v → (b : ℕ) → 0 < R' b → v a + R' b ≤ v b + 1) → (b : ℕ) → R' b ≤ R b
is_least cs h R R' a m g p bound b =
    let n = h b + 1 in
    let q : 0 < R' b → max (h a) (joined n (R a)) + R' b ≤ max (h b) (joined n (R b)) + 1 = λ s. bound (above h n R) (above_meets cs h n R m g) b s in
    grind (arith, joined_cases n (R a), joined_cases n (R b), q)

pub row_is_path : (cs : Constraints) (a : ℕ) (row : List ℕ) → acyclic cs ≡ true → ((v : Valuation) → MeetsAll cs v → IsBounded v (v a) row) → 0 < slice_index row a → IsSettled cs row
    → (b : ℕ) → slice_index row b ≡ path cs a b
row_is_path cs a row e bound p g b =
    let l = acyclic_longest cs e in
    let low = is_least cs (height cs) (path cs a) (slice_index row) a l.meet (l.grow a) (l.itself a) bound b in
    let high = is_least cs (height cs) (slice_index row) (path cs a) a l.meet g p (λ v m c q. l.bound v m a c q) b in
    omega (arith, low, high)

-- a row of numbers that are not 0
pub row_meets : (cs : Constraints) (row : List ℕ) → All (λ c. 0 < slice_index row c.0) cs → IsSettled cs row → MeetsAll cs (λ b. slice_index row b - 1)
row_meets cs row p g k d lt =
    let s : 0 < slice_index row (get_or cs k d).0 → slice_index row (get_or cs k d).0 < slice_index row (get_or cs k d).1 = g k d lt in
    let q : 0 < slice_index row (get_or cs k d).0 = p k d lt in
    omega (arith, q, s q)

pub row_acyclic : (cs : Constraints) (row : List ℕ) → All (λ c. 0 < slice_index row c.0) cs → IsSettled cs row → acyclic cs ≡ true
row_acyclic cs row p g = (acyclic_decides cs).1 ((λ b. slice_index row b - 1), row_meets cs row p g)

pub row_is_height : (cs : Constraints) (row : List ℕ) → All (λ c. 0 < slice_index row c.0) cs → ((v : Valuation) → MeetsAll cs v → IsBounded v 0 row) → IsSettled cs row
    → (b : ℕ) → slice_index row b - 1 ≡ height cs b
row_is_height cs row p bound g b =
    let l = acyclic_longest cs (row_acyclic cs row p g) in
    let low : height cs b ≤ slice_index row b - 1 = l.least (λ b. slice_index row b - 1) (row_meets cs row p g) b in
    let high : 0 < slice_index row b → 0 + slice_index row b ≤ height cs b + 1 = bound (height cs) l.meet b in
    grind (arith, low, high)

-- atoms are covered by a row as by the paths from their name
pub covered_by_row : (cs : Constraints) (row : List ℕ) (a : Atom) → ((b : ℕ) → slice_index row b ≡ path cs a.name b) → (bs : List Atom)
    → is_covered (λ x y. slice_index row y) bs a ≡ is_covered (path cs) bs a
covered_by_row cs row a e [] = refl
covered_by_row cs row a e (b ∷ bs) = λ i. (covers (λ x y. e y i) a b || covered_by_row cs row a e bs i)

pub value_by_row : (cs : Constraints) (row : List ℕ) → ((b : ℕ) → slice_index row b - 1 ≡ height cs b) → (u : UnivExpr) → value (λ b. slice_index row b - 1) u ≡ value (height cs) u
value_by_row cs row e u = ap (λ h. value h u) (λ i b. e b i)

-- the test by rows is the order
pub order_by_rows : (cs : Constraints) (u w : UnivExpr) → acyclic cs ≡ true → at_most cs u w ≡ at_most_by (path cs) (height cs) u w
unfolding at_most
order_by_rows cs u w e = ap (λ b. not b || at_most_by (path cs) (height cs) u w) e

-- what holds of all holds of the one at a place
pub held_at : {X : Type 0} (P : X → Type 0) (xs : List X) (i : ℕ) (x : X) → slice_get xs i ≡ Some x → ((k : ℕ) (d : X) → k < length xs → P (get_or xs k d)) → P x
held_at P xs i x e h = subst P (get_or_from_slice_get xs i x x e) (h i x (slice_get_within xs i x e))

pub at_none : (xs : List (ℕ × ℕ)) (i : ℕ) → i < length xs → slice_get xs i ≡ None → ⊥
at_none xs i l e = none_some (sym e ∙ slice_get-get_or xs i (0, 0) l)

pub true_not_false : ◌≡◌ {A = Bool} true false → ⊥
true_not_false e = false≢true (sym e)

pub up_to : (i : ℕ) (P : ℕ → Type 0) → ((k : ℕ) → k < i → P k) → P i → (k : ℕ) → k < i + 1 → P k
up_to i P h p k l = elim (cases_lt k i) [ inl q ↦ h k q | inr q ↦ subst P (omega (arith, q, l)) p ]

-- a row of ones, and what it becomes
pub ones_bounded : (v : Valuation) (row : List ℕ) → ((b : ℕ) → b < length row → slice_index row b ≡ 1) → IsBounded v 0 row
ones_bounded v row one b p = elim (cases_lt b (length row)) [ inl l ↦ omega (arith, one b l) | inr l ↦ omega (arith, get_or_past row b 0 l) ]

pub ones_kept : (cs : Constraints) (row row' : List ℕ) → ((b : ℕ) → b < length row → slice_index row b ≡ 1) → HasPlaces cs (length row) → ((b : ℕ) → slice_index row b ≤ slice_index row' b) → All (λ c. 0 < slice_index row' c.0) cs
ones_kept cs row row' one places grown k d l =
    let b = (get_or cs k d).0 in
    let p : (b < length row) × ((get_or cs k d).1 < length row) = places k d l in
    omega (arith, one b p.0, grown b)

-- a row of 0 with 1 at one name
pub one_set : (row : List ℕ) (a : ℕ) → a < length row → slice_index (slice_set row a 1) a ≡ 1
one_set row a l = get_or-set_same row a 1 0 l

pub one_bounded : (v : Valuation) (row : List ℕ) (a : ℕ) → ((b : ℕ) → b < length row → slice_index row b ≡ 0) → IsBounded v (v a) (slice_set row a 1)
one_bounded v row a none b p =
    elim (cases_eq b a) [
      | inl e ↦ elim (cases_lt a (length row)) [
        | inl l ↦ (let q : slice_index (slice_set row a 1) b ≡ 1 = ap (slice_index (slice_set row a 1)) e ∙ one_set row a l in let s : v b ≡ v a = ap v e in omega (arith, q, s))
        | inr l ↦ (let q : slice_index (slice_set row a 1) b ≡ 0 = get_or_past (slice_set row a 1) b 0 (omega (arith, length-set row a 1, e, l)) in omega (arith, q, p))
      ]
      | inr ne ↦ (let q : slice_index (slice_set row a 1) b ≡ slice_index row b = get_or-set_other row a b 1 0 ne in
          elim (cases_lt b (length row)) [ inl l ↦ omega (arith, q, p, none b l) | inr l ↦ omega (arith, q, p, get_or_past row b 0 l) ])
    ]

pub too_low : (cs : Constraints) (u w : UnivExpr) → acyclic cs ≡ true → value (height cs) w < u.base → at_most cs u w ≡ false
too_low cs u w e l = order_by_rows cs u w e ∙ ap (λ b. b && list_all (is_covered (path cs) w.atoms) u.atoms) (lt-leb u.base (value (height cs) w) l)

pub by_atoms : (cs : Constraints) (u w : UnivExpr) → acyclic cs ≡ true → u.base ≤ value (height cs) w → at_most cs u w ≡ list_all (is_covered (path cs) w.atoms) u.atoms
by_atoms cs u w e l = order_by_rows cs u w e ∙ ap (λ b. b && list_all (is_covered (path cs) w.atoms) u.atoms) (le-leb u.base (value (height cs) w) l)

-- how many of the first names have values below a number
abbrev one : ℕ → ℕ → ℕ
one a x = if nat_lt a x then 1 else 0

abbrev rank : ℕ → Valuation → ℕ → ℕ
rank zero v x = 0
rank (suc n) v x = one (v n) x + rank n v x

one_yes : (a x : ℕ) → a < x → one a x ≡ 1
one_yes a x l = ap (λ b. if b then 1 else 0) (lt-ltb a x l)

one_no : (a x : ℕ) → x ≤ a → one a x ≡ 0
one_no a x l = ap (λ b. if b then 1 else 0) (le-ltb a x l)

rank_most : (n : ℕ) (v : Valuation) (x : ℕ) → rank n v x ≤ n
rank_most zero v x = omega arith
rank_most (suc n) v x =
    let r = rank_most n v x in
    elim (cases_lt (v n) x) [ inl l ↦ omega (arith, one_yes (v n) x l, r) | inr g ↦ omega (arith, one_no (v n) x g, r) ]

rank_grows : (n : ℕ) (v : Valuation) (x y : ℕ) → x ≤ y → rank n v x ≤ rank n v y
rank_grows zero v x y h = omega arith
rank_grows (suc n) v x y h =
    let r = rank_grows n v x y h in
    elim (cases_lt (v n) x) [
      | inl l ↦ omega (arith, one_yes (v n) x l, one_yes (v n) y (omega (arith, l, h)), r)
      | inr g ↦ omega (arith, one_no (v n) x g, r)
    ]

rank_more : (n : ℕ) (v : Valuation) (a y : ℕ) → a < n → v a < y → rank n v (v a) < rank n v y
rank_more zero v a y l h = omega arith
rank_more (suc n) v a y l h =
    elim (cases_eq a n) [
      | inl e ↦ (let same : v a ≡ v n = ap v e in
          omega (arith, one_no (v n) (v a) (omega (arith, same)), one_yes (v n) y (omega (arith, same, h)), rank_grows n v (v a) y (omega (arith, h))))
      | inr ne ↦ (let r = rank_more n v a y (omega (arith, l, ne)) h in
          elim (cases_lt (v n) (v a)) [
            | inl s ↦ omega (arith, one_yes (v n) (v a) s, one_yes (v n) y (omega (arith, s, h)), r)
            | inr g ↦ omega (arith, one_no (v n) (v a) g, r)
          ])
    ]

rank_less : (n : ℕ) (v : Valuation) (a : ℕ) → a < n → rank n v (v a) < n
rank_less n v a l = omega (arith, rank_more n v a (v a + 1) l (omega arith), rank_most n v (v a + 1))

-- the ranks of names meet what the values meet
rank_meets : (cs : Constraints) (n : ℕ) (v : Valuation) → HasPlaces cs n → MeetsAll cs v → MeetsAll cs (λ b. rank n v (v b))
rank_meets cs n v places m k d l = rank_more n v (get_or cs k d).0 (v (get_or cs k d).1) (places k d l).0 (m k d l)

-- so no valuation meets the constraints that make a row too long
pub too_long : (cs : Constraints) (row : List ℕ) (o : Valuation → ℕ) → HasPlaces cs (length row) → ((v : Valuation) → MeetsAll cs v → IsBounded v (o v) row) → IsTooLong row → acyclic cs ≡ true → ⊥
too_long cs row o places bound long e =
    let h = height cs in
    let n = length row in
    let v : Valuation = λ b. rank n h (h b) in
    let b = long.0 in
    elim (cases_lt b n) [
      | inl l ↦ (let low : o v + slice_index row b ≤ v b + 1 = bound v (rank_meets cs n h places (acyclic_longest cs e).meet) b (omega (arith, long.1)) in
          omega (arith, low, rank_less n h b l, long.1))
      | inr g ↦ omega (arith, get_or_past row b 0 g, long.1)
    ]

-- a number in a short row is replaced by one that is not too large
pub short_set : (row : List ℕ) (a x : ℕ) → IsShort row → x ≤ length row + 1 → a < length row → IsShort (slice_set row a x)
short_set row a x h l i b =
    elim (cases_eq b a) [
      | inl e ↦ (let q : slice_index (slice_set row a x) b ≡ x = ap (slice_index (slice_set row a x)) e ∙ get_or-set_same row a x 0 i in omega (arith, q, l, length-set row a x))
      | inr ne ↦ (let q : slice_index (slice_set row a x) b ≡ slice_index row b = get_or-set_other row a b x 0 ne in omega (arith, q, h b, length-set row a x))
    ]

pub short_of : (row : List ℕ) (x : ℕ) → ((b : ℕ) → b < length row → slice_index row b ≡ x) → x ≤ 1 → IsShort row
short_of row x h l b = elim (cases_lt b (length row)) [ inl i ↦ omega (arith, h b i, l) | inr g ↦ omega (arith, get_or_past row b 0 g) ]

-- a larger number makes the sum larger
pub sum_set : (row : List ℕ) (a x : ℕ) → a < length row → slice_index row a < x → sum row + 1 ≤ sum (slice_set row a x)
sum_set row a x i l = omega (arith, sum_by-set (λ y. y) row a x 0 i, l)

-- which is at most so much
pub sum_short : (row : List ℕ) → IsShort row → sum row ≤ length row * (length row + 1)
sum_short row h = sum_by-le (λ y. y) (length row + 1) row (λ k d l. subst (λ y. y ≤ length row + 1) (sym (get_or_default row k d 0 l)) (h k))

-- the order where no valuation meets the constraints
pub all_hold : (cs : Constraints) (u w : UnivExpr) → false ≡ acyclic cs → true ≡ at_most cs u w
unfolding at_most
all_hold cs u w e = ap (λ b. not b || at_most_by (path cs) (height cs) u w) e

pub not_true : (b : Bool) → (b ≡ true → ⊥) → false ≡ b
not_true true h = absurd (h refl)
not_true false h = refl
