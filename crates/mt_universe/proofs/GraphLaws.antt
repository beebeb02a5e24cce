-- Laws of graphs: the numbers of names, and the tables after each change.
use Rattle.std.proofs.Common.{◌≡◌, ℕ, zero, suc, ◌+◌, ◌<◌, ◌≤◌, ◌↔◌, ◌⊎◌, max, Bool, true, false, cond, ◌&&◌, eqb, ltb, List, [], ◌∷◌, ◌++◌, length, length-append, length-take, take, drop, slice_index, Some, None, refl, sym, ◌∙◌, ap, subst, inl, inr, arith}
use Rattle.std.specs.Str.{bytes_eq}
use Rattle.std.proofs.lemmas.List.Folds.{position_or_len_push}
use Rattle.std.proofs.lemmas.List.Sums.{prefix_len-le-length}
use Rattle.std.proofs.lemmas.Bool.{cases_Bool, cases_lt, lt-ltb, le-ltb, eq-eqb, cond-true, cond-false, ne_eqb}
use Rattle.std.proofs.lemmas.Slice.Eq.{bytes_eq-Decides}
use Rattle.std.specs.List.{All}
use Rattle.std.proofs.lemmas.List.Elements.{All-nil, All-cons, All-take}
use Rattle.std.proofs.Math.Seq.{take-length, take-append_seam}
use Rattle.std.proofs.lemmas.List.{take-append-le}
use Rattle.mt_term.specs.Trees.{Bytes}
use Rattle.mt_term.specs.declared.universes.UnivExpr.{UnivExpr}
use Rattle.mt_term.specs.Universes.{Constraints, Satisfiable, IsAtMost}
use Rattle.mt_term.specs.UniverseOrder.{path, height, more_paths, more_heights, AreLongest, at_most_by}
use Rattle.mt_universe.proofs.UniverseOrderLaws.{no_constraints, none_meets, one_more, at_most_by_decides}
use Rattle.mt_universe.specs.Graphs.{Universes, IsGraph, number_of, number_or_next, named, named_in, declared, as_at, no_names}
use Rattle.mt_universe.specs.Tables.{entry, AreFresh}
use Rattle.mt_universe.specs.Kept.{IsKept}
use Rattle.mt_universe.proofs.TableLaws.{written_back}
use Rattle.mt_universe.proofs.OrderLaws.{short_paths, small_heights, AreLongest-same, AreLongest-to_back, Satisfiable-to_front}

pub number_or_next_at_most : (names : List Bytes) (x : Bytes) → number_or_next names x ≤ length names
number_or_next_at_most names x = prefix_len-le-length _ names

pub next_is_length : (names : List Bytes) (x : Bytes) → number_of names x ≡ None → length names ≡ number_or_next names x
next_is_length names x e =
    let most = number_or_next_at_most names x in
    elim (cases_lt (number_or_next names x) (length names)) [
      | inl p ↦ (let some : number_of names x ≡ Some (number_or_next names x) = cond-true (ltb (number_or_next names x) (length names)) _ _ (lt-ltb _ _ p) in cc)
      | inr p ↦ omega arith
    ]

pub named_again : (names : List Bytes) (x : Bytes) → number_or_next names x < length names → named names x ≡ names
named_again names x p = cond-true (ltb (number_or_next names x) (length names)) _ _ (lt-ltb _ _ p)

pub named_new : (names : List Bytes) (x : Bytes) → length names ≤ number_or_next names x → named names x ≡ names ++ x ∷ []
named_new names x p = cond-false (ltb (number_or_next names x) (length names)) _ _ (le-ltb _ _ p)

number_after_new : (names : List Bytes) (a b : Bytes) → length names ≤ number_or_next names b → number_or_next (names ++ a ∷ []) b ≡ length names + cond (bytes_eq b a) 0 1
number_after_new names a b p =
    let most = number_or_next_at_most names b in
    position_or_len_push (bytes_eq b) names a ∙ cond-true (eqb (number_or_next names b) (length names)) _ _ (eq-eqb _ _ (omega arith))

number_after_old : (names : List Bytes) (a b : Bytes) → number_or_next names b < length names → number_or_next (names ++ a ∷ []) b ≡ number_or_next names b
number_after_old names a b p =
    position_or_len_push (bytes_eq b) names a ∙ cond-false (eqb (number_or_next names b) (length names)) _ _ (ne_eqb _ _ (λ e. omega arith))

-- The number of the second name where it had none: as the first, if that is the same; after the first, if that is new too.
pub second_same : (names : List Bytes) (a b : Bytes) → length names ≤ number_or_next names b → bytes_eq b a ≡ true → number_or_next names a ≡ number_or_next (named names a) b
second_same names a b p e =
    let most = number_or_next_at_most names a in
    let same = ap (number_or_next names) ((bytes_eq-Decides b a).0 e) in
    let c : cond {A = ℕ} (bytes_eq b a) 0 1 ≡ 0 = cond-true {A = ℕ} (bytes_eq b a) 0 1 e in
    let q : length names ≤ number_or_next names a = omega arith in
    let r : number_or_next (named names a) b ≡ length names + cond (bytes_eq b a) 0 1 = ap (λ x. number_or_next x b) (named_new names a q) ∙ number_after_new names a b p in
    omega arith

pub second_new : (names : List Bytes) (a b : Bytes) → length names ≤ number_or_next names b → length names ≤ number_or_next names a → bytes_eq b a ≡ false → number_or_next names b + 1 ≡ number_or_next (named names a) b
second_new names a b p q e =
    let most = number_or_next_at_most names b in
    let c : cond {A = ℕ} (bytes_eq b a) 0 1 ≡ 1 = cond-false {A = ℕ} (bytes_eq b a) 0 1 e in
    let r : number_or_next (named names a) b ≡ length names + cond (bytes_eq b a) 0 1 = ap (λ x. number_or_next x b) (named_new names a q) ∙ number_after_new names a b p in
    omega arith

-- and where it had a number, or the first had one
pub second_known : (names : List Bytes) (a b : Bytes) → number_or_next names b < length names → number_or_next names b ≡ number_or_next (named names a) b
second_known names a b p =
    elim (cases_lt (number_or_next names a) (length names)) [
      | inl q ↦ ap (λ x. number_or_next x b) (sym (named_again names a q))
      | inr q ↦ sym (ap (λ x. number_or_next x b) (named_new names a q) ∙ number_after_old names a b p)
    ]

pub second_beside : (names : List Bytes) (a b : Bytes) → number_or_next names a < length names → number_or_next names b ≡ number_or_next (named names a) b
second_beside names a b q = ap (λ x. number_or_next x b) (sym (named_again names a q))

pub length-named : (names : List Bytes) (x : Bytes) → length (named names x) ≡ max (length names) (number_or_next names x + 1)
length-named names x =
    let most = number_or_next_at_most names x in
    elim (cases_lt (number_or_next names x) (length names)) [
      | inl p ↦ (let e : length (named names x) ≡ length names = ap (λ (xs : List Bytes). length xs) (named_again names x p) in omega arith)
      | inr p ↦ (let e : length (named names x) ≡ length (names ++ x ∷ []) = ap (λ (xs : List Bytes). length xs) (named_new names x p) in
          omega (arith, length-append names (x ∷ [])))
    ]

named_in-push : (cs : Constraints) (c : ℕ × ℕ) → named_in (cs ++ c ∷ []) ≡ max (named_in cs) (max (c.0 + 1) (c.1 + 1))
named_in-push [] c = omega arith
named_in-push (d ∷ cs) c = omega (arith, named_in-push cs c)

pub named_in-take : (n : ℕ) (cs : Constraints) → named_in (take n cs) ≤ named_in cs
named_in-take zero cs = omega arith
named_in-take (suc n) [] = omega arith
named_in-take (suc n) (c ∷ cs) = omega (arith, named_in-take n cs)

pub within_names : (cs : Constraints) (n : ℕ) → named_in cs ≤ n → All (λ c. (c.0 < n) × (c.1 < n)) cs
within_names [] n p = All-nil _
within_names (c ∷ cs) n p = All-cons (λ (c : ℕ × ℕ). (c.0 < n) × (c.1 < n)) c cs (omega arith, omega arith) (within_names cs n (omega arith))

no_constraint : (cs : Constraints) → named_in cs ≡ 0 → cs ≡ []
no_constraint [] e = refl
no_constraint (c ∷ cs) e = absurd (omega arith)

pub fresh_longest : (ps hs : List ℕ) → AreFresh ps hs → AreLongest [] (entry ps) (slice_index hs)
unfolding path height
fresh_longest ps hs f = AreLongest-same [] (path []) (entry ps) (height []) (slice_index hs) no_constraints f.no_paths f.no_heights

pub none_kept : IsKept no_names [] []
unfolding path height entry
none_kept = record {
  few = omega arith;
  numbered = refl;
  paths_made = λ p. absurd (omega arith);
  heights_made = λ p. absurd (omega arith);
  longest = AreLongest-same [] (path []) (entry []) (height []) (slice_index []) no_constraints
      (λ a b. elim (cases_Bool (ltb a 256 && ltb b 256)) [
        | inl t ↦ cond-true (ltb a 256 && ltb b 256) _ _ t
        | inr f ↦ cond-false (ltb a 256 && ltb b 256) _ _ f
      ])
      (λ b. refl);
}

pub kept_empty : (names : List Bytes) (below : Constraints) (ps hs : List ℕ) → names ≡ [] → below ≡ [] → ps ≡ [] → hs ≡ [] → IsKept (record { names = names; below = below }) ps hs
kept_empty names below ps hs e f p q =
    let whole : IsKept (record { names = names; below = below }) ps hs ≡ IsKept no_names [] [] = λ i. IsKept (record { names = e i; below = f i }) (p i) (q i) in
    subst (λ (T : Type 0). T) (sym whole) none_kept

-- What the tables of a graph give.
module _ (g : Universes) (paths heights : List ℕ) (k : IsKept g paths heights) where
  pub within : All (λ c. (c.0 < 256) × (c.1 < 256)) g.below
  within = within_names g.below 256 (let f = k.few in let n = k.numbered in omega arith)

  pub short : (a b : ℕ) → entry paths a b ≤ 257
  short a b = short_paths 256 g.below (entry paths) (slice_index heights) k.longest within a b

  pub small : (b : ℕ) → slice_index heights b ≤ 256
  small b = small_heights 256 g.below (entry paths) (slice_index heights) k.longest within b

  pub kept_graph : IsGraph g
  kept_graph = record { few = k.few; numbered = k.numbered; satisfiable = (slice_index heights, k.longest.meet) }

  pub order_kept : (u w : UnivExpr) (r : Bool) → r ≡ at_most_by (entry paths) (slice_index heights) u w → (r ≡ true) ↔ IsAtMost g.below u w
  order_kept u w r e =
      let d = at_most_by_decides g.below (entry paths) (slice_index heights) k.longest u w in
      ((λ t. d.0 (sym e ∙ t)), (λ q. e ∙ d.1 q))

  -- without names the tables may be made anew
  pub kept_fresh : (ps hs : List ℕ) → length g.names ≡ 0 → AreFresh ps hs → IsKept g ps hs
  kept_fresh ps hs e f =
      let none : g.below ≡ [] = no_constraint g.below (k.numbered ∙ e) in
      let at_none : AreLongest [] (entry ps) (slice_index hs) = fresh_longest ps hs f in
      record {
        few = k.few;
        numbered = k.numbered;
        paths_made = λ p. f.paths_made;
        heights_made = λ p. f.heights_made;
        longest = subst (λ cs. AreLongest cs (entry ps) (slice_index hs)) (sym none) at_none;
      }

  module _ (a b : Bytes) where
    -- a path back refuses the constraint
    pub cycle_refused : 0 < entry paths (number_or_next (named g.names a) b) (number_or_next g.names a) → Satisfiable (declared g a b).below → ⊥
    cycle_refused p s = none_meets g.below (entry paths) (slice_index heights) (number_or_next g.names a) (number_or_next (named g.names a) b) k.longest p
        (Satisfiable-to_front g.below (number_or_next g.names a, number_or_next (named g.names a) b) s)

    -- else the constraint is added
    pub declared_kept : (ps hs : List ℕ) → number_or_next g.names a < 256 → number_or_next (named g.names a) b < 256
        → entry paths (number_or_next (named g.names a) b) (number_or_next g.names a) ≡ 0
        → length ps ≡ 65536 → length hs ≡ 256
        → ((p q : ℕ) → entry ps p q ≡ more_paths (entry paths) (number_or_next g.names a) (number_or_next (named g.names a) b) p q)
        → ((q : ℕ) → slice_index hs q ≡ more_heights (entry paths) (slice_index heights) (number_or_next g.names a) (number_or_next (named g.names a) b) q)
        → IsKept (declared g a b) ps hs
    declared_kept ps hs low_in high_in back size heights_size all_paths all_heights =
        let low = number_or_next g.names a in
        let high = number_or_next (named g.names a) b in
        let n1 = length-named g.names a in
        let n2 = length-named (named g.names a) b in
        let m1 = number_or_next_at_most g.names a in
        let m2 = number_or_next_at_most (named g.names a) b in
        let f = k.few in
        let n = k.numbered in
        let more = named_in-push g.below (low, high) in
        record {
          few = omega arith;
          numbered = omega arith;
          paths_made = λ p. size;
          heights_made = λ p. heights_size;
          longest = AreLongest-to_back g.below (low, high) (entry ps) (slice_index hs)
              (AreLongest-same ((low, high) ∷ g.below) (more_paths (entry paths) low high) (entry ps) (more_heights (entry paths) (slice_index heights) low high) (slice_index hs)
              (one_more g.below (entry paths) (slice_index heights) low high k.longest back) all_paths all_heights);
        }

pub too_many : (g : Universes) (a b : Bytes) → (256 ≤ number_or_next g.names a) ⊎ (256 ≤ number_or_next (named g.names a) b) → 256 < length (declared g a b).names
too_many g a b h =
    let n1 = length-named g.names a in
    let n2 = length-named (named g.names a) b in
    elim h [ inl p ↦ omega arith | inr p ↦ omega arith ]

pub few_enough : (g : Universes) (a b : Bytes) → length g.names ≤ 256 → number_or_next g.names a < 256 → number_or_next (named g.names a) b < 256 → length (declared g a b).names ≤ 256
few_enough g a b f p q =
    let n1 = length-named g.names a in
    let n2 = length-named (named g.names a) b in
    omega arith

-- The graph that the fields say.
pub kept_for : (names names' : List Bytes) (below : Constraints) (g : Universes) (ps hs : List ℕ) → names' ≡ names → ◌≡◌ {A = Universes} (record { names = names; below = below }) g → IsKept (record { names = names'; below = below }) ps hs → IsKept g ps hs
kept_for names names' below g ps hs e is k =
    subst (λ x. IsKept x ps hs) is (subst (λ xs. IsKept (record { names = xs; below = below }) ps hs) e k)

pub declared_is : (g : Universes) (a b : Bytes) (names names' : List Bytes) (below below' : Constraints) (low high : ℕ)
    → ◌≡◌ {A = Universes} (record { names = names'; below = below' }) g → names ≡ named (named names' a) b → below ≡ below' ++ (low, high) ∷ []
    → low ≡ number_or_next g.names a → high ≡ number_or_next (named g.names a) b
    → ◌≡◌ {A = Universes} (declared g a b) (record { names = names; below = below })
declared_is g a b names names' below below' low high is e f p q =
    let e' : named (named g.names a) b ≡ names = sym (e ∙ ap (λ (x : Universes). named (named x.names a) b) is) in
    let f' : g.below ++ (number_or_next g.names a, number_or_next (named g.names a) b) ∷ [] ≡ below =
    sym (f ∙ (λ i. below' ++ (p i, q i) ∷ []) ∙ ap (λ (x : Universes). x.below ++ (number_or_next g.names a, number_or_next (named g.names a) b) ∷ []) is) in
    λ i. record { names = e' i; below = f' i }

pub kept_written_back : (g g' : Universes) (n m : ℕ) (ps ys hs ws : List ℕ) → g ≡ g' → length ps ≡ n → length hs ≡ m → IsKept g ps hs → IsKept g' (take n (ps ++ drop (length ps) ys)) (take m (hs ++ drop (length hs) ws))
kept_written_back g g' n m ps ys hs ws is e f k =
    subst (λ x. IsKept x (take n (ps ++ drop (length ps) ys)) (take m (hs ++ drop (length hs) ws))) is
    (subst (λ ts. IsKept g ts (take m (hs ++ drop (length hs) ws))) (sym (written_back n ps ys e))
    (subst (IsKept g ps) (sym (written_back m hs ws f)) k))

-- Back to the first constraints.
pub as_at_end : (g : Universes) (n : ℕ) → named_in g.below ≡ length g.names → n ≡ length g.below → as_at g n ≡ g
as_at_end g n numbered e =
    let below : take n g.below ≡ g.below = ap (λ m. take m g.below) e ∙ take-length g.below in
    let names : take (named_in (take n g.below)) g.names ≡ g.names = ap (λ cs. take (named_in cs) g.names) below ∙ ap (λ m. take m g.names) numbered ∙ take-length g.names in
    λ i. record { names = names i; below = below i }

pub as_at_kept : (g : Universes) (paths heights : List ℕ) → IsKept g paths heights → (n : ℕ) (ps hs : List ℕ) → length ps ≡ 65536 → length hs ≡ 256
    → AreLongest (take n g.below) (entry ps) (slice_index hs) → IsKept (as_at g n) ps hs
as_at_kept g paths heights k n ps hs size heights_size l =
    let at_most = named_in-take n g.below in
    let f = k.few in
    let numbered = k.numbered in
    let e = length-take (named_in (take n g.below)) g.names in
    record {
      few = omega arith;
      numbered = omega arith;
      paths_made = λ p. size;
      heights_made = λ p. heights_size;
      longest = l;
    }

-- where there are constraints there are names
pub names_where_below : (g : Universes) → named_in g.below ≡ length g.names → 0 < length g.below → 0 < length g.names
names_where_below g e p = some g.below (length g.names) e p
  where
    some : (cs : Constraints) (n : ℕ) → named_in cs ≡ n → 0 < length cs → 0 < n
    some [] n e p = absurd (omega arith)
    some (c ∷ cs) n e p = omega arith

-- One more constraint of those that some valuation meets.
module _ (cs : Constraints) (i : ℕ) (low high : ℕ) (D : ℕ → ℕ → ℕ) (h : ℕ → ℕ) (in' : i < length cs) (is : take (i + 1) cs ≡ take i cs ++ (low, high) ∷ []) (l : AreLongest (take i cs) D h) (s : Satisfiable cs) where
  pub no_way_back : D high low ≡ 0
  no_way_back =
      let part : Satisfiable (take i cs ++ (low, high) ∷ []) = subst Satisfiable is (s.0, All-take (λ (c : ℕ × ℕ). s.0 c.0 < s.0 c.1) (i + 1) cs s.1) in
      elim (cases_lt 0 (D high low)) [
        | inl p ↦ absurd (none_meets (take i cs) D h low high l p (Satisfiable-to_front (take i cs) (low, high) part))
        | inr p ↦ omega arith
      ]

  pub longest_more : (D' : ℕ → ℕ → ℕ) (h' : ℕ → ℕ) → ((p q : ℕ) → D' p q ≡ more_paths D low high p q) → ((q : ℕ) → h' q ≡ more_heights D h low high q) → AreLongest (take (i + 1) cs) D' h'
  longest_more D' h' e f =
      subst (λ ds. AreLongest ds D' h') (sym is)
      (AreLongest-to_back (take i cs) (low, high) D' h'
      (AreLongest-same ((low, high) ∷ take i cs) (more_paths D low high) D' (more_heights D h low high) h' (one_more (take i cs) D h low high l no_way_back) e f))

-- Back to the constraints before the newest is back to the graph before it.
take_named : (names : List Bytes) (x : Bytes) (n : ℕ) → n ≤ length names → take n (named names x) ≡ take n names
take_named names x n le =
    elim (cases_lt (number_or_next names x) (length names)) [
      | inl p ↦ ap (take n) (named_again names x p)
      | inr p ↦ ap (take n) (named_new names x p) ∙ take-append-le n names (x ∷ []) le
    ]

pub as_at_declared : (g : Universes) (a b : Bytes) → named_in g.below ≡ length g.names → as_at (declared g a b) (length g.below) ≡ g
as_at_declared g a b numbered =
    let first = named g.names a in
    let more = length-named g.names a in
    let below : take (length g.below) (declared g a b).below ≡ g.below = take-append_seam g.below _ in
    let names : take (named_in (take (length g.below) (declared g a b).below)) (named first b) ≡ g.names =
    ap (λ cs. take (named_in cs) (named first b)) below ∙ ap (λ n. take n (named first b)) numbered
    ∙ take_named first b (length g.names) (omega arith) ∙ take_named g.names a (length g.names) (omega arith) ∙ take-length g.names in
    λ i. record { names = names i; below = below i }
