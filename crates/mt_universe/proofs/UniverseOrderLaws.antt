-- The test by longest paths decides the order by valuations.
use Rattle.std.proofs.Common.{◌≡◌, ℕ, ◌+◌, ◌<◌, ◌≤◌, max, true, false, not, eqb, ltb, leb, List, [], ◌∷◌, Decides, refl, sym, ◌∙◌, ap, inl, inr, ◌⊎◌, arith, get_or}
use Rattle.std.specs.List.{list_all}
use Rattle.std.proofs.lemmas.List.Elements.{All-nil, All-cons, All-head, All-tail}
use Rattle.std.proofs.lemmas.Bool.{and_parts, and_from, and_cases, or_cases, or_left, or_right, cases_Bool, false≢true, ltb-true, leb-true, le-leb, eqb-true, eqb-false}
use Rattle.std.proofs.lemmas.Bool.Decides.{nat_tests, Decides-and}
use Rattle.mt_term.specs.declared.universes.Atom.{Atom}
use Rattle.mt_term.specs.declared.universes.UnivExpr.{UnivExpr}
use Rattle.mt_term.specs.declared.universes.Sort.{Sort}
use Rattle.mt_term.specs.declared.universes.Sort.TheVariants.{Prop, Typ}
use Rattle.mt_term.specs.Universes.{Constraints, Valuation, MeetsAll, Satisfiable, value_of_atoms, value, IsAtMost, SortIsAtMost}
use Rattle.mt_term.specs.UniverseOrder.{joined, more_paths, more_heights, path, height, acyclic, AreLongest, covers, is_covered, at_most_by, at_most, same, sort_at_most, sort_same, IsSame, SortIsSame}

pub joined_cases : (m n : ℕ) → ((joined m n ≡ 0) × ((m ≡ 0) ⊎ (n ≡ 0))) ⊎ ((joined m n ≡ m + n) × (0 < m) × (0 < n))
joined_cases m n = grind (arith, nat_tests)

-- greater numbers give greater values
pub value_of_atoms_mono : (h v : Valuation) → ((b : ℕ) → h b ≤ v b) → (xs : List Atom) → value_of_atoms h xs ≤ value_of_atoms v xs
value_of_atoms_mono h v le [] = omega arith
value_of_atoms_mono h v le (a ∷ rest) = omega (arith, le a.name, value_of_atoms_mono h v le rest)

pub no_constraints : AreLongest [] (path []) (height [])
unfolding path height
no_constraints = record {
  bound = λ v m a b h. grind (arith, nat_tests);
  itself = λ a. grind (arith, nat_tests);
  grow = λ a. All-nil _;
  least = λ v m b. omega arith;
  meet = All-nil _;
}

module _ (cs : Constraints) (D : ℕ → ℕ → ℕ) (h : ℕ → ℕ) (x y : ℕ) (l : AreLongest cs D h) where
  -- a path back makes a cycle
  pub none_meets : 0 < D y x → Satisfiable ((x, y) ∷ cs) → ⊥
  none_meets p s =
      let less : s.0 x < s.0 y = All-head (λ (c : ℕ × ℕ). s.0 c.0 < s.0 c.1) (x, y) cs s.1 in
      let b = l.bound s.0 (All-tail (λ (c : ℕ × ℕ). s.0 c.0 < s.0 c.1) (x, y) cs s.1) y x p in
      omega arith

  pub one_more : D y x ≡ 0 → AreLongest ((x, y) ∷ cs) (more_paths D x y) (more_heights D h x y)
  one_more e = record {
    bound = λ v m a b q.
        let less : v x < v y = All-head (λ (c : ℕ × ℕ). v c.0 < v c.1) (x, y) cs m in
        let rest = l.bound v (All-tail (λ (c : ℕ × ℕ). v c.0 < v c.1) (x, y) cs m) in
        grind (arith, joined_cases (D a x) (D y b), rest a b, rest a x, rest y b);
    itself = λ a. omega (arith, l.itself a);
    grow = λ a. All-cons (λ (c : ℕ × ℕ). 0 < more_paths D x y a c.0 → more_paths D x y a c.0 < more_paths D x y a c.1) (x, y) cs
        (λ q. grind (arith, joined_cases (D a x) (D y x), joined_cases (D a x) (D y y), l.itself y))
        (λ k d lt q. let p = (get_or cs k d).0 in let r = (get_or cs k d).1 in
        let s1 : 0 < D a p → D a p < D a r = l.grow a k d lt in
        let s2 : 0 < D y p → D y p < D y r = l.grow y k d lt in
        grind (arith, joined_cases (D a x) (D y p), joined_cases (D a x) (D y r), s1, s2));
    least = λ v m b.
        let less : v x < v y = All-head (λ (c : ℕ × ℕ). v c.0 < v c.1) (x, y) cs m in
        let tail = All-tail (λ (c : ℕ × ℕ). v c.0 < v c.1) (x, y) cs m in
        grind (arith, joined_cases (h x + 1) (D y b), l.bound v tail y b, l.least v tail b, l.least v tail x);
    meet = All-cons (λ (c : ℕ × ℕ). more_heights D h x y c.0 < more_heights D h x y c.1) (x, y) cs
        (grind (arith, joined_cases (h x + 1) (D y x), joined_cases (h x + 1) (D y y), l.itself y))
        (λ k d lt. let p = (get_or cs k d).0 in let r = (get_or cs k d).1 in
        let s1 : h p < h r = l.meet k d lt in
        let s2 : 0 < D y p → D y p < D y r = l.grow y k d lt in
        grind (arith, joined_cases (h x + 1) (D y p), joined_cases (h x + 1) (D y r), s1, s2));
  }

-- If v gives a more than h gives all the others, and yet no more than some atom, then a path shows it.
abbrev shifted : (ℕ → ℕ → ℕ) → (ℕ → ℕ) → ℕ → ℕ → Valuation
shifted D h n a b = max (h b) (joined n (D a b))

covered_where : (D : ℕ → ℕ → ℕ) (h : ℕ → ℕ) (n : ℕ) (a : Atom) (bs : List Atom) → value_of_atoms h bs < n → n + 1 + a.offset ≤ value_of_atoms (shifted D h n a.name) bs → is_covered D bs a ≡ true
covered_where D h n a [] small great = absurd (omega arith)
covered_where D h n a (b ∷ bs) small great =
    elim (cases_Bool (covers D a b)) [
      | inl e ↦ or_left (covers D a b) (is_covered D bs a) e
      | inr e ↦ or_right (covers D a b) (is_covered D bs a)
          (let no : shifted D h n a.name b.name + b.offset < n + 1 + a.offset = grind (arith, nat_tests, joined_cases n (D a.name b.name)) in
          covered_where D h n a bs (omega arith) (omega arith))
    ]

covered_atom : (D : ℕ → ℕ → ℕ) (v : Valuation) → ((a b : ℕ) → 0 < D a b → v a + D a b ≤ v b + 1) → (a : Atom) (bs : List Atom) → is_covered D bs a ≡ true → v a.name + a.offset ≤ value_of_atoms v bs
covered_atom D v bound a [] e = absurd (false≢true e)
covered_atom D v bound a (b ∷ bs) e =
    elim (or_cases (covers D a b) (is_covered D bs a) e) [
      | inl c ↦ (let parts = and_parts (ltb 0 (D a.name b.name)) (ltb a.offset (D a.name b.name + b.offset)) c in
          let p = ltb-true _ _ parts.0 in
          let q = ltb-true _ _ parts.1 in
          omega (arith, bound a.name b.name p))
      | inr c ↦ omega (arith, covered_atom D v bound a bs c)
    ]

covered_atoms : (D : ℕ → ℕ → ℕ) (v : Valuation) → ((a b : ℕ) → 0 < D a b → v a + D a b ≤ v b + 1) → (xs bs : List Atom) → list_all (is_covered D bs) xs ≡ true → value_of_atoms v xs ≤ value_of_atoms v bs
covered_atoms D v bound [] bs e = omega arith
covered_atoms D v bound (a ∷ xs) bs e =
    let parts = and_parts (is_covered D bs a) (list_all (is_covered D bs) xs) e in
    omega (arith, covered_atom D v bound a bs parts.0, covered_atoms D v bound xs bs parts.1)

module _ (cs : Constraints) (D : ℕ → ℕ → ℕ) (h : ℕ → ℕ) (l : AreLongest cs D h) where
  -- the least valuation, with the names that a leads to above n
  shifted_meets : (n a : ℕ) → MeetsAll cs (shifted D h n a)
  shifted_meets n a k d lt =
      let p = (get_or cs k d).0 in
      let r = (get_or cs k d).1 in
      let s1 : h p < h r = l.meet k d lt in
      let s2 : 0 < D a p → D a p < D a r = l.grow a k d lt in
      grind (arith, joined_cases n (D a p), joined_cases n (D a r), s1, s2)

  all_covered : (base : ℕ) (bs xs : List Atom) → ((v : Valuation) → MeetsAll cs v → value_of_atoms v xs ≤ max base (value_of_atoms v bs)) → list_all (is_covered D bs) xs ≡ true
  all_covered base bs [] q = refl
  all_covered base bs (a ∷ xs) q =
      let n = max base (value_of_atoms h bs) + 1 in
      let v = shifted D h n a.name in
      let most : max (v a.name + a.offset) (value_of_atoms v xs) ≤ max base (value_of_atoms v bs) = q v (shifted_meets n a.name) in
      let own : n + 1 ≤ v a.name = grind (arith, joined_cases n (D a.name a.name), l.itself a.name) in
      and_from (is_covered D bs a) (list_all (is_covered D bs) xs)
      (covered_where D h n a bs (omega arith) (omega arith))
      (all_covered base bs xs (λ w m. omega (arith, q w m)))

  pub at_most_by_decides : (u w : UnivExpr) → Decides (at_most_by D h u w) (IsAtMost cs u w)
  at_most_by_decides u w = (
    (λ e v m.
        let parts = and_parts (leb u.base (value h w)) (list_all (is_covered D w.atoms) u.atoms) e in
        let low = leb-true _ _ parts.0 in
        let mono = value_of_atoms_mono h v (λ b. l.least v m b) w.atoms in
        let atoms = covered_atoms D v (λ a b p. l.bound v m a b p) u.atoms w.atoms parts.1 in
        omega arith),
    (λ q. and_from (leb u.base (value h w)) (list_all (is_covered D w.atoms) u.atoms)
        (le-leb _ _ (omega (arith, q h l.meet)))
        (all_covered w.base w.atoms u.atoms (λ v m. omega (arith, q v m)))),
  )

-- without a cycle the paths and heights are what they say
pub acyclic_longest : (cs : Constraints) → acyclic cs ≡ true → AreLongest cs (path cs) (height cs)
unfolding acyclic path height
acyclic_longest [] e = no_constraints
acyclic_longest (c ∷ cs) e =
    let parts = and_parts (eqb (path cs c.1 c.0) 0) (acyclic cs) e in
    one_more cs (path cs) (height cs) c.0 c.1 (acyclic_longest cs parts.1) (eqb-true _ _ parts.0)

none_meets_cycle : (cs : Constraints) → acyclic cs ≡ false → Satisfiable cs → ⊥
unfolding acyclic
none_meets_cycle [] e s = absurd (false≢true (sym e))
none_meets_cycle (c ∷ cs) e s =
    elim (cases_Bool (acyclic cs)) [
      | inl t ↦ elim (and_cases (eqb (path cs c.1 c.0) 0) (acyclic cs) e) [
        | inl f ↦ none_meets cs (path cs) (height cs) c.0 c.1 (acyclic_longest cs t) (let ne = eqb-false _ _ f in omega arith) s
        | inr f ↦ absurd (false≢true (sym f ∙ t))
      ]
      | inr f ↦ none_meets_cycle cs f (s.0, All-tail (λ (p : ℕ × ℕ). s.0 p.0 < s.0 p.1) c cs s.1)
    ]

-- `acyclic` tells whether a valuation meets the constraints
pub acyclic_decides : (cs : Constraints) → Decides (acyclic cs) (Satisfiable cs)
acyclic_decides cs = (
  (λ e. (height cs, (acyclic_longest cs e).meet)),
  (λ s. elim (cases_Bool (acyclic cs)) [ inl e ↦ e | inr e ↦ absurd (none_meets_cycle cs e s) ]),
)

-- `at_most` tells whether each valuation that meets the constraints gives u at most w
pub at_most_decides : (cs : Constraints) (u w : UnivExpr) → Decides (at_most cs u w) (IsAtMost cs u w)
unfolding at_most
at_most_decides cs u w =
    elim (cases_Bool (acyclic cs)) [
      | inl e ↦ (let d = at_most_by_decides cs (path cs) (height cs) (acyclic_longest cs e) u w in (
        (λ t. elim (or_cases (not (acyclic cs)) (at_most_by (path cs) (height cs) u w) t) [
          | inl f ↦ absurd (false≢true (sym (ap not e) ∙ f))
          | inr g ↦ d.0 g
        ]),
        (λ q. or_right (not (acyclic cs)) (at_most_by (path cs) (height cs) u w) (d.1 q)),
      ))
      | inr e ↦ (
        (λ t v m. absurd (none_meets_cycle cs e (v, m))),
        (λ q. or_left (not (acyclic cs)) (at_most_by (path cs) (height cs) u w) (ap not e)),
      )
    ]

pub same_decides : (cs : Constraints) (u w : UnivExpr) → Decides (same cs u w) (IsSame cs u w)
unfolding same
same_decides cs u w = Decides-and (at_most cs u w) (at_most cs w u) (at_most_decides cs u w) (at_most_decides cs w u)

pub sort_at_most_decides : (cs : Constraints) (s t : Sort) → Decides (sort_at_most cs s t) (SortIsAtMost cs s t)
sort_at_most_decides cs Prop t = ((λ _. tt), (λ _. refl))
sort_at_most_decides cs (Typ u) Prop = ((λ e. absurd (false≢true e)), (λ e. absurd e))
sort_at_most_decides cs (Typ u) (Typ w) = at_most_decides cs u w

pub sort_same_decides : (cs : Constraints) (s t : Sort) → Decides (sort_same cs s t) (SortIsSame cs s t)
sort_same_decides cs Prop Prop = ((λ _. tt), (λ _. refl))
sort_same_decides cs Prop (Typ w) = ((λ e. absurd (false≢true e)), (λ e. absurd e))
sort_same_decides cs (Typ u) Prop = ((λ e. absurd (false≢true e)), (λ e. absurd e))
sort_same_decides cs (Typ u) (Typ w) = same_decides cs u w
