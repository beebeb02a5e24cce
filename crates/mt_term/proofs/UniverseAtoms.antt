-- Atoms added one by one, and raised one by one.
use Rattle.std.proofs.Common.{◌≡◌, ℕ, ◌+◌, ◌<◌, ◌^◌, max, true, false, cond, ◌||◌, eqb, leb, ltb, Option, Some, None, set, add-one, List, [], ◌∷◌, ◌++◌, length, get_or, take, drop, append_assoc, refl, sym, ◌∙◌, ap, inl, inr, arith}
use Rattle.std.specs.List.{list_all}
use Rattle.std.proofs.lemmas.Bool.{cases_lt, lt-ltb, le-ltb, eq-eqb, ne_eqb, cond-true, cond-false, and_from, and_left, and_right, false_from_ne_true, ltb-true}
use Rattle.std.proofs.lemmas.List.Folds.{list_any-append}
use Rattle.std.proofs.lemmas.List.{set_split, drop_more, drop_all, take_more, at_drop_more}
use Rattle.mt_term.specs.declared.universes.Atom.{Atom}
use Rattle.mt_term.specs.declared.universes.UnivExpr.{UnivExpr}
use Rattle.mt_term.specs.UniverseForms.{with_atom, with_atoms, by_name, is_below_an_atom, normal_form, maximum, raised_base, raised_atoms, fits_atom, fits, raised}

abbrev joined_atom : Atom → Atom → Atom
joined_atom a b = record { name = b.name; offset = max a.offset b.offset }

pub with_atom_past : (a b : Atom) (bs : List Atom) → b.name < a.name → with_atom a (b ∷ bs) ≡ b ∷ with_atom a bs
with_atom_past a b bs p =
    cond-false (ltb a.name b.name) (a ∷ b ∷ bs) (cond (eqb a.name b.name) (joined_atom a b ∷ bs) (b ∷ with_atom a bs)) (le-ltb _ _ (omega arith))
    ∙ cond-false (eqb a.name b.name) (joined_atom a b ∷ bs) (b ∷ with_atom a bs) (ne_eqb _ _ (λ e. omega arith))

pub with_atom_before : (a b : Atom) (bs : List Atom) → a.name < b.name → with_atom a (b ∷ bs) ≡ a ∷ b ∷ bs
with_atom_before a b bs p =
    cond-true (ltb a.name b.name) (a ∷ b ∷ bs) (cond (eqb a.name b.name) (joined_atom a b ∷ bs) (b ∷ with_atom a bs)) (lt-ltb _ _ p)

pub with_atom_same : (a b : Atom) (bs : List Atom) → a.name ≡ b.name → with_atom a (b ∷ bs) ≡ joined_atom a b ∷ bs
with_atom_same a b bs e =
    cond-false (ltb a.name b.name) (a ∷ b ∷ bs) (cond (eqb a.name b.name) (joined_atom a b ∷ bs) (b ∷ with_atom a bs)) (le-ltb _ _ (omega arith))
    ∙ cond-true (eqb a.name b.name) (joined_atom a b ∷ bs) (b ∷ with_atom a bs) (eq-eqb _ _ e)

-- the atoms whose names are below that of a stay before it
pub place_more : (a : Atom) (xs : List Atom) (i : ℕ) (d : Atom) → i < length xs → (get_or xs i d).name < a.name
    → with_atom a xs ≡ take i xs ++ with_atom a (drop i xs) → with_atom a xs ≡ take (i + 1) xs ++ with_atom a (drop (i + 1) xs)
place_more a xs i d lt p e =
    let x = get_or xs i d in
    let here : with_atom a (drop i xs) ≡ x ∷ with_atom a (drop (i + 1) xs) = ap (with_atom a) (drop_more xs i d lt) ∙ with_atom_past a x (drop (i + 1) xs) p in
    let front : take (i + 1) xs ≡ take i xs ++ x ∷ [] = take_more xs i d lt in
    e ∙ ap (λ ys. take i xs ++ ys) here ∙ sym (append_assoc (take i xs) (x ∷ []) (with_atom a (drop (i + 1) xs))) ∙ ap (λ ys. ys ++ with_atom a (drop (i + 1) xs)) (sym front)

pub with_atom_new : (a : Atom) (xs : List Atom) (i : ℕ) (d : Atom) → (i < length xs → a.name < (get_or xs i d).name) → with_atom a (drop i xs) ≡ a ∷ drop i xs
with_atom_new a xs i d before =
    elim (cases_lt i (length xs)) [
      | inl lt ↦ ap (with_atom a) (drop_more xs i d lt) ∙ with_atom_before a (get_or xs i d) (drop (i + 1) xs) (before lt) ∙ ap (λ ys. a ∷ ys) (sym (drop_more xs i d lt))
      | inr ge ↦ (let none : drop i xs ≡ [] = drop_all i xs ge in ap (with_atom a) none ∙ ap (λ ys. a ∷ ys) (sym none))
    ]

pub with_atom_known : (a : Atom) (xs : List Atom) (i : ℕ) (d : Atom) → i < length xs → (get_or xs i d).name ≡ a.name
    → with_atom a (drop i xs) ≡ record { name = a.name; offset = max a.offset (get_or xs i d).offset } ∷ drop (i + 1) xs
with_atom_known a xs i d lt e =
    ap (with_atom a) (drop_more xs i d lt) ∙ with_atom_same a (get_or xs i d) (drop (i + 1) xs) (sym e)
    ∙ (λ j. record { name = e j; offset = max a.offset (get_or xs i d).offset } ∷ drop (i + 1) xs)

pub with_atoms_more : (xs bs : List Atom) (i : ℕ) (d : Atom) → i < length xs → with_atoms (drop i xs) bs ≡ with_atom (get_or xs i d) (with_atoms (drop (i + 1) xs) bs)
with_atoms_more xs bs i d lt = ap (λ ys. with_atoms ys bs) (drop_more xs i d lt)

pub raised_more : (xs : List Atom) (i : ℕ) (d : Atom) → i < length xs → raised_atoms (drop i xs) ≡ record { name = (get_or xs i d).name; offset = (get_or xs i d).offset + 1 } ∷ raised_atoms (drop (i + 1) xs)
raised_more xs i d lt = at_drop_more raised_atoms xs i d lt

-- a known atom gets the greater offset
pub set_known : (a : Atom) (xs : List Atom) (i : ℕ) (d : Atom) → i < length xs → (get_or xs i d).name ≡ a.name → with_atom a xs ≡ take i xs ++ with_atom a (drop i xs)
    → set xs i (record { name = a.name; offset = max a.offset (get_or xs i d).offset }) ≡ with_atom a xs
set_known a xs i d lt e before =
    let b : Atom = record { name = a.name; offset = max a.offset (get_or xs i d).offset } in
    set_split xs i b lt ∙ ap (λ n. take i xs ++ b ∷ drop n xs) (sym (add-one i)) ∙ ap (λ ys. take i xs ++ ys) (sym (with_atom_known a xs i d lt e)) ∙ sym before

with_atoms_append : (xs ys bs : List Atom) → with_atoms (xs ++ ys) bs ≡ with_atoms xs (with_atoms ys bs)
with_atoms_append [] ys bs = refl
with_atoms_append (x ∷ xs) ys bs = ap (with_atom x) (with_atoms_append xs ys bs)

-- the normal form, part by part
pub normal_form_is : (u : UnivExpr) (base : ℕ) (xs : List Atom) → xs ≡ with_atoms u.atoms [] → base ≡ cond (is_below_an_atom u.base u.atoms) 0 u.base → ◌≡◌ {A = UnivExpr} (record { base = base; atoms = xs }) (normal_form u)
unfolding normal_form
normal_form_is u base xs e f = λ i. record { base = f i; atoms = e i }

-- the maximum of two, part by part
pub maximum_is : (u w : UnivExpr) (base : ℕ) (xs ys : List Atom) → ys ≡ with_atoms w.atoms [] → xs ≡ with_atoms u.atoms ys
    → base ≡ cond (is_below_an_atom (max u.base w.base) u.atoms || is_below_an_atom (max u.base w.base) w.atoms) 0 (max u.base w.base)
    → ◌≡◌ {A = UnivExpr} (record { base = base; atoms = xs }) (maximum u w)
unfolding maximum normal_form
maximum_is u w base xs ys e f g =
    let atoms : xs ≡ by_name (u.atoms ++ w.atoms) = f ∙ ap (with_atoms u.atoms) e ∙ sym (with_atoms_append u.atoms w.atoms []) in
    let bases : base ≡ cond (is_below_an_atom (max u.base w.base) (u.atoms ++ w.atoms)) 0 (max u.base w.base) =
    g ∙ ap (λ b. cond b 0 (max u.base w.base)) (sym (list_any-append (λ (a : Atom). leb (max u.base w.base) a.offset) u.atoms w.atoms)) in
    λ i. record { base = bases i; atoms = atoms i }

-- when a raised expression fits
pub raised_fits : (u : UnivExpr) (base : ℕ) (xs : List Atom) → base ≡ raised_base u.base u.atoms → xs ≡ raised_atoms u.atoms → raised_base u.base u.atoms < 2 ^ 32 → list_all fits_atom (raised_atoms u.atoms) ≡ true
    → ◌≡◌ {A = Option UnivExpr} (Some (record { base = base; atoms = xs })) (raised u)
unfolding raised
raised_fits u base xs e f lt all =
    let h : UnivExpr = record { base = raised_base u.base u.atoms; atoms = raised_atoms u.atoms } in
    let both : fits h ≡ true = and_from (ltb h.base (2 ^ 32)) (list_all fits_atom h.atoms) (lt-ltb _ _ lt) all in
    (λ i. Some (record { base = e i; atoms = f i })) ∙ sym (cond-true (fits h) (Some h) None both)

pub raised_atom_past : (u : UnivExpr) → list_all fits_atom (raised_atoms u.atoms) ≡ false → ◌≡◌ {A = Option UnivExpr} None (raised u)
unfolding raised
raised_atom_past u e =
    let h : UnivExpr = record { base = raised_base u.base u.atoms; atoms = raised_atoms u.atoms } in
    let past : fits h ≡ false = and_right (ltb h.base (2 ^ 32)) (list_all fits_atom h.atoms) e in
    sym (cond-false (fits h) (Some h) None past)

pub raised_base_past : (u : UnivExpr) → ¬ (raised_base u.base u.atoms < 2 ^ 32) → ◌≡◌ {A = Option UnivExpr} None (raised u)
unfolding raised
raised_base_past u q =
    let h : UnivExpr = record { base = raised_base u.base u.atoms; atoms = raised_atoms u.atoms } in
    let past : fits h ≡ false = and_left (ltb h.base (2 ^ 32)) (list_all fits_atom h.atoms) (false_from_ne_true _ (λ t. q (ltb-true _ _ t))) in
    sym (cond-false (fits h) (Some h) None past)
