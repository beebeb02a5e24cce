-- What the normal form, the maximum and the raised expression are worth.
use Rattle.std.proofs.Common.{◌≡◌, ℕ, zero, suc, ◌+◌, ◌≤◌, max, true, cond, leb, List, [], ◌∷◌, ◌++◌, Some, None, refl, sym, ◌∙◌, ap, inl, inr, arith}
use Rattle.std.proofs.lemmas.Bool.{or_cases, cases_Bool, false≢true, leb-true}
use Rattle.std.proofs.lemmas.Bool.Decides.{nat_tests}
use Rattle.mt_term.specs.declared.universes.Atom.{Atom}
use Rattle.mt_term.specs.declared.universes.UnivExpr.{UnivExpr}
use Rattle.mt_term.specs.Universes.{Valuation, value_of_atoms, value}
use Rattle.mt_term.specs.UniverseForms.{with_atom, with_atoms, by_name, is_below_an_atom, normal_form, maximum, raised_base, raised_atoms, raised, fits}

value_of_with_atom : (v : Valuation) (a : Atom) (bs : List Atom) → value_of_atoms v (with_atom a bs) ≡ max (v a.name + a.offset) (value_of_atoms v bs)
value_of_with_atom v a [] = refl
value_of_with_atom v a (b ∷ bs) =
    let more = value_of_with_atom v a bs in
    grind (arith, nat_tests)

value_of_with_atoms : (v : Valuation) (xs bs : List Atom) → value_of_atoms v (with_atoms xs bs) ≡ max (value_of_atoms v xs) (value_of_atoms v bs)
value_of_with_atoms v [] bs = omega arith
value_of_with_atoms v (a ∷ rest) bs = omega (arith, value_of_with_atom v a (with_atoms rest bs), value_of_with_atoms v rest bs)

value_of_by_name : (v : Valuation) (xs : List Atom) → value_of_atoms v (by_name xs) ≡ value_of_atoms v xs
value_of_by_name v xs = omega (arith, value_of_with_atoms v xs [])

value_of_append : (v : Valuation) (xs ys : List Atom) → value_of_atoms v (xs ++ ys) ≡ max (value_of_atoms v xs) (value_of_atoms v ys)
value_of_append v [] ys = omega arith
value_of_append v (a ∷ rest) ys = omega (arith, value_of_append v rest ys)

reached : (v : Valuation) (n : ℕ) (xs : List Atom) → is_below_an_atom n xs ≡ true → n ≤ value_of_atoms v xs
reached v n [] e = absurd (false≢true e)
reached v n (a ∷ rest) e =
    elim (or_cases (leb n a.offset) (is_below_an_atom n rest) e) [
      | inl t ↦ omega (arith, leb-true n a.offset t)
      | inr t ↦ omega (arith, reached v n rest t)
    ]

-- the normal form has the same value at every valuation
pub value_of_normal_form : (v : Valuation) (u : UnivExpr) → value v (normal_form u) ≡ value v u
unfolding normal_form
value_of_normal_form v u =
    elim (cases_Bool (is_below_an_atom u.base u.atoms)) [
      | inl t ↦ (let b : cond (is_below_an_atom u.base u.atoms) 0 u.base ≡ 0 = ap (λ x. cond x 0 u.base) t in
          omega (arith, b, reached v u.base u.atoms t, value_of_by_name v u.atoms))
      | inr f ↦ (let b : cond (is_below_an_atom u.base u.atoms) 0 u.base ≡ u.base = ap (λ x. cond x 0 u.base) f in
          omega (arith, b, value_of_by_name v u.atoms))
    ]

-- the value of the maximum is the maximum of the values
pub value_of_maximum : (v : Valuation) (u w : UnivExpr) → value v (maximum u w) ≡ max (value v u) (value v w)
unfolding maximum
value_of_maximum v u w =
    omega (arith, value_of_normal_form v (record { base = max u.base w.base; atoms = u.atoms ++ w.atoms }), value_of_append v u.atoms w.atoms)

value_of_raised_atoms : (v : Valuation) (n : ℕ) (xs : List Atom) → max (raised_base n xs) (value_of_atoms v (raised_atoms xs)) ≡ max n (value_of_atoms v xs) + 1
value_of_raised_atoms v zero [] = refl
value_of_raised_atoms v (suc n) [] = omega arith
value_of_raised_atoms v zero (a ∷ []) = omega arith
value_of_raised_atoms v (suc n) (a ∷ []) = omega arith
value_of_raised_atoms v zero (a ∷ b ∷ rest) = omega (arith, value_of_raised_atoms v zero (b ∷ rest))
value_of_raised_atoms v (suc n) (a ∷ b ∷ rest) = omega (arith, value_of_raised_atoms v (suc n) (b ∷ rest))

-- the value of the raised expression is one more
pub value_of_raised : (v : Valuation) (u r : UnivExpr) → raised u ≡ Some r → value v r ≡ value v u + 1
unfolding raised
value_of_raised v u r e =
    let h : UnivExpr = record { base = raised_base u.base u.atoms; atoms = raised_atoms u.atoms } in
    elim (cases_Bool (fits h)) [
      | inl t ↦ (let s : raised u ≡ Some h = ap (λ x. cond x (Some h) None) t in
          let same : h ≡ r = cc in
          ap (value v) (sym same) ∙ value_of_raised_atoms v u.base u.atoms)
      | inr f ↦ (let s : raised u ≡ None = ap (λ x. cond x (Some h) None) f in cc)
    ]
