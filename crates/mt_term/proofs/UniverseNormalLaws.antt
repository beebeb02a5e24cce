-- The normal form is normal, and a normal expression is its own normal form.
use Rattle.std.proofs.Common.{◌≡◌, ℕ, ◌<◌, max, Bool, true, false, cond, ◌||◌, leb, List, [], ◌∷◌, refl, sym, ◌∙◌, ap, subst, inl, inr, arith}
use Rattle.std.proofs.lemmas.Bool.{cases_Bool, cases_order, both_ways, cond-true, cond-false}
use Rattle.std.proofs.lemmas.Bool.Decides.{nat_tests}
use Rattle.mt_term.specs.declared.universes.Atom.{Atom}
use Rattle.mt_term.specs.declared.universes.UnivExpr.{UnivExpr}
use Rattle.mt_term.specs.UniverseForms.{with_atom, by_name, is_below_an_atom, normal_form, AreAbove, AreByName, IsNormal}
use Rattle.mt_term.proofs.UniverseAtoms.{with_atom_past, with_atom_before, with_atom_same}

with_atom_above : (n : ℕ) (a : Atom) (bs : List Atom) → n < a.name → AreAbove n bs → AreAbove n (with_atom a bs)
with_atom_above n a [] p h = (p, tt)
with_atom_above n a (b ∷ bs) p h =
    elim (cases_order a.name b.name) [
      | inl e ↦ subst (AreAbove n) (sym (with_atom_same a b bs e)) h
      | inr (inl l) ↦ subst (AreAbove n) (sym (with_atom_before a b bs l)) (p, (l, h.1))
      | inr (inr g) ↦ subst (AreAbove n) (sym (with_atom_past a b bs g)) (h.0, with_atom_above b.name a bs g h.1)
    ]

with_atom_ordered : (a : Atom) (bs : List Atom) → AreByName bs → AreByName (with_atom a bs)
with_atom_ordered a [] h = tt
with_atom_ordered a (b ∷ bs) h =
    elim (cases_order a.name b.name) [
      | inl e ↦ subst AreByName (sym (with_atom_same a b bs e)) h
      | inr (inl l) ↦ subst AreByName (sym (with_atom_before a b bs l)) (l, h)
      | inr (inr g) ↦ subst AreByName (sym (with_atom_past a b bs g)) (with_atom_above b.name a bs g h)
    ]

by_name_ordered : (xs : List Atom) → AreByName (by_name xs)
by_name_ordered [] = tt
by_name_ordered (a ∷ xs) = with_atom_ordered a (by_name xs) (by_name_ordered xs)

reaches_with_atom : (n : ℕ) (a : Atom) (bs : List Atom) → is_below_an_atom n (with_atom a bs) ≡ (leb n a.offset || is_below_an_atom n bs)
reaches_with_atom n a [] = refl
reaches_with_atom n a (b ∷ bs) =
    elim (cases_order a.name b.name) [
      | inl e ↦ ap (is_below_an_atom n) (with_atom_same a b bs e) ∙ either (leb n (max a.offset b.offset)) (leb n a.offset) (leb n b.offset) (is_below_an_atom n bs) (grind (arith, nat_tests))
      | inr (inl l) ↦ ap (is_below_an_atom n) (with_atom_before a b bs l)
      | inr (inr g) ↦ ap (is_below_an_atom n) (with_atom_past a b bs g) ∙ ap (λ t. leb n b.offset || t) (reaches_with_atom n a bs) ∙ turned (leb n b.offset) (leb n a.offset) (is_below_an_atom n bs)
    ]
  where
    either : (t x y z : Bool) → t ≡ (x || y) → (t || z) ≡ (x || (y || z))
    either t true y z e = ap (λ w. w || z) e
    either t false y z e = ap (λ w. w || z) e

    turned : (x y z : Bool) → (x || (y || z)) ≡ (y || (x || z))
    turned true true z = refl
    turned true false z = refl
    turned false true z = refl
    turned false false z = refl

reaches_by_name : (n : ℕ) (xs : List Atom) → is_below_an_atom n (by_name xs) ≡ is_below_an_atom n xs
reaches_by_name n [] = refl
reaches_by_name n (a ∷ xs) = reaches_with_atom n a (by_name xs) ∙ ap (λ t. leb n a.offset || t) (reaches_by_name n xs)

pub normal_form_normal : (u : UnivExpr) → IsNormal (normal_form u)
unfolding normal_form
normal_form_normal u = (
  by_name_ordered u.atoms,
  elim (cases_Bool (is_below_an_atom u.base u.atoms)) [
    | inl t ↦ (λ _. cond-true {A = ℕ} (is_below_an_atom u.base u.atoms) 0 u.base t)
    | inr f ↦ (λ e. let same : cond {A = ℕ} (is_below_an_atom u.base u.atoms) 0 u.base ≡ u.base = cond-false {A = ℕ} (is_below_an_atom u.base u.atoms) 0 u.base f in
        absurd (both_ways (is_below_an_atom u.base u.atoms) f (sym (ap (λ n. is_below_an_atom n (by_name u.atoms)) same ∙ reaches_by_name u.base u.atoms) ∙ e)))
  ],
)

-- and the normal form of a normal expression is the expression itself
by_name_kept : (xs : List Atom) → AreByName xs → by_name xs ≡ xs
by_name_kept [] h = refl
by_name_kept (a ∷ []) h = refl
by_name_kept (a ∷ b ∷ xs) h = ap (with_atom a) (by_name_kept (b ∷ xs) h.1) ∙ with_atom_before a b xs h.0

pub normal_form_kept : (u : UnivExpr) → IsNormal u → normal_form u ≡ u
unfolding normal_form
normal_form_kept u h =
    let atoms : by_name u.atoms ≡ u.atoms = by_name_kept u.atoms h.0 in
    let base : cond {A = ℕ} (is_below_an_atom u.base u.atoms) 0 u.base ≡ u.base = elim (cases_Bool (is_below_an_atom u.base u.atoms)) [
      | inl t ↦ cond-true {A = ℕ} (is_below_an_atom u.base u.atoms) 0 u.base t ∙ sym (h.1 t)
      | inr f ↦ cond-false {A = ℕ} (is_below_an_atom u.base u.atoms) 0 u.base f
    ] in
    λ i. record { base = base i; atoms = atoms i }
