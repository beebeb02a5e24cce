-- Lists of which each item is of a built form.
use Rattle.std.proofs.Common.{◌≡◌, ◌≢◌, ℕ, zero, suc, ◌≤◌, ◌+◌, Bool, true, false, List, [], ◌∷◌, map, drop, length, Some, None, refl, ap, ◌∙◌, arith}
use Rattle.std.specs.Prelude.{slice_get, ◌&&◌}
use Rattle.mt_term_parser.specs.WrittenOf.{written_of}
use Rattle.mt_resolver.specs.Built.{is_built}
use Rattle.mt_unit_parser.specs.UnitOf.{group_of, con_of, type_of, function_of}
use Rattle.mt_unit_parser.specs.declared.units.Group.{Group}
use Rattle.mt_unit_parser.specs.declared.units.RawCon.{RawCon}
use Rattle.mt_unit_parser.specs.declared.units.RawType.{RawType}
use Rattle.mt_unit_parser.specs.declared.units.RawFunction.{RawFunction}
use Rattle.mt_session.specs.Plans.{are_groups_built, are_constructors_built, are_types_built, are_functions_built}

-- the rest of a list from a place on
rest_at : {A : Type 0} (xs : List A) (i : ℕ) (x : A) → slice_get xs i ≡ Some x → drop i xs ≡ x ∷ drop (suc i) xs
rest_at [] i x e = let no : ⊥ = cc in absurd no
rest_at (y ∷ xs) zero x e = let same : y ≡ x = cc in ap (λ z. z ∷ xs) same
rest_at (y ∷ xs) (suc i) x e = rest_at xs i x e

rest_next : {A : Type 0} (xs : List A) (i : ℕ) (x : A) → slice_get xs i ≡ Some x → drop i xs ≡ x ∷ drop (i + 1) xs
rest_next xs i x e = let one : suc i ≡ i + 1 = omega arith in rest_at xs i x e ∙ ap (λ k. x ∷ drop k xs) one

rest_none : {A : Type 0} (xs : List A) (i : ℕ) → length xs ≤ i → drop i xs ≡ []
rest_none [] zero h = refl
rest_none [] (suc i) h = refl
rest_none (y ∷ xs) zero h = absurd (omega (arith, h))
rest_none (y ∷ xs) (suc i) h = rest_none xs i (omega (arith, h))

pub and_true : (a b : Bool) → a ≡ true → (a && b) ≡ b
and_true true b e = refl
and_true false b e = let no : ⊥ = cc in absurd no

pub and_false : (a b : Bool) → a ≡ false → (a && b) ≡ false
and_false true b e = let no : ⊥ = cc in absurd no
and_false false b e = refl

-- binders
groups_at : (gs : List Group) (i : ℕ) (g : Group) → slice_get gs i ≡ Some g → are_groups_built (map group_of (drop i gs)) ≡ (is_built true (written_of g.ty) && are_groups_built (map group_of (drop (i + 1) gs)))
groups_at gs i g e = ap (λ l. are_groups_built (map group_of l)) (rest_next gs i g e)

pub groups_next : (gs : List Group) (i : ℕ) (g : Group) → slice_get gs i ≡ Some g → is_built true (written_of g.ty) ≡ true → are_groups_built (map group_of (drop i gs)) ≡ are_groups_built (map group_of (drop (i + 1) gs))
groups_next gs i g e b = groups_at gs i g e ∙ and_true (is_built true (written_of g.ty)) (are_groups_built (map group_of (drop (i + 1) gs))) b

pub groups_stop : (gs : List Group) (i : ℕ) (g : Group) → slice_get gs i ≡ Some g → is_built true (written_of g.ty) ≡ false → are_groups_built (map group_of (drop i gs)) ≡ false
groups_stop gs i g e b = groups_at gs i g e ∙ and_false (is_built true (written_of g.ty)) (are_groups_built (map group_of (drop (i + 1) gs))) b

pub groups_end : (gs : List Group) (i : ℕ) → length gs ≤ i → are_groups_built (map group_of (drop i gs)) ≡ true
groups_end gs i h = ap (λ l. are_groups_built (map group_of l)) (rest_none gs i h)

-- constructors
cons_at : (cs : List RawCon) (i : ℕ) (c : RawCon) → slice_get cs i ≡ Some c → are_constructors_built (map con_of (drop i cs)) ≡ (is_built true (written_of c.ty) && are_constructors_built (map con_of (drop (i + 1) cs)))
cons_at cs i c e = ap (λ l. are_constructors_built (map con_of l)) (rest_next cs i c e)

pub cons_next : (cs : List RawCon) (i : ℕ) (c : RawCon) → slice_get cs i ≡ Some c → is_built true (written_of c.ty) ≡ true → are_constructors_built (map con_of (drop i cs)) ≡ are_constructors_built (map con_of (drop (i + 1) cs))
cons_next cs i c e b = cons_at cs i c e ∙ and_true (is_built true (written_of c.ty)) (are_constructors_built (map con_of (drop (i + 1) cs))) b

pub cons_stop : (cs : List RawCon) (i : ℕ) (c : RawCon) → slice_get cs i ≡ Some c → is_built true (written_of c.ty) ≡ false → are_constructors_built (map con_of (drop i cs)) ≡ false
cons_stop cs i c e b = cons_at cs i c e ∙ and_false (is_built true (written_of c.ty)) (are_constructors_built (map con_of (drop (i + 1) cs))) b

pub cons_end : (cs : List RawCon) (i : ℕ) → length cs ≤ i → are_constructors_built (map con_of (drop i cs)) ≡ true
cons_end cs i h = ap (λ l. are_constructors_built (map con_of l)) (rest_none cs i h)

-- one type, and one function
types_one : (ts : List RawType) (t : RawType) → length ts ≡ 1 → slice_get ts 0 ≡ Some t → ts ≡ t ∷ []
types_one [] t n e = let no : ⊥ = cc in absurd no
types_one (u ∷ []) t n e = let same : u ≡ t = cc in ap (λ z. z ∷ []) same
types_one (u ∷ v ∷ ts) t n e = absurd (omega (arith, n))

pub type_alone : (ts : List RawType) (t : RawType) → length ts ≡ 1 → slice_get ts 0 ≡ Some t → are_types_built (map type_of ts) ≡ (is_built true (written_of t.arity) && are_constructors_built (map con_of t.cons))
type_alone ts t n e = ap (λ l. are_types_built (map type_of l)) (types_one ts t n e)

pub types_other : (ts : List RawType) → length ts ≢ 1 → are_types_built (map type_of ts) ≡ false
types_other [] n = refl
types_other (t ∷ []) n = absurd (n refl)
types_other (t ∷ u ∷ ts) n = refl

pub no_type : (ts : List RawType) → slice_get ts 0 ≡ None → are_types_built (map type_of ts) ≡ false
no_type [] e = refl
no_type (t ∷ ts) e = let no : ⊥ = cc in absurd no

functions_one : (fs : List RawFunction) (f : RawFunction) → length fs ≡ 1 → slice_get fs 0 ≡ Some f → fs ≡ f ∷ []
functions_one [] f n e = let no : ⊥ = cc in absurd no
functions_one (g ∷ []) f n e = let same : g ≡ f = cc in ap (λ z. z ∷ []) same
functions_one (g ∷ h ∷ fs) f n e = absurd (omega (arith, n))

pub function_alone : (fs : List RawFunction) (f : RawFunction) → length fs ≡ 1 → slice_get fs 0 ≡ Some f → are_functions_built (map function_of fs) ≡ are_functions_built (function_of f ∷ [])
function_alone fs f n e = ap (λ l. are_functions_built (map function_of l)) (functions_one fs f n e)

pub functions_other : (fs : List RawFunction) → length fs ≢ 1 → are_functions_built (map function_of fs) ≡ false
functions_other [] n = refl
functions_other (f ∷ []) n = absurd (n refl)
functions_other (f ∷ g ∷ fs) n = refl

pub no_function : (fs : List RawFunction) → slice_get fs 0 ≡ None → are_functions_built (map function_of fs) ≡ false
no_function [] e = refl
no_function (f ∷ fs) e = let no : ⊥ = cc in absurd no

pub ruleset form_rules = (groups_next, groups_stop, groups_end, cons_next, cons_stop, cons_end, type_alone, types_other, no_type, function_alone, functions_other, no_function)
