-- The forms that typing makes of universe expressions: normal forms, maxima, and the expression
-- of the values one higher.
use Rattle.std.specs.Prelude.{◌≡◌, true, ℕ, zero, suc, ◌+◌, ◌^◌, ◌<◌, max, Bool, ◌&&◌, ◌==◌, nat_lt}
use Rattle.std.specs.Prelude.{nat_le, if◌then◌else◌, List, [], ◌∷◌, ◌++◌, Option, Some, None}
use Rattle.std.specs.List.{list_any, list_all}
use Rattle.mt_term.specs.declared.universes.Atom.{Atom}
use Rattle.mt_term.specs.declared.universes.UnivExpr.{UnivExpr}
use Rattle.mt_term.specs.declared.universes.Sort.{Sort}
use Rattle.mt_term.specs.declared.universes.Sort.TheVariants.{Prop, Typ}

-- Atoms by name, one for each: the greatest offset of a name counts.
abbrev pub with_atom : Atom → List Atom → List Atom
with_atom a [] = a ∷ []
with_atom a (b ∷ bs) =
    if nat_lt a.name b.name then a ∷ b ∷ bs
    else if a.name == b.name then record { name = b.name; offset = max a.offset b.offset } ∷ bs
    else b ∷ with_atom a bs

abbrev pub with_atoms : List Atom → List Atom → List Atom
with_atoms [] bs = bs
with_atoms (a ∷ rest) bs = with_atom a (with_atoms rest bs)

abbrev pub by_name : List Atom → List Atom
by_name xs = with_atoms xs []

-- some offset is at least n
abbrev pub is_below_an_atom : ℕ → List Atom → Bool
is_below_an_atom n rest = list_any (λ (a : Atom). nat_le n a.offset) rest

-- the normal form: one atom for each name, by the names' numbers, and base 0 where some offset is
-- at least the base
unfoldable pub normal_form : UnivExpr → UnivExpr
normal_form u =
    record { base = if is_below_an_atom u.base u.atoms then 0 else u.base; atoms = by_name u.atoms }

-- the maximum of two, in normal form
unfoldable pub maximum : UnivExpr → UnivExpr → UnivExpr
maximum u w = normal_form (record { base = max u.base w.base; atoms = u.atoms ++ w.atoms })

-- the names of atoms grow, from past n on
abbrev pub AreAbove : ℕ → List Atom → Type 0
AreAbove n [] = Unit {0}
AreAbove n (a ∷ rest) = (n < a.name) × AreAbove a.name rest

abbrev pub AreByName : List Atom → Type 0
AreByName [] = Unit {0}
AreByName (a ∷ rest) = AreAbove a.name rest

abbrev pub IsNormal : UnivExpr → Type 0
IsNormal u = AreByName u.atoms × (is_below_an_atom u.base u.atoms ≡ true → u.base ≡ 0)

-- Every number one higher; a base 0 beside atoms stays 0.
abbrev pub raised_base : ℕ → List Atom → ℕ
raised_base zero [] = 1
raised_base zero (a ∷ rest) = 0
raised_base (suc n) rest = suc n + 1

abbrev pub raised_atoms : List Atom → List Atom
raised_atoms [] = []
raised_atoms (a ∷ rest) = record { name = a.name; offset = a.offset + 1 } ∷ raised_atoms rest

-- no number passes 4,294,967,295
abbrev pub fits_atom : Atom → Bool
fits_atom a = nat_lt a.offset (2 ^ 32)

abbrev pub fits : UnivExpr → Bool
fits u = nat_lt u.base (2 ^ 32) && list_all fits_atom u.atoms

abbrev pub if_fits : UnivExpr → Option UnivExpr
if_fits u = if fits u then Some u else None

-- the expression of the values one higher, where its numbers fit
unfoldable pub raised : UnivExpr → Option UnivExpr
raised u = if_fits (record { base = raised_base u.base u.atoms; atoms = raised_atoms u.atoms })

abbrev pub raised_sort : Option UnivExpr → Option Sort
raised_sort (Some u) = Some (Typ u)
raised_sort None = None

-- the sort that is the type of a sort
abbrev pub sort_above : Sort → Option Sort
sort_above Prop = Some (Typ (record { base = 0; atoms = [] }))
sort_above (Typ u) = raised_sort (raised u)

-- the sort of a product whose domain and codomain have these sorts
abbrev pub sort_of_product : Sort → Sort → Sort
sort_of_product s Prop = Prop
sort_of_product Prop (Typ w) = Typ w
sort_of_product (Typ u) (Typ w) = Typ (maximum u w)
