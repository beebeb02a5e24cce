-- Universe expressions on the constraints a < b < c, the names having the numbers 0, 1 and 2.
use Rattle.std.specs.Prelude.{◌≡◌, ℕ, true, false, [], ◌∷◌, Some, None}
use mathlib.Core.Path.{refl}
use Rattle.mt_term.specs.declared.universes.Atom.{Atom}
use Rattle.mt_term.specs.declared.universes.UnivExpr.{UnivExpr}
use Rattle.mt_term.specs.Universes.{Constraints}
use Rattle.mt_term.specs.UniverseForms.{normal_form, maximum, raised}
use Rattle.mt_term.specs.UniverseOrder.{path, height, acyclic, at_most, same}

abbrev atom : ℕ → ℕ → Atom
atom a k = record { name = a; offset = k }

-- Type[n] and Type[a+k]
abbrev base : ℕ → UnivExpr
base n = record { base = n; atoms = [] }

abbrev name : ℕ → ℕ → UnivExpr
name a k = record { base = 0; atoms = atom a k ∷ [] }

abbrev chain : Constraints
chain = (0, 1) ∷ (1, 2) ∷ []

abbrev cycle : Constraints
cycle = (0, 1) ∷ (1, 2) ∷ (2, 0) ∷ []

below_third : at_most chain (name 0 0) (name 2 0) ≡ true
unfolding at_most acyclic path height
below_third = refl

not_above_first : at_most chain (name 2 0) (name 0 0) ≡ false
unfolding at_most acyclic path height
not_above_first = refl

two_higher : at_most chain (name 0 2) (name 2 0) ≡ true
unfolding at_most acyclic path height
two_higher = refl

three_higher : at_most chain (name 0 3) (name 2 0) ≡ false
unfolding at_most acyclic path height
three_higher = refl

raised_alike : at_most chain (name 2 1) (name 0 1) ≡ false
unfolding at_most acyclic path height
raised_alike = refl

-- the number of a name is at least its height
two_below_third : at_most chain (base 2) (name 2 0) ≡ true
unfolding at_most acyclic path height
two_below_third = refl

three_not_below_third : at_most chain (base 3) (name 2 0) ≡ false
unfolding at_most acyclic path height
three_not_below_third = refl

-- no base is at least a name
no_bound : at_most chain (name 0 0) (base 7) ≡ false
unfolding at_most acyclic path height
no_bound = refl

-- a name without constraints
free_name : at_most chain (name 5 1) (name 5 1) ≡ true
unfolding at_most acyclic path height
free_name = refl

free_name_apart : at_most chain (name 5 0) (name 2 9) ≡ false
unfolding at_most acyclic path height
free_name_apart = refl

-- the second constraint says the first value of b and the path from a once more
same_value : same chain (record { base = 1; atoms = atom 0 1 ∷ atom 1 0 ∷ [] }) (name 1 0) ≡ true
unfolding same at_most acyclic path height
same_value = refl

third_closes : acyclic cycle ≡ false
unfolding acyclic path
third_closes = refl

none_met : at_most cycle (name 0 7) (base 0) ≡ true
unfolding at_most acyclic path height
none_met = refl

itself : acyclic ((0, 0) ∷ []) ≡ false
unfolding acyclic path
itself = refl

by_number : normal_form (record { base = 3; atoms = atom 1 1 ∷ atom 0 2 ∷ atom 1 3 ∷ [] }) ≡ record { base = 0; atoms = atom 0 2 ∷ atom 1 3 ∷ [] }
unfolding normal_form
by_number = refl

base_stays : normal_form (record { base = 4; atoms = atom 1 3 ∷ [] }) ≡ record { base = 4; atoms = atom 1 3 ∷ [] }
unfolding normal_form
base_stays = refl

greatest : maximum (record { base = 4; atoms = atom 1 3 ∷ [] }) (record { base = 2; atoms = atom 0 4 ∷ atom 1 1 ∷ [] }) ≡ record { base = 0; atoms = atom 0 4 ∷ atom 1 3 ∷ [] }
unfolding maximum normal_form
greatest = refl

zero_raised : raised (base 0) ≡ Some (base 1)
unfolding raised
zero_raised = refl

atoms_raised : raised (name 3 0) ≡ Some (name 3 1)
unfolding raised
atoms_raised = refl

all_raised : raised (record { base = 4; atoms = atom 1 3 ∷ [] }) ≡ Some (record { base = 5; atoms = atom 1 4 ∷ [] })
unfolding raised
all_raised = refl

last_raised : raised (base 4294967294) ≡ Some (base 4294967295)
unfolding raised
last_raised = refl

past_last : raised (base 4294967295) ≡ None
unfolding raised
past_last = refl
