-- Universe expressions: their values, and their order under constraints.
use Rattle.std.specs.Prelude.{ℕ, ◌+◌, ◌<◌, ◌≤◌, max}
use Rattle.std.specs.Prelude.{List, [], ◌∷◌}
use Rattle.std.specs.List.{All}
use Rattle.mt_term.specs.declared.universes.Atom.{Atom}
use Rattle.mt_term.specs.declared.universes.UnivExpr.{UnivExpr}
use Rattle.mt_term.specs.declared.universes.Sort.{Sort}
use Rattle.mt_term.specs.declared.universes.Sort.TheVariants.{Prop, Typ}

-- numbers of names, the first below the second in each pair
abbrev pub Constraints : Type 0
Constraints = List (ℕ × ℕ)

-- a natural number for each name
abbrev pub Valuation : Type 0
Valuation = ℕ → ℕ

abbrev pub MeetsAll : Constraints → Valuation → Type 0
MeetsAll cs v = All (λ c. v c.0 < v c.1) cs

abbrev pub Satisfiable : Constraints → Type 0
Satisfiable cs = (v : Valuation) × MeetsAll cs v

-- the greatest value of an atom, which is its name's number plus its offset; 0 without atoms
abbrev pub value_of_atoms : Valuation → List Atom → ℕ
value_of_atoms v [] = 0
value_of_atoms v (a ∷ rest) = max (v a.name + a.offset) (value_of_atoms v rest)

abbrev pub value : Valuation → UnivExpr → ℕ
value v u = max u.base (value_of_atoms v u.atoms)

-- u <= w: no valuation that meets the constraints gives u more than w
abbrev pub IsAtMost : Constraints → UnivExpr → UnivExpr → Type 0
IsAtMost cs u w = (v : Valuation) → MeetsAll cs v → value v u ≤ value v w

-- the order of sorts: Prop is below all
abbrev pub SortIsAtMost : Constraints → Sort → Sort → Type 0
SortIsAtMost cs Prop t = Unit {0}
SortIsAtMost cs (Typ u) Prop = ⊥
SortIsAtMost cs (Typ u) (Typ w) = IsAtMost cs u w
