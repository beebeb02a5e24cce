-- The order of universe expressions as a test, by the longest paths of constraints.
use Rattle.std.specs.Prelude.{ℕ, ◌+◌, ◌-◌, ◌<◌, ◌≤◌, max, Bool, true, false, not, ◌&&◌, ◌||◌, ◌==◌}
use Rattle.std.specs.Prelude.{nat_lt, nat_le, if◌then◌else◌, List, [], ◌∷◌}
use Rattle.std.specs.List.{All, list_any, list_all}
use Rattle.mt_term.specs.declared.universes.Atom.{Atom}
use Rattle.mt_term.specs.declared.universes.UnivExpr.{UnivExpr}
use Rattle.mt_term.specs.declared.universes.Sort.{Sort}
use Rattle.mt_term.specs.declared.universes.Sort.TheVariants.{Prop, Typ}
use Rattle.mt_term.specs.Universes.{Constraints, Valuation, MeetsAll, value, IsAtMost}

-- how many names stand on two paths, one after the other; 0 where one of them is none
abbrev pub joined : ℕ → ℕ → ℕ
joined m n = if (m == 0) || (n == 0) then 0 else m + n

-- Path lengths and heights with one constraint more, which says that x is below y.
abbrev pub more_paths : (ℕ → ℕ → ℕ) → ℕ → ℕ → ℕ → ℕ → ℕ
more_paths paths x y a b = max (paths a b) (joined (paths a x) (paths y b))

abbrev pub more_heights : (ℕ → ℕ → ℕ) → (ℕ → ℕ) → ℕ → ℕ → ℕ → ℕ
more_heights paths heights x y b = max (heights b) (joined (heights x + 1) (paths y b) - 1)

-- how many names stand on the longest path of constraints from name a to name b; 0 where there is
-- none
unfoldable pub path : Constraints → ℕ → ℕ → ℕ
path [] a b = if a == b then 1 else 0
path (c ∷ cs) a b = more_paths (path cs) c.0 c.1 a b

-- how many names stand below name b on the longest path into it
unfoldable pub height : Constraints → ℕ → ℕ
height [] b = 0
height (c ∷ cs) b = more_heights (path cs) (height cs) c.0 c.1 b

-- no path of constraints leads back to its beginning
unfoldable pub acyclic : Constraints → Bool
acyclic [] = true
acyclic (c ∷ cs) = (path cs c.1 c.0 == 0) && acyclic cs

-- what the order is decided by: paths bound every valuation that meets the constraints and grow
-- along each constraint; the heights are the least such valuation
pub record AreLongest (cs : Constraints) (paths : ℕ → ℕ → ℕ) (heights : ℕ → ℕ) : Type 0 where
  pub bound : (v : Valuation)
      → MeetsAll cs v
      → (a b : ℕ)
      → 0 < paths a b
      → v a + paths a b ≤ v b + 1
  pub itself : (a : ℕ) → 0 < paths a a
  pub grow : (a : ℕ) → All (λ c. 0 < paths a c.0 → paths a c.0 < paths a c.1) cs
  pub least : (v : Valuation) → MeetsAll cs v → (b : ℕ) → heights b ≤ v b
  pub meet : MeetsAll cs heights

-- By path lengths and heights: atom a is at most atom b; atom a is at most one of the atoms; the
-- order itself.
abbrev pub covers : (ℕ → ℕ → ℕ) → Atom → Atom → Bool
covers paths a b =
    nat_lt 0 (paths a.name b.name) && nat_lt a.offset (paths a.name b.name + b.offset)

abbrev pub is_covered : (ℕ → ℕ → ℕ) → List Atom → Atom → Bool
is_covered paths bs a = list_any (covers paths a) bs

abbrev pub at_most_by : (ℕ → ℕ → ℕ) → (ℕ → ℕ) → UnivExpr → UnivExpr → Bool
at_most_by paths heights u w =
    nat_le u.base (value heights w) && list_all (is_covered paths w.atoms) u.atoms

-- u <= w; all hold where no valuation meets the constraints
unfoldable pub at_most : Constraints → UnivExpr → UnivExpr → Bool
at_most cs u w = not (acyclic cs) || at_most_by (path cs) (height cs) u w

unfoldable pub same : Constraints → UnivExpr → UnivExpr → Bool
same cs u w = at_most cs u w && at_most cs w u

-- the order of sorts, and both ways
abbrev pub sort_at_most : Constraints → Sort → Sort → Bool
sort_at_most cs Prop t = true
sort_at_most cs (Typ u) Prop = false
sort_at_most cs (Typ u) (Typ w) = at_most cs u w

abbrev pub sort_same : Constraints → Sort → Sort → Bool
sort_same cs Prop Prop = true
sort_same cs Prop (Typ w) = false
sort_same cs (Typ u) Prop = false
sort_same cs (Typ u) (Typ w) = same cs u w

-- u <= w and w <= u
abbrev pub IsSame : Constraints → UnivExpr → UnivExpr → Type 0
IsSame cs u w = IsAtMost cs u w × IsAtMost cs w u

abbrev pub SortIsSame : Constraints → Sort → Sort → Type 0
SortIsSame cs Prop Prop = Unit {0}
SortIsSame cs Prop (Typ w) = ⊥
SortIsSame cs (Typ u) Prop = ⊥
SortIsSame cs (Typ u) (Typ w) = IsSame cs u w
