-- The comparison of two terms, as equal or as types, with its charges. RuleTables says it case by
-- case.
use Rattle.std.specs.Prelude.{length, if◌then◌else◌, nat_eq, Bool, true, false, ◌&&◌}
use Rattle.mt_term.specs.Trees.{Tree, Trees, Arms, Var, Sort, Prod, Lam, App, Const, Ind, Con}
use Rattle.mt_term.specs.Trees.{Match, Meta, End, Item, NoArm, Arm}
use Rattle.mt_term.specs.Declarations.{Environment}
use Rattle.mt_rules.specs.Charges.{Charged, give, ◌>>=◌, charge}
use Rattle.mt_rules.specs.Knot.{fixed}
use Rattle.mt_term.specs.Alike.{is_alike}
use Rattle.mt_term.specs.Universes.{Constraints}
use Rattle.mt_term.specs.UniverseOrder.{sort_at_most, sort_same}
use Rattle.mt_term.specs.Stores.{Store}
use Rattle.mt_rules.specs.WeakHead.{whd}
use Rattle.mt_term.specs.declared.modes.Mode.{Mode}
use Rattle.mt_term.specs.declared.modes.Mode.TheVariants.{Equal, AtMost}
use Rattle.mt_term.specs.declared.universes.Sort.{Sort as AnySort}

infixr 2 ◌and◌
-- the mode and the two terms
abbrev pub Question : Type 0
Question = Mode × Tree × Tree

-- m after a yes, and no after a no
abbrev pub and_next : Charged Bool → Bool → Charged Bool
and_next m true = m
and_next m false = give false

-- the first no ends it
unfoldable pub ◌and◌ : Charged Bool → Charged Bool → Charged Bool
◌and◌ m r = m >>= and_next r

-- two sorts, by the order of universes under the constraints
abbrev pub sorts_fit : Constraints → Mode → AnySort → AnySort → Bool
sorts_fit below Equal s r = sort_same below s r
sorts_fit below AtMost s r = sort_at_most below s r

-- as many branches, and as many names in each
abbrev pub same_shapes : Arms → Arms → Bool
same_shapes NoArm NoArm = true
same_shapes (Arm xs b bs) (Arm ys c cs) = nat_eq (length xs) (length ys) && same_shapes bs cs
same_shapes _ _ = false

-- `again` is the comparison, after a charge
module _ (again : Question → Charged Bool) where
  -- the terms of two lists, pairwise
  abbrev pub same_terms : Trees → Trees → Charged Bool
  same_terms End End = give true
  same_terms (Item t s) (Item u r) = again (Equal, t, u) and same_terms s r
  same_terms _ _ = give false

  -- the bodies of two lists of branches, pairwise
  abbrev pub same_bodies : Arms → Arms → Charged Bool
  same_bodies NoArm NoArm = give true
  same_bodies (Arm xs b bs) (Arm ys c cs) = again (Equal, b, c) and same_bodies bs cs
  same_bodies _ _ = give false

  -- the same head on as many arguments: the parts of the heads, and then the arguments
  abbrev pub same_spine : Tree → Tree → Charged Bool
  same_spine (Var i) (Var j) = give (nat_eq i j)
  same_spine (Const c) (Const d) = give (nat_eq c d)
  same_spine (Ind e) (Ind d) = give (nat_eq e d)
  same_spine (Con e k) (Con d j) = give (nat_eq e d && nat_eq k j)
  same_spine (Meta n s) (Meta m r) = if nat_eq n m then same_terms s r else give false
  same_spine (Match e r c bs) (Match d p t cs) =
      if nat_eq e d && same_shapes bs cs
      then again (Equal, r, p) and again (Equal, c, t) and same_bodies bs cs
      else give false
  same_spine (App f a) (App g b) = same_spine f g and again (Equal, a, b)
  same_spine _ _ = give false

  -- two weak heads
  abbrev pub same_heads : Constraints → Mode → Tree → Tree → Charged Bool
  same_heads below mode (Sort s) (Sort r) = give (sorts_fit below mode s r)
  same_heads below mode (Prod x a b) (Prod y c d) = again (Equal, a, c) and again (mode, b, d)
  same_heads below mode (Lam x a b) (Lam y c d) = again (Equal, a, c) and again (Equal, b, d)
  same_heads below mode t u = same_spine t u

-- alike terms are equal; others are compared by their weak heads
abbrev pub convert_in : Environment → Store → (Question → Charged Bool) → Question → Charged Bool
convert_in E S again (mode, t, u) =
    if is_alike t u then give true else do
      t' ← whd E S t
      u' ← whd E S u
      same_heads again E.below mode t' u'

-- one charge for each comparison
abbrev pub convert_by : Environment → Store → (Question → Charged Bool) → Question → Charged Bool
convert_by E S again q = charge (convert_in E S again q)

-- the comparison, of a question
unfoldable pub compared : Environment → Store → Question → Charged Bool
compared E S = fixed Question (λ q. Bool) (convert_by E S)

-- the comparison
unfoldable pub convert : Environment → Store → Mode → Tree → Tree → Charged Bool
convert E S mode t u = compared E S (mode, t, u)

-- the comparison of two weak heads
unfoldable pub heads : Environment → Store → Mode → Tree → Tree → Charged Bool
heads E S mode t u = same_heads (compared E S) E.below mode t u

-- of two heads on arguments
unfoldable pub spines : Environment → Store → Tree → Tree → Charged Bool
spines E S t u = same_spine (compared E S) t u

-- of two lists of terms
unfoldable pub terms : Environment → Store → Trees → Trees → Charged Bool
terms E S s r = same_terms (compared E S) s r

-- of the bodies of two lists of branches
unfoldable pub bodies : Environment → Store → Arms → Arms → Charged Bool
bodies E S bs cs = same_bodies (compared E S) bs cs
