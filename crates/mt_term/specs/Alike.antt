-- Equality of terms but for binder names.
use Rattle.std.specs.Prelude.{Bool, true, false, ◌&&◌, nat_eq, List, [], ◌∷◌, length}
use Rattle.mt_term.specs.Trees.{Tree, Trees, Arms, Var, Sort, Prod, Lam, App, Const, Ind, Con}
use Rattle.mt_term.specs.Trees.{Match, Meta, End, Item, NoArm, Arm}
use Rattle.mt_term.specs.declared.universes.Atom.{Atom}
use Rattle.mt_term.specs.declared.universes.UnivExpr.{UnivExpr}
use Rattle.mt_term.specs.declared.universes.Sort.{Sort as AnySort}
use Rattle.mt_term.specs.declared.universes.Sort.TheVariants.{Prop, Typ}

-- the same atoms in the same order
abbrev pub same_atoms : List Atom → List Atom → Bool
same_atoms [] [] = true
same_atoms (a ∷ s) (b ∷ r) = nat_eq a.name b.name && nat_eq a.offset b.offset && same_atoms s r
same_atoms _ _ = false

-- the same universe expression, as it stands
abbrev pub same_universe : UnivExpr → UnivExpr → Bool
same_universe u v = nat_eq u.base v.base && same_atoms u.atoms v.atoms

-- the same sort, as it stands
abbrev pub same_sort : AnySort → AnySort → Bool
same_sort Prop Prop = true
same_sort (Typ u) (Typ v) = same_universe u v
same_sort _ _ = false

abbrev mutual
  -- two terms that differ in binder names only
  pub alike : Tree → Tree → Bool
  alike (Var i) (Var j) = nat_eq i j
  alike (Sort s) (Sort r) = same_sort s r
  alike (Prod x a b) (Prod y c d) = alike a c && alike b d
  alike (Lam x a b) (Lam y c d) = alike a c && alike b d
  alike (App f a) (App g b) = alike f g && alike a b
  alike (Const c) (Const d) = nat_eq c d
  alike (Ind e) (Ind d) = nat_eq e d
  alike (Con e k) (Con d j) = nat_eq e d && nat_eq k j
  alike (Match e r c bs) (Match d p t cs) = nat_eq e d && alike r p && alike c t && alike_arms bs cs
  alike (Meta n s) (Meta m r) = nat_eq n m && alike_all s r
  alike _ _ = false

  -- two lists of terms, pairwise
  pub alike_all : Trees → Trees → Bool
  alike_all End End = true
  alike_all (Item t s) (Item u r) = alike t u && alike_all s r
  alike_all _ _ = false

  -- two lists of branches with as many names in each, pairwise
  pub alike_arms : Arms → Arms → Bool
  alike_arms NoArm NoArm = true
  alike_arms (Arm xs b bs) (Arm ys c cs) =
      nat_eq (length xs) (length ys) && alike b c && alike_arms bs cs
  alike_arms _ _ = false

-- the same by a name that stays as it is in a goal
unfoldable pub is_alike : Tree → Tree → Bool
is_alike t u = alike t u
