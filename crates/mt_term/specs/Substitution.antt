-- Renaming and substitution: one parallel transformation of variables and metavariables.
use Rattle.std.specs.Prelude.{ℕ, zero, suc, List, [], ◌∷◌}
use Rattle.mt_term.specs.Trees.{Tree, Trees, Arms, Var, Sort, Prod, Lam, App, Const, Ind, Con}
use Rattle.mt_term.specs.Trees.{Match, Meta, End, Item, NoArm, Arm, Bytes}
use Rattle.mt_term.specs.declared.universes.Sort.TheVariants.{Prop}

-- a renaming under one more binder
abbrev pub up_ren : (ℕ → ℕ) → ℕ → ℕ
up_ren ξ zero = zero
up_ren ξ (suc i) = suc (ξ i)

-- under as many binders
abbrev pub up_rens : List Bytes → (ℕ → ℕ) → ℕ → ℕ
up_rens [] ξ = ξ
up_rens (x ∷ xs) ξ = up_rens xs (up_ren ξ)

abbrev mutual
  pub ren : (ℕ → ℕ) → Tree → Tree
  ren ξ (Var i) = Var (ξ i)
  ren ξ (Sort s) = Sort s
  ren ξ (Prod x a b) = Prod x (ren ξ a) (ren (up_ren ξ) b)
  ren ξ (Lam x a b) = Lam x (ren ξ a) (ren (up_ren ξ) b)
  ren ξ (App f a) = App (ren ξ f) (ren ξ a)
  ren ξ (Const c) = Const c
  ren ξ (Ind e) = Ind e
  ren ξ (Con e k) = Con e k
  ren ξ (Match e r c bs) = Match e (ren ξ r) (ren ξ c) (ren_arms ξ bs)
  ren ξ (Meta n s) = Meta n (ren_all ξ s)

  pub ren_all : (ℕ → ℕ) → Trees → Trees
  ren_all ξ End = End
  ren_all ξ (Item t s) = Item (ren ξ t) (ren_all ξ s)

  pub ren_arms : (ℕ → ℕ) → Arms → Arms
  ren_arms ξ NoArm = NoArm
  ren_arms ξ (Arm xs b bs) = Arm xs (ren (up_rens xs ξ) b) (ren_arms ξ bs)

-- the substitution that begins with t and goes on as σ does
abbrev pub then_as : Tree → (ℕ → Tree) → ℕ → Tree
then_as t σ zero = t
then_as t σ (suc i) = σ i

-- a substitution under one more binder
abbrev pub up : (ℕ → Tree) → ℕ → Tree
up σ zero = Var zero
up σ (suc i) = ren suc (σ i)

abbrev pub ups : List Bytes → (ℕ → Tree) → ℕ → Tree
ups [] σ = σ
ups (x ∷ xs) σ = ups xs (up σ)

-- The parallel transformation: variables by σ, and a metavariable on its (transformed) terms by f.
abbrev mutual
  pub tr : (ℕ → Trees → Tree) → (ℕ → Tree) → Tree → Tree
  tr f σ (Var i) = σ i
  tr f σ (Sort s) = Sort s
  tr f σ (Prod x a b) = Prod x (tr f σ a) (tr f (up σ) b)
  tr f σ (Lam x a b) = Lam x (tr f σ a) (tr f (up σ) b)
  tr f σ (App g a) = App (tr f σ g) (tr f σ a)
  tr f σ (Const c) = Const c
  tr f σ (Ind e) = Ind e
  tr f σ (Con e k) = Con e k
  tr f σ (Match e r c bs) = Match e (tr f σ r) (tr f σ c) (tr_arms f σ bs)
  tr f σ (Meta n s) = f n (tr_all f σ s)

  pub tr_all : (ℕ → Trees → Tree) → (ℕ → Tree) → Trees → Trees
  tr_all f σ End = End
  tr_all f σ (Item t s) = Item (tr f σ t) (tr_all f σ s)

  pub tr_arms : (ℕ → Trees → Tree) → (ℕ → Tree) → Arms → Arms
  tr_arms f σ NoArm = NoArm
  tr_arms f σ (Arm xs b bs) = Arm xs (tr f (ups xs σ) b) (tr_arms f σ bs)

-- substitution
abbrev pub sub : (ℕ → Tree) → Tree → Tree
sub σ t = tr Meta σ t

-- b[a]
abbrev pub one : Tree → ℕ → Tree
one a = then_as a Var

-- the terms of a list, oldest first, for the variables; Prop past them (no typed term has such a
-- variable)
abbrev pub fill : Trees → (ℕ → Tree) → ℕ → Tree
fill End σ = σ
fill (Item t s) σ = fill s (then_as t σ)

abbrev pub beyond : ℕ → Tree
beyond i = Sort Prop

abbrev pub under : Trees → Tree → Tree
under s b = sub (fill s beyond) b

-- a term on arguments
abbrev pub apps : Tree → Trees → Tree
apps t End = t
apps t (Item a s) = apps (App t a) s

abbrev pub all_but : ℕ → Trees → Trees
all_but zero s = s
all_but (suc p) End = End
all_but (suc p) (Item t s) = all_but p s

abbrev pub join : Trees → Trees → Trees
join End r = r
join (Item t s) r = Item t (join s r)

-- how many terms there are
abbrev pub count : Trees → ℕ
count End = zero
count (Item t s) = suc (count s)

-- how many products stand at the front of a type
abbrev pub products : Tree → ℕ
products (Prod x A B) = suc (products B)
products t = zero
