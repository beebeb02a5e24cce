-- How deep a term is: the steps from its root to the furthest leaf. The rest of a list counts as a
-- step too, as a program goes down it.
use Rattle.std.specs.Prelude.{ℕ, ◌+◌, max, ◌≡◌, refl}
use Rattle.mt_term.specs.Trees.{Tree, Trees, Arms, Var, Sort, Prod, Lam, App, Const, Ind, Con}
use Rattle.mt_term.specs.Trees.{Match, Meta, End, Item, NoArm, Arm}

abbrev mutual
  pub depth : Tree → ℕ
  depth (Var i) = 1
  depth (Sort s) = 1
  depth (Prod x a b) = max (depth a) (depth b) + 1
  depth (Lam x a b) = max (depth a) (depth b) + 1
  depth (App f a) = max (depth f) (depth a) + 1
  depth (Const c) = 1
  depth (Ind e) = 1
  depth (Con e k) = 1
  depth (Match e r c bs) = max (max (depth r) (depth c)) (depth_arms bs) + 1
  depth (Meta n s) = depth_all s + 1

  pub depth_all : Trees → ℕ
  depth_all End = 1
  depth_all (Item t s) = max (depth t) (depth_all s) + 1

  pub depth_arms : Arms → ℕ
  depth_arms NoArm = 1
  depth_arms (Arm xs b bs) = max (depth b) (depth_arms bs) + 1

-- a spine's first argument is its deepest
spine_deep : depth (App (App (Const 0) (Var 0)) (Var 1)) ≡ 3
spine_deep = refl
