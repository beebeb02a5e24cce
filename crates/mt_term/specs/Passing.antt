-- Lifting and substitution told with the number of binders passed, as a program that goes down a
-- term does it.
use Rattle.std.specs.Prelude.{ℕ, ◌+◌, ◌-◌, length, if◌then◌else◌, nat_lt}
use Rattle.mt_term.specs.Trees.{Tree, Trees, Arms, Var, Sort, Prod, Lam, App, Const, Ind, Con}
use Rattle.mt_term.specs.Trees.{Match, Meta, End, Item, NoArm, Arm}

abbrev mutual
  -- the variables from a place on are raised, the place going up with each binder
  pub lift_past : ℕ → ℕ → Tree → Tree
  lift_past by from (Var i) = if nat_lt i from then Var i else Var (i + by)
  lift_past by from (Sort s) = Sort s
  lift_past by from (Prod x a b) = Prod x (lift_past by from a) (lift_past by (from + 1) b)
  lift_past by from (Lam x a b) = Lam x (lift_past by from a) (lift_past by (from + 1) b)
  lift_past by from (App f a) = App (lift_past by from f) (lift_past by from a)
  lift_past by from (Const c) = Const c
  lift_past by from (Ind e) = Ind e
  lift_past by from (Con e k) = Con e k
  lift_past by from (Match e r c bs) =
      Match e (lift_past by from r) (lift_past by from c) (lift_past_arms by from bs)
  lift_past by from (Meta n s) = Meta n (lift_past_all by from s)

  pub lift_past_all : ℕ → ℕ → Trees → Trees
  lift_past_all by from End = End
  lift_past_all by from (Item t s) = Item (lift_past by from t) (lift_past_all by from s)

  pub lift_past_arms : ℕ → ℕ → Arms → Arms
  lift_past_arms by from NoArm = NoArm
  lift_past_arms by from (Arm xs b bs) =
      Arm xs (lift_past by (from + length xs) b) (lift_past_arms by from bs)

abbrev mutual
  -- the variables past the binders are replaced, and what stands for one is lifted by all the
  -- binders passed
  pub sub_past : ℕ → (ℕ → Tree) → Tree → Tree
  sub_past past σ (Var i) = if nat_lt i past then Var i else lift_past past 0 (σ (i - past))
  sub_past past σ (Sort s) = Sort s
  sub_past past σ (Prod x a b) = Prod x (sub_past past σ a) (sub_past (past + 1) σ b)
  sub_past past σ (Lam x a b) = Lam x (sub_past past σ a) (sub_past (past + 1) σ b)
  sub_past past σ (App f a) = App (sub_past past σ f) (sub_past past σ a)
  sub_past past σ (Const c) = Const c
  sub_past past σ (Ind e) = Ind e
  sub_past past σ (Con e k) = Con e k
  sub_past past σ (Match e r c bs) =
      Match e (sub_past past σ r) (sub_past past σ c) (sub_past_arms past σ bs)
  sub_past past σ (Meta n s) = Meta n (sub_past_all past σ s)

  pub sub_past_all : ℕ → (ℕ → Tree) → Trees → Trees
  sub_past_all past σ End = End
  sub_past_all past σ (Item t s) = Item (sub_past past σ t) (sub_past_all past σ s)

  pub sub_past_arms : ℕ → (ℕ → Tree) → Arms → Arms
  sub_past_arms past σ NoArm = NoArm
  sub_past_arms past σ (Arm xs b bs) =
      Arm xs (sub_past (past + length xs) σ b) (sub_past_arms past σ bs)
