-- Positivity of the constructors of an inductive type.
--
-- Its type past the parameters is, as it stands, products with a result `I p us`, with I not in us;
-- the products before these are alike, one by one, to the parameters of I's own type.
-- Each argument's type does not mention I, or is `∀ys:B. I p vs` with I in neither B nor vs:
-- the latter stand at the recursive places.
use Rattle.std.specs.Prelude.{◌≡◌, ◌≢◌, ℕ, zero, suc, ◌+◌, ◌-◌, true}
use Rattle.mt_term.specs.Trees.{Tree, Trees, Arms, Bytes, Var, Sort, Prod, Lam, App}
use Rattle.mt_term.specs.Trees.{Const, Ind, Con, Match, Meta, End, Item, NoArm, Arm}
use Rattle.mt_term.specs.Substitution.{apps, count, products}
use Rattle.mt_term.specs.Alike.{alike}

-- A term does not mention entry n: no constant, type, constructor or match in it is that entry's.
abbrev mutual
  pub Avoids : ℕ → Tree → Type 0
  Avoids n (Var i) = Unit {0}
  Avoids n (Sort s) = Unit {0}
  Avoids n (Prod x A B) = Avoids n A × Avoids n B
  Avoids n (Lam x A b) = Avoids n A × Avoids n b
  Avoids n (App f a) = Avoids n f × Avoids n a
  Avoids n (Const c) = c ≢ n
  Avoids n (Ind e) = e ≢ n
  Avoids n (Con e k) = e ≢ n
  Avoids n (Match e R c bs) = (e ≢ n) × Avoids n R × Avoids n c × AvoidsArms n bs
  Avoids n (Meta m s) = AvoidsAll n s

  pub AvoidsAll : ℕ → Trees → Type 0
  AvoidsAll n End = Unit {0}
  AvoidsAll n (Item t s) = Avoids n t × AvoidsAll n s

  pub AvoidsArms : ℕ → Arms → Type 0
  AvoidsArms n NoArm = Unit {0}
  AvoidsArms n (Arm xs b bs) = Avoids n b × AvoidsArms n bs

-- The variables of q parameters under d further hypotheses, oldest first.
abbrev pub parameters : ℕ → ℕ → Trees
parameters zero d = End
parameters (suc q) d = Item (Var (d + q)) (parameters q d)

-- Type n on its q parameters, as they stand under d arguments, and on further terms.
abbrev pub at_parameters : ℕ → ℕ → ℕ → Trees → Tree
at_parameters n q d us = apps (apps (Ind n) (parameters q d)) us

-- The type of an argument at a recursive place, under d arguments, is `∀ys:B. I p vs`, where
-- neither B nor vs mention I, which is type n with q parameters and so many indices.
pub data RecursiveArgument (n q indices : ℕ) : ℕ → Tree → Type 0 where
  --  as many vs as indices    I not in vs
  -- -------------------------------------- (the type)
  --                I p vs
  of_type : {d : ℕ} (us : Trees)
      → count us ≡ indices → AvoidsAll n us
      → RecursiveArgument n q indices d (at_parameters n q d us)
  --  I not in A    B, under the product
  -- ------------------------------------ (a product)
  --               ∀x:A.B
  of_products : {d : ℕ} {x : Bytes} {A B : Tree}
      → Avoids n A → RecursiveArgument n q indices (suc d) B
      → RecursiveArgument n q indices d (Prod x A B)

-- What is left of a constructor's type past the parameters and d arguments: the other arguments,
-- which do not mention I or stand at recursive places, and the result `I p us` with I not in us.
pub data PositiveArguments (n q indices : ℕ) : ℕ → Tree → Type 0 where
  --  as many us as indices    I not in us
  -- -------------------------------------- (the result)
  --                I p us
  result : {d : ℕ} (us : Trees)
      → count us ≡ indices → AvoidsAll n us
      → PositiveArguments n q indices d (at_parameters n q d us)
  --  I not in A    B, under the argument
  -- ------------------------------------- (an argument without I)
  --               ∀x:A.B
  plain_argument : {d : ℕ} {x : Bytes} {A B : Tree}
      → Avoids n A → PositiveArguments n q indices (suc d) B
      → PositiveArguments n q indices d (Prod x A B)
  --  A is the type of a recursive place    B, under the argument
  -- ------------------------------------------------------------- (a recursive place)
  --                           ∀x:A.B
  recursive_argument : {d : ℕ} {x : Bytes} {A B : Tree}
      → RecursiveArgument n q indices d A → PositiveArguments n q indices (suc d) B
      → PositiveArguments n q indices d (Prod x A B)

-- The parameters of a constructor are alike, one by one, to those of its type, and what is past
-- them is positive. So many parameters are left, and so many passed.
pub data PositiveFrom (n indices : ℕ) : ℕ → ℕ → Tree → Tree → Type 0 where
  --  C is positive past the parameters
  -- ----------------------------------- (no parameter is left)
  --                 C
  past_parameters : {q : ℕ} {T C : Tree}
      → PositiveArguments n q indices zero C
      → PositiveFrom n indices zero q T C
  --  A and A' are alike    D beside B
  -- ---------------------------------- (a parameter)
  --      ∀y:A'.D  beside  ∀x:A.B
  parameter : {p q : ℕ} {x y : Bytes} {A A' B D : Tree}
      → alike A A' ≡ true → PositiveFrom n indices p (suc q) B D
      → PositiveFrom n indices (suc p) q (Prod x A B) (Prod y A' D)

-- A constructor of type n with p parameters and the type T is positive: its closed type is C.
abbrev pub Positive : ℕ → ℕ → Tree → Tree → Type 0
Positive n p T C = PositiveFrom n (products T - p) p zero T C
