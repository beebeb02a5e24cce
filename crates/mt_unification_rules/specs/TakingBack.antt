-- A term taken back along the terms of a metavariable: into the metavariable's own context.
use Rattle.std.specs.Prelude.{ℕ, zero, suc, List, [], ◌∷◌, if◌then◌else◌, nat_eq, Bool, false, Option, Some, None, option_map}
use Rattle.mt_term.specs.Trees.{Bytes, Tree, Trees, Arms, Var, Sort, Prod, Lam, App, Const, Ind, Con, Match, Meta, End, Item, NoArm, Arm}
use Rattle.mt_term.specs.Substitution.{count}

-- two optional values together
abbrev pub joined : {A B C : Type 0} → (A → B → C) → Option A → Option B → Option C
joined f None o = None
joined f (Some a) o = option_map (f a) o

-- what a variable becomes under one more binder, and under as many
abbrev pub up_place : (ℕ → Option ℕ) → ℕ → Option ℕ
up_place p zero = Some zero
up_place p (suc i) = option_map suc (p i)

abbrev pub up_places : List Bytes → (ℕ → Option ℕ) → ℕ → Option ℕ
up_places [] p = p
up_places (x ∷ xs) p = up_places xs (up_place p)

-- each free variable replaced by another, where there is one for each
abbrev mutual
  pub moved : (ℕ → Option ℕ) → Tree → Option Tree
  moved p (Var i) = option_map Var (p i)
  moved p (Sort s) = Some (Sort s)
  moved p (Prod x a b) = joined (Prod x) (moved p a) (moved (up_place p) b)
  moved p (Lam x a b) = joined (Lam x) (moved p a) (moved (up_place p) b)
  moved p (App f a) = joined App (moved p f) (moved p a)
  moved p (Const c) = Some (Const c)
  moved p (Ind e) = Some (Ind e)
  moved p (Con e k) = Some (Con e k)
  moved p (Match e r c bs) = joined (λ d (m : Tree × Arms). Match e d m.0 m.1) (moved p r) (joined (λ d ds. (d, ds)) (moved p c) (moved_arms p bs))
  moved p (Meta n s) = option_map (Meta n) (moved_all p s)

  pub moved_all : (ℕ → Option ℕ) → Trees → Option Trees
  moved_all p End = Some End
  moved_all p (Item t s) = joined Item (moved p t) (moved_all p s)

  pub moved_arms : (ℕ → Option ℕ) → Arms → Option Arms
  moved_arms p NoArm = Some NoArm
  moved_arms p (Arm xs b bs) = joined (Arm xs) (moved (up_places xs p) b) (moved_arms p bs)

-- a term is this variable, as it stands
abbrev pub is_variable : ℕ → Tree → Bool
is_variable i (Var j) = nat_eq i j
is_variable i t = false

-- The variable of the first hypothesis, oldest first, whose term is variable i. The terms stand oldest first, so it is the number of terms after that one.
abbrev pub place_of : Trees → ℕ → Option ℕ
place_of End i = None
place_of (Item t s) i = if is_variable i t then Some (count s) else place_of s i

-- a term taken back along these terms
abbrev pub taken_back : Trees → Tree → Option Tree
taken_back s t = moved (place_of s) t
