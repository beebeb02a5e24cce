-- Positivity as a test that computes.
use Rattle.std.specs.Prelude.{ℕ, zero, suc, ◌+◌, ◌-◌, Bool, true, false, not, ◌&&◌, ◌||◌, nat_eq}
use Rattle.std.specs.Prelude.{nat_lt, if◌then◌else◌}
use Rattle.mt_term.specs.Trees.{Tree, Trees, Arms, Var, Sort, Prod, Lam, App, Const, Ind, Con}
use Rattle.mt_term.specs.Trees.{Match, Meta, End, Item, NoArm, Arm}
use Rattle.mt_term.specs.Alike.{is_alike}
use Rattle.mt_term.specs.Substitution.{products}

-- whether a term does not mention entry n
abbrev mutual
  pub avoids : ℕ → Tree → Bool
  avoids n (Var i) = true
  avoids n (Sort s) = true
  avoids n (Prod x A B) = avoids n A && avoids n B
  avoids n (Lam x A b) = avoids n A && avoids n b
  avoids n (App f a) = avoids n f && avoids n a
  avoids n (Const c) = not (nat_eq c n)
  avoids n (Ind e) = not (nat_eq e n)
  avoids n (Con e k) = not (nat_eq e n)
  avoids n (Match e R c bs) = not (nat_eq e n) && avoids n R && avoids n c && avoids_arms n bs
  avoids n (Meta m s) = avoids_all n s

  pub avoids_all : ℕ → Trees → Bool
  avoids_all n End = true
  avoids_all n (Item t s) = avoids n t && avoids_all n s

  pub avoids_arms : ℕ → Arms → Bool
  avoids_arms n NoArm = true
  avoids_arms n (Arm xs b bs) = avoids n b && avoids_arms n bs

-- whether a term is variable i
abbrev pub is_variable : ℕ → Tree → Bool
is_variable i (Var j) = nat_eq j i
is_variable i _ = false

-- whether an argument at place j may stand there: a parameter, or a term past the parameters
abbrev pub is_argument : ℕ → ℕ → ℕ → ℕ → Tree → Bool
is_argument n q d j a = if nat_lt j q then is_variable (d + (q - suc j)) a else avoids n a

-- whether a term is type n on so many arguments: its q parameters, under d arguments, and then
-- terms that do not mention it
abbrev pub is_type_on : ℕ → ℕ → ℕ → Tree → ℕ → Bool
is_type_on n q d (Ind e) zero = nat_eq e n
is_type_on n q d (App f a) (suc j) = is_argument n q d j a && is_type_on n q d f j
is_type_on n q d _ _ = false

-- whether an argument's type, under d arguments, is one of a recursive place
abbrev pub is_recursive : ℕ → ℕ → ℕ → ℕ → Tree → Bool
is_recursive n q indices d (Prod x A B) = avoids n A && is_recursive n q indices (suc d) B
is_recursive n q indices d t = is_type_on n q d t (q + indices)

-- whether what is left of a constructor's type, past the parameters and d arguments, is positive
abbrev pub is_positive_past : ℕ → ℕ → ℕ → ℕ → Tree → Bool
is_positive_past n q indices d (Prod x A B) =
    (avoids n A || is_recursive n q indices d A) && is_positive_past n q indices (suc d) B
is_positive_past n q indices d t = is_type_on n q d t (q + indices)

-- whether a constructor's type is positive, where so many parameters are left and so many passed;
-- its parameters are beside those of the type
abbrev pub is_positive_from : ℕ → ℕ → ℕ → ℕ → Tree → Tree → Bool
is_positive_from n indices zero q T C = is_positive_past n q indices zero C
is_positive_from n indices (suc p) q (Prod x A B) (Prod y A' D) =
    is_alike A A' && is_positive_from n indices p (suc q) B D
is_positive_from n indices (suc p) q _ _ = false

-- whether a constructor of type n, which has p parameters and the type T, is positive: its closed
-- type is C
abbrev pub is_positive : ℕ → ℕ → Tree → Tree → Bool
is_positive n p T C = is_positive_from n (products T - p) p zero T C
