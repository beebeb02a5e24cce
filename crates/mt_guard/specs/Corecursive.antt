-- The guard of corecursive functions as a test that computes.
use Rattle.std.specs.Prelude.{ℕ, zero, suc, ◌-◌, Bool, true, false, ◌&&◌, ◌||◌, nat_eq, List, [], ◌∷◌, Option, Some, None, slice_get}
use Rattle.mt_term.specs.Trees.{Tree, Arms, Prod, Lam, App, Const, Con, Match, NoArm, Arm}
use Rattle.mt_term.specs.Declarations.{Constructor, Declaration, Inductive, Environment}
use Rattle.mt_term.specs.Substitution.{products}
use Rattle.mt_positivity.specs.Deciding.{avoids, is_recursive}
use Rattle.mt_guard.specs.Deciding.{is_on_type}

-- whether a term is entry f on arguments that do not mention it
abbrev pub is_call : ℕ → Tree → Bool
is_call f (Const c) = nat_eq c f
is_call f (App g a) = is_call f g && avoids f a
is_call f _ = false

-- an argument, beside whether it is guarded where it stands under no constructor
abbrev pub Judged : Type 0
Judged = Tree × Bool

abbrev pub all_avoid : ℕ → List Judged → Bool
all_avoid f [] = true
all_avoid f (v ∷ vs) = avoids f v.0 && all_avoid f vs

-- whether an argument may stand where the constructor's type has this argument's type
abbrev pub may_stand : ℕ → ℕ → ℕ → ℕ → ℕ → Tree → Judged → Bool
may_stand f e p indices d A v = avoids f v.0 || (is_recursive e p indices d A && (v.1 || is_call f v.0))

-- whether the arguments of a constructor are guarded, by the rest of its type
abbrev pub fit : ℕ → ℕ → ℕ → ℕ → ℕ → ℕ → Tree → List Judged → Bool
fit f e p indices l d C [] = true
fit f e p indices (suc l) d (Prod y A C) (v ∷ vs) = avoids f v.0 && fit f e p indices l d C vs
fit f e p indices zero d (Prod y A C) (v ∷ vs) = may_stand f e p indices d A v && fit f e p indices zero (suc d) C vs
fit f e p indices l d _ (v ∷ vs) = all_avoid f (v ∷ vs)

abbrev pub constructor_fits : ℕ → ℕ → ℕ → Tree → Option Constructor → List Judged → Bool
constructor_fits f e p T None vs = false
constructor_fits f e p T (Some c) vs = fit f e p (products T - p) p zero c.ty vs

-- only a constructor of a coinductive type
abbrev pub entry_fits : ℕ → ℕ → ℕ → Option Declaration → List Judged → Bool
entry_fits f e k (Some (Inductive x true p T cs l)) vs = constructor_fits f e p T (slice_get cs k) vs
entry_fits f e k _ vs = false

-- whether a motive is, as it stands, abstractions and then a coinductive type on arguments
abbrev pub is_coinductive_motive : Environment → Tree → Bool
is_coinductive_motive E (Lam x A R) = is_coinductive_motive E R
is_coinductive_motive E T = is_on_type E true T

module _ (E : Environment) (f : ℕ) where
  abbrev mutual
    -- whether a term on arguments, in which f may occur, is guarded under no constructor
    pub stands : Tree → List Judged → Bool
    stands (Lam x A b) [] = avoids f A && (avoids f b || stands b [])
    stands (Match e R c bs) [] = avoids f R && is_coinductive_motive E R && avoids f c && stand_arms bs
    stands (App g a) vs = stands g ((a, avoids f a || stands a []) ∷ vs)
    stands (Con e k) vs = entry_fits f e k (slice_get E.entries e) vs
    stands _ vs = false

    pub stand_arms : Arms → Bool
    stand_arms NoArm = true
    stand_arms (Arm xs b bs) = (avoids f b || stands b []) && stand_arms bs

  -- whether a term is guarded under no constructor
  abbrev pub is_under : Tree → Bool
  is_under t = avoids f t || stands t []

-- whether a type's result past n products is a coinductive type on arguments
abbrev pub has_coinductive_result : Environment → ℕ → Tree → Bool
has_coinductive_result E zero T = is_on_type E true T
has_coinductive_result E (suc n) (Prod x A B) = has_coinductive_result E n B
has_coinductive_result E (suc n) _ = false

-- whether a corecursive function, entry f with n binders and the type T, is guarded
abbrev pub is_co_guarded : Environment → ℕ → ℕ → Tree → Tree → Bool
is_co_guarded E f n T b = has_coinductive_result E n T && is_under E f b
