-- Guarded functions over the natural numbers, and ones that are not. The function is entry 1.
use Rattle.std.specs.Prelude.{◌≡◌, [], ◌∷◌, true, false, refl}
use Rattle.mt_term.specs.Trees.{Tree, Var, Sort, Prod, Lam, App, Const, Ind, Con, Match, NoArm, Arm}
use Rattle.mt_term.specs.Declarations.{Inductive, Environment}
use Rattle.mt_term.specs.declared.universes.Sort.TheVariants.{Typ}
use Rattle.mt_guard.specs.Deciding.{is_guarded}
use Rattle.mt_guard.specs.Corecursive.{is_co_guarded}

-- natural numbers, inductive or coinductive
abbrev numbers : Environment
numbers = record {
  entries = Inductive [] false 0 (Sort (Typ (record { base = 0; atoms = [] }))) (record { name = []; ty = Ind 0 } ∷ record { name = []; ty = Prod [] (Ind 0) (Ind 0) } ∷ []) true ∷ [];
  names = [];
  below = [];
}

abbrev conumbers : Environment
conumbers = record {
  entries = Inductive [] true 0 (Sort (Typ (record { base = 0; atoms = [] }))) (record { name = []; ty = Ind 0 } ∷ record { name = []; ty = Prod [] (Ind 0) (Ind 0) } ∷ []) true ∷ [];
  names = [];
  below = [];
}

-- a match on a number, and the branch of its second constructor under one name
abbrev cases : Tree → Tree → Tree
cases c b = Match 0 (Lam [] (Ind 0) (Ind 0)) c (Arm [] (Con 0 0) (Arm ([] ∷ []) b NoArm))

-- a function of one number, and of two
abbrev of_one : Tree → Tree
of_one b = Lam [] (Ind 0) b

abbrev of_two : Tree → Tree
of_two b = Lam [] (Ind 0) (Lam [] (Ind 0) b)

on_the_predecessor : is_guarded numbers 1 1 0 (of_one (cases (Var 0) (App (Const 1) (Var 0)))) ≡ true
on_the_predecessor = refl

on_the_same : is_guarded numbers 1 1 0 (of_one (App (Const 1) (Var 0))) ≡ false
on_the_same = refl

without_arguments : is_guarded numbers 1 1 0 (of_one (cases (Var 0) (Const 1))) ≡ false
without_arguments = refl

-- a match on another term makes nothing smaller
on_another_match : is_guarded numbers 1 1 0 (of_one (cases (App (Con 0 1) (Var 0)) (App (Const 1) (Var 0)))) ≡ false
on_another_match = refl

-- what is taken from a smaller variable is smaller
two_below : is_guarded numbers 1 1 0 (of_one (cases (Var 0) (cases (Var 0) (App (Const 1) (Var 0))))) ≡ true
two_below = refl

-- by the second argument; the first one may be any, but no call on a larger one hides in it
by_the_second : is_guarded numbers 1 2 1 (of_two (cases (Var 0) (App (App (Const 1) (Var 1)) (Var 0)))) ≡ true
by_the_second = refl

place_off_by_one : is_guarded numbers 1 2 0 (of_two (cases (Var 0) (App (App (Const 1) (Var 1)) (Var 0)))) ≡ false
place_off_by_one = refl

hidden_in_another : is_guarded numbers 1 2 1 (of_two (cases (Var 0) (App (App (Const 1) (App (App (Const 1) (Var 1)) (Var 1))) (Var 0)))) ≡ false
hidden_in_another = refl

no_such_place : is_guarded numbers 1 1 1 (of_one (Con 0 0)) ≡ false
no_such_place = refl

over_a_coinductive_type : is_guarded conumbers 1 1 0 (of_one (Con 0 0)) ≡ false
over_a_coinductive_type = refl

-- corecursive functions: the call stands as an argument of a constructor at a recursive place
abbrev next : Tree → Tree
next t = App (Con 0 1) t

under_a_constructor : is_co_guarded conumbers 1 0 (Ind 0) (next (Const 1)) ≡ true
under_a_constructor = refl

under_two : is_co_guarded conumbers 1 1 (Prod [] (Ind 0) (Ind 0)) (Lam [] (Ind 0) (next (next (App (Const 1) (Var 0))))) ≡ true
under_two = refl

under_none : is_co_guarded conumbers 1 0 (Ind 0) (Const 1) ≡ false
under_none = refl

in_a_branch : is_co_guarded conumbers 1 1 (Prod [] (Ind 0) (Ind 0)) (Lam [] (Ind 0) (cases (Var 0) (next (App (Const 1) (Var 0))))) ≡ true
in_a_branch = refl

bare_in_a_branch : is_co_guarded conumbers 1 1 (Prod [] (Ind 0) (Ind 0)) (Lam [] (Ind 0) (cases (Var 0) (App (Const 1) (Var 0)))) ≡ false
bare_in_a_branch = refl

in_its_own_argument : is_co_guarded conumbers 1 1 (Prod [] (Ind 0) (Ind 0)) (Lam [] (Ind 0) (next (App (Const 1) (App (Const 1) (Var 0))))) ≡ false
in_its_own_argument = refl

of_an_inductive_type : is_co_guarded numbers 1 0 (Ind 0) (next (Const 1)) ≡ false
of_an_inductive_type = refl
