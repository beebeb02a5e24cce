-- What unification with hints gives on small terms, and what it costs.
use Rattle.std.specs.Prelude.{◌≡◌, refl, ℕ, [], ◌∷◌, true, false, Some, None}
use Rattle.mt_term.specs.Trees.{Tree, Var, Sort, Prod, Lam, App, Const, Ind, Con, Meta, End, Item}
use Rattle.mt_term.specs.Declarations.{Hypothesis, Definition, Inductive, Environment}
use Rattle.mt_term.specs.States.{Metavariable, Hint}
use Rattle.mt_term.specs.Alike.{is_alike}
use Rattle.mt_term.specs.declared.modes.Mode.TheVariants.{Equal}
use Rattle.mt_term.specs.declared.universes.Sort.TheVariants.{Typ}
use Rattle.mt_rules.specs.Charges.{Done, Spent}
use Rattle.mt_rules.specs.Knot.{fixed}
use Rattle.mt_rules.specs.WeakHead.{whd, look, step}
use Rattle.mt_rules.specs.Comparison.{compared, convert}
use Rattle.mt_rules.specs.Inference.{infer}
use Rattle.mt_unification_rules.specs.Hints.{Candidate, candidates, solution}
use Rattle.mt_unification_rules.specs.Unification.{unified, unify}

abbrev nat : Tree
nat = Ind 0

abbrev nought : Tree
nought = Con 0 0

abbrev one : Tree
one = App (Con 0 1) nought

-- natural numbers, and a function that gives nought for each
abbrev numbers : Environment
numbers = record {
  entries =
      Inductive (78 ∷ []) false 0 (Sort (Typ (record { base = 0; atoms = [] }))) (record { name = 79 ∷ []; ty = nat } ∷ record { name = 83 ∷ []; ty = Prod (95 ∷ []) nat nat } ∷ []) true
      ∷ Definition (67 ∷ []) (Prod (110 ∷ []) nat nat) (Lam (110 ∷ []) nat nought)
      ∷ [];
  names = [];
  below = [];
}

abbrev constant : Tree → Tree
constant t = App (Const 1) t

abbrev variable : Hypothesis
variable = record { name = 120 ∷ []; ty = nat }

-- `x:nat, y:nat ⊢ C x ≡ C y`, and the same where x is one: both are acceptable
abbrev any : ℕ → Hint
any p = record { precedence = p; vars = variable ∷ variable ∷ []; eqs = []; left = constant (Var 1); right = constant (Var 0) }

abbrev of_one : ℕ → Hint
of_one p = record { precedence = p; vars = variable ∷ variable ∷ []; eqs = record { place = 0; term = one } ∷ []; left = constant (Var 1); right = constant (Var 0) }

-- where x is two
abbrev of_two : ℕ → Hint
of_two p = record { precedence = p; vars = variable ∷ variable ∷ []; eqs = record { place = 0; term = App (Con 0 1) one } ∷ []; left = constant (Var 1); right = constant (Var 0) }

abbrev filled : Tree → Metavariable
filled b = record { context = []; ty = nat; body = Some b }

-- The call, and two questions of the parts, of which the second is refused; then the candidate, five charges for its left side and eight for its right one. It is tried direct: the left side with the left term.
direct : unify numbers (any 0 ∷ []) [] [] Equal (constant nought) (constant one) 17 ≡ Done (filled nought ∷ filled one ∷ []) 0
unfolding unify unified infer convert compared whd look step fixed is_alike
direct = refl

direct_spent : unify numbers (any 0 ∷ []) [] [] Equal (constant nought) (constant one) 16 ≡ Spent
unfolding unify unified infer convert compared whd look step fixed is_alike
direct_spent = refl

-- The parts come first: where they are enough no hint is tried.
parts_first : unify numbers (any 0 ∷ []) (record { context = []; ty = nat; body = None } ∷ []) [] Equal (constant (Meta 0 End)) (constant nought) 5 ≡ Done (filled nought ∷ []) 0
unfolding unify unified infer convert compared whd look step fixed is_alike
parts_first = refl

-- A hint whose equation fails, direct and swapped: its seventeen and nineteen charges stay spent, and its metavariables are undone; the next one begins with the same numbers.
undone : unify numbers (of_two 0 ∷ any 0 ∷ []) [] [] Equal (constant nought) (constant one) 53 ≡ Done (filled nought ∷ filled one ∷ []) 0
unfolding unify unified infer convert compared whd look step fixed is_alike
undone = refl

-- the lower precedence first, though it is younger
precedence : unify numbers (of_one 1 ∷ any 0 ∷ []) [] [] Equal (constant nought) (constant one) 17 ≡ Done (filled nought ∷ filled one ∷ []) 0
unfolding unify unified infer convert compared whd look step fixed is_alike
precedence = refl

-- Tried direct it fails, and then with its sides exchanged: the first variable is the right term, and the equation holds.
swapped : unify numbers (of_one 0 ∷ []) [] [] Equal (constant nought) (constant one) 37 ≡ Done (filled one ∷ filled nought ∷ []) 0
unfolding unify unified infer convert compared whd look step fixed is_alike
swapped = refl

-- the candidates of two hints, of which the second has the lower precedence: each direct and then swapped, since the two sides have one head
abbrev candidate : Hint → Candidate
candidate h = record { hint = h; swapped = false }

abbrev exchanged : Hint → Candidate
exchanged h = record { hint = h; swapped = true }

in_order : candidates (any 1 ∷ of_one 0 ∷ []) (Some (Const 1)) (Some (Const 1)) ≡ candidate (of_one 0) ∷ exchanged (of_one 0) ∷ candidate (any 1) ∷ exchanged (any 1) ∷ []
unfolding is_alike
in_order = refl

none_without_heads : candidates (any 0 ∷ []) None (Some (Const 1)) ≡ []
none_without_heads = refl

-- the solution of the equations
solved : solution (of_one 0) ≡ Item one (Item (Var 0) End)
solved = refl
