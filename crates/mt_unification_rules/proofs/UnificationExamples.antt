-- What unification gives on small terms, and what it costs.
use Rattle.std.specs.Prelude.{◌≡◌, refl, ℕ, [], ◌∷◌, true, false, Some, None}
use Rattle.mt_term.specs.Trees.{Tree, Var, Sort, Prod, Lam, App, Const, Ind, Con, Match, Meta, End, Item, NoArm, Arm}
use Rattle.mt_term.specs.Declarations.{Hypothesis, Axiom, Definition, Inductive, Environment}
use Rattle.mt_term.specs.Reasons.{Mismatch}
use Rattle.mt_term.specs.States.{Metavariable}
use Rattle.mt_rules.specs.Charges.{Done, Refused, Spent}
use Rattle.mt_rules.specs.Knot.{fixed}
use Rattle.mt_term.specs.Alike.{is_alike}
use Rattle.mt_term.specs.Instancing.{instance}
use Rattle.mt_rules.specs.WeakHead.{whd, look, step}
use Rattle.mt_rules.specs.Comparison.{compared, convert}
use Rattle.mt_rules.specs.Inference.{infer}
use Rattle.mt_term.specs.declared.modes.Mode.TheVariants.{Equal, AtMost}
use Rattle.mt_term.specs.declared.universes.Sort.TheVariants.{Prop, Typ}
use Rattle.mt_unification_rules.specs.Placeholders.{Metas}
use Rattle.mt_unification_rules.specs.Unification.{unified, unify}

abbrev type0 : Tree
type0 = Sort (Typ (record { base = 0; atoms = [] }))

abbrev nat : Tree
nat = Ind 0

abbrev nought : Tree
nought = Con 0 0

abbrev next : Tree → Tree
next t = App (Con 0 1) t

-- natural numbers, one, another name of it, an operation, and a family of types, each of which is that of natural numbers
abbrev numbers : Environment
numbers = record {
  entries =
      Inductive (78 ∷ []) false 0 type0 (record { name = 79 ∷ []; ty = nat } ∷ record { name = 83 ∷ []; ty = Prod (95 ∷ []) nat nat } ∷ []) true
      ∷ Definition (111 ∷ []) nat (next nought)
      ∷ Definition (117 ∷ []) nat (Const 1)
      ∷ Axiom (102 ∷ []) (Prod (95 ∷ []) nat (Prod (95 ∷ []) nat nat))
      ∷ Definition (80 ∷ []) (Prod (110 ∷ []) nat type0) (Lam (110 ∷ []) nat nat)
      ∷ [];
  names = [];
  below = [];
}

-- an open metavariable of this type in the empty context, an assigned one, and its term
abbrev hole : Tree → Metavariable
hole t = record { context = []; ty = t; body = None }

abbrev filled : Tree → Tree → Metavariable
filled t b = record { context = []; ty = t; body = Some b }

abbrev meta : ℕ → Tree
meta n = Meta n End

abbrev two_holes : Metas
two_holes = hole nat ∷ hole nat ∷ []

abbrev x : Hypothesis
x = record { name = 120 ∷ []; ty = nat }

abbrev y : Hypothesis
y = record { name = 121 ∷ []; ty = nat }

abbrev operation : Tree → Tree → Tree
operation t u = App (App (Const 3) t) u

-- the call, the two functions, the two arguments, the inference of the body, and the unification of its type with that of the metavariable
argument : unify numbers [] two_holes [] Equal (next (meta 0)) (next nought) 5 ≡ Done (filled nat nought ∷ hole nat ∷ []) 0
unfolding unify unified infer whd fixed is_alike
argument = refl

argument_spent : unify numbers [] two_holes [] Equal (next (meta 0)) (next nought) 4 ≡ Spent
unfolding unify unified infer whd fixed is_alike
argument_spent = refl

-- the instance after it
argument_instance : instance (filled nat nought ∷ hole nat ∷ []) (next (meta 0)) ≡ next nought
argument_instance = refl

-- a metavariable that stands in the other term
occurs : unify numbers [] two_holes [] Equal (meta 0) (next (meta 0)) 1 ≡ Refused (Mismatch [] (meta 0) (next (meta 0)) []) 0
unfolding unify unified infer whd look step fixed is_alike
occurs = refl

-- a metavariable that stands in the type of one in the other term
occurs_in_type : unify numbers [] (hole nat ∷ hole (App (Const 4) (meta 0)) ∷ []) [] Equal (meta 0) (next (meta 1)) 1 ≡ Refused (Mismatch [] (meta 0) (next (meta 1)) []) 0
unfolding unify unified infer whd look step fixed is_alike
occurs_in_type = refl

-- two metavariables: the left one is assigned
two_metas : unify numbers [] two_holes [] Equal (meta 0) (meta 1) 3 ≡ Done (filled nat (meta 1) ∷ hole nat ∷ []) 0
unfolding unify unified infer whd fixed is_alike
two_metas = refl

-- a term on the left, a metavariable on the right
right_side : unify numbers [] two_holes [] AtMost nought (meta 1) 3 ≡ Done (hole nat ∷ filled nat nought ∷ []) 0
unfolding unify unified infer whd fixed is_alike
right_side = refl

-- the type of the body does not fit: the call, the inference, and the unification of the types are paid, and then the right side has none
wrong_type : unify numbers [] two_holes [] Equal (meta 0) (Sort Prop) 3 ≡ Refused (Mismatch [] (meta 0) (Sort Prop) []) 0
unfolding unify unified infer whd look step fixed is_alike
wrong_type = refl

-- a body of a smaller type: the inference of this proposition takes three charges, and Prop is at most Type[0]
abbrev falsity : Tree
falsity = Prod (120 ∷ []) (Sort Prop) (Var 0)

smaller_type : unify numbers [] (hole type0 ∷ []) [] Equal (meta 0) falsity 5 ≡ Done (filled type0 falsity ∷ []) 0
unfolding unify unified infer whd look step fixed is_alike
smaller_type = refl

-- a body of a larger type: that of the natural numbers is not at most Prop
larger_type : unify numbers [] (hole (Sort Prop) ∷ []) [] Equal (meta 0) nat 3 ≡ Refused (Mismatch [] (meta 0) nat []) 0
unfolding unify unified infer whd look step fixed is_alike
larger_type = refl

-- the type of the metavariable is one itself: it is assigned to the type of the body, and stays so
type_assigned : unify numbers [] (hole type0 ∷ hole (meta 0) ∷ []) [] Equal (meta 1) nought 5 ≡ Done (filled type0 nat ∷ filled (meta 0) nought ∷ []) 0
unfolding unify unified infer whd fixed is_alike
type_assigned = refl

-- an assigned head is replaced by its body, for a charge, and all begins anew
assigned_head : unify numbers [] (filled nat nought ∷ []) [] Equal (meta 0) nought 3 ≡ Done (filled nat nought ∷ []) 0
unfolding unify unified infer whd fixed is_alike
assigned_head = refl

-- on the right side too
assigned_head_right : unify numbers [] (filled nat nought ∷ []) [] Equal nought (meta 0) 3 ≡ Done (filled nat nought ∷ []) 0
unfolding unify unified infer whd fixed is_alike
assigned_head_right = refl

-- the younger of two definitions is unfolded, on either side
younger_right : unify numbers [] [] [] Equal (Const 1) (Const 2) 3 ≡ Done [] 0
unfolding unify unified infer whd look step fixed is_alike
younger_right = refl

younger_left : unify numbers [] [] [] Equal (Const 2) (Const 1) 3 ≡ Done [] 0
unfolding unify unified infer whd look step fixed is_alike
younger_left = refl

-- an abstraction on an argument comes before a definition
beta_first : unify numbers [] [] [] Equal (Const 1) (App (Lam (120 ∷ []) nat (Var 0)) (next nought)) 5 ≡ Done [] 0
unfolding unify unified infer whd look step fixed is_alike
beta_first = refl

-- sorts and products, by the mode
sorts_at_most : unify numbers [] [] [] AtMost (Sort Prop) type0 1 ≡ Done [] 0
unfolding unify unified infer whd look step fixed is_alike
sorts_at_most = refl

sorts_equal : unify numbers [] [] [] Equal (Sort Prop) type0 1 ≡ Refused (Mismatch [] (Sort Prop) type0 []) 0
unfolding unify unified infer whd look step fixed is_alike
sorts_equal = refl

products_at_most : unify numbers [] [] [] AtMost (Prod (120 ∷ []) nat (Sort Prop)) (Prod (121 ∷ []) nat type0) 3 ≡ Done [] 0
unfolding unify unified infer whd look step fixed is_alike
products_at_most = refl

-- the first arguments unify and the second ones do not: what was assigned is taken back, and the seven charges stay spent
taken_back_store : unify numbers [] two_holes [] Equal (operation (meta 0) nought) (operation nought (next nought)) 7 ≡ Refused (Mismatch [] (operation (meta 0) nought) (operation nought (next nought)) []) 0
unfolding unify unified infer whd look step fixed is_alike
taken_back_store = refl

-- the same arguments the other way round, where the second question sees what the first assigned
threaded : unify numbers [] two_holes [] Equal (operation (meta 0) (meta 0)) (operation nought (meta 1)) 11 ≡ Done (filled nat nought ∷ filled nat nought ∷ []) 0
unfolding unify unified infer whd look step fixed is_alike
threaded = refl

-- a body is taken back into the metavariable's own context: its first term is the variable, so its oldest hypothesis stands for it
own_context : unify numbers [] (record { context = x ∷ y ∷ []; ty = nat; body = None } ∷ []) (y ∷ x ∷ []) Equal (Meta 0 (Item (Var 0) (Item (Var 1) End))) (next (Var 0)) 6
    ≡ Done (record { context = x ∷ y ∷ []; ty = nat; body = Some (next (Var 1)) } ∷ []) 0
unfolding unify unified infer convert compared whd fixed is_alike
own_context = refl

first_place : unify numbers [] (record { context = x ∷ y ∷ []; ty = nat; body = None } ∷ []) (x ∷ []) Equal (Meta 0 (Item (Var 0) (Item (Var 0) End))) (Var 0) 3
    ≡ Done (record { context = x ∷ y ∷ []; ty = nat; body = Some (Var 1) } ∷ []) 0
unfolding unify unified infer whd fixed is_alike
first_place = refl

no_place : unify numbers [] (hole nat ∷ []) (x ∷ []) Equal (meta 0) (Var 0) 1 ≡ Refused (Mismatch (x ∷ []) (meta 0) (Var 0) []) 0
unfolding unify unified infer whd look step fixed is_alike
no_place = refl

-- one metavariable under two lists of terms
same_metavariable : unify numbers [] (record { context = x ∷ []; ty = nat; body = None } ∷ hole nat ∷ []) [] Equal (Meta 0 (Item (meta 1) End)) (Meta 0 (Item nought End)) 4
    ≡ Done (record { context = x ∷ []; ty = nat; body = None } ∷ filled nat nought ∷ []) 0
unfolding unify unified infer whd fixed is_alike
same_metavariable = refl

-- by cases on t: b for nought, and else the number before t
abbrev cases : Tree → Tree → Tree
cases b t = Match 0 (Lam (120 ∷ []) nat nat) t (Arm [] b (Arm ((107 ∷ []) ∷ []) (Var 0) NoArm))

abbrev predecessor : Tree → Tree
predecessor t = cases nought t

-- two matches: the call, the motives, the matched terms, which take three, and the comparison of the two bodies
two_matches : unify numbers [] (hole nat ∷ []) [] Equal (predecessor (meta 0)) (predecessor nought) 7 ≡ Done (filled nat nought ∷ []) 0
unfolding unify unified infer convert compared whd fixed is_alike
two_matches = refl

-- two matches on one term whose branches differ: the call, the motives, the matched terms, and the comparison of the first bodies
unlike_bodies : unify numbers [] (hole nat ∷ []) [] Equal (cases nought (meta 0)) (cases (next nought) (meta 0)) 4
    ≡ Refused (Mismatch [] (cases nought (meta 0)) (cases (next nought) (meta 0)) []) 0
unfolding unify unified infer convert compared whd look step fixed is_alike
unlike_bodies = refl

-- two abstractions: the call, the domains, and the bodies, which take three
abstractions : unify numbers [] (record { context = x ∷ []; ty = nat; body = None } ∷ []) [] Equal (Lam (120 ∷ []) nat (Meta 0 (Item (Var 0) End))) (Lam (121 ∷ []) nat (Var 0)) 5
    ≡ Done (record { context = x ∷ []; ty = nat; body = Some (Var 0) } ∷ []) 0
unfolding unify unified infer whd fixed is_alike
abstractions = refl

-- the same body on unlike domains
unlike_domains : unify numbers [] [] [] Equal (Lam (120 ∷ []) nat nought) (Lam (120 ∷ []) (Sort Prop) nought) 2
    ≡ Refused (Mismatch [] (Lam (120 ∷ []) nat nought) (Lam (120 ∷ []) (Sort Prop) nought) []) 0
unfolding unify unified infer whd look step fixed is_alike
unlike_domains = refl
