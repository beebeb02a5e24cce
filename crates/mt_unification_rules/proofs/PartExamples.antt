-- What the parts of unification give on small terms.
use Rattle.std.specs.Prelude.{◌≡◌, refl, [], ◌∷◌, true, false, Some, None}
use Rattle.mt_term.specs.Trees.{Tree, Var, Sort, Prod, App, Ind, Con, Meta, End}
use Rattle.mt_term.specs.Declarations.{Inductive, Environment}
use Rattle.mt_term.specs.Reasons.{Mismatch, Unbound}
use Rattle.mt_term.specs.States.{Metavariable}
use Rattle.mt_rules.specs.Charges.{Done, Refused, Spent}
use Rattle.mt_rules.specs.Knot.{fixed}
use Rattle.mt_term.specs.Alike.{is_alike}
use Rattle.mt_rules.specs.WeakHead.{whd, look, step}
use Rattle.mt_rules.specs.Inference.{infer}
use Rattle.mt_term.specs.declared.modes.Mode.TheVariants.{Equal, AtMost}
use Rattle.mt_term.specs.declared.universes.Sort.TheVariants.{Prop, Typ}
use Rattle.mt_unification_rules.specs.Unification.{unified, unify}
use Rattle.mt_unification_rules.specs.UnificationParts.{attempt, assignment, side_assignment, meta_assignment, body_given, parts, stepped, types}

abbrev type0 : Tree
type0 = Sort (Typ (record { base = 0; atoms = [] }))

abbrev nat : Tree
nat = Ind 0

abbrev nought : Tree
nought = Con 0 0

abbrev next : Tree → Tree
next t = App (Con 0 1) t

-- natural numbers
abbrev numbers : Environment
numbers = record {
  entries = Inductive (78 ∷ []) false 0 type0 (record { name = 79 ∷ []; ty = nat } ∷ record { name = 83 ∷ []; ty = Prod (95 ∷ []) nat nat } ∷ []) true ∷ [];
  names = [];
  below = [];
}

-- an open metavariable in the empty context, the same one with a body, and its term
abbrev hole : Metavariable
hole = record { context = []; ty = nat; body = None }

abbrev filled : Tree → Metavariable
filled b = record { context = []; ty = nat; body = Some b }

abbrev meta : Tree
meta = Meta 0 End

-- an assignment takes the inference of the body and the unification of its type
assigned : meta_assignment numbers [] (hole ∷ []) 0 End nought 2 ≡ Done (filled nought ∷ []) 0
unfolding meta_assignment unified infer whd fixed is_alike
assigned = refl

assigned_spent : meta_assignment numbers [] (hole ∷ []) 0 End nought 1 ≡ Spent
unfolding meta_assignment unified infer whd fixed is_alike
assigned_spent = refl

-- the right side, where the left one is no metavariable
right : assignment numbers [] (hole ∷ []) nought meta 2 ≡ Done (filled nought ∷ []) 0
unfolding assignment unified infer whd fixed is_alike
right = refl

-- a variable does not stand in the context of the metavariable; an assigned metavariable is not assigned again
lost : side_assignment numbers [] (hole ∷ []) meta (Var 0) 1 ≡ Refused (Unbound []) 1
unfolding side_assignment
lost = refl

closed : side_assignment numbers [] (filled nought ∷ []) meta nought 1 ≡ Refused (Unbound []) 1
unfolding side_assignment
closed = refl

reached : body_given (hole ∷ []) 0 (next meta) 1 ≡ Refused (Unbound []) 1
unfolding body_given
reached = refl

-- a function and its argument; where the arguments do not unify, no reason is given, and the whole question gives its own. Each of the three questions has one charge.
argument : parts numbers [] (hole ∷ []) [] (next meta) (next nought) 4 ≡ Done (filled nought ∷ []) 0
unfolding parts unified infer whd fixed is_alike
argument = refl

apart : parts numbers [] [] [] (next nought) (next (next nought)) 9 ≡ Refused (Unbound []) 7
unfolding parts unified infer whd look step fixed is_alike
apart = refl

apart_question : unify numbers [] [] [] Equal (next nought) (next (next nought)) 10 ≡ Refused (Mismatch [] (next nought) (next (next nought)) []) 7
unfolding unify unified infer whd look step fixed is_alike
apart_question = refl

apart_attempt : attempt numbers [] [] [] Equal (next nought) (next (next nought)) 9 ≡ Refused (Unbound []) 7
unfolding attempt unified infer whd look step fixed is_alike
apart_attempt = refl

-- sorts
sorts : types numbers [] [] [] AtMost (Sort Prop) type0 3 ≡ Done [] 3
unfolding types
sorts = refl

no_step : stepped numbers [] [] [] Equal type0 (Sort Prop) 3 ≡ Refused (Unbound []) 3
unfolding stepped unified look step fixed
no_step = refl
