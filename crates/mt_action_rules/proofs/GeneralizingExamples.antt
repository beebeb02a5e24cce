-- What is abstracted from a goal, what `generalize` makes of it, and what it costs: a charge for
-- the action, and those of the raw term and of the inference of the product.
use Rattle.std.specs.Prelude.{◌≡◌, refl, [], ◌∷◌, codes}
use Rattle.mt_term.specs.Trees.{Tree, Var, Prod, Lam, App, Const, Match, Meta, End, Item}
use Rattle.mt_term.specs.Trees.{NoArm, Arm}
use Rattle.mt_term.specs.Declarations.{Declaration, Axiom}
use Rattle.mt_term.specs.Reasons.{Unbound, Mismatch}
use Rattle.mt_rules.specs.Charges.{Spent}
use Rattle.mt_rules.specs.Knot.{fixed}
use Rattle.mt_rules.specs.WeakHead.{whd, look, step}
use Rattle.mt_rules.specs.Comparison.{compared, convert, ◌and◌}
use Rattle.mt_rules.specs.Inference.{infer}
use Rattle.mt_term.specs.Alike.{is_alike}
use Rattle.mt_unification_rules.specs.Placeholders.{Metas}
use Rattle.mt_unification_rules.specs.Unification.{unified, unify}
use Rattle.mt_unit_parser.specs.WrittenUnits.{Generalize}
use Rattle.mt_refinement_rules.specs.Refinement.{refine}
use Rattle.mt_action_rules.specs.Abstraction.{abstract_one}
use Rattle.mt_action_rules.specs.Actions.{act}
use Rattle.mt_action_rules.proofs.Samples.{n, h, x, unnamed, prop, arrow, nat, nought, next, equal}
use Rattle.mt_action_rules.proofs.Samples.{plus, holds, meta, meta_under_one, meta_under_two}
use Rattle.mt_action_rules.proofs.Samples.{hypothesis, goal, closed, name, on_one, does, does_in}
use Rattle.mt_action_rules.proofs.Samples.{entries_and, gives, refuses}

-- ---- abstraction

-- all variables but the term's own are one further out
a_variable : abstract_one (Var 0) (plus (Var 0) (Var 1)) ≡ plus (Var 0) (Var 2)
unfolding is_alike
a_variable = refl

-- under a binder the term is one further out
under_a_binder : abstract_one (Var 0) (Prod x nat (plus (Var 0) (Var 1)))
    ≡ Prod x nat (plus (Var 0) (Var 1))
unfolding is_alike
under_a_binder = refl

-- under the names of a branch
under_a_branch : abstract_one (Var 3)
    (Match 0 (Lam unnamed nat nat) (Var 3)
    (Arm [] (Var 3) (Arm (n ∷ []) (plus (Var 0) (Var 4)) NoArm)))
    ≡ Match 0 (Lam unnamed nat nat) (Var 0)
    (Arm [] (Var 0) (Arm (n ∷ []) (plus (Var 0) (Var 1)) NoArm))
unfolding is_alike
under_a_branch = refl

-- a partial application, and a term of a metavariable
an_application : abstract_one (App (Const 2) (Var 0)) (plus (Var 0) (Var 0)) ≡ App (Var 0) (Var 1)
unfolding is_alike
an_application = refl

in_a_metavariable : abstract_one (Var 0) (Meta 5 (Item (Var 1) (Item (Var 0) End)))
    ≡ Meta 5 (Item (Var 2) (Item (Var 0) End))
unfolding is_alike
in_a_metavariable = refl

-- from the outside in: `S n` in `S (S n)` is found inside, `S (S n)` as a whole
inside : abstract_one (next (Var 0)) (next (next (Var 0))) ≡ next (Var 0)
unfolding is_alike
inside = refl

as_a_whole : abstract_one (next (next (Var 0))) (next (next (Var 0))) ≡ Var 0
unfolding is_alike
as_a_whole = refl

-- names of binders do not count
other_names : abstract_one (Prod x nat (Var 0)) (arrow (Prod n nat (Var 0)) nat) ≡ arrow (Var 0) nat
unfolding is_alike
other_names = refl

-- ---- generalize

-- `generalize n` on `P n` under n: `n`, and the inference of `∀x:nat.P x` (6)
a_generalization : does (Generalize (name 31 n)) 0
    (goal (hypothesis n nat ∷ []) (holds (Var 0)) ∷ []) 8
    ≡ gives (closed (hypothesis n nat ∷ []) (holds (Var 0)) (App (meta_under_one 1) (Var 0))
    ∷ goal (hypothesis n nat ∷ []) (Prod x nat (holds (Var 0))) ∷ []) (1 ∷ [])
unfolding act refine infer convert compared whd look step fixed is_alike
a_generalization = refl

a_generalization_spent : does (Generalize (name 31 n)) 0
    (goal (hypothesis n nat ∷ []) (holds (Var 0)) ∷ []) 7 ≡ Spent
unfolding act refine infer convert compared whd look step fixed is_alike
a_generalization_spent = refl

-- where the term does not stand in the goal: `P (S O)` under n and h
abbrev second : Tree
second = holds (next nought)

not_there : does (Generalize (name 31 n)) 0
    (goal (hypothesis n nat ∷ hypothesis h (holds (plus (Var 0) (Var 0))) ∷ []) second ∷ []) 11
    ≡ gives (closed (hypothesis n nat ∷ hypothesis h (holds (plus (Var 0) (Var 0))) ∷ []) second
    (App (meta_under_two 1) (Var 1))
    ∷ goal (hypothesis n nat ∷ hypothesis h (holds (plus (Var 0) (Var 0))) ∷ []) (Prod x nat second)
    ∷ []) (1 ∷ [])
unfolding act refine infer convert compared whd look step fixed is_alike
not_there = refl

-- `generalize (plus n)` on `P (plus n n)`: a partial application becomes a function
a_function : does (Generalize (on_one 31 (codes "plus") (name 37 n))) 0
    (goal (hypothesis n nat ∷ []) (holds (plus (Var 0) (Var 0))) ∷ []) 16
    ≡ gives (closed (hypothesis n nat ∷ []) (holds (plus (Var 0) (Var 0)))
    (App (meta_under_one 1) (App (Const 2) (Var 0)))
    ∷ goal (hypothesis n nat ∷ []) (Prod x (Prod (codes "m") nat nat) (holds (App (Var 0) (Var 1))))
    ∷ []) (1 ∷ [])
unfolding act refine unify unified infer convert compared ◌and◌ whd look step fixed is_alike
a_function = refl

-- `generalize z`
no_such_term : does (Generalize (name 31 (codes "z"))) 0 (goal [] nat ∷ []) 2
    ≡ refuses (Unbound (codes "z")) 31
unfolding act refine
no_such_term = refl

-- `axiom D : ∀n:nat.eq nat O n → Prop.`, and `generalize (S O)` on `D ?0 h` under h : eq nat O ?0,
-- where ?0 is `S O`: `D x h` is ill-typed. The refusal shows the instance, and stands at the
-- action.
abbrev relation : Declaration
relation = Axiom (codes "D") (Prod n nat (arrow (equal nought (Var 0)) prop))

abbrev ill_typed : Metas
ill_typed =
    closed [] nat (next nought)
    ∷ goal (hypothesis h (equal nought (meta 0)) ∷ []) (App (App (Const 8) (meta 0)) (Var 0)) ∷ []

no_type : does_in (entries_and (relation ∷ []))
    (Generalize (on_one 32 (codes "S") (name 34 (codes "O")))) 1 ill_typed 18
    ≡ refuses (Mismatch (hypothesis x nat ∷ hypothesis h (equal nought (meta 0)) ∷ [])
    (equal nought (next nought)) (equal nought (Var 0)) []) 20
unfolding act refine unify unified infer convert compared ◌and◌ whd look step fixed is_alike
no_type = refl
