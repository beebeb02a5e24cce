-- What `refine`, `exact`, `intro`, `apply` and `constructor` make of goals, and what they cost.
-- Each action and each raw term has one charge; further ones are named.
use Rattle.std.specs.Prelude.{◌≡◌, refl, [], ◌∷◌, codes}
use Rattle.mt_term.specs.Trees.{Tree, Var, Prod, Lam, App, Const, Con}
use Rattle.mt_term.specs.Reasons.{Mismatch, NoExpected, BadElimination, OpenMetas, NoSuchPosition}
use Rattle.mt_rules.specs.Charges.{Spent}
use Rattle.mt_rules.specs.Knot.{fixed}
use Rattle.mt_rules.specs.WeakHead.{whd, look, step}
use Rattle.mt_rules.specs.Comparison.{compared, convert}
use Rattle.mt_rules.specs.Inference.{infer}
use Rattle.mt_term.specs.Alike.{is_alike}
use Rattle.mt_unification_rules.specs.Unification.{unified, unify}
use Rattle.mt_unit_parser.specs.WrittenUnits.{Intro, Exact, Refine, Apply, Constructor}
use Rattle.mt_refinement_rules.specs.Refinement.{refine}
use Rattle.mt_action_rules.specs.Actions.{act}
use Rattle.mt_action_rules.proofs.Samples.{n, x, prop, nat, nought, next, equal, reflexive, plus}
use Rattle.mt_action_rules.proofs.Samples.{holds, alias, functions, type, meta, meta_under_one}
use Rattle.mt_action_rules.proofs.Samples.{hypothesis, goal, closed, name, blank}
use Rattle.mt_action_rules.proofs.Samples.{on_one, on_two, does, gives, refuses}

-- ---- intro

-- `∀n:nat.eq nat n (plus n O)`
abbrev right_unit : Tree
right_unit = Prod n nat (equal (Var 0) (plus (Var 0) nought))

-- `#n` on it: `λn.?` and `?`
an_introduction : does (Intro n) 0 (goal [] right_unit ∷ []) 3
    ≡ gives (closed [] right_unit (Lam n nat (meta_under_one 1))
    ∷ goal (hypothesis n nat ∷ []) (equal (Var 0) (plus (Var 0) nought)) ∷ []) (1 ∷ [])
unfolding act refine whd look fixed
an_introduction = refl

an_introduction_spent : does (Intro n) 0 (goal [] right_unit ∷ []) 2 ≡ Spent
unfolding act refine whd look fixed
an_introduction_spent = refl

-- `#x` on `f`, with a step of `f`
of_a_weak_head : does (Intro x) 0 (goal [] functions ∷ []) 4
    ≡ gives (closed [] functions (Lam x nat (meta_under_one 1)) ∷ goal (hypothesis x nat ∷ []) nat
    ∷ []) (1 ∷ [])
unfolding act refine whd look fixed
of_a_weak_head = refl

-- `#x` on `nat`: `?` is not reached
no_product : does (Intro x) 0 (goal [] nat ∷ []) 2 ≡ refuses NoExpected 20
unfolding act refine whd look fixed
no_product = refl

-- ---- refine and exact

-- `refine (S ?)`: `S ?`, `S`, `?`, and the end
a_refinement : does (Refine (on_one 27 (codes "S") (blank 29))) 0 (goal [] nat ∷ []) 5
    ≡ gives (closed [] nat (next (meta 1)) ∷ goal [] nat ∷ []) (1 ∷ [])
unfolding act refine unify unified whd look step fixed is_alike
a_refinement = refl

-- `refine O` on `Prop`: a refusal of a raw term stands at it
other_type : does (Refine (name 27 (codes "O"))) 0 (goal [] prop ∷ []) 3
    ≡ refuses (Mismatch [] nat prop []) 27
unfolding act refine unify unified whd look step fixed is_alike
other_type = refl

-- `exact O`: `O` and its end
an_exact_term : does (Exact (name 26 (codes "O"))) 0 (goal [] nat ∷ []) 3
    ≡ gives (closed [] nat nought ∷ []) []
unfolding act refine unify unified whd look step fixed is_alike
an_exact_term = refl

-- `exact (S ?)`: as `refine (S ?)`, and then refused
a_goal_left : does (Exact (on_one 26 (codes "S") (blank 28))) 0 (goal [] nat ∷ []) 5
    ≡ refuses OpenMetas 20
unfolding act refine unify unified whd look step fixed is_alike
a_goal_left = refl

-- the new goals alone are asked for: another goal may be open
another_goal : does (Exact (name 26 (codes "O"))) 1 (goal [] prop ∷ goal [] nat ∷ []) 3
    ≡ gives (goal [] prop ∷ closed [] nat nought ∷ []) []
unfolding act refine unify unified whd look step fixed is_alike
another_goal = refl

-- `exact (refl nat O)` on `eq nat O (plus O O)`: four raw terms, the ends of `nat` and of `O`, and
-- the end of all (11), where `plus O O` takes one step after the other
reflexivity : does (Exact (on_two 26 (codes "refl") (name 31 (codes "nat")) (name 35 (codes "O"))))
    0 (goal [] (equal nought (plus nought nought)) ∷ []) 18
    ≡ gives (closed [] (equal nought (plus nought nought)) (reflexive nought) ∷ []) []
unfolding act refine unify unified infer whd look step fixed is_alike
reflexivity = refl

-- ---- apply

-- `P (S (S O))`
abbrev third : Tree
third = holds (next (next nought))

-- `@p` on it: `p …`, `p`, the end; a placeholder and the end; two placeholders, and the end (10),
-- which assigns the first one
an_application : does (Apply (name 21 (codes "p"))) 0 (goal [] third ∷ []) 18
    ≡ gives (closed [] third (App (App (Const 4) (meta 1)) (meta 2)) ∷ closed [] nat (next nought)
    ∷ goal [] (holds (meta 1)) ∷ []) (2 ∷ [])
unfolding act refine unify unified infer convert compared whd look step fixed is_alike
an_application = refl

an_application_spent : does (Apply (name 21 (codes "p"))) 0 (goal [] third ∷ []) 17 ≡ Spent
unfolding act refine unify unified infer convert compared whd look step fixed is_alike
an_application_spent = refl

-- `@O` on `Prop`: `O …`, `O`, and the end. The application stands at the action.
other_result : does (Apply (name 21 (codes "O"))) 0 (goal [] prop ∷ []) 4
    ≡ refuses (Mismatch [] nat prop []) 20
unfolding act refine unify unified whd look step fixed is_alike
other_result = refl

-- ---- constructor

-- `constructor 2` on `nat`: `S …`, `S`, the end, a placeholder and the end
a_constructor : does (Constructor 2) 0 (goal [] nat ∷ []) 6
    ≡ gives (closed [] nat (next (meta 1)) ∷ goal [] nat ∷ []) (1 ∷ [])
unfolding act refine unify unified whd look step fixed is_alike
a_constructor = refl

-- under a hypothesis of its name
not_hidden : does (Constructor 2) 0 (goal (hypothesis (codes "S") nat ∷ []) nat ∷ []) 6
    ≡ gives (closed (hypothesis (codes "S") nat ∷ []) nat (next (meta_under_one 1))
    ∷ goal (hypothesis (codes "S") nat ∷ []) nat ∷ []) (1 ∷ [])
unfolding act refine unify unified whd look step fixed is_alike
not_hidden = refl

-- `constructor 1` on `d`: a step of `d`, `O …`, `O`, and the end, where `d` takes its step again
of_an_alias : does (Constructor 1) 0 (goal [] alias ∷ []) 7 ≡ gives (closed [] alias nought ∷ []) []
unfolding act refine unify unified whd look step fixed is_alike
of_an_alias = refl

-- `constructor 1` on `eq nat (plus (S O) O) (S O)`: `refl …`, `refl`, the end; a placeholder and
-- the end; two placeholders and the end (51)
abbrev one_and_none : Tree
one_and_none = equal (plus (next nought) nought) (next nought)

by_reflexivity : does (Constructor 1) 0 (goal [] one_and_none ∷ []) 59
    ≡ gives (closed [] one_and_none (App (App (Con 1 0) (meta 1)) (meta 2)) ∷ closed [] (type 0) nat
    ∷ closed [] (meta 1) (plus (next nought) nought) ∷ []) []
unfolding act refine unify unified infer convert compared whd look step fixed is_alike
by_reflexivity = refl

-- positions are counted from 1
past_the_last : does (Constructor 3) 0 (goal [] nat ∷ []) 1 ≡ refuses NoSuchPosition 20
unfolding act whd look fixed
past_the_last = refl

position_nought : does (Constructor 0) 0 (goal [] nat ∷ []) 1 ≡ refuses NoSuchPosition 20
unfolding act whd look fixed
position_nought = refl

-- `constructor 1` on `Prop`
no_inductive_type : does (Constructor 1) 0 (goal [] prop ∷ []) 1 ≡ refuses BadElimination 20
unfolding act whd look fixed
no_inductive_type = refl
