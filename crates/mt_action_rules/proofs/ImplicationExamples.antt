-- What `cut` and `lapply` make of goals, and what they cost: a charge for each action and each raw
-- term; further ones are named.
use Rattle.std.specs.Prelude.{◌≡◌, refl, [], ◌∷◌, codes}
use Rattle.mt_term.specs.Trees.{Var, App, Const}
use Rattle.mt_term.specs.Reasons.{Unbound, NotASort, NoExpected}
use Rattle.mt_rules.specs.Charges.{Spent}
use Rattle.mt_rules.specs.Knot.{fixed}
use Rattle.mt_rules.specs.WeakHead.{whd, look, step}
use Rattle.mt_term.specs.Alike.{is_alike}
use Rattle.mt_unification_rules.specs.Unification.{unified, unify}
use Rattle.mt_unit_parser.specs.WrittenUnits.{Cut, Lapply}
use Rattle.mt_refinement_rules.specs.Refinement.{refine}
use Rattle.mt_action_rules.specs.Actions.{act}
use Rattle.mt_action_rules.proofs.Samples.{n, h, arrow, nat, nought, next, holds, meta}
use Rattle.mt_action_rules.proofs.Samples.{meta_under_one, meta_under_two, hypothesis, goal, closed}
use Rattle.mt_action_rules.proofs.Samples.{name, blank, on_one, does, gives, refuses}

-- `cut nat` on `P O`: the implication is the first new goal
a_cut : does (Cut (name 24 (codes "nat"))) 0 (goal [] (holds nought) ∷ []) 2
    ≡ gives (closed [] (holds nought) (App (meta 1) (meta 2)) ∷ goal [] (arrow nat (holds nought))
    ∷ goal [] nat ∷ []) (1 ∷ 2 ∷ [])
unfolding act refine whd look fixed
a_cut = refl

a_cut_spent : does (Cut (name 24 (codes "nat"))) 0 (goal [] (holds nought) ∷ []) 1 ≡ Spent
unfolding act refine whd look fixed
a_cut_spent = refl

-- `cut (P n)` on `P n` under n: `P n`, `P`, `n` and its end. In the codomain n is one further out.
a_cut_under_one : does (Cut (on_one 24 (codes "P") (name 27 n))) 1
    (goal [] nat ∷ goal (hypothesis n nat ∷ []) (holds (Var 0)) ∷ []) 5
    ≡ gives (goal [] nat ∷ closed (hypothesis n nat ∷ []) (holds (Var 0))
    (App (meta_under_one 2) (meta_under_one 3))
    ∷ goal (hypothesis n nat ∷ []) (arrow (holds (Var 0)) (holds (Var 1)))
    ∷ goal (hypothesis n nat ∷ []) (holds (Var 0)) ∷ []) (2 ∷ 3 ∷ [])
unfolding act refine unify unified whd look step fixed is_alike
a_cut_under_one = refl

-- `cut O`: the refusal stands at the raw term
no_type : does (Cut (name 24 (codes "O"))) 0 (goal [] (holds nought) ∷ []) 2 ≡ refuses NotASort 24
unfolding act refine whd look fixed
no_type = refl

-- `lapply b` on `P O`
a_fact : does (Lapply (name 27 (codes "b"))) 0 (goal [] (holds nought) ∷ []) 2
    ≡ gives (closed [] (holds nought) (App (meta 1) (Const 5))
    ∷ goal [] (arrow (holds nought) (holds nought)) ∷ []) (1 ∷ [])
unfolding act refine
a_fact = refl

-- `lapply (S ?)` on `P O`: `S ?`, `S` and `?`; the placeholder comes before the implication
with_a_placeholder : does (Lapply (on_one 27 (codes "S") (blank 29))) 0
    (goal [] (holds nought) ∷ []) 4
    ≡ gives (closed [] (holds nought) (App (meta 2) (next (meta 1))) ∷ goal [] nat
    ∷ goal [] (arrow nat (holds nought)) ∷ []) (1 ∷ 2 ∷ [])
unfolding act refine whd look fixed
with_a_placeholder = refl

-- `lapply h` on `P n` under n and h
a_hypothesis : does (Lapply (name 27 h)) 0
    (goal (hypothesis n nat ∷ hypothesis h (holds (Var 0)) ∷ []) (holds (Var 1)) ∷ []) 2
    ≡ gives (closed (hypothesis n nat ∷ hypothesis h (holds (Var 0)) ∷ []) (holds (Var 1))
    (App (meta_under_two 1) (Var 0))
    ∷ goal (hypothesis n nat ∷ hypothesis h (holds (Var 0)) ∷ [])
    (arrow (holds (Var 1)) (holds (Var 2))) ∷ []) (1 ∷ [])
unfolding act refine
a_hypothesis = refl

-- `lapply ?` and `lapply z`
no_type_expected : does (Lapply (blank 27)) 0 (goal [] (holds nought) ∷ []) 2
    ≡ refuses NoExpected 27
unfolding act refine
no_type_expected = refl

no_such_fact : does (Lapply (name 27 (codes "z"))) 0 (goal [] (holds nought) ∷ []) 2
    ≡ refuses (Unbound (codes "z")) 27
unfolding act refine
no_such_fact = refl
