-- What `assumption` makes of goals, and what it costs: one charge, and those of the unifications.
use Rattle.std.specs.Prelude.{◌≡◌, refl, [], ◌∷◌, codes}
use Rattle.mt_term.specs.Trees.{Var}
use Rattle.mt_term.specs.Reasons.{Unbound}
use Rattle.mt_term.specs.UniverseForms.{normal_form, raised}
use Rattle.mt_term.specs.UniverseOrder.{at_most, same, path, height, acyclic}
use Rattle.mt_rules.specs.Charges.{Spent}
use Rattle.mt_rules.specs.Knot.{fixed}
use Rattle.mt_rules.specs.WeakHead.{whd, look, step}
use Rattle.mt_rules.specs.Inference.{infer}
use Rattle.mt_term.specs.Alike.{is_alike}
use Rattle.mt_unification_rules.specs.Unification.{unified, unify}
use Rattle.mt_unit_parser.specs.WrittenUnits.{Assumption}
use Rattle.mt_action_rules.specs.Actions.{act}
use Rattle.mt_action_rules.proofs.Samples.{n, h, type, nat, nought, holds, meta}
use Rattle.mt_action_rules.proofs.Samples.{hypothesis, goal, closed, does, gives, refuses}

-- `P n` under n, h : P n and k : P n: the newest is taken
the_newest : does Assumption 0
    (goal (hypothesis n nat ∷ hypothesis h (holds (Var 0)) ∷ hypothesis (codes "k") (holds (Var 1))
    ∷ []) (holds (Var 2)) ∷ []) 2
    ≡ gives (closed (hypothesis n nat ∷ hypothesis h (holds (Var 0))
    ∷ hypothesis (codes "k") (holds (Var 1)) ∷ []) (holds (Var 2)) (Var 0) ∷ []) []
unfolding act unify unified whd look step fixed is_alike
the_newest = refl

-- `nat` under n and h : P n: h is tried first
an_older_one : does Assumption 0
    (goal (hypothesis n nat ∷ hypothesis h (holds (Var 0)) ∷ []) nat ∷ []) 3
    ≡ gives (closed (hypothesis n nat ∷ hypothesis h (holds (Var 0)) ∷ []) nat (Var 1) ∷ []) []
unfolding act unify unified whd look step fixed is_alike
an_older_one = refl

an_older_one_spent : does Assumption 0
    (goal (hypothesis n nat ∷ hypothesis h (holds (Var 0)) ∷ []) nat ∷ []) 2 ≡ Spent
unfolding act unify unified whd look step fixed is_alike
an_older_one_spent = refl

-- `Type[1]` under A : Type[0]: at most is enough
a_smaller_type : does Assumption 0 (goal (hypothesis (codes "A") (type 0) ∷ []) (type 1) ∷ []) 2
    ≡ gives (closed (hypothesis (codes "A") (type 0) ∷ []) (type 1) (Var 0) ∷ []) []
unfolding act unify unified whd look step fixed is_alike normal_form raised at_most same path height
    acyclic
a_smaller_type = refl

-- `P ?0` under n, and h : P n, where ?0 is open and not under n: h does not fit, since n is taken
-- back along no term. It is refused after a step on either side was looked for.
none_fits : does Assumption 1
    (goal [] nat ∷ goal (hypothesis n nat ∷ hypothesis h (holds (Var 0)) ∷ []) (holds (meta 0))
    ∷ []) 5 ≡ refuses (Unbound (codes "assumption")) 20
unfolding act unify unified infer whd look step fixed is_alike
none_fits = refl

-- `P ?0` under h : P O: ?0 is O, by an inference and the unification of the types
an_assignment : does Assumption 1
    (goal [] nat ∷ goal (hypothesis h (holds nought) ∷ []) (holds (meta 0)) ∷ []) 6
    ≡ gives (closed [] nat nought
    ∷ closed (hypothesis h (holds nought) ∷ []) (holds (meta 0)) (Var 0) ∷ []) []
unfolding act unify unified infer whd look step fixed is_alike
an_assignment = refl

-- under no hypothesis
no_hypothesis : does Assumption 0 (goal [] nat ∷ []) 1 ≡ refuses (Unbound (codes "assumption")) 20
unfolding act
no_hypothesis = refl
