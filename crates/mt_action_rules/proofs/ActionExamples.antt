-- Actions on goals that are not there, new goals, `cases` and `elim`, and scripts of several
-- actions with the charges of all of them.
use Rattle.std.specs.Prelude.{◌≡◌, refl, ℕ, zero, suc, List, [], ◌∷◌, if◌then◌else◌, Option, Some}
use Rattle.std.specs.Prelude.{None, codes}
use Rattle.mt_term.specs.Trees.{Tree, Var, Prod, App, Const}
use Rattle.mt_term.specs.Declarations.{Hypothesis, Declaration, Axiom, Definition}
use Rattle.mt_term.specs.Reasons.{Mismatch, NotHere, BadElimination, OpenMetas, NoGoal, Unbound}
use Rattle.mt_rules.specs.Charges.{Outcome, Done}
use Rattle.mt_rules.specs.Knot.{fixed}
use Rattle.mt_rules.specs.WeakHead.{whd, look, step}
use Rattle.mt_rules.specs.Comparison.{compared, convert, ◌and◌}
use Rattle.mt_rules.specs.Inference.{infer}
use Rattle.mt_term.specs.Alike.{is_alike}
use Rattle.mt_unification_rules.specs.Placeholders.{Metas}
use Rattle.mt_unification_rules.specs.Unification.{unified, unify}
use Rattle.mt_unit_parser.specs.WrittenUnits.{Deed, Intro, Exact, Refine, Apply, Cut, Lapply, Whd}
use Rattle.mt_unit_parser.specs.WrittenUnits.{Assumption, Generalize, Clear, Cases, Elim}
use Rattle.mt_resolver.specs.Resolution.{Resolution, Found, Faults}
use Rattle.mt_refinement_rules.specs.Placed.{Placed, found, faults, ◌>>=◌}
use Rattle.mt_refinement_rules.specs.Settings.{Setting}
use Rattle.mt_refinement_rules.specs.Refinement.{refine}
use Rattle.mt_action_rules.specs.Goals.{Goal, as_goal, new_goals}
use Rattle.mt_action_rules.specs.Actions.{Split, act}
use Rattle.mt_action_rules.proofs.Samples.{n, h, x, prop, arrow, nat, nought, next, equal, plus}
use Rattle.mt_action_rules.proofs.Samples.{holds, meta, hypothesis, goal, closed}
use Rattle.mt_action_rules.proofs.Samples.{name, on_one, on_two, does, does_in, entries_and, gives}
use Rattle.mt_action_rules.proofs.Samples.{refuses}

-- ---- goals

-- one that has a body, and one that is not there, cost nothing
a_closed_goal : does Whd 0 (closed [] nat nought ∷ []) 0 ≡ refuses NoGoal 20
unfolding act
a_closed_goal = refl

no_such_goal : does Whd 3 (closed [] nat nought ∷ []) 0 ≡ refuses NoGoal 20
unfolding act
no_such_goal = refl

-- new goals are those that are open in the end, by number
by_number : new_goals (goal [] nat ∷ [])
    (closed [] nat nought ∷ goal [] nat ∷ closed [] nat nought ∷ goal [] prop ∷ []) ≡ 1 ∷ 3 ∷ []
by_number = refl

-- ---- cases and elim: one charge, and then a rule that is given

abbrev either : Split
either recursively at w g ms = faults (if recursively then BadElimination else NotHere) at

a_case : act (entries_and []) either (record { start = 20; deed = Cases (name 26 n) }) 0
    (goal [] nat ∷ []) 1 ≡ refuses NotHere 20
unfolding act
a_case = refl

an_elimination : act (entries_and []) either (record { start = 20; deed = Elim (name 25 n) }) 0
    (goal [] nat ∷ []) 1 ≡ refuses BadElimination 20
unfolding act
an_elimination = refl

-- ---- variables of hints

-- `definition v : nat ≝ O.`, `definition w : nat ≝ O.`, `axiom q : P w.` and
-- `unification hint 0 ≔ z:nat ⊢ v ≡ w.`
abbrev two_noughts : List Declaration
two_noughts = Definition (codes "v") nat nought ∷ Definition (codes "w") nat nought
    ∷ Axiom (codes "q") (holds (Const 9)) ∷ []

abbrev hinted : Setting
hinted =
    record {
      env = (entries_and two_noughts).env;
      hints = record {
        precedence = 0;
        vars = hypothesis (codes "z") nat
            ∷ [];
        eqs = [];
        left = Const 8;
        right = Const 9;
      } ∷ [];
      coercions = [];
    }

-- `refine q` on `P v`: nothing determines z, so it is a new goal, though it stands in no term
a_variable_of_a_hint : does_in hinted (Refine (name 27 (codes "q"))) 0
    (goal [] (holds (Const 8)) ∷ []) 8
    ≡ gives (closed [] (holds (Const 8)) (Const 10) ∷ goal [] nat ∷ []) (1 ∷ [])
unfolding act refine unify unified whd look step fixed is_alike
a_variable_of_a_hint = refl

-- `exact q`
a_variable_left : does_in hinted (Exact (name 26 (codes "q"))) 0 (goal [] (holds (Const 8)) ∷ []) 8
    ≡ refuses OpenMetas 20
unfolding act refine unify unified whd look step fixed is_alike
a_variable_left = refl

-- ---- scripts

-- actions, each on the goal of a number, one after the other
abbrev steps : Setting → List (Deed × ℕ) → Metas → Placed Metas
steps S [] ms = found ms
steps S (d ∷ ds) ms = does_in S d.0 d.1 ms >>= (λ a. steps S ds a.0)

-- the open goals of a store from a number on
abbrev goals_or : Option Goal → List Goal → List Goal
goals_or None gs = gs
goals_or (Some g) gs = g ∷ gs

abbrev open_goals : ℕ → Metas → List Goal
open_goals n [] = []
open_goals n (m ∷ ms) = goals_or (as_goal n (Some m)) (open_goals (suc n) ms)

-- what is open at the end, where nothing is left of the allowance
abbrev ending : Outcome (Resolution Metas) → Option (List Goal)
ending (Done (Found ms) zero) = Some (open_goals 0 ms)
ending o = None

abbrev ends : Setting → List (Deed × ℕ) → Tree → ℕ → Option (List Goal)
ends S ds T k = ending (steps S ds (goal [] T ∷ []) k)

-- `@p; @p; exact b` on `P (S (S O))`: 18, 17 and 7
abbrev p_twice : List (Deed × ℕ)
p_twice =
    (Apply (name 21 (codes "p")), 0) ∷ (Apply (name 21 (codes "p")), 2)
    ∷ (Exact (name 26 (codes "b")), 4) ∷ []

twice : ends (entries_and []) p_twice (holds (next (next nought))) 42 ≡ Some []
unfolding act refine unify unified infer convert compared whd look step fixed is_alike
twice = refl

-- `#n; #h; generalize n; whd; #k; cut (P k); lapply h` on `∀n:nat.∀h:P (plus n n).P (S O)`: 3, 3,
-- 11, 1, 3, 5, and 2 for each of two goals
abbrev forward : List (Deed × ℕ)
forward =
    (Intro n, 0) ∷ (Intro h, 1) ∷ (Generalize (name 31 n), 2) ∷ (Whd, 3) ∷ (Intro (codes "k"), 4)
    ∷ (Cut (on_one 25 (codes "P") (name 27 (codes "k"))), 5)
    ∷ (Lapply (name 27 h), 6) ∷ (Lapply (name 27 h), 7) ∷ []

abbrev double : Tree → Tree
double t = holds (plus t t)

abbrev n_h_and_k : List Hypothesis
n_h_and_k =
    hypothesis (codes "k") nat ∷ hypothesis h (double (Var 0)) ∷ hypothesis n nat ∷ []

abbrev second : Tree
second = holds (next nought)

going_forward : ends (entries_and []) forward (Prod n nat (Prod h (double (Var 0)) second)) 30
    ≡ Some (
    record {
      number = 8;
      context = n_h_and_k;
      ty = arrow (double (Var 2))
          (arrow (holds (Var 1)) second);
    }
    ∷ record { number = 9; context = n_h_and_k; ty = arrow (double (Var 2)) (holds (Var 1)) }
    ∷ [])
unfolding act refine unify unified infer convert compared ◌and◌ whd look step fixed is_alike
going_forward = refl

-- `#n; #h; whd; clear h; assumption` on `∀n:nat.∀h:eq nat O n.P O`
abbrev nothing_fits : List (Deed × ℕ)
nothing_fits =
    (Intro n, 0) ∷ (Intro h, 1) ∷ (Whd, 2) ∷ (Clear h, 3) ∷ (Assumption, 4) ∷ []

no_assumption : steps (entries_and []) nothing_fits
    (goal [] (Prod n nat (Prod h (equal nought (Var 0)) (holds nought))) ∷ []) 10
    ≡ Done (Faults (Unbound (codes "assumption")) 20) 0
unfolding act refine unify unified whd look step fixed is_alike
no_assumption = refl

-- `refl nat (S O)`
abbrev written_one : Deed
written_one = Exact (on_two 26 (codes "refl") (name 31 (codes "nat"))
    (on_one 36 (codes "S") (name 38 (codes "O"))))

-- after the entries: `axiom D : ∀n:nat.eq nat O n → Prop.`, `axiom T : Prop.` and
-- `axiom mk : ∀n:nat.(∀h:eq nat O n.D n h) → eq nat n n → T.`
abbrev dependent : List Declaration
dependent =
    Axiom (codes "D") (Prod n nat (arrow (equal nought (Var 0)) prop))
    ∷ Axiom (codes "T") prop
    ∷ Axiom (codes "mk") (Prod n nat
    (arrow (Prod h (equal nought (Var 0)) (App (App (Const 8) (Var 1)) (Var 0)))
    (arrow (equal (Var 1) (Var 1)) (Const 9))))
    ∷ []

-- `@mk`, then `exact (refl nat (S O))` on the third goal, and on the second `#h` and
-- `generalize (S O)`: 13, 22, 3 and 18
abbrev generalized : List (Deed × ℕ)
generalized =
    (Apply (name 21 (codes "mk")), 0) ∷ (written_one, 3) ∷ (Intro h, 2)
    ∷ (Generalize (on_one 32 (codes "S") (name 34 (codes "O"))), 4) ∷ []

ill_typed : steps (entries_and dependent) generalized (goal [] (Const 9) ∷ []) 56
    ≡ Done (Faults (Mismatch (hypothesis x nat ∷ hypothesis h (equal nought (meta 1)) ∷ [])
    (equal nought (next nought)) (equal nought (Var 0)) []) 20) 0
unfolding act refine unify unified infer convert compared ◌and◌ whd look step fixed is_alike
ill_typed = refl

-- after the entries: `axiom T : Prop.` and `axiom mk : ∀k:nat.(eq nat O k → T) → eq nat k k → T.`
abbrev plain : List Declaration
plain =
    Axiom (codes "T") prop
    ∷ Axiom (codes "mk") (Prod (codes "k") nat
    (arrow (arrow (equal nought (Var 0)) (Const 8)) (arrow (equal (Var 1) (Var 1)) (Const 8))))
    ∷ []

-- on `∀n:nat.T`: `#n`, `@mk`, then `exact (refl nat (S O))` on the third goal, and on the second
-- `#h` and `clear n`: 3, 13, 22, 3 and 1
abbrev cleared : List (Deed × ℕ)
cleared =
    (Intro n, 0) ∷ (Apply (name 21 (codes "mk")), 1) ∷ (written_one, 4) ∷ (Intro h, 3)
    ∷ (Clear n, 5) ∷ []

clearing : ends (entries_and plain) cleared (Prod n nat (Const 8)) 42
    ≡ Some (record {
      number = 6;
      context = hypothesis h (equal nought (next nought))
          ∷ [];
      ty = Const 8;
    } ∷ [])
unfolding act refine unify unified infer convert compared ◌and◌ whd look step fixed is_alike
clearing = refl
