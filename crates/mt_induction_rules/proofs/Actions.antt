-- Environments, goals and actions for examples.
use Rattle.std.specs.Prelude.{ℕ, List, [], ◌∷◌, ◌++◌, Bool, true, false, Option, Some, None}
use Rattle.std.specs.Prelude.{slice_get, codes}
use Rattle.mt_term.specs.Trees.{Bytes, Tree, Var, Prod, Lam, Const, Ind, Con, Match, Meta, End}
use Rattle.mt_term.specs.Trees.{Item, NoArm, Arm}
use Rattle.mt_term.specs.Declarations.{Hypothesis, Declaration, Axiom, Recursive}
use Rattle.mt_term.specs.Reasons.{Reason, NoGoal}
use Rattle.mt_term.specs.States.{Metavariable}
use Rattle.mt_rules.specs.Charges.{Outcome, Done, charge}
use Rattle.mt_unification_rules.specs.Placeholders.{Metas}
use Rattle.mt_term_parser.specs.Written as raw
use Rattle.mt_term_parser.specs.Written.{Written, Term, NoArgument, Argument}
use Rattle.mt_resolver.specs.Resolution.{Resolution, Found, Faults}
use Rattle.mt_refinement_rules.specs.Placed.{Placed, found, faults, ◌>>=◌}
use Rattle.mt_refinement_rules.specs.Settings.{Setting}
use Rattle.mt_action_rules.specs.Goals.{Goal, as_goal, new_goals}
use Rattle.mt_induction_rules.specs.Splitting.{split}
use Rattle.mt_induction_rules.proofs.Samples.{environment, and_its_principle}
use Rattle.mt_induction_rules.proofs.Samples.{◌·◌, nat, S, m, n, x, nat_type}

-- ---- environments

-- the naturals, a type as entry 2, and further entries, without hints and coercions
abbrev pub after : Declaration → List Declaration → Setting
after d ds =
    record {
      env = environment (and_its_principle 0 nat_type ++ and_its_principle 2 d ++ ds);
      hints = [];
      coercions = [];
    }

-- `let rec plus (n:nat) (m:nat) on n : nat ≝ match n with [ O ⇒ m | S p ⇒ S (plus p m) ].`
abbrev pub addition : Declaration
addition =
    Recursive (codes "plus") false 2 0 (Prod n nat (Prod m nat nat))
    (Lam n nat (Lam m nat (Match 0 (Lam (codes "_") nat nat) (Var 1)
    (Arm [] (Var 0) (Arm (codes "p" ∷ []) (S · (Const 4 · Var 0 · Var 1)) NoArm))))) false

-- an axiom of this type, with the name Q
abbrev pub fact : Tree → Declaration
fact T = Axiom (codes "Q") T

-- ---- goals, their contexts oldest hypothesis first

abbrev pub goal : List Hypothesis → Tree → Metavariable
goal Γ T = record { context = Γ; ty = T; body = None }

abbrev pub closed : List Hypothesis → Tree → Tree → Metavariable
closed Γ T t = record { context = Γ; ty = T; body = Some t }

-- a metavariable on no variable, one, two and three
abbrev pub meta : ℕ → Tree
meta k = Meta k End

abbrev pub meta_on_one : ℕ → Tree
meta_on_one k = Meta k (Item (Var 0) End)

abbrev pub meta_on_two : ℕ → Tree
meta_on_two k = Meta k (Item (Var 1) (Item (Var 0) End))

abbrev pub meta_on_three : ℕ → Tree
meta_on_three k = Meta k (Item (Var 2) (Item (Var 1) (Item (Var 0) End)))

-- equality as entry 2, and addition as entry 4
abbrev pub equal : Tree → Tree → Tree
equal t u = Ind 2 · nat · t · u

abbrev pub reflexive : Tree → Tree
reflexive t = Con 2 0 · nat · t

abbrev pub plus : Tree → Tree → Tree
plus t u = Const 4 · t · u

-- ---- raw terms

abbrev pub name : ℕ → Bytes → Written
name at x = Term at (raw.Name x)

abbrev pub on_hole : ℕ → Bytes → ℕ → Written
on_hole at x place =
    Term at (raw.App (name at x) (Argument (Term place raw.Hole) NoArgument))

-- ---- actions

-- the new store, and the new goals
abbrev on_goal : Setting → Bool → Written → Metas → Option Goal → Placed (Metas × List ℕ)
on_goal E by_principle w ms None = faults NoGoal 20
on_goal E by_principle w ms (Some g) =
    split E by_principle 20 w g ms >>= (λ ms'. found (ms', new_goals ms ms'))

-- `cases` and `elim` at place 20, for one charge
abbrev pub splits : Setting → Written → ℕ → Metas → Placed (Metas × List ℕ)
splits E w k ms = charge (on_goal E false w ms (as_goal k (slice_get ms k)))

abbrev pub eliminates : Setting → Written → ℕ → Metas → Placed (Metas × List ℕ)
eliminates E w k ms = charge (on_goal E true w ms (as_goal k (slice_get ms k)))

-- a store and new goals, and a refusal at a place; nothing is left of the allowance
abbrev pub gives : Metas → List ℕ → Outcome (Resolution (Metas × List ℕ))
gives ms ns = Done (Found (ms, ns)) 0

abbrev pub refuses : Reason → ℕ → Outcome (Resolution (Metas × List ℕ))
refuses r at = Done (Faults r at) 0
