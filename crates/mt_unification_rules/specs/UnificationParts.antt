-- The parts of unification, by names that stay as they are in a goal, one for each function of a program. What a refusal of a part gives as its reason is not told, since no answer depends on it.
use Rattle.std.specs.Prelude.{ℕ, List, [], Option, Some, None, reverse}
use Rattle.mt_term.specs.Trees.{Tree, Trees, Arms, Sort}
use Rattle.mt_term.specs.Declarations.{Hypothesis, Environment}
use Rattle.mt_term.specs.Reasons.{Unbound}
use Rattle.mt_term.specs.States.{Metavariable, Equation, Hint}
use Rattle.mt_rules.specs.Charges.{Outcome, Done, Refused, Spent, Charged, give, ◌>>=◌, tried}
use Rattle.mt_term.specs.Stores.{Store, store_of}
use Rattle.mt_rules.specs.WeakHead.{step}
use Rattle.mt_rules.specs.Inference.{infer}
use Rattle.mt_term.specs.declared.universes.Sort.TheVariants.{Prop}
use Rattle.mt_term.specs.declared.modes.Mode.{Mode}
use Rattle.mt_term.specs.declared.modes.Mode.TheVariants.{Equal, AtMost}
use Rattle.mt_unification_rules.specs.Hints.{head_entry, Candidate, candidates}
use Rattle.mt_unification_rules.specs.Placeholders.{Metas}
use Rattle.mt_unification_rules.specs.Unification.{same_bodies, given, assign, assign_side, by_assignment, by_terms, by_parts, by_equations, by_sides, by_hint, by_hints, on_step, by_step, by_types, by_rules, unified}

-- an outcome, a refusal without its reason
abbrev pub plain : {A : Type 0} → Outcome A → Outcome A
plain (Done a left) = Done a left
plain (Refused r left) = Refused (Unbound []) left
plain Spent = Spent

-- the metavariable that is there; where none is, one that no answer depends on
unfoldable pub present : Option Metavariable → Metavariable
present None = record { context = []; ty = Sort Prop; body = None }
present (Some m) = m

-- the rules, in order
unfoldable pub attempt : Environment → List Hint → Metas → List Hypothesis → Mode → Tree → Tree → Charged Metas
attempt E H ms Γ mode t u n = plain (by_rules E (unified E H) H ms Γ mode t u n)

-- the rules for terms whose heads are no assigned metavariables, in order
unfoldable pub attempt_unassigned : Environment → List Hint → Metas → List Hypothesis → Mode → Tree → Tree → Charged Metas
attempt_unassigned E H ms Γ mode t u n =
    plain (tried (by_assignment E (unified E H) ms t u) (tried (by_parts E (unified E H) ms Γ t u) (tried (by_hints (unified E H) ms Γ t u (candidates H (head_entry t) (head_entry u))) (by_step E (unified E H) ms Γ mode t u (by_types E (unified E H) ms Γ mode t u)))) n)

-- an assignment of the left side, or else of the right one
unfoldable pub assignment : Environment → List Hint → Metas → Tree → Tree → Charged Metas
assignment E H ms t u n = plain (by_assignment E (unified E H) ms t u n)

-- of the first side, where it is an open metavariable
unfoldable pub side_assignment : Environment → List Hint → Metas → Tree → Tree → Charged Metas
side_assignment E H ms t u n = plain (assign_side E (unified E H) ms t u n)

-- of metavariable n, under these terms
unfoldable pub meta_assignment : Environment → List Hint → Metas → ℕ → Trees → Tree → Charged Metas
meta_assignment E H ms n s u k = plain (assign E (unified E H) ms n s u k)

-- of v to metavariable n, whose context, oldest hypothesis first, and type are these, where the type of v unifies with it
unfoldable pub typed_assignment : Environment → List Hint → Metas → ℕ → List Hypothesis → Tree → Tree → Charged Metas
typed_assignment E H ms n Δ a v k =
    plain ((infer E (store_of ms) (reverse Δ) v >>= (λ t. unified E H (ms, reverse Δ, AtMost, t, a) >>= (λ ms'. given ms' n v))) k)

-- v becomes the body of n
unfoldable pub body_given : Metas → ℕ → Tree → Charged Metas
body_given ms n v k = plain (given ms n v k)

-- equal shapes, part by part
unfoldable pub parts : Environment → List Hint → Metas → List Hypothesis → Tree → Tree → Charged Metas
parts E H ms Γ t u n = plain (by_parts E (unified E H) ms Γ t u n)

-- the matched terms of two matches, and then the bodies of their branches
unfoldable pub match_parts : Environment → List Hint → Metas → List Hypothesis → Tree → Tree → Arms → Arms → Charged Metas
match_parts E H ms Γ c d bs cs n = plain ((unified E H (ms, Γ, Equal, c, d) >>= (λ ms'. same_bodies E (store_of ms') bs cs >>= (λ z. give ms'))) n)

-- the terms of two lists, pairwise
unfoldable pub term_pairs : Environment → List Hint → Metas → List Hypothesis → Trees → Trees → Charged Metas
term_pairs E H ms Γ s r n = plain (by_terms E (unified E H) ms Γ s r n)

-- the bodies of two lists of branches, pairwise
unfoldable pub body_pairs : Environment → Store → Arms → Arms → Charged (Unit {0})
body_pairs E S bs cs n = plain (same_bodies E S bs cs n)

-- two sorts, or two products
unfoldable pub types : Environment → List Hint → Metas → List Hypothesis → Mode → Tree → Tree → Charged Metas
types E H ms Γ mode t u n = plain (by_types E (unified E H) ms Γ mode t u n)

-- candidates, each tried in order; one of them; a hint on its new metavariables; and its equations
unfoldable pub hinted : Environment → List Hint → Metas → List Hypothesis → Tree → Tree → List Candidate → Charged Metas
hinted E H ms Γ t u cs n = plain (by_hints (unified E H) ms Γ t u cs n)

unfoldable pub candidate_met : Environment → List Hint → Metas → List Hypothesis → Tree → Tree → Candidate → Charged Metas
candidate_met E H ms Γ t u c n = plain (by_hint (unified E H) ms Γ t u c n)

unfoldable pub sides_met : Environment → List Hint → List Hypothesis → Hint → Metas × Trees → Tree → Tree → Charged Metas
sides_met E H Γ h v t u n = plain (by_sides (unified E H) Γ h v t u n)

unfoldable pub equations_met : Environment → List Hint → List Hypothesis → Trees → List Equation → Metas → Charged Metas
equations_met E H Γ us es ms n = plain (by_equations (unified E H) Γ us es ms n)

-- a step of the left side, or of the right one, and else another part
abbrev pub left_step : Environment → List Hint → Metas → List Hypothesis → Mode → Tree → Tree → Charged Metas → Charged Metas
left_step E H ms Γ mode t u other = step E (store_of ms) t >>= on_step E (unified E H) (λ t'. (ms, Γ, mode, t', u)) other

abbrev pub right_step : Environment → List Hint → Metas → List Hypothesis → Mode → Tree → Tree → Charged Metas → Charged Metas
right_step E H ms Γ mode t u other = step E (store_of ms) u >>= on_step E (unified E H) (λ u'. (ms, Γ, mode, t, u')) other

-- a step of the higher side first, then of the other; then the types
unfoldable pub stepped : Environment → List Hint → Metas → List Hypothesis → Mode → Tree → Tree → Charged Metas
stepped E H ms Γ mode t u n = plain (by_step E (unified E H) ms Γ mode t u (by_types E (unified E H) ms Γ mode t u) n)

unfoldable pub left_step_first : Environment → List Hint → Metas → List Hypothesis → Mode → Tree → Tree → Charged Metas
left_step_first E H ms Γ mode t u n = plain (left_step E H ms Γ mode t u (right_step E H ms Γ mode t u (by_types E (unified E H) ms Γ mode t u)) n)

unfoldable pub right_step_first : Environment → List Hint → Metas → List Hypothesis → Mode → Tree → Tree → Charged Metas
right_step_first E H ms Γ mode t u n = plain (right_step E H ms Γ mode t u (left_step E H ms Γ mode t u (by_types E (unified E H) ms Γ mode t u)) n)

unfoldable pub left_step_last : Environment → List Hint → Metas → List Hypothesis → Mode → Tree → Tree → Charged Metas
left_step_last E H ms Γ mode t u n = plain (left_step E H ms Γ mode t u (by_types E (unified E H) ms Γ mode t u) n)

unfoldable pub right_step_last : Environment → List Hint → Metas → List Hypothesis → Mode → Tree → Tree → Charged Metas
right_step_last E H ms Γ mode t u n = plain (right_step E H ms Γ mode t u (by_types E (unified E H) ms Γ mode t u) n)
