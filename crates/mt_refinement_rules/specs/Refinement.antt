-- Refinement, with its charges: a raw term is given a term and its type, against an expected type where there is one, with metavariables for what is left out.
use Rattle.std.specs.Prelude.{ℕ, List, if◌then◌else◌, Bool, true, false, Option}
use Rattle.mt_term.specs.Trees.{Tree}
use Rattle.mt_term.specs.Declarations.{Hypothesis}
use Rattle.mt_term.specs.Reasons.{NotHere}
use Rattle.mt_rules.specs.Charges.{charge}
use Rattle.mt_unification_rules.specs.Placeholders.{Metas, Typed}
use Rattle.mt_term_parser.specs.Written.{Written, Form, Arguments, Cases, Term, Name, Con, Hole, Vector, Sort, Lam, Prod, App, Match, Cast, Absent, Given, NoArgument, Argument, NoCase, Case}
use Rattle.mt_refinement_rules.specs.Placed.{Placed, faults}
use Rattle.mt_refinement_rules.specs.Settings.{Setting}
use Rattle.mt_refinement_rules.specs.Finishing.{Refinement, finish}
use Rattle.mt_refinement_rules.specs.Heads.{by_name, by_numbers, by_sort}
use Rattle.mt_refinement_rules.specs.Placeholders.{by_placeholder}
use Rattle.mt_refinement_rules.specs.Binders.{by_abstraction, by_bare_abstraction, by_product, by_cast}
use Rattle.mt_refinement_rules.specs.Applications.{Rest, by_argument, by_vector, by_application}
use Rattle.mt_refinement_rules.specs.Matches.{Bodies, written_return, expected_return, no_body, one_body, by_match}

-- the place of a raw term's first token
abbrev pub place_of : Written → ℕ
place_of (Term at f) = at

-- a raw term is `…`
abbrev pub is_vector_form : Form → Bool
is_vector_form Vector = true
is_vector_form f = false

abbrev pub is_vector : Written → Bool
is_vector (Term at f) = is_vector_form f

module _ (S : Setting) where
  abbrev mutual
    -- one charge for each raw term
    pub refined : Written → Refinement
    refined (Term at f) ms Γ o = charge (refined_form at f ms Γ o)

    -- each form by its rule; `…` is refused where it is no argument
    pub refined_form : ℕ → Form → Refinement
    refined_form at (Name x) = by_name S at x
    refined_form at (Con e k) = by_numbers S at e k
    refined_form at Hole = by_placeholder at
    refined_form at Vector = λ ms Γ o. faults NotHere at
    refined_form at (Sort s) = by_sort S at s
    refined_form at (Lam x Absent b) = by_bare_abstraction S at x (refined b)
    refined_form at (Lam x (Given A) b) = by_abstraction S at x (place_of A) (refined A) (refined b)
    refined_form at (Prod x A B) = by_product S at x (place_of A) (refined A) (place_of B) (refined B)
    refined_form at (App f args) = by_application (refined f) (refined_arguments at args)
    refined_form at (Match c Absent arms) = by_match S at (refined c) (expected_return at) arms (refined_bodies at arms)
    refined_form at (Match c (Given R) arms) = by_match S at (refined c) (written_return (refined R)) arms (refined_bodies at arms)
    refined_form at (Cast t T) = by_cast S at (refined t) (place_of T) (refined T)

    -- the arguments of an application at this place, and its end
    pub refined_arguments : ℕ → Arguments → List Hypothesis → Option Tree → Rest
    refined_arguments at NoArgument Γ o = finish S at Γ o
    refined_arguments at (Argument a args) Γ o =
        if is_vector a
        then by_vector S Γ (place_of a) (refined_arguments at args Γ o)
        else by_argument S Γ (place_of a) (refined a) (refined_arguments at args Γ o)

    -- the bodies of the arms of a match at this place
    pub refined_bodies : ℕ → Cases → Bodies
    refined_bodies at NoCase = no_body
    refined_bodies at (Case x xs b arms) = one_body at xs (refined b) (refined_bodies at arms)

-- refinement
unfoldable pub refine : Setting → Metas → List Hypothesis → Written → Option Tree → Placed Typed
refine S ms Γ w o = refined S w ms Γ o
