-- When `cases` and `elim` are refused, where, and what it costs.
use Rattle.std.specs.Prelude.{◌≡◌, refl, List, [], ◌∷◌, true, codes}
use Rattle.mt_term.specs.Trees.{Var, Prod, Const, Ind}
use Rattle.mt_term.specs.Declarations.{Hypothesis, Declaration, Axiom, Inductive}
use Rattle.mt_term.specs.Reasons.{Unbound, Mismatch, NoExpected, BadElimination}
use Rattle.mt_rules.specs.Knot.{fixed}
use Rattle.mt_term.specs.Alike.{is_alike}
use Rattle.mt_rules.specs.WeakHead.{whd, look, step}
use Rattle.mt_rules.specs.Inference.{infer, elimination}
use Rattle.mt_rules.specs.Comparison.{◌and◌, convert, compared}
use Rattle.mt_term_parser.specs.Written as raw
use Rattle.mt_term_parser.specs.Written.{Term}
use Rattle.mt_refinement_rules.specs.Refinement.{refine}
use Rattle.mt_induction_rules.specs.Splitting.{split}
use Rattle.mt_induction_rules.proofs.Samples.{◌·◌, ◌⟶◌, prop, type, nat, binder, constructor, b}
use Rattle.mt_induction_rules.proofs.Samples.{n, x, equality_type, existential_type, true_type}
use Rattle.mt_induction_rules.proofs.Actions.{after, fact, goal, equal, name, splits, eliminates}
use Rattle.mt_induction_rules.proofs.Actions.{refuses}

abbrev number : List Hypothesis
number = binder n nat ∷ []

-- ---- the term

-- the refusals of a raw term stand there
unknown : splits (after equality_type []) (name 26 (codes "k")) 0 (goal number nat ∷ []) 2
    ≡ refuses (Unbound (codes "k")) 26
unfolding split refine
unknown = refl

a_hole : splits (after equality_type []) (Term 26 raw.Hole) 0 (goal number nat ∷ []) 2
    ≡ refuses NoExpected 26
unfolding split refine
a_hole = refl

-- a term of no inductive type: others stand at the action
a_family : splits (after equality_type []) (name 26 (codes "eq")) 0 (goal number nat ∷ []) 2
    ≡ refuses BadElimination 20
unfolding split refine whd look fixed
a_family = refl

-- ---- the motive

-- an existential is not matched into a type: the motive is 9 to infer, and 1 to compare
no_large_motive :
    splits (after existential_type (fact prop ∷ Axiom (codes "R") (nat ⟶ prop) ∷ []))
    (name 26 (codes "h")) 0
    (goal (binder (codes "h") (Ind 2 · nat · Const 5) ∷ []) nat ∷ []) 12
    ≡ refuses BadElimination 20
unfolding split refine infer elimination convert compared whd look fixed is_alike
no_large_motive = refl

-- h : `eq nat n n`, and a goal `Q n h`: with variables for h and its index the goal has no type
ill_typed_motive :
    splits (after equality_type (fact (Prod n nat (equal (Var 0) (Var 0) ⟶ prop)) ∷ []))
    (name 26 (codes "h")) 0
    (goal (binder n nat ∷ binder (codes "h") (equal (Var 0) (Var 0)) ∷ []) (Const 4 · Var 1 · Var 0)
    ∷ [])
    24
    ≡ refuses
    (Mismatch
    (binder x (equal (Var 2) (Var 0)) ∷ binder x nat ∷ binder (codes "h") (equal (Var 0) (Var 0))
    ∷ binder n nat ∷ []) (equal (Var 3) (Var 1)) (equal (Var 1) (Var 1)) [])
    20
unfolding split refine infer elimination ◌and◌ convert compared whd look step fixed is_alike
ill_typed_motive = refl

-- ---- the principle

-- a coinductive type has none: `coinductive s : Type[0] ≝ c : s → s.`
abbrev streams : Declaration
streams =
    Inductive (codes "s") true 0 (type 0) (constructor (codes "c") (Ind 2 ⟶ Ind 2) ∷ []) true

no_principle : eliminates (after streams (fact (Ind 2 ⟶ prop) ∷ [])) (name 25 b) 0
    (goal (binder b (Ind 2) ∷ []) (Const 3 · Var 0) ∷ []) 2
    ≡ refuses BadElimination 20
unfolding split refine whd look fixed
no_principle = refl

-- a principle is for propositions alone: the motive is `λx:nat.nat`
into_a_type : eliminates (after true_type []) (name 25 (codes "O")) 0 (goal [] nat ∷ []) 17
    ≡ refuses (Mismatch [] (Prod x nat (type 0)) (Prod x nat prop) []) 20
unfolding split refine infer elimination ◌and◌ convert compared whd look step fixed is_alike
into_a_type = refl
