-- What `cases` does to a goal, and what it costs: one charge for the action, those of the term, of
-- the motive, and of the match against the goal.
use Rattle.std.specs.Prelude.{◌≡◌, refl, List, [], ◌∷◌, true, codes}
use Rattle.mt_term.specs.Trees.{Tree, Var, Prod, Lam, Const, Ind, Con, Match, Meta, End, Item}
use Rattle.mt_term.specs.Trees.{NoArm, Arm}
use Rattle.mt_term.specs.Declarations.{Hypothesis, Declaration, Axiom, Inductive}
use Rattle.mt_rules.specs.Knot.{fixed}
use Rattle.mt_term.specs.Alike.{is_alike}
use Rattle.mt_rules.specs.WeakHead.{whd, look, step}
use Rattle.mt_rules.specs.Inference.{infer, elimination}
use Rattle.mt_rules.specs.Comparison.{convert, compared}
use Rattle.mt_unification_rules.specs.Unification.{unified, unify}
use Rattle.mt_refinement_rules.specs.Refinement.{refine}
use Rattle.mt_induction_rules.specs.Splitting.{split}
use Rattle.mt_induction_rules.proofs.Samples.{◌·◌, ◌⟶◌, prop, type, nat, O, S, binder}
use Rattle.mt_induction_rules.proofs.Samples.{constructor, b, n, x}
use Rattle.mt_induction_rules.proofs.Samples.{equality_type, vector_type, existential_type}
use Rattle.mt_induction_rules.proofs.Samples.{false_type}
use Rattle.mt_induction_rules.proofs.Actions.{after, addition, fact, goal, closed, meta}
use Rattle.mt_induction_rules.proofs.Actions.{meta_on_one, meta_on_two, meta_on_three, equal, plus}
use Rattle.mt_induction_rules.proofs.Actions.{name, on_hole, splits, gives}

-- `cases n` on `n = n + O`: the term is 1, the motive 19, the match 28 to infer, and 4 against the
-- goal
abbrev number : List Hypothesis
number = binder n nat ∷ []

abbrev neutral : Tree
neutral = equal (Var 0) (plus (Var 0) O)

by_number : splits (after equality_type (addition ∷ [])) (name 26 n) 0 (goal number neutral ∷ []) 53
    ≡ gives
    (closed number neutral
    (Match 0 (Lam x nat neutral) (Var 0)
    (Arm [] (meta_on_one 1) (Arm (x ∷ []) (meta_on_two 2) NoArm)))
    ∷ goal number (equal O (plus O O))
    ∷ goal (binder n nat ∷ binder x nat ∷ []) (equal (S · Var 0) (plus (S · Var 0) O))
    ∷ [])
    (1 ∷ 2 ∷ [])
unfolding split refine unify unified infer elimination convert compared whd look step fixed is_alike
by_number = refl

-- ---- indices

-- `cases h` for h : `eq nat O n`: the index is a variable, which the goal has
abbrev equations : List Hypothesis
equations = binder n nat ∷ binder (codes "h") (equal O (Var 0)) ∷ []

by_equality : splits (after equality_type (fact (nat ⟶ prop) ∷ [])) (name 26 (codes "h")) 0
    (goal equations (Const 4 · Var 1) ∷ []) 49
    ≡ gives
    (closed equations (Const 4 · Var 1)
    (Match 2 (Lam x nat (Lam x (equal O (Var 0)) (Const 4 · Var 1))) (Var 0)
    (Arm [] (meta_on_two 1) NoArm))
    ∷ goal equations (Const 4 · O)
    ∷ [])
    (1 ∷ [])
unfolding split refine unify unified infer elimination convert compared whd look step fixed is_alike
by_equality = refl

-- `cases v` for a vector: the names of a branch are the constructor's, and x where it has none
abbrev vectors : List Hypothesis
vectors = binder n nat ∷ binder (codes "v") (Ind 2 · nat · Var 0) ∷ []

by_vector : splits (after vector_type (fact (Prod n nat (Ind 2 · nat · Var 0 ⟶ prop)) ∷ []))
    (name 26 (codes "v")) 0
    (goal vectors (Const 4 · Var 1 · Var 0) ∷ []) 61
    ≡ gives
    (closed vectors (Const 4 · Var 1 · Var 0)
    (Match 2 (Lam x nat (Lam x (Ind 2 · nat · Var 0) (Const 4 · Var 1 · Var 0))) (Var 0)
    (Arm [] (meta_on_two 1)
    (Arm (n ∷ x ∷ x ∷ [])
    (Meta 2 (Item (Var 4) (Item (Var 3) (Item (Var 2) (Item (Var 1) (Item (Var 0) End)))))) NoArm)))
    ∷ goal vectors (Const 4 · O · (Con 2 0 · nat))
    ∷ goal
    (binder n nat ∷ binder (codes "v") (Ind 2 · nat · Var 0) ∷ binder n nat ∷ binder x nat
    ∷ binder x (Ind 2 · nat · Var 1) ∷ [])
    (Const 4 · (S · Var 2) · (Con 2 1 · nat · Var 2 · Var 1 · Var 0))
    ∷ [])
    (1 ∷ 2 ∷ [])
unfolding split refine unify unified infer elimination convert compared whd look step fixed is_alike
by_vector = refl

-- ---- types that are matched into other sorts, and none

-- an existential into a proposition: `∃x:nat.R x`
abbrev witnesses : List Hypothesis
witnesses = binder (codes "h") (Ind 2 · nat · Const 5) ∷ []

by_existential : splits (after existential_type (fact prop ∷ Axiom (codes "R") (nat ⟶ prop) ∷ []))
    (name 26 (codes "h")) 0
    (goal witnesses (Const 4) ∷ []) 33
    ≡ gives
    (closed witnesses (Const 4)
    (Match 2 (Lam x (Ind 2 · nat · Const 5) (Const 4)) (Var 0)
    (Arm (x ∷ x ∷ []) (meta_on_three 1) NoArm))
    ∷ goal
    (binder (codes "h") (Ind 2 · nat · Const 5) ∷ binder x nat ∷ binder x (Const 5 · Var 0) ∷ [])
    (Const 4)
    ∷ [])
    (1 ∷ [])
unfolding split refine unify unified infer elimination convert compared whd look step fixed is_alike
by_existential = refl

-- `cases (b ?)` for b : `nat → False`, into a type: the argument is the one new goal
by_falsity : splits (after false_type (Axiom b (nat ⟶ Ind 2) ∷ [])) (on_hole 27 b 29) 0
    (goal [] nat ∷ []) 18
    ≡ gives
    (closed [] nat (Match 2 (Lam x (Ind 2) nat) (Const 4 · meta 1) NoArm) ∷ goal [] nat ∷ [])
    (1 ∷ [])
unfolding split refine unify unified infer elimination convert compared whd look step fixed is_alike
by_falsity = refl

-- a coinductive type: `coinductive s : Type[0] ≝ c : s → s.`
abbrev streams : Declaration
streams =
    Inductive (codes "s") true 0 (type 0) (constructor (codes "c") (Ind 2 ⟶ Ind 2) ∷ []) true

abbrev stream : List Hypothesis
stream = binder b (Ind 2) ∷ []

by_stream : splits (after streams (fact (Ind 2 ⟶ prop) ∷ [])) (name 26 b) 0
    (goal stream (Const 3 · Var 0) ∷ []) 25
    ≡ gives
    (closed stream (Const 3 · Var 0)
    (Match 2 (Lam x (Ind 2) (Const 3 · Var 0)) (Var 0) (Arm (x ∷ []) (meta_on_two 1) NoArm))
    ∷ goal (binder b (Ind 2) ∷ binder x (Ind 2) ∷ []) (Const 3 · (Con 2 0 · Var 0))
    ∷ [])
    (1 ∷ [])
unfolding split refine unify unified infer elimination convert compared whd look step fixed is_alike
by_stream = refl
