-- What `elim` does to a goal, and what it costs: one charge for the action, those of the term, of
-- the motive, and of the principle against the goal.
use Rattle.std.specs.Prelude.{◌≡◌, refl, List, [], ◌∷◌, codes}
use Rattle.mt_term.specs.Trees.{Tree, Var, Prod, Lam, Const, Ind, Con}
use Rattle.mt_term.specs.Declarations.{Hypothesis}
use Rattle.mt_rules.specs.Charges.{Spent}
use Rattle.mt_rules.specs.Knot.{fixed}
use Rattle.mt_term.specs.Alike.{is_alike}
use Rattle.mt_rules.specs.WeakHead.{whd, look, step}
use Rattle.mt_rules.specs.Inference.{infer, elimination}
use Rattle.mt_rules.specs.Comparison.{◌and◌, convert, compared}
use Rattle.mt_unification_rules.specs.Unification.{unified, unify}
use Rattle.mt_refinement_rules.specs.Refinement.{refine}
use Rattle.mt_refinement_rules.specs.Settings.{Setting}
use Rattle.mt_induction_rules.specs.Splitting.{split}
use Rattle.mt_induction_rules.proofs.Samples.{◌·◌, ◌⟶◌, prop, nat, O, S, binder, b, m, n, x}
use Rattle.mt_induction_rules.proofs.Samples.{equality_type, list_type, order_type, tree_type}
use Rattle.mt_induction_rules.proofs.Samples.{false_type}
use Rattle.mt_induction_rules.proofs.Actions.{after, addition, fact, goal, closed, meta}
use Rattle.mt_induction_rules.proofs.Actions.{meta_on_one, meta_on_two, meta_on_three, equal}
use Rattle.mt_induction_rules.proofs.Actions.{reflexive, plus, name, eliminates, gives}

-- ---- `n = n + O` by induction

abbrev sums : Setting
sums = after equality_type (addition ∷ [])

abbrev number : List Hypothesis
number = binder n nat ∷ []

-- `elim n`: the term is 1; the motive is 18 to infer and 1 to compare; the principle is 50 to
-- infer, and 4 against the goal
abbrev neutral : Tree
neutral = equal (Var 0) (plus (Var 0) O)

by_number : eliminates sums (name 25 n) 0 (goal number neutral ∷ []) 75 ≡ gives
    (closed number neutral (Const 1 · Lam x nat neutral · meta_on_one 1 · meta_on_one 2 · Var 0)
    ∷ goal number (equal O (plus O O))
    ∷ goal number (Prod x nat (neutral ⟶ equal (S · Var 1) (plus (S · Var 1) O)))
    ∷ [])
    (1 ∷ 2 ∷ [])
unfolding split refine unify unified infer elimination ◌and◌ convert compared whd look step fixed
    is_alike
by_number = refl

by_number_spent : eliminates sums (name 25 n) 0 (goal number neutral ∷ []) 74 ≡ Spent
unfolding split refine unify unified infer elimination ◌and◌ convert compared whd look step fixed
    is_alike
by_number_spent = refl

-- `elim ih` for ih : `m = m + O`: the index `m + O` of its type stands twice in the goal
abbrev hypotheses : List Hypothesis
hypotheses = binder n nat ∷ binder m nat ∷ binder (codes "ih") (equal (Var 0) (plus (Var 0) O)) ∷ []

abbrev next_neutral : Tree
next_neutral = equal (S · Var 1) (S · plus (Var 1) O)

abbrev equality_motive : Tree
equality_motive = Lam x nat (Lam x (equal (Var 2) (Var 0)) (equal (S · Var 3) (S · Var 1)))

by_equality : eliminates sums (name 25 (codes "ih")) 0 (goal hypotheses next_neutral ∷ []) 107
    ≡ gives
    (closed hypotheses next_neutral
    (Const 3 · nat · Var 1 · equality_motive · meta_on_three 1 · plus (Var 1) O · Var 0)
    ∷ goal hypotheses (equal (S · Var 1) (S · Var 1))
    ∷ [])
    (1 ∷ [])
unfolding split refine unify unified infer elimination ◌and◌ convert compared whd look step fixed
    is_alike
by_equality = refl

-- ---- recursive places

-- `elim l` for l : `list (list nat)`: the head of a list is no recursive argument, though its type
-- is that of a list
abbrev lists : List Hypothesis
lists = binder (codes "l") (Ind 2 · (Ind 2 · nat)) ∷ []

abbrev list_motive : Tree
list_motive = Lam x (Ind 2 · (Ind 2 · nat)) (Const 4)

by_list : eliminates (after list_type (fact prop ∷ [])) (name 25 (codes "l")) 0
    (goal lists (Const 4) ∷ []) 55
    ≡ gives
    (closed lists (Const 4)
    (Const 3 · (Ind 2 · nat) · list_motive · meta_on_one 1 · meta_on_one 2 · Var 0)
    ∷ goal lists (Const 4)
    ∷ goal lists (Prod x (Ind 2 · nat) (Prod x (Ind 2 · (Ind 2 · nat)) (Const 4 ⟶ Const 4)))
    ∷ [])
    (1 ∷ 2 ∷ [])
unfolding split refine unify unified infer elimination ◌and◌ convert compared whd look step fixed
    is_alike
by_list = refl

-- `elim w` for a tree: the hypothesis of a tree comes at once after it; that of a function is a
-- product
abbrev trees : List Hypothesis
trees = binder (codes "w") (Ind 2) ∷ []

by_tree : eliminates (after tree_type (fact (Ind 2 ⟶ prop) ∷ [])) (name 25 (codes "w")) 0
    (goal trees (Const 4 · Var 0) ∷ []) 53
    ≡ gives
    (closed trees (Const 4 · Var 0)
    (Const 3 · Lam x (Ind 2) (Const 4 · Var 0) · meta_on_one 1 · meta_on_one 2 · Var 0)
    ∷ goal trees (Const 4 · Con 2 0)
    ∷ goal trees
    (Prod x (Ind 2)
    (Const 4 · Var 0
    ⟶ Prod x (nat ⟶ Ind 2)
    (Prod x nat (Const 4 · (Var 1 · Var 0)) ⟶ Const 4 · (Con 2 1 · Var 3 · Var 1))))
    ∷ [])
    (1 ∷ 2 ∷ [])
unfolding split refine unify unified infer elimination ◌and◌ convert compared whd look step fixed
    is_alike
by_tree = refl

-- ---- indices

-- `elim h` for h : `le n m`
abbrev ordered : List Hypothesis
ordered = binder n nat ∷ binder m nat ∷ binder (codes "h") (Ind 2 · Var 1 · Var 0) ∷ []

abbrev order_motive : Tree
order_motive = Lam x nat (Lam x (Ind 2 · Var 3 · Var 0) (Const 4 · Var 4 · Var 1))

by_order : eliminates (after order_type (fact (nat ⟶ nat ⟶ prop) ∷ [])) (name 25 (codes "h")) 0
    (goal ordered (Const 4 · Var 2 · Var 1) ∷ []) 96
    ≡ gives
    (closed ordered (Const 4 · Var 2 · Var 1)
    (Const 3 · Var 2 · order_motive · meta_on_three 1 · meta_on_three 2 · Var 1 · Var 0)
    ∷ goal ordered (Const 4 · Var 2 · Var 2)
    ∷ goal ordered
    (Prod m nat
    (Prod x (Ind 2 · Var 3 · Var 0) (Const 4 · Var 4 · Var 1 ⟶ Const 4 · Var 5 · (S · Var 2))))
    ∷ [])
    (1 ∷ 2 ∷ [])
unfolding split refine unify unified infer elimination ◌and◌ convert compared whd look step fixed
    is_alike
by_order = refl

-- a goal of the term and its index: the term comes before its index
abbrev equations : List Hypothesis
equations = binder n nat ∷ binder (codes "h") (equal O (Var 0)) ∷ []

abbrev dependent_motive : Tree
dependent_motive = Lam x nat (Lam x (equal O (Var 0)) (Const 4 · Var 1 · Var 0))

by_dependent : eliminates
    (after equality_type (fact (Prod n nat (Prod (codes "h") (equal O (Var 0)) prop)) ∷ []))
    (name 25 (codes "h")) 0
    (goal equations (Const 4 · Var 1 · Var 0) ∷ []) 80
    ≡ gives
    (closed equations (Const 4 · Var 1 · Var 0)
    (Const 3 · nat · O · dependent_motive · meta_on_two 1 · Var 1 · Var 0)
    ∷ goal equations (Const 4 · O · reflexive O)
    ∷ [])
    (1 ∷ [])
unfolding split refine unify unified infer elimination ◌and◌ convert compared whd look step fixed
    is_alike
by_dependent = refl

-- an index that is a metavariable with a body is not looked for by its instance, which stands in
-- that of the goal
abbrev to_a_meta : List Hypothesis
to_a_meta = binder (codes "h") (equal O (meta 0)) ∷ []

abbrev constant_motive : Tree
constant_motive = Lam x nat (Lam x (equal O (Var 0)) (Const 4 · (S · O)))

by_instance : eliminates (after equality_type (fact (nat ⟶ prop) ∷ [])) (name 25 (codes "h")) 1
    (closed [] nat (S · O) ∷ goal to_a_meta (Const 4 · meta 0) ∷ []) 80
    ≡ gives
    (closed [] nat (S · O)
    ∷ closed to_a_meta (Const 4 · meta 0)
    (Const 3 · nat · O · constant_motive · meta_on_one 2 · meta 0 · Var 0)
    ∷ goal to_a_meta (Const 4 · (S · O))
    ∷ [])
    (2 ∷ [])
unfolding split refine unify unified infer elimination ◌and◌ convert compared whd look step fixed
    is_alike
by_instance = refl

-- ---- no constructor

-- `elim b` for b : `False`: no new goal
abbrev absurdity : List Hypothesis
absurdity = binder b (Ind 2) ∷ []

by_falsity : eliminates (after false_type (fact prop ∷ [])) (name 25 b) 0
    (goal absurdity (Const 4) ∷ []) 18
    ≡ gives
    (closed absurdity (Const 4) (Const 3 · Lam x (Ind 2) (Const 4) · Var 0) ∷ [])
    []
unfolding split refine unify unified infer elimination convert compared whd look step fixed is_alike
by_falsity = refl
