-- What `change`, `whd` and `normalize` make of goals, and what they cost: a charge for each action
-- and each raw term; further ones are named.
use Rattle.std.specs.Prelude.{◌≡◌, refl, [], ◌∷◌, codes}
use Rattle.mt_term.specs.Trees.{Tree, Var}
use Rattle.mt_term.specs.Reasons.{Mismatch, NotASort, NoExpected}
use Rattle.mt_term.specs.UniverseForms.{normal_form, raised}
use Rattle.mt_term.specs.UniverseOrder.{at_most, same, path, height, acyclic}
use Rattle.mt_rules.specs.Charges.{Spent}
use Rattle.mt_rules.specs.Knot.{fixed}
use Rattle.mt_rules.specs.WeakHead.{whd, look, step, normal}
use Rattle.mt_rules.specs.Inference.{infer}
use Rattle.mt_term.specs.Alike.{is_alike}
use Rattle.mt_unification_rules.specs.Unification.{unified, unify}
use Rattle.mt_term_parser.specs.declared.raw.Part.TheVariants as part
use Rattle.mt_term_parser.specs.declared.raw.RawSort.TheVariants as raw_sort
use Rattle.mt_term_parser.specs.Written as raw
use Rattle.mt_term_parser.specs.Written.{Written, Term, NoArgument, Argument}
use Rattle.mt_unit_parser.specs.WrittenUnits.{Change, Whd, Normalize}
use Rattle.mt_refinement_rules.specs.Refinement.{refine}
use Rattle.mt_action_rules.specs.Actions.{act}
use Rattle.mt_action_rules.proofs.Samples.{m, type, arrow, nat, nought, next, equal, plus, alias}
use Rattle.mt_action_rules.proofs.Samples.{functions, meta, meta_under_one, hypothesis, goal}
use Rattle.mt_action_rules.proofs.Samples.{closed, name, blank, on_one, on_two, does, gives}
use Rattle.mt_action_rules.proofs.Samples.{refuses}

-- ---- change

-- `change nat` on `d`: the unification of the two, a step of `d`, and the unification again
of_an_alias : does (Change (name 27 (codes "nat"))) 0 (goal [] alias ∷ []) 5
    ≡ gives (closed [] alias (meta 1) ∷ goal [] nat ∷ []) (1 ∷ [])
unfolding act refine unify unified whd look step fixed is_alike
of_an_alias = refl

of_an_alias_spent : does (Change (name 27 (codes "nat"))) 0 (goal [] alias ∷ []) 4 ≡ Spent
unfolding act refine unify unified whd look step fixed is_alike
of_an_alias_spent = refl

-- `change Type[0]` on `Type[1]`: at most is not enough. The refusal stands at the action.
a_smaller_type : does (Change (Term 27 (raw.Sort (raw_sort.Typ (part.Number 0 ∷ []))))) 0
    (goal [] (type 1) ∷ []) 3 ≡ refuses (Mismatch [] (type 0) (type 1) []) 20
unfolding act refine unify unified whd look step fixed is_alike normal_form raised at_most same path
    height acyclic
a_smaller_type = refl

-- `eq nat t u` as it is written
abbrev written_equal : Written → Written → Written
written_equal t u = Term 28
    (raw.App (name 28 (codes "eq"))
    (Argument (name 31 (codes "nat")) (Argument t (Argument u NoArgument))))

-- `change (eq nat (S m) (S (plus m O)))` on `eq nat (S m) (plus (S m) O)` under m
abbrev as_declared : Tree
as_declared = equal (next (Var 0)) (plus (next (Var 0)) nought)

abbrev as_changed : Tree
as_changed = equal (next (Var 0)) (next (plus (Var 0) nought))

under_one : does (Change
    (written_equal (on_one 36 (codes "S") (name 38 m))
    (on_one 42 (codes "S") (on_two 45 (codes "plus") (name 50 m) (name 52 (codes "O")))))) 0
    (goal (hypothesis m nat ∷ []) as_declared ∷ []) 40
    ≡ gives (closed (hypothesis m nat ∷ []) as_declared (meta_under_one 1)
    ∷ goal (hypothesis m nat ∷ []) as_changed ∷ []) (1 ∷ [])
unfolding act refine unify unified whd look step fixed is_alike
under_one = refl

-- `change (eq nat O O)` on a goal that stands as ?0, which is nat: the refusal shows the instance
an_instance : does (Change (written_equal (name 35 (codes "O")) (name 37 (codes "O")))) 1
    (closed [] (type 0) nat ∷ goal [] (meta 0) ∷ []) 12
    ≡ refuses (Mismatch [] (equal nought nought) nat []) 20
unfolding act refine unify unified infer whd look step fixed is_alike
an_instance = refl

-- `change O` and `change ?`
no_type : does (Change (name 27 (codes "O"))) 0 (goal [] nat ∷ []) 2 ≡ refuses NotASort 27
unfolding act refine whd look fixed
no_type = refl

no_type_expected : does (Change (blank 27)) 0 (goal [] nat ∷ []) 2 ≡ refuses NoExpected 27
unfolding act refine
no_type_expected = refl

-- ---- whd and normalize

-- `whd` on `d`, with a step
an_unfolding : does Whd 0 (goal [] alias ∷ []) 2
    ≡ gives (closed [] alias (meta 1) ∷ goal [] nat ∷ []) (1 ∷ [])
unfolding act whd look fixed
an_unfolding = refl

-- `eq nat (plus (S O) O) (S O)` is its own weak head; a goal of the same type is new
abbrev one_and_none : Tree
one_and_none = equal (plus (next nought) nought) (next nought)

a_weak_head : does Whd 0 (goal [] one_and_none ∷ []) 1
    ≡ gives (closed [] one_and_none (meta 1) ∷ goal [] one_and_none ∷ []) (1 ∷ [])
unfolding act whd look fixed
a_weak_head = refl

-- a goal that stands as ?0, which is d: two steps
of_a_metavariable : does Whd 1 (closed [] (type 0) alias ∷ goal [] (meta 0) ∷ []) 3
    ≡ gives (closed [] (type 0) alias ∷ closed [] (meta 0) (meta 2) ∷ goal [] nat ∷ []) (2 ∷ [])
unfolding act whd look fixed
of_a_metavariable = refl

no_charge : does Whd 0 (goal [] one_and_none ∷ []) 0 ≡ Spent
unfolding act whd look fixed
no_charge = refl

-- `normalize` on it: `plus (S O) O` takes four steps, and `plus O O` in its successor too
a_normal_form : does Normalize 0 (goal [] one_and_none ∷ []) 9
    ≡ gives (closed [] one_and_none (meta 1) ∷ goal [] (equal (next nought) (next nought)) ∷ [])
    (1 ∷ [])
unfolding act normal whd look fixed
a_normal_form = refl

a_normal_form_spent : does Normalize 0 (goal [] one_and_none ∷ []) 8 ≡ Spent
unfolding act normal whd look fixed
a_normal_form_spent = refl

-- `normalize` on `f`, with a step
a_function_type : does Normalize 0 (goal [] functions ∷ []) 2
    ≡ gives (closed [] functions (meta 1) ∷ goal [] (arrow nat nat) ∷ []) (1 ∷ [])
unfolding act normal whd look fixed
a_function_type = refl
