-- What the kernel's check of a principle costs: its type, and then its type again, its body and the
-- comparison of the two.
use Rattle.std.specs.Prelude.{◌≡◌, refl, ℕ, List, [], ◌∷◌, true, Option, Some, codes}
use Rattle.mt_term.specs.Trees.{Tree, Ind}
use Rattle.mt_term.specs.Declarations.{Declaration, Axiom, Inductive, Recursive, Environment}
use Rattle.mt_term.specs.declared.universes.Sort.TheVariants.{Prop}
use Rattle.mt_term.specs.Alike.{is_alike}
use Rattle.mt_term.specs.UniverseForms.{normal_form, maximum, raised}
use Rattle.mt_calculus.specs.SoundEnvironment.{with_entry}
use Rattle.mt_rules.specs.Charges.{Outcome, Done, Spent}
use Rattle.mt_rules.specs.Knot.{fixed}
use Rattle.mt_rules.specs.WeakHead.{whd}
use Rattle.mt_rules.specs.Inference.{infer}
use Rattle.mt_rules.specs.Comparison.{compared, convert}
use Rattle.mt_rules.specs.KernelCheck.{check_type, check}
use Rattle.mt_resolver.specs.Resolution.{Resolution, Found}
use Rattle.mt_induction_rules.specs.CheckedPrinciples.{with_principle}
use Rattle.mt_induction_rules.specs.Principles.{principle}
use Rattle.mt_induction_rules.proofs.Samples.{◌⟶◌, prop, type, constructor, nat_type, list_type}
use Rattle.mt_induction_rules.proofs.Samples.{vector_type, equality_type, conjunction_type}
use Rattle.mt_induction_rules.proofs.Samples.{existential_type, well_founded_type, order_type}
use Rattle.mt_induction_rules.proofs.Samples.{tree_type, false_type, true_type, accessible_type}
use Rattle.mt_induction_rules.proofs.Samples.{dependent_type, path_type, environment}
use Rattle.mt_induction_rules.proofs.Samples.{and_its_principle}

-- the two entries of a type, with nothing left of the allowance
abbrev gives_both : ℕ → Declaration → Outcome (Resolution (List Declaration))
gives_both e d = Done (Found (and_its_principle e d)) 0

-- ---- the natural numbers

abbrev none : Environment
none = environment []

abbrev natural : Environment
natural = environment (and_its_principle 0 nat_type)

-- the type and the body of a principle
abbrev type_of : Option Declaration → Tree
type_of (Some (Recursive x co n r T b made)) = T
type_of d = prop

abbrev body_of : Option Declaration → Tree
body_of (Some (Recursive x co n r T b made)) = b
body_of d = prop

-- its type is 30
abbrev known : Environment
known = environment (nat_type ∷ [])

type_of_naturals : check_type known (type_of (principle 0 nat_type)) 30 ≡ Done Prop 0
unfolding normal_form maximum raised check_type check infer compared convert whd fixed is_alike
type_of_naturals = refl

-- its body is 88: 30 for the type, 57 for the body and 1 for the comparison
abbrev assumed : Environment
assumed = with_entry known (Axiom (codes "nat_ind") (type_of (principle 0 nat_type)))

body_of_naturals :
    check assumed (body_of (principle 0 nat_type)) (type_of (principle 0 nat_type)) 88 ≡ Done tt 0
unfolding normal_form maximum raised check_type check infer compared convert whd fixed is_alike
body_of_naturals = refl

naturals : with_principle none 5 nat_type 118 ≡ gives_both 0 nat_type
unfolding with_principle normal_form maximum raised check_type check infer compared convert whd
    fixed is_alike
naturals = refl

naturals_spent : with_principle none 5 nat_type 117 ≡ Spent
unfolding with_principle normal_form maximum raised check_type check infer compared convert whd
    fixed is_alike
naturals_spent = refl

-- ---- the other types

lists : with_principle natural 5 list_type 193 ≡ gives_both 2 list_type
unfolding with_principle normal_form maximum raised check_type check infer compared convert whd
    fixed is_alike
lists = refl

vectors : with_principle natural 5 vector_type 304 ≡ gives_both 2 vector_type
unfolding with_principle normal_form maximum raised check_type check infer compared convert whd
    fixed is_alike
vectors = refl

equality : with_principle natural 5 equality_type 179 ≡ gives_both 2 equality_type
unfolding with_principle normal_form maximum raised check_type check infer compared convert whd
    fixed is_alike
equality = refl

conjunction : with_principle natural 5 conjunction_type 161 ≡ gives_both 2 conjunction_type
unfolding with_principle normal_form maximum raised check_type check infer compared convert whd
    fixed is_alike
conjunction = refl

existential : with_principle natural 5 existential_type 176 ≡ gives_both 2 existential_type
unfolding with_principle normal_form maximum raised check_type check infer compared convert whd
    fixed is_alike
existential = refl

well_founded : with_principle natural 5 well_founded_type 265 ≡ gives_both 2 well_founded_type
unfolding with_principle normal_form maximum raised check_type check infer compared convert whd
    fixed is_alike
well_founded = refl

order : with_principle natural 5 order_type 286 ≡ gives_both 2 order_type
unfolding with_principle normal_form maximum raised check_type check infer compared convert whd
    fixed is_alike
order = refl

branching : with_principle natural 5 tree_type 192 ≡ gives_both 2 tree_type
unfolding with_principle normal_form maximum raised check_type check infer compared convert whd
    fixed is_alike
branching = refl

falsity : with_principle natural 5 false_type 36 ≡ gives_both 2 false_type
unfolding with_principle normal_form maximum raised check_type check infer compared convert whd
    fixed is_alike
falsity = refl

truth : with_principle natural 5 true_type 53 ≡ gives_both 2 true_type
unfolding with_principle normal_form maximum raised check_type check infer compared convert whd
    fixed is_alike
truth = refl

accessible : with_principle natural 5 accessible_type 393 ≡ gives_both 2 accessible_type
unfolding with_principle normal_form maximum raised check_type check infer compared convert whd
    fixed is_alike
accessible = refl

dependent : with_principle natural 5 dependent_type 305 ≡ gives_both 2 dependent_type
unfolding with_principle normal_form maximum raised check_type check infer compared convert whd
    fixed is_alike
dependent = refl

paths : with_principle natural 5 path_type 520 ≡ gives_both 2 path_type
unfolding with_principle normal_form maximum raised check_type check infer compared convert whd
    fixed is_alike
paths = refl

-- ---- no principle

-- a coinductive type, and an entry that is no type
abbrev streams : Declaration
streams =
    Inductive (codes "s") true 0 (type 0) (constructor (codes "c") (Ind 0 ⟶ Ind 0) ∷ []) true

coinductive : with_principle none 5 streams 0 ≡ Done (Found (streams ∷ [])) 0
unfolding with_principle
coinductive = refl

an_axiom : with_principle none 5 (Axiom (codes "a") prop) 0 ≡ Done
    (Found (Axiom (codes "a") prop ∷ [])) 0
unfolding with_principle
an_axiom = refl
