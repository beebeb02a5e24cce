-- Coercions in whole units, and refusals that show instances.
use Rattle.std.specs.Prelude.{◌≡◌, refl, [], ◌∷◌, true, false, codes}
use Rattle.mt_term.specs.Trees.{Var, Sort, Prod, App, Const, Ind, Con}
use Rattle.mt_term.specs.Declarations.{Declaration, Axiom, Definition, Inductive, Environment}
use Rattle.mt_term.specs.Reasons.{Mismatch, BadCoercion}
use Rattle.mt_rules.specs.Knot.{fixed}
use Rattle.mt_term.specs.Alike.{is_alike}
use Rattle.mt_term.specs.UniverseForms.{normal_form, raised, maximum}
use Rattle.mt_term.specs.UniverseOrder.{at_most, same, path, height, acyclic}
use Rattle.mt_rules.specs.WeakHead.{whd, look, step}
use Rattle.mt_rules.specs.Comparison.{compared, convert, ◌and◌}
use Rattle.mt_rules.specs.Inference.{infer, elimination}
use Rattle.mt_rules.specs.KernelCheck.{check_type, check}
use Rattle.mt_term.specs.declared.universes.Sort.TheVariants.{Prop, Typ}
use Rattle.mt_unification_rules.specs.Unification.{unified, unify}
use Rattle.mt_term_parser.specs.declared.raw.Part.TheVariants as part
use Rattle.mt_term_parser.specs.declared.raw.RawSort.TheVariants as raw_sort
use Rattle.mt_term_parser.specs.Written as raw
use Rattle.mt_term_parser.specs.Written.{Written, Term, Absent, Given, NoArgument, Argument, NoCase, Case}
use Rattle.mt_refinement_rules.specs.Settings.{Setting}
use Rattle.mt_refinement_rules.specs.Refinement.{refine}
use Rattle.mt_refinement_rules.proofs.Units.{Accepted, Refused, charges, typed_axiom, definition, untyped, coercion, coercions}

-- ---- one long
abbrev one_long_e0 : Declaration
one_long_e0 = Axiom (codes "A") (Sort (Typ (record { base = 0; atoms = [] })))

abbrev one_long_e1 : Declaration
one_long_e1 = Axiom (codes "B") (Sort (Typ (record { base = 0; atoms = [] })))

abbrev one_long_e2 : Declaration
one_long_e2 = Axiom (codes "f") (Prod (codes "_") (Const 0) (Const 1))

abbrev one_long_e3 : Declaration
one_long_e3 = Axiom (codes "a") (Const 0)

abbrev one_long_e4 : Declaration
one_long_e4 = Definition (codes "b") (Const 1) (Const 3)

abbrev one_long_s0_0_0_0_env : Environment
one_long_s0_0_0_0_env = record { entries = []; names = []; below = [] }

abbrev one_long_s0_0_0_0 : Setting
one_long_s0_0_0_0 = record { env = one_long_s0_0_0_0_env; hints = []; coercions = coercions one_long_s0_0_0_0_env ([]) }

-- `axiom A : Type[0].`
one_long_0 : charges (typed_axiom one_long_s0_0_0_0 0 (codes "A") (Term 10 (raw.Sort (raw_sort.Typ (part.Number 0 ∷ []))))) 2 ≡ Accepted 0
unfolding refine unify unified infer elimination check check_type convert compared ◌and◌ whd look step fixed is_alike normal_form raised maximum at_most same path height acyclic
one_long_0 = refl

abbrev one_long_s1_0_0_0_env : Environment
one_long_s1_0_0_0_env = record { entries = one_long_e0 ∷ []; names = []; below = [] }

abbrev one_long_s1_0_0_0 : Setting
one_long_s1_0_0_0 = record { env = one_long_s1_0_0_0_env; hints = []; coercions = coercions one_long_s1_0_0_0_env ([]) }

-- `axiom B : Type[0].`
one_long_1 : charges (typed_axiom one_long_s1_0_0_0 19 (codes "B") (Term 29 (raw.Sort (raw_sort.Typ (part.Number 0 ∷ []))))) 2 ≡ Accepted 0
unfolding refine unify unified infer elimination check check_type convert compared ◌and◌ whd look step fixed is_alike normal_form raised maximum at_most same path height acyclic
one_long_1 = refl

abbrev one_long_s2_0_0_0_env : Environment
one_long_s2_0_0_0_env = record { entries = one_long_e0 ∷ one_long_e1 ∷ []; names = []; below = [] }

abbrev one_long_s2_0_0_0 : Setting
one_long_s2_0_0_0 = record { env = one_long_s2_0_0_0_env; hints = []; coercions = coercions one_long_s2_0_0_0_env ([]) }

-- `axiom f : A → B.`
one_long_2 : charges (typed_axiom one_long_s2_0_0_0 38 (codes "f") (Term 48 (raw.Prod (codes "_") (Term 48 (raw.Name (codes "A"))) (Term 54 (raw.Name (codes "B")))))) 6 ≡ Accepted 0
unfolding refine unify unified infer elimination check check_type convert compared ◌and◌ whd look step fixed is_alike normal_form raised maximum at_most same path height acyclic
one_long_2 = refl

abbrev one_long_s3_0_0_0_env : Environment
one_long_s3_0_0_0_env = record { entries = one_long_e0 ∷ one_long_e1 ∷ one_long_e2 ∷ []; names = []; below = [] }

abbrev one_long_s3_0_0_0 : Setting
one_long_s3_0_0_0 = record { env = one_long_s3_0_0_0_env; hints = []; coercions = coercions one_long_s3_0_0_0_env ([]) }

-- `axiom a : A.`
one_long_3 : charges (typed_axiom one_long_s3_0_0_0 57 (codes "a") (Term 67 (raw.Name (codes "A")))) 2 ≡ Accepted 0
unfolding refine unify unified infer elimination check check_type convert compared ◌and◌ whd look step fixed is_alike normal_form raised maximum at_most same path height acyclic
one_long_3 = refl

abbrev one_long_s4_0_0_0_env : Environment
one_long_s4_0_0_0_env = record { entries = one_long_e0 ∷ one_long_e1 ∷ one_long_e2 ∷ one_long_e3 ∷ []; names = []; below = [] }

abbrev one_long_s4_0_0_0 : Setting
one_long_s4_0_0_0 = record { env = one_long_s4_0_0_0_env; hints = []; coercions = coercions one_long_s4_0_0_0_env ([]) }

-- `coercion f.`
one_long_4 : charges (coercion one_long_s4_0_0_0 70 (codes "f")) 0 ≡ Accepted 0
unfolding refine unify unified infer elimination check check_type convert compared ◌and◌ whd look step fixed is_alike normal_form raised maximum at_most same path height acyclic
one_long_4 = refl

abbrev one_long_s4_0_0_1_env : Environment
one_long_s4_0_0_1_env = record { entries = one_long_e0 ∷ one_long_e1 ∷ one_long_e2 ∷ one_long_e3 ∷ []; names = []; below = [] }

abbrev one_long_s4_0_0_1 : Setting
one_long_s4_0_0_1 = record { env = one_long_s4_0_0_1_env; hints = []; coercions = coercions one_long_s4_0_0_1_env (codes "f" ∷ []) }

-- `definition b : B ≝ a.`
one_long_5 : charges (definition one_long_s4_0_0_1 82 (codes "b") (Term 97 (raw.Name (codes "B"))) (Term 103 (raw.Name (codes "a")))) 12 ≡ Accepted 0
unfolding refine unify unified infer elimination check check_type convert compared ◌and◌ whd look step fixed is_alike normal_form raised maximum at_most same path height acyclic
one_long_5 = refl

abbrev one_long_s5_0_0_1_env : Environment
one_long_s5_0_0_1_env = record { entries = one_long_e0 ∷ one_long_e1 ∷ one_long_e2 ∷ one_long_e3 ∷ one_long_e4 ∷ []; names = []; below = [] }

abbrev one_long_s5_0_0_1 : Setting
one_long_s5_0_0_1 = record { env = one_long_s5_0_0_1_env; hints = []; coercions = coercions one_long_s5_0_0_1_env (codes "f" ∷ []) }

-- `definition i : A → B ≝ λx:A.x.`
one_long_6 : charges (definition one_long_s5_0_0_1 106 (codes "i") (Term 121 (raw.Prod (codes "_") (Term 121 (raw.Name (codes "A"))) (Term 127 (raw.Name (codes "B"))))) (Term 133 (raw.Lam (codes "x") (Given (Term 137 (raw.Name (codes "A")))) (Term 139 (raw.Name (codes "x")))))) 21 ≡ Accepted 0
unfolding refine unify unified infer elimination check check_type convert compared ◌and◌ whd look step fixed is_alike normal_form raised maximum at_most same path height acyclic
one_long_6 = refl

-- ---- two long
abbrev two_long_e0 : Declaration
two_long_e0 = Axiom (codes "A") (Sort (Typ (record { base = 0; atoms = [] })))

abbrev two_long_e1 : Declaration
two_long_e1 = Axiom (codes "B") (Sort (Typ (record { base = 0; atoms = [] })))

abbrev two_long_e2 : Declaration
two_long_e2 = Axiom (codes "C") (Sort (Typ (record { base = 0; atoms = [] })))

abbrev two_long_e3 : Declaration
two_long_e3 = Axiom (codes "D") (Sort (Typ (record { base = 0; atoms = [] })))

abbrev two_long_e4 : Declaration
two_long_e4 = Axiom (codes "f") (Prod (codes "_") (Const 0) (Const 1))

abbrev two_long_e5 : Declaration
two_long_e5 = Axiom (codes "h") (Prod (codes "_") (Const 0) (Const 3))

abbrev two_long_e6 : Declaration
two_long_e6 = Axiom (codes "g") (Prod (codes "_") (Const 1) (Const 2))

abbrev two_long_e7 : Declaration
two_long_e7 = Axiom (codes "k") (Prod (codes "_") (Const 3) (Const 2))

abbrev two_long_e8 : Declaration
two_long_e8 = Axiom (codes "a") (Const 0)

abbrev two_long_s9_0_0_0_env : Environment
two_long_s9_0_0_0_env = record { entries = two_long_e0 ∷ two_long_e1 ∷ two_long_e2 ∷ two_long_e3 ∷ two_long_e4 ∷ two_long_e5 ∷ two_long_e6 ∷ two_long_e7 ∷ two_long_e8 ∷ []; names = []; below = [] }

abbrev two_long_s9_0_0_0 : Setting
two_long_s9_0_0_0 = record { env = two_long_s9_0_0_0_env; hints = []; coercions = coercions two_long_s9_0_0_0_env ([]) }

-- `coercion f.`
two_long_9 : charges (coercion two_long_s9_0_0_0 165 (codes "f")) 0 ≡ Accepted 0
unfolding refine unify unified infer elimination check check_type convert compared ◌and◌ whd look step fixed is_alike normal_form raised maximum at_most same path height acyclic
two_long_9 = refl

abbrev two_long_s9_0_0_1_env : Environment
two_long_s9_0_0_1_env = record { entries = two_long_e0 ∷ two_long_e1 ∷ two_long_e2 ∷ two_long_e3 ∷ two_long_e4 ∷ two_long_e5 ∷ two_long_e6 ∷ two_long_e7 ∷ two_long_e8 ∷ []; names = []; below = [] }

abbrev two_long_s9_0_0_1 : Setting
two_long_s9_0_0_1 = record { env = two_long_s9_0_0_1_env; hints = []; coercions = coercions two_long_s9_0_0_1_env (codes "f" ∷ []) }

-- `coercion h.`
two_long_10 : charges (coercion two_long_s9_0_0_1 177 (codes "h")) 0 ≡ Accepted 0
unfolding refine unify unified infer elimination check check_type convert compared ◌and◌ whd look step fixed is_alike normal_form raised maximum at_most same path height acyclic
two_long_10 = refl

abbrev two_long_s9_0_0_2_env : Environment
two_long_s9_0_0_2_env = record { entries = two_long_e0 ∷ two_long_e1 ∷ two_long_e2 ∷ two_long_e3 ∷ two_long_e4 ∷ two_long_e5 ∷ two_long_e6 ∷ two_long_e7 ∷ two_long_e8 ∷ []; names = []; below = [] }

abbrev two_long_s9_0_0_2 : Setting
two_long_s9_0_0_2 = record { env = two_long_s9_0_0_2_env; hints = []; coercions = coercions two_long_s9_0_0_2_env (codes "f" ∷ codes "h" ∷ []) }

-- `coercion g.`
two_long_11 : charges (coercion two_long_s9_0_0_2 189 (codes "g")) 0 ≡ Accepted 0
unfolding refine unify unified infer elimination check check_type convert compared ◌and◌ whd look step fixed is_alike normal_form raised maximum at_most same path height acyclic
two_long_11 = refl

abbrev two_long_s9_0_0_3_env : Environment
two_long_s9_0_0_3_env = record { entries = two_long_e0 ∷ two_long_e1 ∷ two_long_e2 ∷ two_long_e3 ∷ two_long_e4 ∷ two_long_e5 ∷ two_long_e6 ∷ two_long_e7 ∷ two_long_e8 ∷ []; names = []; below = [] }

abbrev two_long_s9_0_0_3 : Setting
two_long_s9_0_0_3 = record { env = two_long_s9_0_0_3_env; hints = []; coercions = coercions two_long_s9_0_0_3_env (codes "f" ∷ codes "h" ∷ codes "g" ∷ []) }

-- `coercion k.`
two_long_12 : charges (coercion two_long_s9_0_0_3 201 (codes "k")) 0 ≡ Accepted 0
unfolding refine unify unified infer elimination check check_type convert compared ◌and◌ whd look step fixed is_alike normal_form raised maximum at_most same path height acyclic
two_long_12 = refl

abbrev two_long_s9_0_0_4_env : Environment
two_long_s9_0_0_4_env = record { entries = two_long_e0 ∷ two_long_e1 ∷ two_long_e2 ∷ two_long_e3 ∷ two_long_e4 ∷ two_long_e5 ∷ two_long_e6 ∷ two_long_e7 ∷ two_long_e8 ∷ []; names = []; below = [] }

abbrev two_long_s9_0_0_4 : Setting
two_long_s9_0_0_4 = record { env = two_long_s9_0_0_4_env; hints = []; coercions = coercions two_long_s9_0_0_4_env (codes "f" ∷ codes "h" ∷ codes "g" ∷ codes "k" ∷ []) }

-- `definition c : C ≝ a.`
two_long_13 : charges (definition two_long_s9_0_0_4 213 (codes "c") (Term 228 (raw.Name (codes "C"))) (Term 234 (raw.Name (codes "a")))) 17 ≡ Accepted 0
unfolding refine unify unified infer elimination check check_type convert compared ◌and◌ whd look step fixed is_alike normal_form raised maximum at_most same path height acyclic
two_long_13 = refl

-- ---- a shorter path that was declared later
abbrev shorter_e0 : Declaration
shorter_e0 = Axiom (codes "A") (Sort (Typ (record { base = 0; atoms = [] })))

abbrev shorter_e1 : Declaration
shorter_e1 = Axiom (codes "B") (Sort (Typ (record { base = 0; atoms = [] })))

abbrev shorter_e2 : Declaration
shorter_e2 = Axiom (codes "C") (Sort (Typ (record { base = 0; atoms = [] })))

abbrev shorter_e3 : Declaration
shorter_e3 = Axiom (codes "f") (Prod (codes "_") (Const 0) (Const 1))

abbrev shorter_e4 : Declaration
shorter_e4 = Axiom (codes "g") (Prod (codes "_") (Const 1) (Const 2))

abbrev shorter_e5 : Declaration
shorter_e5 = Axiom (codes "k") (Prod (codes "_") (Const 0) (Const 2))

abbrev shorter_e6 : Declaration
shorter_e6 = Axiom (codes "a") (Const 0)

abbrev shorter_s7_0_0_3_env : Environment
shorter_s7_0_0_3_env = record { entries = shorter_e0 ∷ shorter_e1 ∷ shorter_e2 ∷ shorter_e3 ∷ shorter_e4 ∷ shorter_e5 ∷ shorter_e6 ∷ []; names = []; below = [] }

abbrev shorter_s7_0_0_3 : Setting
shorter_s7_0_0_3 = record { env = shorter_s7_0_0_3_env; hints = []; coercions = coercions shorter_s7_0_0_3_env (codes "f" ∷ codes "g" ∷ codes "k" ∷ []) }

-- `definition c : C ≝ a.`
shorter_10 : charges (definition shorter_s7_0_0_3 163 (codes "c") (Term 178 (raw.Name (codes "C"))) (Term 184 (raw.Name (codes "a")))) 12 ≡ Accepted 0
unfolding refine unify unified infer elimination check check_type convert compared ◌and◌ whd look step fixed is_alike normal_form raised maximum at_most same path height acyclic
shorter_10 = refl

-- ---- no path
abbrev no_path_e0 : Declaration
no_path_e0 = Axiom (codes "A") (Sort (Typ (record { base = 0; atoms = [] })))

abbrev no_path_e1 : Declaration
no_path_e1 = Axiom (codes "B") (Sort (Typ (record { base = 0; atoms = [] })))

abbrev no_path_e2 : Declaration
no_path_e2 = Axiom (codes "C") (Sort (Typ (record { base = 0; atoms = [] })))

abbrev no_path_e3 : Declaration
no_path_e3 = Axiom (codes "D") (Sort (Typ (record { base = 0; atoms = [] })))

abbrev no_path_e4 : Declaration
no_path_e4 = Axiom (codes "f") (Prod (codes "_") (Const 0) (Const 1))

abbrev no_path_e5 : Declaration
no_path_e5 = Axiom (codes "h") (Prod (codes "_") (Const 0) (Const 3))

abbrev no_path_e6 : Declaration
no_path_e6 = Axiom (codes "g") (Prod (codes "_") (Const 1) (Const 2))

abbrev no_path_e7 : Declaration
no_path_e7 = Axiom (codes "k") (Prod (codes "_") (Const 3) (Const 2))

abbrev no_path_e8 : Declaration
no_path_e8 = Axiom (codes "a") (Const 0)

abbrev no_path_s8_0_0_0_env : Environment
no_path_s8_0_0_0_env = record { entries = no_path_e0 ∷ no_path_e1 ∷ no_path_e2 ∷ no_path_e3 ∷ no_path_e4 ∷ no_path_e5 ∷ no_path_e6 ∷ no_path_e7 ∷ []; names = []; below = [] }

abbrev no_path_s8_0_0_0 : Setting
no_path_s8_0_0_0 = record { env = no_path_s8_0_0_0_env; hints = []; coercions = coercions no_path_s8_0_0_0_env ([]) }

-- `axiom a : A.`
no_path_8 : charges (typed_axiom no_path_s8_0_0_0 152 (codes "a") (Term 162 (raw.Name (codes "A")))) 2 ≡ Accepted 0
unfolding refine unify unified infer elimination check check_type convert compared ◌and◌ whd look step fixed is_alike normal_form raised maximum at_most same path height acyclic
no_path_8 = refl

abbrev no_path_s9_0_0_0_env : Environment
no_path_s9_0_0_0_env = record { entries = no_path_e0 ∷ no_path_e1 ∷ no_path_e2 ∷ no_path_e3 ∷ no_path_e4 ∷ no_path_e5 ∷ no_path_e6 ∷ no_path_e7 ∷ no_path_e8 ∷ []; names = []; below = [] }

abbrev no_path_s9_0_0_0 : Setting
no_path_s9_0_0_0 = record { env = no_path_s9_0_0_0_env; hints = []; coercions = coercions no_path_s9_0_0_0_env ([]) }

-- `coercion f.`
no_path_9 : charges (coercion no_path_s9_0_0_0 165 (codes "f")) 0 ≡ Accepted 0
unfolding refine unify unified infer elimination check check_type convert compared ◌and◌ whd look step fixed is_alike normal_form raised maximum at_most same path height acyclic
no_path_9 = refl

abbrev no_path_s9_0_0_1_env : Environment
no_path_s9_0_0_1_env = record { entries = no_path_e0 ∷ no_path_e1 ∷ no_path_e2 ∷ no_path_e3 ∷ no_path_e4 ∷ no_path_e5 ∷ no_path_e6 ∷ no_path_e7 ∷ no_path_e8 ∷ []; names = []; below = [] }

abbrev no_path_s9_0_0_1 : Setting
no_path_s9_0_0_1 = record { env = no_path_s9_0_0_1_env; hints = []; coercions = coercions no_path_s9_0_0_1_env (codes "f" ∷ []) }

-- `coercion h.`
no_path_10 : charges (coercion no_path_s9_0_0_1 177 (codes "h")) 0 ≡ Accepted 0
unfolding refine unify unified infer elimination check check_type convert compared ◌and◌ whd look step fixed is_alike normal_form raised maximum at_most same path height acyclic
no_path_10 = refl

abbrev no_path_s9_0_0_2_env : Environment
no_path_s9_0_0_2_env = record { entries = no_path_e0 ∷ no_path_e1 ∷ no_path_e2 ∷ no_path_e3 ∷ no_path_e4 ∷ no_path_e5 ∷ no_path_e6 ∷ no_path_e7 ∷ no_path_e8 ∷ []; names = []; below = [] }

abbrev no_path_s9_0_0_2 : Setting
no_path_s9_0_0_2 = record { env = no_path_s9_0_0_2_env; hints = []; coercions = coercions no_path_s9_0_0_2_env (codes "f" ∷ codes "h" ∷ []) }

-- `coercion g.`
no_path_11 : charges (coercion no_path_s9_0_0_2 189 (codes "g")) 0 ≡ Accepted 0
unfolding refine unify unified infer elimination check check_type convert compared ◌and◌ whd look step fixed is_alike normal_form raised maximum at_most same path height acyclic
no_path_11 = refl

abbrev no_path_s9_0_0_3_env : Environment
no_path_s9_0_0_3_env = record { entries = no_path_e0 ∷ no_path_e1 ∷ no_path_e2 ∷ no_path_e3 ∷ no_path_e4 ∷ no_path_e5 ∷ no_path_e6 ∷ no_path_e7 ∷ no_path_e8 ∷ []; names = []; below = [] }

abbrev no_path_s9_0_0_3 : Setting
no_path_s9_0_0_3 = record { env = no_path_s9_0_0_3_env; hints = []; coercions = coercions no_path_s9_0_0_3_env (codes "f" ∷ codes "h" ∷ codes "g" ∷ []) }

-- `coercion k.`
no_path_12 : charges (coercion no_path_s9_0_0_3 201 (codes "k")) 0 ≡ Accepted 0
unfolding refine unify unified infer elimination check check_type convert compared ◌and◌ whd look step fixed is_alike normal_form raised maximum at_most same path height acyclic
no_path_12 = refl

abbrev no_path_s9_0_0_4_env : Environment
no_path_s9_0_0_4_env = record { entries = no_path_e0 ∷ no_path_e1 ∷ no_path_e2 ∷ no_path_e3 ∷ no_path_e4 ∷ no_path_e5 ∷ no_path_e6 ∷ no_path_e7 ∷ no_path_e8 ∷ []; names = []; below = [] }

abbrev no_path_s9_0_0_4 : Setting
no_path_s9_0_0_4 = record { env = no_path_s9_0_0_4_env; hints = []; coercions = coercions no_path_s9_0_0_4_env (codes "f" ∷ codes "h" ∷ codes "g" ∷ codes "k" ∷ []) }

-- `definition c : A ≝ k.`
no_path_13 : charges (definition no_path_s9_0_0_4 213 (codes "c") (Term 228 (raw.Name (codes "A"))) (Term 234 (raw.Name (codes "k")))) 3 ≡ Refused (Mismatch [] (Prod (codes "_") (Const 3) (Const 2)) (Const 0) []) 234 0
unfolding refine unify unified infer elimination check check_type convert compared ◌and◌ whd look step fixed is_alike normal_form raised maximum at_most same path height acyclic
no_path_13 = refl

-- ---- one new argument
abbrev one_new_argument_e0 : Declaration
one_new_argument_e0 = Inductive (codes "nat") false 0 (Sort (Typ (record { base = 0; atoms = [] }))) (record { name = codes "O"; ty = Ind 0 } ∷ record { name = codes "S"; ty = Prod (codes "_") (Ind 0) (Ind 0) } ∷ []) true

abbrev one_new_argument_e1 : Declaration
one_new_argument_e1 = Axiom (codes "A") (Sort (Typ (record { base = 0; atoms = [] })))

abbrev one_new_argument_e2 : Declaration
one_new_argument_e2 = Axiom (codes "V") (Prod (codes "_") (Ind 0) (Sort (Typ (record { base = 0; atoms = [] }))))

abbrev one_new_argument_e3 : Declaration
one_new_argument_e3 = Axiom (codes "va") (Prod (codes "n") (Ind 0) (Prod (codes "_") (App (Const 2) (Var 0)) (Const 1)))

abbrev one_new_argument_e4 : Declaration
one_new_argument_e4 = Axiom (codes "v") (App (Const 2) (App (Con 0 1) (Con 0 0)))

abbrev one_new_argument_s1_0_0_0_env : Environment
one_new_argument_s1_0_0_0_env = record { entries = one_new_argument_e0 ∷ []; names = []; below = [] }

abbrev one_new_argument_s1_0_0_0 : Setting
one_new_argument_s1_0_0_0 = record { env = one_new_argument_s1_0_0_0_env; hints = []; coercions = coercions one_new_argument_s1_0_0_0_env ([]) }

-- `axiom A : Type[0].`
one_new_argument_1 : charges (typed_axiom one_new_argument_s1_0_0_0 55 (codes "A") (Term 65 (raw.Sort (raw_sort.Typ (part.Number 0 ∷ []))))) 2 ≡ Accepted 0
unfolding refine unify unified infer elimination check check_type convert compared ◌and◌ whd look step fixed is_alike normal_form raised maximum at_most same path height acyclic
one_new_argument_1 = refl

abbrev one_new_argument_s2_0_0_0_env : Environment
one_new_argument_s2_0_0_0_env = record { entries = one_new_argument_e0 ∷ one_new_argument_e1 ∷ []; names = []; below = [] }

abbrev one_new_argument_s2_0_0_0 : Setting
one_new_argument_s2_0_0_0 = record { env = one_new_argument_s2_0_0_0_env; hints = []; coercions = coercions one_new_argument_s2_0_0_0_env ([]) }

-- `axiom V : nat → Type[0].`
one_new_argument_2 : charges (typed_axiom one_new_argument_s2_0_0_0 74 (codes "V") (Term 84 (raw.Prod (codes "_") (Term 84 (raw.Name (codes "nat"))) (Term 92 (raw.Sort (raw_sort.Typ (part.Number 0 ∷ []))))))) 6 ≡ Accepted 0
unfolding refine unify unified infer elimination check check_type convert compared ◌and◌ whd look step fixed is_alike normal_form raised maximum at_most same path height acyclic
one_new_argument_2 = refl

abbrev one_new_argument_s3_0_0_0_env : Environment
one_new_argument_s3_0_0_0_env = record { entries = one_new_argument_e0 ∷ one_new_argument_e1 ∷ one_new_argument_e2 ∷ []; names = []; below = [] }

abbrev one_new_argument_s3_0_0_0 : Setting
one_new_argument_s3_0_0_0 = record { env = one_new_argument_s3_0_0_0_env; hints = []; coercions = coercions one_new_argument_s3_0_0_0_env ([]) }

-- `axiom va : ∀n:nat.V n → A.`
one_new_argument_3 : charges (typed_axiom one_new_argument_s3_0_0_0 101 (codes "va") (Term 112 (raw.Prod (codes "n") (Term 117 (raw.Name (codes "nat"))) (Term 121 (raw.Prod (codes "_") (Term 121 (raw.App (Term 121 (raw.Name (codes "V"))) (Argument (Term 123 (raw.Name (codes "n"))) NoArgument))) (Term 129 (raw.Name (codes "A")))))))) 16 ≡ Accepted 0
unfolding refine unify unified infer elimination check check_type convert compared ◌and◌ whd look step fixed is_alike normal_form raised maximum at_most same path height acyclic
one_new_argument_3 = refl

abbrev one_new_argument_s4_0_0_0_env : Environment
one_new_argument_s4_0_0_0_env = record { entries = one_new_argument_e0 ∷ one_new_argument_e1 ∷ one_new_argument_e2 ∷ one_new_argument_e3 ∷ []; names = []; below = [] }

abbrev one_new_argument_s4_0_0_0 : Setting
one_new_argument_s4_0_0_0 = record { env = one_new_argument_s4_0_0_0_env; hints = []; coercions = coercions one_new_argument_s4_0_0_0_env ([]) }

-- `axiom v : V (S O).`
one_new_argument_4 : charges (typed_axiom one_new_argument_s4_0_0_0 132 (codes "v") (Term 142 (raw.App (Term 142 (raw.Name (codes "V"))) (Argument (Term 145 (raw.App (Term 145 (raw.Name (codes "S"))) (Argument (Term 147 (raw.Name (codes "O"))) NoArgument))) NoArgument)))) 14 ≡ Accepted 0
unfolding refine unify unified infer elimination check check_type convert compared ◌and◌ whd look step fixed is_alike normal_form raised maximum at_most same path height acyclic
one_new_argument_4 = refl

abbrev one_new_argument_s5_0_0_0_env : Environment
one_new_argument_s5_0_0_0_env = record { entries = one_new_argument_e0 ∷ one_new_argument_e1 ∷ one_new_argument_e2 ∷ one_new_argument_e3 ∷ one_new_argument_e4 ∷ []; names = []; below = [] }

abbrev one_new_argument_s5_0_0_0 : Setting
one_new_argument_s5_0_0_0 = record { env = one_new_argument_s5_0_0_0_env; hints = []; coercions = coercions one_new_argument_s5_0_0_0_env ([]) }

-- `coercion va.`
one_new_argument_5 : charges (coercion one_new_argument_s5_0_0_0 151 (codes "va")) 0 ≡ Accepted 0
unfolding refine unify unified infer elimination check check_type convert compared ◌and◌ whd look step fixed is_alike normal_form raised maximum at_most same path height acyclic
one_new_argument_5 = refl

abbrev one_new_argument_s5_0_0_1_env : Environment
one_new_argument_s5_0_0_1_env = record { entries = one_new_argument_e0 ∷ one_new_argument_e1 ∷ one_new_argument_e2 ∷ one_new_argument_e3 ∷ one_new_argument_e4 ∷ []; names = []; below = [] }

abbrev one_new_argument_s5_0_0_1 : Setting
one_new_argument_s5_0_0_1 = record { env = one_new_argument_s5_0_0_1_env; hints = []; coercions = coercions one_new_argument_s5_0_0_1_env (codes "va" ∷ []) }

-- `definition c : A ≝ v.`
one_new_argument_6 : charges (definition one_new_argument_s5_0_0_1 164 (codes "c") (Term 179 (raw.Name (codes "A"))) (Term 185 (raw.Name (codes "v")))) 26 ≡ Accepted 0
unfolding refine unify unified infer elimination check check_type convert compared ◌and◌ whd look step fixed is_alike normal_form raised maximum at_most same path height acyclic
one_new_argument_6 = refl

-- ---- unfit index
abbrev unfit_index_e0 : Declaration
unfit_index_e0 = Inductive (codes "nat") false 0 (Sort (Typ (record { base = 0; atoms = [] }))) (record { name = codes "O"; ty = Ind 0 } ∷ record { name = codes "S"; ty = Prod (codes "_") (Ind 0) (Ind 0) } ∷ []) true

abbrev unfit_index_e1 : Declaration
unfit_index_e1 = Axiom (codes "A") (Sort (Typ (record { base = 0; atoms = [] })))

abbrev unfit_index_e2 : Declaration
unfit_index_e2 = Axiom (codes "V") (Prod (codes "_") (Ind 0) (Sort (Typ (record { base = 0; atoms = [] }))))

abbrev unfit_index_e3 : Declaration
unfit_index_e3 = Axiom (codes "va") (Prod (codes "_") (App (Const 2) (Con 0 0)) (Const 1))

abbrev unfit_index_e4 : Declaration
unfit_index_e4 = Axiom (codes "v") (App (Const 2) (App (Con 0 1) (Con 0 0)))

abbrev unfit_index_s5_0_0_1_env : Environment
unfit_index_s5_0_0_1_env = record { entries = unfit_index_e0 ∷ unfit_index_e1 ∷ unfit_index_e2 ∷ unfit_index_e3 ∷ unfit_index_e4 ∷ []; names = []; below = [] }

abbrev unfit_index_s5_0_0_1 : Setting
unfit_index_s5_0_0_1 = record { env = unfit_index_s5_0_0_1_env; hints = []; coercions = coercions unfit_index_s5_0_0_1_env (codes "va" ∷ []) }

-- `definition c : A ≝ v.`
unfit_index_6 : charges (definition unfit_index_s5_0_0_1 155 (codes "c") (Term 170 (raw.Name (codes "A"))) (Term 176 (raw.Name (codes "v")))) 7 ≡ Refused (Mismatch [] (App (Const 2) (App (Con 0 1) (Con 0 0))) (Const 1) []) 176 0
unfolding refine unify unified infer elimination check check_type convert compared ◌and◌ whd look step fixed is_alike normal_form raised maximum at_most same path height acyclic
unfit_index_6 = refl

-- ---- shown instance
abbrev shown_instance_e0 : Declaration
shown_instance_e0 = Inductive (codes "nat") false 0 (Sort (Typ (record { base = 0; atoms = [] }))) (record { name = codes "O"; ty = Ind 0 } ∷ record { name = codes "S"; ty = Prod (codes "_") (Ind 0) (Ind 0) } ∷ []) true

abbrev shown_instance_e1 : Declaration
shown_instance_e1 = Inductive (codes "eq") false 2 (Prod (codes "A") (Sort (Typ (record { base = 0; atoms = [] }))) (Prod (codes "x") (Var 0) (Prod (codes "_") (Var 1) (Sort Prop)))) (record { name = codes "refl"; ty = Prod (codes "A") (Sort (Typ (record { base = 0; atoms = [] }))) (Prod (codes "x") (Var 0) (App (App (App (Ind 1) (Var 1)) (Var 0)) (Var 0))) } ∷ []) true

abbrev shown_instance_s2_0_0_0_env : Environment
shown_instance_s2_0_0_0_env = record { entries = shown_instance_e0 ∷ shown_instance_e1 ∷ []; names = []; below = [] }

abbrev shown_instance_s2_0_0_0 : Setting
shown_instance_s2_0_0_0 = record { env = shown_instance_s2_0_0_0_env; hints = []; coercions = coercions shown_instance_s2_0_0_0_env ([]) }

-- `definition d : eq nat O (S O) ≝ refl ? O.`
shown_instance_2 : charges (definition shown_instance_s2_0_0_0 120 (codes "d") (Term 135 (raw.App (Term 135 (raw.Name (codes "eq"))) (Argument (Term 138 (raw.Name (codes "nat"))) (Argument (Term 142 (raw.Name (codes "O"))) (Argument (Term 145 (raw.App (Term 145 (raw.Name (codes "S"))) (Argument (Term 147 (raw.Name (codes "O"))) NoArgument))) NoArgument))))) (Term 154 (raw.App (Term 154 (raw.Name (codes "refl"))) (Argument (Term 159 (raw.Hole)) (Argument (Term 161 (raw.Name (codes "O"))) NoArgument))))) 27 ≡ Refused (Mismatch [] (App (App (App (Ind 1) (Ind 0)) (Con 0 0)) (Con 0 0)) (App (App (App (Ind 1) (Ind 0)) (Con 0 0)) (App (Con 0 1) (Con 0 0))) []) 154 0
unfolding refine unify unified infer elimination check check_type convert compared ◌and◌ whd look step fixed is_alike normal_form raised maximum at_most same path height acyclic
shown_instance_2 = refl

-- ---- both heads
abbrev both_heads_e0 : Declaration
both_heads_e0 = Axiom (codes "A") (Sort Prop)

abbrev both_heads_e1 : Declaration
both_heads_e1 = Axiom (codes "f") (Prod (codes "_") (Const 0) (Const 0))

abbrev both_heads_e2 : Declaration
both_heads_e2 = Definition (codes "P") (Sort (Typ (record { base = 0; atoms = [] }))) (Sort Prop)

abbrev both_heads_s0_0_0_0_env : Environment
both_heads_s0_0_0_0_env = record { entries = []; names = []; below = [] }

abbrev both_heads_s0_0_0_0 : Setting
both_heads_s0_0_0_0 = record { env = both_heads_s0_0_0_0_env; hints = []; coercions = coercions both_heads_s0_0_0_0_env ([]) }

-- `axiom A : Prop.`
both_heads_0 : charges (typed_axiom both_heads_s0_0_0_0 0 (codes "A") (Term 10 (raw.Sort raw_sort.Prop))) 2 ≡ Accepted 0
unfolding refine unify unified infer elimination check check_type convert compared ◌and◌ whd look step fixed is_alike normal_form raised maximum at_most same path height acyclic
both_heads_0 = refl

abbrev both_heads_s1_0_0_0_env : Environment
both_heads_s1_0_0_0_env = record { entries = both_heads_e0 ∷ []; names = []; below = [] }

abbrev both_heads_s1_0_0_0 : Setting
both_heads_s1_0_0_0 = record { env = both_heads_s1_0_0_0_env; hints = []; coercions = coercions both_heads_s1_0_0_0_env ([]) }

-- `axiom f : A → A.`
both_heads_1 : charges (typed_axiom both_heads_s1_0_0_0 16 (codes "f") (Term 26 (raw.Prod (codes "_") (Term 26 (raw.Name (codes "A"))) (Term 32 (raw.Name (codes "A")))))) 6 ≡ Accepted 0
unfolding refine unify unified infer elimination check check_type convert compared ◌and◌ whd look step fixed is_alike normal_form raised maximum at_most same path height acyclic
both_heads_1 = refl

abbrev both_heads_s2_0_0_0_env : Environment
both_heads_s2_0_0_0_env = record { entries = both_heads_e0 ∷ both_heads_e1 ∷ []; names = []; below = [] }

abbrev both_heads_s2_0_0_0 : Setting
both_heads_s2_0_0_0 = record { env = both_heads_s2_0_0_0_env; hints = []; coercions = coercions both_heads_s2_0_0_0_env ([]) }

-- `definition P : Type[0] ≝ Prop.`
both_heads_2 : charges (definition both_heads_s2_0_0_0 35 (codes "P") (Term 50 (raw.Sort (raw_sort.Typ (part.Number 0 ∷ [])))) (Term 62 (raw.Sort raw_sort.Prop))) 6 ≡ Accepted 0
unfolding refine unify unified infer elimination check check_type convert compared ◌and◌ whd look step fixed is_alike normal_form raised maximum at_most same path height acyclic
both_heads_2 = refl

abbrev both_heads_s3_0_0_0_env : Environment
both_heads_s3_0_0_0_env = record { entries = both_heads_e0 ∷ both_heads_e1 ∷ both_heads_e2 ∷ []; names = []; below = [] }

abbrev both_heads_s3_0_0_0 : Setting
both_heads_s3_0_0_0 = record { env = both_heads_s3_0_0_0_env; hints = []; coercions = coercions both_heads_s3_0_0_0_env ([]) }

-- `definition b : P ≝ f.`
both_heads_3 : charges (definition both_heads_s3_0_0_0 68 (codes "b") (Term 83 (raw.Name (codes "P"))) (Term 89 (raw.Name (codes "f")))) 6 ≡ Refused (Mismatch [] (Prod (codes "_") (Const 0) (Const 0)) (Const 2) []) 89 0
unfolding refine unify unified infer elimination check check_type convert compared ◌and◌ whd look step fixed is_alike normal_form raised maximum at_most same path height acyclic
both_heads_3 = refl

-- ---- equal heads
abbrev equal_heads_e0 : Declaration
equal_heads_e0 = Axiom (codes "A") (Sort (Typ (record { base = 0; atoms = [] })))

abbrev equal_heads_e1 : Declaration
equal_heads_e1 = Axiom (codes "f") (Prod (codes "_") (Const 0) (Const 0))

abbrev equal_heads_s0_0_0_0_env : Environment
equal_heads_s0_0_0_0_env = record { entries = []; names = []; below = [] }

abbrev equal_heads_s0_0_0_0 : Setting
equal_heads_s0_0_0_0 = record { env = equal_heads_s0_0_0_0_env; hints = []; coercions = coercions equal_heads_s0_0_0_0_env ([]) }

-- `axiom A : Type[0].`
equal_heads_0 : charges (typed_axiom equal_heads_s0_0_0_0 0 (codes "A") (Term 10 (raw.Sort (raw_sort.Typ (part.Number 0 ∷ []))))) 2 ≡ Accepted 0
unfolding refine unify unified infer elimination check check_type convert compared ◌and◌ whd look step fixed is_alike normal_form raised maximum at_most same path height acyclic
equal_heads_0 = refl

abbrev equal_heads_s1_0_0_0_env : Environment
equal_heads_s1_0_0_0_env = record { entries = equal_heads_e0 ∷ []; names = []; below = [] }

abbrev equal_heads_s1_0_0_0 : Setting
equal_heads_s1_0_0_0 = record { env = equal_heads_s1_0_0_0_env; hints = []; coercions = coercions equal_heads_s1_0_0_0_env ([]) }

-- `axiom f : A → A.`
equal_heads_1 : charges (typed_axiom equal_heads_s1_0_0_0 19 (codes "f") (Term 29 (raw.Prod (codes "_") (Term 29 (raw.Name (codes "A"))) (Term 35 (raw.Name (codes "A")))))) 6 ≡ Accepted 0
unfolding refine unify unified infer elimination check check_type convert compared ◌and◌ whd look step fixed is_alike normal_form raised maximum at_most same path height acyclic
equal_heads_1 = refl

abbrev equal_heads_s2_0_0_0_env : Environment
equal_heads_s2_0_0_0_env = record { entries = equal_heads_e0 ∷ equal_heads_e1 ∷ []; names = []; below = [] }

abbrev equal_heads_s2_0_0_0 : Setting
equal_heads_s2_0_0_0 = record { env = equal_heads_s2_0_0_0_env; hints = []; coercions = coercions equal_heads_s2_0_0_0_env ([]) }

-- `coercion f.`
equal_heads_2 : charges (coercion equal_heads_s2_0_0_0 38 (codes "f")) 0 ≡ Refused BadCoercion 38 0
unfolding refine unify unified infer elimination check check_type convert compared ◌and◌ whd look step fixed is_alike normal_form raised maximum at_most same path height acyclic
equal_heads_2 = refl

-- ---- argument shown
abbrev argument_shown_e0 : Declaration
argument_shown_e0 = Inductive (codes "nat") false 0 (Sort (Typ (record { base = 0; atoms = [] }))) (record { name = codes "O"; ty = Ind 0 } ∷ record { name = codes "S"; ty = Prod (codes "_") (Ind 0) (Ind 0) } ∷ []) true

abbrev argument_shown_e1 : Declaration
argument_shown_e1 = Inductive (codes "eq") false 2 (Prod (codes "A") (Sort (Typ (record { base = 0; atoms = [] }))) (Prod (codes "x") (Var 0) (Prod (codes "_") (Var 1) (Sort Prop)))) (record { name = codes "refl"; ty = Prod (codes "A") (Sort (Typ (record { base = 0; atoms = [] }))) (Prod (codes "x") (Var 0) (App (App (App (Ind 1) (Var 1)) (Var 0)) (Var 0))) } ∷ []) true

abbrev argument_shown_e2 : Declaration
argument_shown_e2 = Axiom (codes "g") (Prod (codes "n") (Ind 0) (Prod (codes "_") (App (App (App (Ind 1) (Ind 0)) (Var 0)) (Con 0 0)) (Prod (codes "_") (App (App (App (Ind 1) (Ind 0)) (Var 1)) (App (Con 0 1) (Var 1))) (Sort Prop))))

abbrev argument_shown_s2_0_0_0_env : Environment
argument_shown_s2_0_0_0_env = record { entries = argument_shown_e0 ∷ argument_shown_e1 ∷ []; names = []; below = [] }

abbrev argument_shown_s2_0_0_0 : Setting
argument_shown_s2_0_0_0 = record { env = argument_shown_s2_0_0_0_env; hints = []; coercions = coercions argument_shown_s2_0_0_0_env ([]) }

-- `axiom g : ∀n:nat.eq nat n O → eq nat n (S n) → Prop.`
argument_shown_2 : charges (typed_axiom argument_shown_s2_0_0_0 120 (codes "g") (Term 130 (raw.Prod (codes "n") (Term 135 (raw.Name (codes "nat"))) (Term 139 (raw.Prod (codes "_") (Term 139 (raw.App (Term 139 (raw.Name (codes "eq"))) (Argument (Term 142 (raw.Name (codes "nat"))) (Argument (Term 146 (raw.Name (codes "n"))) (Argument (Term 148 (raw.Name (codes "O"))) NoArgument))))) (Term 154 (raw.Prod (codes "_") (Term 154 (raw.App (Term 154 (raw.Name (codes "eq"))) (Argument (Term 157 (raw.Name (codes "nat"))) (Argument (Term 161 (raw.Name (codes "n"))) (Argument (Term 164 (raw.App (Term 164 (raw.Name (codes "S"))) (Argument (Term 166 (raw.Name (codes "n"))) NoArgument))) NoArgument))))) (Term 173 (raw.Sort raw_sort.Prop))))))))) 52 ≡ Accepted 0
unfolding refine unify unified infer elimination check check_type convert compared ◌and◌ whd look step fixed is_alike normal_form raised maximum at_most same path height acyclic
argument_shown_2 = refl

abbrev argument_shown_s3_0_0_0_env : Environment
argument_shown_s3_0_0_0_env = record { entries = argument_shown_e0 ∷ argument_shown_e1 ∷ argument_shown_e2 ∷ []; names = []; below = [] }

abbrev argument_shown_s3_0_0_0 : Setting
argument_shown_s3_0_0_0 = record { env = argument_shown_s3_0_0_0_env; hints = []; coercions = coercions argument_shown_s3_0_0_0_env ([]) }

-- `definition d ≝ g ? (refl nat O) (refl nat O).`
argument_shown_3 : charges (untyped argument_shown_s3_0_0_0 179 (codes "d") (Term 196 (raw.App (Term 196 (raw.Name (codes "g"))) (Argument (Term 198 (raw.Hole)) (Argument (Term 201 (raw.App (Term 201 (raw.Name (codes "refl"))) (Argument (Term 206 (raw.Name (codes "nat"))) (Argument (Term 210 (raw.Name (codes "O"))) NoArgument)))) (Argument (Term 214 (raw.App (Term 214 (raw.Name (codes "refl"))) (Argument (Term 219 (raw.Name (codes "nat"))) (Argument (Term 223 (raw.Name (codes "O"))) NoArgument)))) NoArgument)))))) 29 ≡ Refused (Mismatch [] (App (App (App (Ind 1) (Ind 0)) (Con 0 0)) (Con 0 0)) (App (App (App (Ind 1) (Ind 0)) (Con 0 0)) (App (Con 0 1) (Con 0 0))) []) 214 0
unfolding refine unify unified infer elimination check check_type convert compared ◌and◌ whd look step fixed is_alike normal_form raised maximum at_most same path height acyclic
argument_shown_3 = refl

-- ---- domain shown
abbrev domain_shown_e0 : Declaration
domain_shown_e0 = Inductive (codes "nat") false 0 (Sort (Typ (record { base = 0; atoms = [] }))) (record { name = codes "O"; ty = Ind 0 } ∷ record { name = codes "S"; ty = Prod (codes "_") (Ind 0) (Ind 0) } ∷ []) true

abbrev domain_shown_e1 : Declaration
domain_shown_e1 = Inductive (codes "eq") false 2 (Prod (codes "A") (Sort (Typ (record { base = 0; atoms = [] }))) (Prod (codes "x") (Var 0) (Prod (codes "_") (Var 1) (Sort Prop)))) (record { name = codes "refl"; ty = Prod (codes "A") (Sort (Typ (record { base = 0; atoms = [] }))) (Prod (codes "x") (Var 0) (App (App (App (Ind 1) (Var 1)) (Var 0)) (Var 0))) } ∷ []) true

abbrev domain_shown_e2 : Declaration
domain_shown_e2 = Axiom (codes "h") (Prod (codes "n") (Ind 0) (Prod (codes "_") (App (App (App (Ind 1) (Ind 0)) (Var 0)) (Con 0 0)) (Prod (codes "_") (Prod (codes "x") (App (App (App (Ind 1) (Ind 0)) (Var 1)) (Var 1)) (Ind 0)) (Sort Prop))))

abbrev domain_shown_s2_0_0_0_env : Environment
domain_shown_s2_0_0_0_env = record { entries = domain_shown_e0 ∷ domain_shown_e1 ∷ []; names = []; below = [] }

abbrev domain_shown_s2_0_0_0 : Setting
domain_shown_s2_0_0_0 = record { env = domain_shown_s2_0_0_0_env; hints = []; coercions = coercions domain_shown_s2_0_0_0_env ([]) }

-- `axiom h : ∀n:nat.eq nat n O → (∀x:eq nat n n.nat) → Prop.`
domain_shown_2 : charges (typed_axiom domain_shown_s2_0_0_0 120 (codes "h") (Term 130 (raw.Prod (codes "n") (Term 135 (raw.Name (codes "nat"))) (Term 139 (raw.Prod (codes "_") (Term 139 (raw.App (Term 139 (raw.Name (codes "eq"))) (Argument (Term 142 (raw.Name (codes "nat"))) (Argument (Term 146 (raw.Name (codes "n"))) (Argument (Term 148 (raw.Name (codes "O"))) NoArgument))))) (Term 154 (raw.Prod (codes "_") (Term 155 (raw.Prod (codes "x") (Term 160 (raw.App (Term 160 (raw.Name (codes "eq"))) (Argument (Term 163 (raw.Name (codes "nat"))) (Argument (Term 167 (raw.Name (codes "n"))) (Argument (Term 169 (raw.Name (codes "n"))) NoArgument))))) (Term 171 (raw.Name (codes "nat"))))) (Term 180 (raw.Sort raw_sort.Prop))))))))) 50 ≡ Accepted 0
unfolding refine unify unified infer elimination check check_type convert compared ◌and◌ whd look step fixed is_alike normal_form raised maximum at_most same path height acyclic
domain_shown_2 = refl

abbrev domain_shown_s3_0_0_0_env : Environment
domain_shown_s3_0_0_0_env = record { entries = domain_shown_e0 ∷ domain_shown_e1 ∷ domain_shown_e2 ∷ []; names = []; below = [] }

abbrev domain_shown_s3_0_0_0 : Setting
domain_shown_s3_0_0_0 = record { env = domain_shown_s3_0_0_0_env; hints = []; coercions = coercions domain_shown_s3_0_0_0_env ([]) }

-- `definition d ≝ h ? (refl nat O) (λx:nat.x).`
domain_shown_3 : charges (untyped domain_shown_s3_0_0_0 186 (codes "d") (Term 203 (raw.App (Term 203 (raw.Name (codes "h"))) (Argument (Term 205 (raw.Hole)) (Argument (Term 208 (raw.App (Term 208 (raw.Name (codes "refl"))) (Argument (Term 213 (raw.Name (codes "nat"))) (Argument (Term 217 (raw.Name (codes "O"))) NoArgument)))) (Argument (Term 221 (raw.Lam (codes "x") (Given (Term 225 (raw.Name (codes "nat")))) (Term 229 (raw.Name (codes "x"))))) NoArgument)))))) 19 ≡ Refused (Mismatch [] (Ind 0) (App (App (App (Ind 1) (Ind 0)) (Con 0 0)) (Con 0 0)) []) 225 0
unfolding refine unify unified infer elimination check check_type convert compared ◌and◌ whd look step fixed is_alike normal_form raised maximum at_most same path height acyclic
domain_shown_3 = refl

-- ---- motive shown
abbrev motive_shown_e0 : Declaration
motive_shown_e0 = Inductive (codes "nat") false 0 (Sort (Typ (record { base = 0; atoms = [] }))) (record { name = codes "O"; ty = Ind 0 } ∷ record { name = codes "S"; ty = Prod (codes "_") (Ind 0) (Ind 0) } ∷ []) true

abbrev motive_shown_e1 : Declaration
motive_shown_e1 = Inductive (codes "eq") false 2 (Prod (codes "A") (Sort (Typ (record { base = 0; atoms = [] }))) (Prod (codes "x") (Var 0) (Prod (codes "_") (Var 1) (Sort Prop)))) (record { name = codes "refl"; ty = Prod (codes "A") (Sort (Typ (record { base = 0; atoms = [] }))) (Prod (codes "x") (Var 0) (App (App (App (Ind 1) (Var 1)) (Var 0)) (Var 0))) } ∷ []) true

abbrev motive_shown_e2 : Declaration
motive_shown_e2 = Axiom (codes "V") (Prod (codes "n") (Ind 0) (Prod (codes "_") (App (App (App (Ind 1) (Ind 0)) (Var 0)) (Con 0 0)) (Prod (codes "_") (Ind 0) (Sort (Typ (record { base = 0; atoms = [] }))))))

abbrev motive_shown_s2_0_0_0_env : Environment
motive_shown_s2_0_0_0_env = record { entries = motive_shown_e0 ∷ motive_shown_e1 ∷ []; names = []; below = [] }

abbrev motive_shown_s2_0_0_0 : Setting
motive_shown_s2_0_0_0 = record { env = motive_shown_s2_0_0_0_env; hints = []; coercions = coercions motive_shown_s2_0_0_0_env ([]) }

-- `axiom V : ∀n:nat.eq nat n O → nat → Type[0].`
motive_shown_2 : charges (typed_axiom motive_shown_s2_0_0_0 120 (codes "V") (Term 130 (raw.Prod (codes "n") (Term 135 (raw.Name (codes "nat"))) (Term 139 (raw.Prod (codes "_") (Term 139 (raw.App (Term 139 (raw.Name (codes "eq"))) (Argument (Term 142 (raw.Name (codes "nat"))) (Argument (Term 146 (raw.Name (codes "n"))) (Argument (Term 148 (raw.Name (codes "O"))) NoArgument))))) (Term 154 (raw.Prod (codes "_") (Term 154 (raw.Name (codes "nat"))) (Term 162 (raw.Sort (raw_sort.Typ (part.Number 0 ∷ []))))))))))) 30 ≡ Accepted 0
unfolding refine unify unified infer elimination check check_type convert compared ◌and◌ whd look step fixed is_alike normal_form raised maximum at_most same path height acyclic
motive_shown_2 = refl

abbrev motive_shown_s3_0_0_0_env : Environment
motive_shown_s3_0_0_0_env = record { entries = motive_shown_e0 ∷ motive_shown_e1 ∷ motive_shown_e2 ∷ []; names = []; below = [] }

abbrev motive_shown_s3_0_0_0 : Setting
motive_shown_s3_0_0_0 = record { env = motive_shown_s3_0_0_0_env; hints = []; coercions = coercions motive_shown_s3_0_0_0_env ([]) }

-- `definition d ≝ λy:nat.match y return (λz:V ? (refl nat O) y.nat) with [ O ⇒ O | S p ⇒ p ].`
motive_shown_3 : charges (untyped motive_shown_s3_0_0_0 171 (codes "d") (Term 188 (raw.Lam (codes "y") (Given (Term 192 (raw.Name (codes "nat")))) (Term 196 (raw.Match (Term 202 (raw.Name (codes "y"))) (Given (Term 212 (raw.Lam (codes "z") (Given (Term 216 (raw.App (Term 216 (raw.Name (codes "V"))) (Argument (Term 218 (raw.Hole)) (Argument (Term 221 (raw.App (Term 221 (raw.Name (codes "refl"))) (Argument (Term 226 (raw.Name (codes "nat"))) (Argument (Term 230 (raw.Name (codes "O"))) NoArgument)))) (Argument (Term 233 (raw.Name (codes "y"))) NoArgument)))))) (Term 235 (raw.Name (codes "nat")))))) (Case (codes "O") ([]) (Term 253 (raw.Name (codes "O"))) (Case (codes "S") (codes "p" ∷ []) (Term 265 (raw.Name (codes "p"))) (NoCase)))))))) 49 ≡ Refused (Mismatch (record { name = codes "y"; ty = Ind 0 } ∷ []) (App (App (App (Const 2) (Con 0 0)) (App (App (Con 1 0) (Ind 0)) (Con 0 0))) (Var 0)) (Ind 0) []) 196 0
unfolding refine unify unified infer elimination check check_type convert compared ◌and◌ whd look step fixed is_alike normal_form raised maximum at_most same path height acyclic
motive_shown_3 = refl
