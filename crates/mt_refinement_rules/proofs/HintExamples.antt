-- Hints in whole units: what they answer, and what they cost.
use Rattle.std.specs.Prelude.{◌≡◌, refl, [], ◌∷◌, true, false, codes}
use Rattle.mt_term.specs.Trees.{Var, Sort, Prod, Lam, App, Const, Ind, Con, Match, Meta, End, NoArm, Arm}
use Rattle.mt_term.specs.Declarations.{Declaration, Axiom, Definition, Inductive, Recursive, Environment}
use Rattle.mt_term.specs.Reasons.{Mismatch, BadHint}
use Rattle.mt_rules.specs.Knot.{fixed}
use Rattle.mt_term.specs.Alike.{is_alike}
use Rattle.mt_term.specs.UniverseForms.{normal_form, raised, maximum}
use Rattle.mt_term.specs.UniverseOrder.{at_most, same, path, height, acyclic}
use Rattle.mt_rules.specs.WeakHead.{whd, look, step}
use Rattle.mt_rules.specs.Comparison.{compared, convert, ◌and◌}
use Rattle.mt_rules.specs.Inference.{infer, elimination}
use Rattle.mt_rules.specs.KernelCheck.{check_type, check}
use Rattle.mt_term.specs.States.{Hint}
use Rattle.mt_term.specs.declared.universes.Sort.TheVariants.{Prop, Typ}
use Rattle.mt_unification_rules.specs.Unification.{unified, unify}
use Rattle.mt_term_parser.specs.declared.raw.Part.TheVariants as part
use Rattle.mt_term_parser.specs.declared.raw.RawSort.TheVariants as raw_sort
use Rattle.mt_term_parser.specs.Written as raw
use Rattle.mt_term_parser.specs.Written.{Written, Term, Absent, Given, NoArgument, Argument, NoCase, Case}
use Rattle.mt_refinement_rules.specs.Settings.{Setting}
use Rattle.mt_refinement_rules.specs.Refinement.{refine}
use Rattle.mt_refinement_rules.proofs.Units.{Accepted, Refused, Spent, charges, typed_axiom, definition, hint, goal, coercions}

-- ---- hint refused
abbrev hint_refused_e0 : Declaration
hint_refused_e0 = Inductive (codes "group") false 0 (Sort (Typ (record { base = 1; atoms = [] }))) (record { name = codes "mk"; ty = Prod (codes "_") (Sort (Typ (record { base = 0; atoms = [] }))) (Ind 0) } ∷ []) true

abbrev hint_refused_e1 : Declaration
hint_refused_e1 = Definition (codes "carrier") (Prod (codes "_") (Ind 0) (Sort (Typ (record { base = 0; atoms = [] })))) (Lam (codes "g") (Ind 0) (Match 0 (Lam (codes "g") (Ind 0) (Sort (Typ (record { base = 0; atoms = [] })))) (Var 0) (Arm (codes "c" ∷ []) (Var 0) (NoArm))))

abbrev hint_refused_e2 : Declaration
hint_refused_e2 = Axiom (codes "Z") (Sort (Typ (record { base = 0; atoms = [] })))

abbrev hint_refused_e3 : Declaration
hint_refused_e3 = Axiom (codes "z") (Const 2)

abbrev hint_refused_e4 : Declaration
hint_refused_e4 = Definition (codes "Zg") (Ind 0) (App (Con 0 0) (Const 2))

abbrev hint_refused_e5 : Declaration
hint_refused_e5 = Axiom (codes "op") (Prod (codes "g") (Ind 0) (Prod (codes "_") (App (Const 1) (Var 0)) (App (Const 1) (Var 1))))

abbrev hint_refused_s4_0_0_0_env : Environment
hint_refused_s4_0_0_0_env = record { entries = hint_refused_e0 ∷ hint_refused_e1 ∷ hint_refused_e2 ∷ hint_refused_e3 ∷ []; names = []; below = [] }

abbrev hint_refused_s4_0_0_0 : Setting
hint_refused_s4_0_0_0 = record { env = hint_refused_s4_0_0_0_env; hints = []; coercions = coercions hint_refused_s4_0_0_0_env ([]) }

-- `definition Zg : group ≝ mk Z.`
hint_refused_4 : charges (definition hint_refused_s4_0_0_0 193 (codes "Zg") (Term 209 (raw.Name (codes "group"))) (Term 219 (raw.App (Term 219 (raw.Name (codes "mk"))) (Argument (Term 222 (raw.Name (codes "Z"))) NoArgument)))) 12 ≡ Accepted 0
unfolding refine unify unified infer elimination check check_type convert compared ◌and◌ whd look step fixed is_alike normal_form raised maximum at_most same path height acyclic
hint_refused_4 = refl

abbrev hint_refused_s5_0_0_0_env : Environment
hint_refused_s5_0_0_0_env = record { entries = hint_refused_e0 ∷ hint_refused_e1 ∷ hint_refused_e2 ∷ hint_refused_e3 ∷ hint_refused_e4 ∷ []; names = []; below = [] }

abbrev hint_refused_s5_0_0_0 : Setting
hint_refused_s5_0_0_0 = record { env = hint_refused_s5_0_0_0_env; hints = []; coercions = coercions hint_refused_s5_0_0_0_env ([]) }

-- `axiom op : ∀g:group.carrier g → carrier g.`
hint_refused_5 : charges (typed_axiom hint_refused_s5_0_0_0 225 (codes "op") (Term 236 (raw.Prod (codes "g") (Term 241 (raw.Name (codes "group"))) (Term 247 (raw.Prod (codes "_") (Term 247 (raw.App (Term 247 (raw.Name (codes "carrier"))) (Argument (Term 255 (raw.Name (codes "g"))) NoArgument))) (Term 261 (raw.App (Term 261 (raw.Name (codes "carrier"))) (Argument (Term 269 (raw.Name (codes "g"))) NoArgument)))))))) 22 ≡ Accepted 0
unfolding refine unify unified infer elimination check check_type convert compared ◌and◌ whd look step fixed is_alike normal_form raised maximum at_most same path height acyclic
hint_refused_5 = refl

abbrev hint_refused_s6_0_0_0_env : Environment
hint_refused_s6_0_0_0_env = record { entries = hint_refused_e0 ∷ hint_refused_e1 ∷ hint_refused_e2 ∷ hint_refused_e3 ∷ hint_refused_e4 ∷ hint_refused_e5 ∷ []; names = []; below = [] }

abbrev hint_refused_s6_0_0_0 : Setting
hint_refused_s6_0_0_0 = record { env = hint_refused_s6_0_0_0_env; hints = []; coercions = coercions hint_refused_s6_0_0_0_env ([]) }

-- `unification hint 0 ≔ g:group ⊢ carrier g ≡ Z.`
hint_refused_6 : charges (hint hint_refused_s6_0_0_0 272 0 ((codes "g", Term 297 (raw.Name (codes "group"))) ∷ []) ([]) (Term 307 (raw.App (Term 307 (raw.Name (codes "carrier"))) (Argument (Term 315 (raw.Name (codes "g"))) NoArgument))) (Term 321 (raw.Name (codes "Z")))) 9 ≡ Refused BadHint 272 0
unfolding refine unify unified infer elimination check check_type convert compared ◌and◌ whd look step fixed is_alike normal_form raised maximum at_most same path height acyclic
hint_refused_6 = refl

-- ---- hint used
abbrev hint_used_e0 : Declaration
hint_used_e0 = Inductive (codes "group") false 0 (Sort (Typ (record { base = 1; atoms = [] }))) (record { name = codes "mk"; ty = Prod (codes "_") (Sort (Typ (record { base = 0; atoms = [] }))) (Ind 0) } ∷ []) true

abbrev hint_used_e1 : Declaration
hint_used_e1 = Definition (codes "carrier") (Prod (codes "_") (Ind 0) (Sort (Typ (record { base = 0; atoms = [] })))) (Lam (codes "g") (Ind 0) (Match 0 (Lam (codes "g") (Ind 0) (Sort (Typ (record { base = 0; atoms = [] })))) (Var 0) (Arm (codes "c" ∷ []) (Var 0) (NoArm))))

abbrev hint_used_e2 : Declaration
hint_used_e2 = Axiom (codes "Z") (Sort (Typ (record { base = 0; atoms = [] })))

abbrev hint_used_e3 : Declaration
hint_used_e3 = Axiom (codes "z") (Const 2)

abbrev hint_used_e4 : Declaration
hint_used_e4 = Definition (codes "Zg") (Ind 0) (App (Con 0 0) (Const 2))

abbrev hint_used_e5 : Declaration
hint_used_e5 = Axiom (codes "op") (Prod (codes "g") (Ind 0) (Prod (codes "_") (App (Const 1) (Var 0)) (App (Const 1) (Var 1))))

abbrev hint_used_h0 : Hint
hint_used_h0 = record { precedence = 0; vars = record { name = codes "g"; ty = Ind 0 } ∷ []; eqs = record { place = 0; term = Const 4 } ∷ []; left = App (Const 1) (Var 0); right = Const 2 }

abbrev hint_used_s6_0_0_0_env : Environment
hint_used_s6_0_0_0_env = record { entries = hint_used_e0 ∷ hint_used_e1 ∷ hint_used_e2 ∷ hint_used_e3 ∷ hint_used_e4 ∷ hint_used_e5 ∷ []; names = []; below = [] }

abbrev hint_used_s6_0_0_0 : Setting
hint_used_s6_0_0_0 = record { env = hint_used_s6_0_0_0_env; hints = []; coercions = coercions hint_used_s6_0_0_0_env ([]) }

-- `unification hint 0 ≔ g:group; g ≟ Zg ⊢ carrier g ≡ Z.`
hint_used_6 : charges (hint hint_used_s6_0_0_0 272 0 ((codes "g", Term 297 (raw.Name (codes "group"))) ∷ []) ((codes "g", Term 310 (raw.Name (codes "Zg"))) ∷ []) (Term 317 (raw.App (Term 317 (raw.Name (codes "carrier"))) (Argument (Term 325 (raw.Name (codes "g"))) NoArgument))) (Term 331 (raw.Name (codes "Z")))) 13 ≡ Accepted 0
unfolding refine unify unified infer elimination check check_type convert compared ◌and◌ whd look step fixed is_alike normal_form raised maximum at_most same path height acyclic
hint_used_6 = refl

abbrev hint_used_s6_0_1_0_env : Environment
hint_used_s6_0_1_0_env = record { entries = hint_used_e0 ∷ hint_used_e1 ∷ hint_used_e2 ∷ hint_used_e3 ∷ hint_used_e4 ∷ hint_used_e5 ∷ []; names = []; below = [] }

abbrev hint_used_s6_0_1_0 : Setting
hint_used_s6_0_1_0 = record { env = hint_used_s6_0_1_0_env; hints = hint_used_h0 ∷ []; coercions = coercions hint_used_s6_0_1_0_env ([]) }

-- `definition w : Z ≝ op ? z.`
hint_used_7 : charges (definition hint_used_s6_0_1_0 334 (codes "w") (Term 349 (raw.Name (codes "Z"))) (Term 355 (raw.App (Term 355 (raw.Name (codes "op"))) (Argument (Term 358 (raw.Hole)) (Argument (Term 360 (raw.Name (codes "z"))) NoArgument))))) 48 ≡ Accepted 0
unfolding refine unify unified infer elimination check check_type convert compared ◌and◌ whd look step fixed is_alike normal_form raised maximum at_most same path height acyclic
hint_used_7 = refl

-- ---- no hint
abbrev no_hint_e0 : Declaration
no_hint_e0 = Inductive (codes "group") false 0 (Sort (Typ (record { base = 1; atoms = [] }))) (record { name = codes "mk"; ty = Prod (codes "_") (Sort (Typ (record { base = 0; atoms = [] }))) (Ind 0) } ∷ []) true

abbrev no_hint_e1 : Declaration
no_hint_e1 = Definition (codes "carrier") (Prod (codes "_") (Ind 0) (Sort (Typ (record { base = 0; atoms = [] })))) (Lam (codes "g") (Ind 0) (Match 0 (Lam (codes "g") (Ind 0) (Sort (Typ (record { base = 0; atoms = [] })))) (Var 0) (Arm (codes "c" ∷ []) (Var 0) (NoArm))))

abbrev no_hint_e2 : Declaration
no_hint_e2 = Axiom (codes "Z") (Sort (Typ (record { base = 0; atoms = [] })))

abbrev no_hint_e3 : Declaration
no_hint_e3 = Axiom (codes "z") (Const 2)

abbrev no_hint_e4 : Declaration
no_hint_e4 = Definition (codes "Zg") (Ind 0) (App (Con 0 0) (Const 2))

abbrev no_hint_e5 : Declaration
no_hint_e5 = Axiom (codes "op") (Prod (codes "g") (Ind 0) (Prod (codes "_") (App (Const 1) (Var 0)) (App (Const 1) (Var 1))))

abbrev no_hint_s6_0_0_0_env : Environment
no_hint_s6_0_0_0_env = record { entries = no_hint_e0 ∷ no_hint_e1 ∷ no_hint_e2 ∷ no_hint_e3 ∷ no_hint_e4 ∷ no_hint_e5 ∷ []; names = []; below = [] }

abbrev no_hint_s6_0_0_0 : Setting
no_hint_s6_0_0_0 = record { env = no_hint_s6_0_0_0_env; hints = []; coercions = coercions no_hint_s6_0_0_0_env ([]) }

-- `definition w : Z ≝ op ? z.`
no_hint_6 : charges (definition no_hint_s6_0_0_0 272 (codes "w") (Term 287 (raw.Name (codes "Z"))) (Term 293 (raw.App (Term 293 (raw.Name (codes "op"))) (Argument (Term 296 (raw.Hole)) (Argument (Term 298 (raw.Name (codes "z"))) NoArgument))))) 12 ≡ Refused (Mismatch [] (Const 2) (App (Const 1) (Meta 0 End)) []) 298 0
unfolding refine unify unified infer elimination check check_type convert compared ◌and◌ whd look step fixed is_alike normal_form raised maximum at_most same path height acyclic
no_hint_6 = refl

-- ---- two hints
abbrev two_hints_e0 : Declaration
two_hints_e0 = Inductive (codes "nat") false 0 (Sort (Typ (record { base = 0; atoms = [] }))) (record { name = codes "O"; ty = Ind 0 } ∷ record { name = codes "S"; ty = Prod (codes "_") (Ind 0) (Ind 0) } ∷ []) true

abbrev two_hints_e1 : Declaration
two_hints_e1 = Inductive (codes "eq") false 2 (Prod (codes "A") (Sort (Typ (record { base = 0; atoms = [] }))) (Prod (codes "x") (Var 0) (Prod (codes "_") (Var 1) (Sort Prop)))) (record { name = codes "refl"; ty = Prod (codes "A") (Sort (Typ (record { base = 0; atoms = [] }))) (Prod (codes "x") (Var 0) (App (App (App (Ind 1) (Var 1)) (Var 0)) (Var 0))) } ∷ []) true

abbrev two_hints_e2 : Declaration
two_hints_e2 = Recursive (codes "plus") false 2 0 (Prod (codes "n") (Ind 0) (Prod (codes "m") (Ind 0) (Ind 0))) (Lam (codes "n") (Ind 0) (Lam (codes "m") (Ind 0) (Match 0 (Lam (codes "_") (Ind 0) (Ind 0)) (Var 1) (Arm ([]) (Var 0) (Arm (codes "p" ∷ []) (App (Con 0 1) (App (App (Const 2) (Var 0)) (Var 1))) (NoArm)))))) false

abbrev two_hints_e3 : Declaration
two_hints_e3 = Inductive (codes "group") false 0 (Sort (Typ (record { base = 1; atoms = [] }))) (record { name = codes "mk"; ty = Prod (codes "_") (Sort (Typ (record { base = 0; atoms = [] }))) (Prod (codes "_") (Ind 0) (Ind 3)) } ∷ []) true

abbrev two_hints_e4 : Declaration
two_hints_e4 = Definition (codes "carrier") (Prod (codes "_") (Ind 3) (Sort (Typ (record { base = 0; atoms = [] })))) (Lam (codes "g") (Ind 3) (Match 3 (Lam (codes "g") (Ind 3) (Sort (Typ (record { base = 0; atoms = [] })))) (Var 0) (Arm (codes "c" ∷ codes "n" ∷ []) (Var 1) (NoArm))))

abbrev two_hints_e5 : Declaration
two_hints_e5 = Axiom (codes "Z") (Sort (Typ (record { base = 0; atoms = [] })))

abbrev two_hints_e6 : Declaration
two_hints_e6 = Axiom (codes "z") (Const 5)

abbrev two_hints_e7 : Declaration
two_hints_e7 = Definition (codes "Za") (Ind 3) (App (App (Con 3 0) (Const 5)) (Con 0 0))

abbrev two_hints_e8 : Declaration
two_hints_e8 = Definition (codes "Zb") (Ind 3) (App (App (Con 3 0) (Const 5)) (App (Con 0 1) (Con 0 0)))

abbrev two_hints_e9 : Declaration
two_hints_e9 = Axiom (codes "u") (Prod (codes "_") (App (Const 4) (Const 7)) (Prod (codes "_") (Ind 0) (Const 5)))

abbrev two_hints_h0 : Hint
two_hints_h0 = record { precedence = 0; vars = record { name = codes "g"; ty = Ind 3 } ∷ []; eqs = record { place = 0; term = Const 8 } ∷ []; left = App (Const 4) (Var 0); right = Const 5 }

abbrev two_hints_h1 : Hint
two_hints_h1 = record { precedence = 1; vars = record { name = codes "g"; ty = Ind 3 } ∷ []; eqs = record { place = 0; term = Const 7 } ∷ []; left = App (Const 4) (Var 0); right = Const 5 }

abbrev two_hints_s8_0_0_0_env : Environment
two_hints_s8_0_0_0_env = record { entries = two_hints_e0 ∷ two_hints_e1 ∷ two_hints_e2 ∷ two_hints_e3 ∷ two_hints_e4 ∷ two_hints_e5 ∷ two_hints_e6 ∷ two_hints_e7 ∷ []; names = []; below = [] }

abbrev two_hints_s8_0_0_0 : Setting
two_hints_s8_0_0_0 = record { env = two_hints_s8_0_0_0_env; hints = []; coercions = coercions two_hints_s8_0_0_0_env ([]) }

-- `definition Zb : group ≝ mk Z (S O).`
two_hints_8 : charges (definition two_hints_s8_0_0_0 450 (codes "Zb") (Term 466 (raw.Name (codes "group"))) (Term 476 (raw.App (Term 476 (raw.Name (codes "mk"))) (Argument (Term 479 (raw.Name (codes "Z"))) (Argument (Term 482 (raw.App (Term 482 (raw.Name (codes "S"))) (Argument (Term 484 (raw.Name (codes "O"))) NoArgument))) NoArgument))))) 23 ≡ Accepted 0
unfolding refine unify unified infer elimination check check_type convert compared ◌and◌ whd look step fixed is_alike normal_form raised maximum at_most same path height acyclic
two_hints_8 = refl

abbrev two_hints_s9_0_0_0_env : Environment
two_hints_s9_0_0_0_env = record { entries = two_hints_e0 ∷ two_hints_e1 ∷ two_hints_e2 ∷ two_hints_e3 ∷ two_hints_e4 ∷ two_hints_e5 ∷ two_hints_e6 ∷ two_hints_e7 ∷ two_hints_e8 ∷ []; names = []; below = [] }

abbrev two_hints_s9_0_0_0 : Setting
two_hints_s9_0_0_0 = record { env = two_hints_s9_0_0_0_env; hints = []; coercions = coercions two_hints_s9_0_0_0_env ([]) }

-- `unification hint 0 ≔ g:group; g ≟ Zb ⊢ carrier g ≡ Z.`
two_hints_9 : charges (hint two_hints_s9_0_0_0 488 0 ((codes "g", Term 513 (raw.Name (codes "group"))) ∷ []) ((codes "g", Term 526 (raw.Name (codes "Zb"))) ∷ []) (Term 533 (raw.App (Term 533 (raw.Name (codes "carrier"))) (Argument (Term 541 (raw.Name (codes "g"))) NoArgument))) (Term 547 (raw.Name (codes "Z")))) 13 ≡ Accepted 0
unfolding refine unify unified infer elimination check check_type convert compared ◌and◌ whd look step fixed is_alike normal_form raised maximum at_most same path height acyclic
two_hints_9 = refl

abbrev two_hints_s9_0_1_0_env : Environment
two_hints_s9_0_1_0_env = record { entries = two_hints_e0 ∷ two_hints_e1 ∷ two_hints_e2 ∷ two_hints_e3 ∷ two_hints_e4 ∷ two_hints_e5 ∷ two_hints_e6 ∷ two_hints_e7 ∷ two_hints_e8 ∷ []; names = []; below = [] }

abbrev two_hints_s9_0_1_0 : Setting
two_hints_s9_0_1_0 = record { env = two_hints_s9_0_1_0_env; hints = two_hints_h0 ∷ []; coercions = coercions two_hints_s9_0_1_0_env ([]) }

-- `unification hint 1 ≔ g:group; g ≟ Za ⊢ carrier g ≡ Z.`
two_hints_10 : charges (hint two_hints_s9_0_1_0 550 1 ((codes "g", Term 575 (raw.Name (codes "group"))) ∷ []) ((codes "g", Term 588 (raw.Name (codes "Za"))) ∷ []) (Term 595 (raw.App (Term 595 (raw.Name (codes "carrier"))) (Argument (Term 603 (raw.Name (codes "g"))) NoArgument))) (Term 609 (raw.Name (codes "Z")))) 13 ≡ Accepted 0
unfolding refine unify unified infer elimination check check_type convert compared ◌and◌ whd look step fixed is_alike normal_form raised maximum at_most same path height acyclic
two_hints_10 = refl

abbrev two_hints_s9_0_2_0_env : Environment
two_hints_s9_0_2_0_env = record { entries = two_hints_e0 ∷ two_hints_e1 ∷ two_hints_e2 ∷ two_hints_e3 ∷ two_hints_e4 ∷ two_hints_e5 ∷ two_hints_e6 ∷ two_hints_e7 ∷ two_hints_e8 ∷ []; names = []; below = [] }

abbrev two_hints_s9_0_2_0 : Setting
two_hints_s9_0_2_0 = record { env = two_hints_s9_0_2_0_env; hints = two_hints_h0 ∷ two_hints_h1 ∷ []; coercions = coercions two_hints_s9_0_2_0_env ([]) }

-- `axiom u : carrier Za → nat → Z.`
two_hints_11 : charges (typed_axiom two_hints_s9_0_2_0 612 (codes "u") (Term 622 (raw.Prod (codes "_") (Term 622 (raw.App (Term 622 (raw.Name (codes "carrier"))) (Argument (Term 630 (raw.Name (codes "Za"))) NoArgument))) (Term 637 (raw.Prod (codes "_") (Term 637 (raw.Name (codes "nat"))) (Term 645 (raw.Name (codes "Z")))))))) 16 ≡ Accepted 0
unfolding refine unify unified infer elimination check check_type convert compared ◌and◌ whd look step fixed is_alike normal_form raised maximum at_most same path height acyclic
two_hints_11 = refl

abbrev two_hints_s10_0_2_0_env : Environment
two_hints_s10_0_2_0_env = record { entries = two_hints_e0 ∷ two_hints_e1 ∷ two_hints_e2 ∷ two_hints_e3 ∷ two_hints_e4 ∷ two_hints_e5 ∷ two_hints_e6 ∷ two_hints_e7 ∷ two_hints_e8 ∷ two_hints_e9 ∷ []; names = []; below = [] }

abbrev two_hints_s10_0_2_0 : Setting
two_hints_s10_0_2_0 = record { env = two_hints_s10_0_2_0_env; hints = two_hints_h0 ∷ two_hints_h1 ∷ []; coercions = coercions two_hints_s10_0_2_0_env ([]) }

-- `refine (u z ?)`
two_hints_13 : charges (goal two_hints_s10_0_2_0 663 (Const 5) (Term 671 (raw.App (Term 671 (raw.Name (codes "u"))) (Argument (Term 673 (raw.Name (codes "z"))) (Argument (Term 675 (raw.Hole)) NoArgument))))) 33 ≡ Accepted 0
unfolding refine unify unified infer elimination check check_type convert compared ◌and◌ whd look step fixed is_alike normal_form raised maximum at_most same path height acyclic
two_hints_13 = refl

-- ---- number hint
abbrev number_hint_e0 : Declaration
number_hint_e0 = Inductive (codes "nat") false 0 (Sort (Typ (record { base = 0; atoms = [] }))) (record { name = codes "O"; ty = Ind 0 } ∷ record { name = codes "S"; ty = Prod (codes "_") (Ind 0) (Ind 0) } ∷ []) true

abbrev number_hint_e1 : Declaration
number_hint_e1 = Inductive (codes "eq") false 2 (Prod (codes "A") (Sort (Typ (record { base = 0; atoms = [] }))) (Prod (codes "x") (Var 0) (Prod (codes "_") (Var 1) (Sort Prop)))) (record { name = codes "refl"; ty = Prod (codes "A") (Sort (Typ (record { base = 0; atoms = [] }))) (Prod (codes "x") (Var 0) (App (App (App (Ind 1) (Var 1)) (Var 0)) (Var 0))) } ∷ []) true

abbrev number_hint_e2 : Declaration
number_hint_e2 = Recursive (codes "plus") false 2 0 (Prod (codes "n") (Ind 0) (Prod (codes "m") (Ind 0) (Ind 0))) (Lam (codes "n") (Ind 0) (Lam (codes "m") (Ind 0) (Match 0 (Lam (codes "_") (Ind 0) (Ind 0)) (Var 1) (Arm ([]) (Var 0) (Arm (codes "p" ∷ []) (App (Con 0 1) (App (App (Const 2) (Var 0)) (Var 1))) (NoArm)))))) false

abbrev number_hint_e3 : Declaration
number_hint_e3 = Definition (codes "cst") (Prod (codes "_") (Ind 0) (Ind 0)) (Lam (codes "n") (Ind 0) (Con 0 0))

abbrev number_hint_h0 : Hint
number_hint_h0 = record { precedence = 0; vars = record { name = codes "x"; ty = Ind 0 } ∷ record { name = codes "y"; ty = Ind 0 } ∷ record { name = codes "w"; ty = Ind 0 } ∷ []; eqs = record { place = 2; term = App (App (Const 2) (Var 1)) (Con 0 0) } ∷ []; left = App (Const 3) (Var 2); right = App (Const 3) (Var 1) }

abbrev number_hint_s3_0_0_0_env : Environment
number_hint_s3_0_0_0_env = record { entries = number_hint_e0 ∷ number_hint_e1 ∷ number_hint_e2 ∷ []; names = []; below = [] }

abbrev number_hint_s3_0_0_0 : Setting
number_hint_s3_0_0_0 = record { env = number_hint_s3_0_0_0_env; hints = []; coercions = coercions number_hint_s3_0_0_0_env ([]) }

-- `definition cst : nat → nat ≝ λn:nat.O.`
number_hint_3 : charges (definition number_hint_s3_0_0_0 213 (codes "cst") (Term 230 (raw.Prod (codes "_") (Term 230 (raw.Name (codes "nat"))) (Term 238 (raw.Name (codes "nat"))))) (Term 246 (raw.Lam (codes "n") (Given (Term 250 (raw.Name (codes "nat")))) (Term 254 (raw.Name (codes "O")))))) 15 ≡ Accepted 0
unfolding refine unify unified infer elimination check check_type convert compared ◌and◌ whd look step fixed is_alike normal_form raised maximum at_most same path height acyclic
number_hint_3 = refl

abbrev number_hint_s4_0_0_0_env : Environment
number_hint_s4_0_0_0_env = record { entries = number_hint_e0 ∷ number_hint_e1 ∷ number_hint_e2 ∷ number_hint_e3 ∷ []; names = []; below = [] }

abbrev number_hint_s4_0_0_0 : Setting
number_hint_s4_0_0_0 = record { env = number_hint_s4_0_0_0_env; hints = []; coercions = coercions number_hint_s4_0_0_0_env ([]) }

-- `unification hint 0 ≔ x:nat, y:nat, w:nat; w ≟ plus x O ⊢ cst x ≡ cst y.`
number_hint_4 : charges (hint number_hint_s4_0_0_0 257 0 ((codes "x", Term 282 (raw.Name (codes "nat"))) ∷ (codes "y", Term 289 (raw.Name (codes "nat"))) ∷ (codes "w", Term 296 (raw.Name (codes "nat"))) ∷ []) ((codes "w", Term 307 (raw.App (Term 307 (raw.Name (codes "plus"))) (Argument (Term 312 (raw.Name (codes "x"))) (Argument (Term 314 (raw.Name (codes "O"))) NoArgument)))) ∷ []) (Term 320 (raw.App (Term 320 (raw.Name (codes "cst"))) (Argument (Term 324 (raw.Name (codes "x"))) NoArgument))) (Term 330 (raw.App (Term 330 (raw.Name (codes "cst"))) (Argument (Term 334 (raw.Name (codes "y"))) NoArgument)))) 23 ≡ Accepted 0
unfolding refine unify unified infer elimination check check_type convert compared ◌and◌ whd look step fixed is_alike normal_form raised maximum at_most same path height acyclic
number_hint_4 = refl

abbrev number_hint_s4_0_1_0_env : Environment
number_hint_s4_0_1_0_env = record { entries = number_hint_e0 ∷ number_hint_e1 ∷ number_hint_e2 ∷ number_hint_e3 ∷ []; names = []; below = [] }

abbrev number_hint_s4_0_1_0 : Setting
number_hint_s4_0_1_0 = record { env = number_hint_s4_0_1_0_env; hints = number_hint_h0 ∷ []; coercions = coercions number_hint_s4_0_1_0_env ([]) }

-- `definition e : eq nat (cst (S (S O))) (cst O) ≝ refl nat (cst (S (S O))).`
number_hint_5 : charges (definition number_hint_s4_0_1_0 337 (codes "e") (Term 352 (raw.App (Term 352 (raw.Name (codes "eq"))) (Argument (Term 355 (raw.Name (codes "nat"))) (Argument (Term 360 (raw.App (Term 360 (raw.Name (codes "cst"))) (Argument (Term 365 (raw.App (Term 365 (raw.Name (codes "S"))) (Argument (Term 368 (raw.App (Term 368 (raw.Name (codes "S"))) (Argument (Term 370 (raw.Name (codes "O"))) NoArgument))) NoArgument))) NoArgument))) (Argument (Term 376 (raw.App (Term 376 (raw.Name (codes "cst"))) (Argument (Term 380 (raw.Name (codes "O"))) NoArgument))) NoArgument))))) (Term 387 (raw.App (Term 387 (raw.Name (codes "refl"))) (Argument (Term 392 (raw.Name (codes "nat"))) (Argument (Term 397 (raw.App (Term 397 (raw.Name (codes "cst"))) (Argument (Term 402 (raw.App (Term 402 (raw.Name (codes "S"))) (Argument (Term 405 (raw.App (Term 405 (raw.Name (codes "S"))) (Argument (Term 407 (raw.Name (codes "O"))) NoArgument))) NoArgument))) NoArgument))) NoArgument))))) 118 ≡ Accepted 0
unfolding refine unify unified infer elimination check check_type convert compared ◌and◌ whd look step fixed is_alike normal_form raised maximum at_most same path height acyclic
number_hint_5 = refl

-- ---- open variables
abbrev open_variables_e0 : Declaration
open_variables_e0 = Inductive (codes "nat") false 0 (Sort (Typ (record { base = 0; atoms = [] }))) (record { name = codes "O"; ty = Ind 0 } ∷ record { name = codes "S"; ty = Prod (codes "_") (Ind 0) (Ind 0) } ∷ []) true

abbrev open_variables_e1 : Declaration
open_variables_e1 = Inductive (codes "eq") false 2 (Prod (codes "A") (Sort (Typ (record { base = 0; atoms = [] }))) (Prod (codes "x") (Var 0) (Prod (codes "_") (Var 1) (Sort Prop)))) (record { name = codes "refl"; ty = Prod (codes "A") (Sort (Typ (record { base = 0; atoms = [] }))) (Prod (codes "x") (Var 0) (App (App (App (Ind 1) (Var 1)) (Var 0)) (Var 0))) } ∷ []) true

abbrev open_variables_e2 : Declaration
open_variables_e2 = Recursive (codes "plus") false 2 0 (Prod (codes "n") (Ind 0) (Prod (codes "m") (Ind 0) (Ind 0))) (Lam (codes "n") (Ind 0) (Lam (codes "m") (Ind 0) (Match 0 (Lam (codes "_") (Ind 0) (Ind 0)) (Var 1) (Arm ([]) (Var 0) (Arm (codes "p" ∷ []) (App (Con 0 1) (App (App (Const 2) (Var 0)) (Var 1))) (NoArm)))))) false

abbrev open_variables_e3 : Declaration
open_variables_e3 = Inductive (codes "group") false 0 (Sort (Typ (record { base = 1; atoms = [] }))) (record { name = codes "mk"; ty = Prod (codes "_") (Sort (Typ (record { base = 0; atoms = [] }))) (Prod (codes "_") (Ind 0) (Ind 3)) } ∷ []) true

abbrev open_variables_e4 : Declaration
open_variables_e4 = Definition (codes "carrier") (Prod (codes "_") (Ind 3) (Sort (Typ (record { base = 0; atoms = [] })))) (Lam (codes "g") (Ind 3) (Match 3 (Lam (codes "g") (Ind 3) (Sort (Typ (record { base = 0; atoms = [] })))) (Var 0) (Arm (codes "c" ∷ codes "n" ∷ []) (Var 1) (NoArm))))

abbrev open_variables_e5 : Declaration
open_variables_e5 = Axiom (codes "Y") (Sort (Typ (record { base = 0; atoms = [] })))

abbrev open_variables_e6 : Declaration
open_variables_e6 = Axiom (codes "y0") (Const 5)

abbrev open_variables_e7 : Declaration
open_variables_e7 = Definition (codes "Yg") (Ind 3) (App (App (Con 3 0) (Const 5)) (Con 0 0))

abbrev open_variables_e8 : Declaration
open_variables_e8 = Axiom (codes "op") (Prod (codes "g") (Ind 3) (Prod (codes "_") (App (Const 4) (Var 0)) (Prod (codes "_") (App (Const 4) (Var 1)) (App (Const 4) (Var 2)))))

abbrev open_variables_e9 : Declaration
open_variables_e9 = Definition (codes "cst") (Prod (codes "_") (Ind 0) (Ind 0)) (Lam (codes "n") (Ind 0) (Con 0 0))

abbrev open_variables_h0 : Hint
open_variables_h0 = record { precedence = 0; vars = record { name = codes "x"; ty = Ind 0 } ∷ record { name = codes "y"; ty = Ind 0 } ∷ record { name = codes "w"; ty = Ind 0 } ∷ []; eqs = record { place = 2; term = App (App (Const 2) (Var 1)) (Con 0 0) } ∷ []; left = App (Const 9) (Var 2); right = App (Const 9) (Var 1) }

abbrev open_variables_h1 : Hint
open_variables_h1 = record { precedence = 0; vars = record { name = codes "g"; ty = Ind 3 } ∷ record { name = codes "x"; ty = Ind 0 } ∷ record { name = codes "y"; ty = Ind 0 } ∷ []; eqs = record { place = 2; term = Var 0 } ∷ record { place = 0; term = Const 7 } ∷ []; left = App (Const 4) (Var 2); right = Const 5 }

abbrev open_variables_s4_0_0_0_env : Environment
open_variables_s4_0_0_0_env = record { entries = open_variables_e0 ∷ open_variables_e1 ∷ open_variables_e2 ∷ open_variables_e3 ∷ []; names = []; below = [] }

abbrev open_variables_s4_0_0_0 : Setting
open_variables_s4_0_0_0 = record { env = open_variables_s4_0_0_0_env; hints = []; coercions = coercions open_variables_s4_0_0_0_env ([]) }

-- `definition carrier : group → Type[0] ≝ λg:group.match g return λg:group.Type[0] with [ mk c n ⇒ c ].`
open_variables_4 : charges (definition open_variables_s4_0_0_0 275 (codes "carrier") (Term 296 (raw.Prod (codes "_") (Term 296 (raw.Name (codes "group"))) (Term 306 (raw.Sort (raw_sort.Typ (part.Number 0 ∷ [])))))) (Term 318 (raw.Lam (codes "g") (Given (Term 322 (raw.Name (codes "group")))) (Term 328 (raw.Match (Term 334 (raw.Name (codes "g"))) (Given (Term 343 (raw.Lam (codes "g") (Given (Term 347 (raw.Name (codes "group")))) (Term 353 (raw.Sort (raw_sort.Typ (part.Number 0 ∷ []))))))) (Case (codes "mk") (codes "c" ∷ codes "n" ∷ []) (Term 379 (raw.Name (codes "c"))) (NoCase))))))) 32 ≡ Accepted 0
unfolding refine unify unified infer elimination check check_type convert compared ◌and◌ whd look step fixed is_alike normal_form raised maximum at_most same path height acyclic
open_variables_4 = refl

abbrev open_variables_s5_0_0_0_env : Environment
open_variables_s5_0_0_0_env = record { entries = open_variables_e0 ∷ open_variables_e1 ∷ open_variables_e2 ∷ open_variables_e3 ∷ open_variables_e4 ∷ []; names = []; below = [] }

abbrev open_variables_s5_0_0_0 : Setting
open_variables_s5_0_0_0 = record { env = open_variables_s5_0_0_0_env; hints = []; coercions = coercions open_variables_s5_0_0_0_env ([]) }

-- `axiom Y : Type[0].`
open_variables_5 : charges (typed_axiom open_variables_s5_0_0_0 384 (codes "Y") (Term 394 (raw.Sort (raw_sort.Typ (part.Number 0 ∷ []))))) 2 ≡ Accepted 0
unfolding refine unify unified infer elimination check check_type convert compared ◌and◌ whd look step fixed is_alike normal_form raised maximum at_most same path height acyclic
open_variables_5 = refl

abbrev open_variables_s6_0_0_0_env : Environment
open_variables_s6_0_0_0_env = record { entries = open_variables_e0 ∷ open_variables_e1 ∷ open_variables_e2 ∷ open_variables_e3 ∷ open_variables_e4 ∷ open_variables_e5 ∷ []; names = []; below = [] }

abbrev open_variables_s6_0_0_0 : Setting
open_variables_s6_0_0_0 = record { env = open_variables_s6_0_0_0_env; hints = []; coercions = coercions open_variables_s6_0_0_0_env ([]) }

-- `axiom y0 : Y.`
open_variables_6 : charges (typed_axiom open_variables_s6_0_0_0 403 (codes "y0") (Term 414 (raw.Name (codes "Y")))) 2 ≡ Accepted 0
unfolding refine unify unified infer elimination check check_type convert compared ◌and◌ whd look step fixed is_alike normal_form raised maximum at_most same path height acyclic
open_variables_6 = refl

abbrev open_variables_s7_0_0_0_env : Environment
open_variables_s7_0_0_0_env = record { entries = open_variables_e0 ∷ open_variables_e1 ∷ open_variables_e2 ∷ open_variables_e3 ∷ open_variables_e4 ∷ open_variables_e5 ∷ open_variables_e6 ∷ []; names = []; below = [] }

abbrev open_variables_s7_0_0_0 : Setting
open_variables_s7_0_0_0 = record { env = open_variables_s7_0_0_0_env; hints = []; coercions = coercions open_variables_s7_0_0_0_env ([]) }

-- `definition Yg : group ≝ mk Y O.`
open_variables_7 : charges (definition open_variables_s7_0_0_0 417 (codes "Yg") (Term 433 (raw.Name (codes "group"))) (Term 443 (raw.App (Term 443 (raw.Name (codes "mk"))) (Argument (Term 446 (raw.Name (codes "Y"))) (Argument (Term 448 (raw.Name (codes "O"))) NoArgument))))) 17 ≡ Accepted 0
unfolding refine unify unified infer elimination check check_type convert compared ◌and◌ whd look step fixed is_alike normal_form raised maximum at_most same path height acyclic
open_variables_7 = refl

abbrev open_variables_s8_0_0_0_env : Environment
open_variables_s8_0_0_0_env = record { entries = open_variables_e0 ∷ open_variables_e1 ∷ open_variables_e2 ∷ open_variables_e3 ∷ open_variables_e4 ∷ open_variables_e5 ∷ open_variables_e6 ∷ open_variables_e7 ∷ []; names = []; below = [] }

abbrev open_variables_s8_0_0_0 : Setting
open_variables_s8_0_0_0 = record { env = open_variables_s8_0_0_0_env; hints = []; coercions = coercions open_variables_s8_0_0_0_env ([]) }

-- `axiom op : ∀g:group.carrier g → carrier g → carrier g.`
open_variables_8 : charges (typed_axiom open_variables_s8_0_0_0 451 (codes "op") (Term 462 (raw.Prod (codes "g") (Term 467 (raw.Name (codes "group"))) (Term 473 (raw.Prod (codes "_") (Term 473 (raw.App (Term 473 (raw.Name (codes "carrier"))) (Argument (Term 481 (raw.Name (codes "g"))) NoArgument))) (Term 487 (raw.Prod (codes "_") (Term 487 (raw.App (Term 487 (raw.Name (codes "carrier"))) (Argument (Term 495 (raw.Name (codes "g"))) NoArgument))) (Term 501 (raw.App (Term 501 (raw.Name (codes "carrier"))) (Argument (Term 509 (raw.Name (codes "g"))) NoArgument)))))))))) 32 ≡ Accepted 0
unfolding refine unify unified infer elimination check check_type convert compared ◌and◌ whd look step fixed is_alike normal_form raised maximum at_most same path height acyclic
open_variables_8 = refl

abbrev open_variables_s9_0_0_0_env : Environment
open_variables_s9_0_0_0_env = record { entries = open_variables_e0 ∷ open_variables_e1 ∷ open_variables_e2 ∷ open_variables_e3 ∷ open_variables_e4 ∷ open_variables_e5 ∷ open_variables_e6 ∷ open_variables_e7 ∷ open_variables_e8 ∷ []; names = []; below = [] }

abbrev open_variables_s9_0_0_0 : Setting
open_variables_s9_0_0_0 = record { env = open_variables_s9_0_0_0_env; hints = []; coercions = coercions open_variables_s9_0_0_0_env ([]) }

-- `definition cst : nat → nat ≝ λn:nat.O.`
open_variables_9 : charges (definition open_variables_s9_0_0_0 512 (codes "cst") (Term 529 (raw.Prod (codes "_") (Term 529 (raw.Name (codes "nat"))) (Term 537 (raw.Name (codes "nat"))))) (Term 545 (raw.Lam (codes "n") (Given (Term 549 (raw.Name (codes "nat")))) (Term 553 (raw.Name (codes "O")))))) 15 ≡ Accepted 0
unfolding refine unify unified infer elimination check check_type convert compared ◌and◌ whd look step fixed is_alike normal_form raised maximum at_most same path height acyclic
open_variables_9 = refl

abbrev open_variables_s10_0_0_0_env : Environment
open_variables_s10_0_0_0_env = record { entries = open_variables_e0 ∷ open_variables_e1 ∷ open_variables_e2 ∷ open_variables_e3 ∷ open_variables_e4 ∷ open_variables_e5 ∷ open_variables_e6 ∷ open_variables_e7 ∷ open_variables_e8 ∷ open_variables_e9 ∷ []; names = []; below = [] }

abbrev open_variables_s10_0_0_0 : Setting
open_variables_s10_0_0_0 = record { env = open_variables_s10_0_0_0_env; hints = []; coercions = coercions open_variables_s10_0_0_0_env ([]) }

-- `unification hint 0 ≔ x:nat, y:nat, w:nat; w ≟ plus x O ⊢ cst x ≡ cst y.`
open_variables_10 : charges (hint open_variables_s10_0_0_0 556 0 ((codes "x", Term 581 (raw.Name (codes "nat"))) ∷ (codes "y", Term 588 (raw.Name (codes "nat"))) ∷ (codes "w", Term 595 (raw.Name (codes "nat"))) ∷ []) ((codes "w", Term 606 (raw.App (Term 606 (raw.Name (codes "plus"))) (Argument (Term 611 (raw.Name (codes "x"))) (Argument (Term 613 (raw.Name (codes "O"))) NoArgument)))) ∷ []) (Term 619 (raw.App (Term 619 (raw.Name (codes "cst"))) (Argument (Term 623 (raw.Name (codes "x"))) NoArgument))) (Term 629 (raw.App (Term 629 (raw.Name (codes "cst"))) (Argument (Term 633 (raw.Name (codes "y"))) NoArgument)))) 23 ≡ Accepted 0
unfolding refine unify unified infer elimination check check_type convert compared ◌and◌ whd look step fixed is_alike normal_form raised maximum at_most same path height acyclic
open_variables_10 = refl

abbrev open_variables_s10_0_1_0_env : Environment
open_variables_s10_0_1_0_env = record { entries = open_variables_e0 ∷ open_variables_e1 ∷ open_variables_e2 ∷ open_variables_e3 ∷ open_variables_e4 ∷ open_variables_e5 ∷ open_variables_e6 ∷ open_variables_e7 ∷ open_variables_e8 ∷ open_variables_e9 ∷ []; names = []; below = [] }

abbrev open_variables_s10_0_1_0 : Setting
open_variables_s10_0_1_0 = record { env = open_variables_s10_0_1_0_env; hints = open_variables_h0 ∷ []; coercions = coercions open_variables_s10_0_1_0_env ([]) }

-- `unification hint 0 ≔ g:group, x:nat, y:nat; y ≟ x; g ≟ Yg ⊢ carrier g ≡ Y.`
open_variables_11 : charges (hint open_variables_s10_0_1_0 636 0 ((codes "g", Term 661 (raw.Name (codes "group"))) ∷ (codes "x", Term 670 (raw.Name (codes "nat"))) ∷ (codes "y", Term 677 (raw.Name (codes "nat"))) ∷ []) ((codes "y", Term 688 (raw.Name (codes "x"))) ∷ (codes "g", Term 697 (raw.Name (codes "Yg"))) ∷ []) (Term 704 (raw.App (Term 704 (raw.Name (codes "carrier"))) (Argument (Term 712 (raw.Name (codes "g"))) NoArgument))) (Term 718 (raw.Name (codes "Y")))) 17 ≡ Accepted 0
unfolding refine unify unified infer elimination check check_type convert compared ◌and◌ whd look step fixed is_alike normal_form raised maximum at_most same path height acyclic
open_variables_11 = refl

abbrev open_variables_s10_0_2_0_env : Environment
open_variables_s10_0_2_0_env = record { entries = open_variables_e0 ∷ open_variables_e1 ∷ open_variables_e2 ∷ open_variables_e3 ∷ open_variables_e4 ∷ open_variables_e5 ∷ open_variables_e6 ∷ open_variables_e7 ∷ open_variables_e8 ∷ open_variables_e9 ∷ []; names = []; below = [] }

abbrev open_variables_s10_0_2_0 : Setting
open_variables_s10_0_2_0 = record { env = open_variables_s10_0_2_0_env; hints = open_variables_h0 ∷ open_variables_h1 ∷ []; coercions = coercions open_variables_s10_0_2_0_env ([]) }

-- `refine (op ? ? y0)`
open_variables_13 : charges (goal open_variables_s10_0_2_0 736 (Const 5) (Term 744 (raw.App (Term 744 (raw.Name (codes "op"))) (Argument (Term 747 (raw.Hole)) (Argument (Term 749 (raw.Hole)) (Argument (Term 751 (raw.Name (codes "y0"))) NoArgument)))))) 38 ≡ Accepted 0
unfolding refine unify unified infer elimination check check_type convert compared ◌and◌ whd look step fixed is_alike normal_form raised maximum at_most same path height acyclic
open_variables_13 = refl

-- ---- in binder
abbrev in_binder_e0 : Declaration
in_binder_e0 = Axiom (codes "Z") (Sort (Typ (record { base = 0; atoms = [] })))

abbrev in_binder_e1 : Declaration
in_binder_e1 = Axiom (codes "z") (Const 0)

abbrev in_binder_e2 : Declaration
in_binder_e2 = Definition (codes "f") (Prod (codes "_") (Const 0) (Const 0)) (Lam (codes "x") (Const 0) (Const 1))

abbrev in_binder_e3 : Declaration
in_binder_e3 = Axiom (codes "P") (Prod (codes "_") (Const 0) (Sort Prop))

abbrev in_binder_e4 : Declaration
in_binder_e4 = Axiom (codes "q") (Prod (codes "y") (Const 0) (App (Const 3) (App (Const 2) (Var 0))))

abbrev in_binder_h0 : Hint
in_binder_h0 = record { precedence = 0; vars = record { name = codes "x"; ty = Const 0 } ∷ record { name = codes "y"; ty = Const 0 } ∷ []; eqs = []; left = App (Const 2) (Var 1); right = App (Const 2) (Var 0) }

abbrev in_binder_s3_0_0_0_env : Environment
in_binder_s3_0_0_0_env = record { entries = in_binder_e0 ∷ in_binder_e1 ∷ in_binder_e2 ∷ []; names = []; below = [] }

abbrev in_binder_s3_0_0_0 : Setting
in_binder_s3_0_0_0 = record { env = in_binder_s3_0_0_0_env; hints = []; coercions = coercions in_binder_s3_0_0_0_env ([]) }

-- `unification hint 0 ≔ x:Z, y:Z ⊢ f x ≡ f y.`
in_binder_3 : charges (hint in_binder_s3_0_0_0 68 0 ((codes "x", Term 93 (raw.Name (codes "Z"))) ∷ (codes "y", Term 98 (raw.Name (codes "Z"))) ∷ []) ([]) (Term 104 (raw.App (Term 104 (raw.Name (codes "f"))) (Argument (Term 106 (raw.Name (codes "x"))) NoArgument))) (Term 112 (raw.App (Term 112 (raw.Name (codes "f"))) (Argument (Term 114 (raw.Name (codes "y"))) NoArgument)))) 15 ≡ Accepted 0
unfolding refine unify unified infer elimination check check_type convert compared ◌and◌ whd look step fixed is_alike normal_form raised maximum at_most same path height acyclic
in_binder_3 = refl

abbrev in_binder_s5_0_1_0_env : Environment
in_binder_s5_0_1_0_env = record { entries = in_binder_e0 ∷ in_binder_e1 ∷ in_binder_e2 ∷ in_binder_e3 ∷ in_binder_e4 ∷ []; names = []; below = [] }

abbrev in_binder_s5_0_1_0 : Setting
in_binder_s5_0_1_0 = record { env = in_binder_s5_0_1_0_env; hints = in_binder_h0 ∷ []; coercions = coercions in_binder_s5_0_1_0_env ([]) }

-- `definition d : ∀y:Z.P (f z) ≝ λy:Z.q y.`
in_binder_6 : charges (definition in_binder_s5_0_1_0 165 (codes "d") (Term 180 (raw.Prod (codes "y") (Term 185 (raw.Name (codes "Z"))) (Term 187 (raw.App (Term 187 (raw.Name (codes "P"))) (Argument (Term 190 (raw.App (Term 190 (raw.Name (codes "f"))) (Argument (Term 192 (raw.Name (codes "z"))) NoArgument))) NoArgument))))) (Term 199 (raw.Lam (codes "y") (Given (Term 203 (raw.Name (codes "Z")))) (Term 205 (raw.App (Term 205 (raw.Name (codes "q"))) (Argument (Term 207 (raw.Name (codes "y"))) NoArgument)))))) 55 ≡ Accepted 0
unfolding refine unify unified infer elimination check check_type convert compared ◌and◌ whd look step fixed is_alike normal_form raised maximum at_most same path height acyclic
in_binder_6 = refl

-- ---- under binder
abbrev under_binder_e0 : Declaration
under_binder_e0 = Axiom (codes "Z") (Sort (Typ (record { base = 0; atoms = [] })))

abbrev under_binder_e1 : Declaration
under_binder_e1 = Axiom (codes "z") (Const 0)

abbrev under_binder_e2 : Declaration
under_binder_e2 = Definition (codes "f") (Prod (codes "_") (Const 0) (Const 0)) (Lam (codes "x") (Const 0) (Const 1))

abbrev under_binder_e3 : Declaration
under_binder_e3 = Axiom (codes "P") (Prod (codes "_") (Const 0) (Sort Prop))

abbrev under_binder_e4 : Declaration
under_binder_e4 = Axiom (codes "q") (Prod (codes "y") (Const 0) (App (Const 3) (App (Const 2) (Var 0))))

abbrev under_binder_e5 : Declaration
under_binder_e5 = Axiom (codes "R") (Prod (codes "_") (Prod (codes "_") (Const 0) (Const 0)) (Sort Prop))

abbrev under_binder_e6 : Declaration
under_binder_e6 = Axiom (codes "r") (App (Const 5) (Lam (codes "y") (Const 0) (App (Const 2) (Var 0))))

abbrev under_binder_h0 : Hint
under_binder_h0 = record { precedence = 0; vars = record { name = codes "x"; ty = Const 0 } ∷ record { name = codes "y"; ty = Const 0 } ∷ []; eqs = []; left = App (Const 2) (Var 1); right = App (Const 2) (Var 0) }

abbrev under_binder_s7_0_1_0_env : Environment
under_binder_s7_0_1_0_env = record { entries = under_binder_e0 ∷ under_binder_e1 ∷ under_binder_e2 ∷ under_binder_e3 ∷ under_binder_e4 ∷ under_binder_e5 ∷ under_binder_e6 ∷ []; names = []; below = [] }

abbrev under_binder_s7_0_1_0 : Setting
under_binder_s7_0_1_0 = record { env = under_binder_s7_0_1_0_env; hints = under_binder_h0 ∷ []; coercions = coercions under_binder_s7_0_1_0_env ([]) }

-- `definition d : R (λy:Z.f z) ≝ r.`
under_binder_8 : charges (definition under_binder_s7_0_1_0 220 (codes "d") (Term 235 (raw.App (Term 235 (raw.Name (codes "R"))) (Argument (Term 238 (raw.Lam (codes "y") (Given (Term 242 (raw.Name (codes "Z")))) (Term 244 (raw.App (Term 244 (raw.Name (codes "f"))) (Argument (Term 246 (raw.Name (codes "z"))) NoArgument))))) NoArgument))) (Term 253 (raw.Name (codes "r")))) 47 ≡ Accepted 0
unfolding refine unify unified infer elimination check check_type convert compared ◌and◌ whd look step fixed is_alike normal_form raised maximum at_most same path height acyclic
under_binder_8 = refl

-- ---- same head
abbrev same_head_e0 : Declaration
same_head_e0 = Axiom (codes "Z") (Sort (Typ (record { base = 0; atoms = [] })))

abbrev same_head_e1 : Declaration
same_head_e1 = Axiom (codes "z") (Const 0)

abbrev same_head_e2 : Declaration
same_head_e2 = Definition (codes "f") (Prod (codes "_") (Const 0) (Const 0)) (Lam (codes "x") (Const 0) (Const 1))

abbrev same_head_e3 : Declaration
same_head_e3 = Axiom (codes "P") (Prod (codes "_") (Const 0) (Sort Prop))

abbrev same_head_e4 : Declaration
same_head_e4 = Axiom (codes "q") (Prod (codes "y") (Const 0) (App (Const 3) (App (Const 2) (Var 0))))

abbrev same_head_h0 : Hint
same_head_h0 = record { precedence = 0; vars = record { name = codes "x"; ty = Const 0 } ∷ record { name = codes "y"; ty = Const 0 } ∷ []; eqs = []; left = App (Const 2) (Var 1); right = App (Const 2) (Var 0) }

abbrev same_head_s5_0_1_0_env : Environment
same_head_s5_0_1_0_env = record { entries = same_head_e0 ∷ same_head_e1 ∷ same_head_e2 ∷ same_head_e3 ∷ same_head_e4 ∷ []; names = []; below = [] }

abbrev same_head_s5_0_1_0 : Setting
same_head_s5_0_1_0 = record { env = same_head_s5_0_1_0_env; hints = same_head_h0 ∷ []; coercions = coercions same_head_s5_0_1_0_env ([]) }

-- `definition d : P (f z) ≝ q (f z).`
same_head_6 : charges (definition same_head_s5_0_1_0 165 (codes "d") (Term 180 (raw.App (Term 180 (raw.Name (codes "P"))) (Argument (Term 183 (raw.App (Term 183 (raw.Name (codes "f"))) (Argument (Term 185 (raw.Name (codes "z"))) NoArgument))) NoArgument))) (Term 192 (raw.App (Term 192 (raw.Name (codes "q"))) (Argument (Term 195 (raw.App (Term 195 (raw.Name (codes "f"))) (Argument (Term 197 (raw.Name (codes "z"))) NoArgument))) NoArgument)))) 43 ≡ Accepted 0
unfolding refine unify unified infer elimination check check_type convert compared ◌and◌ whd look step fixed is_alike normal_form raised maximum at_most same path height acyclic
same_head_6 = refl

-- ---- endless
abbrev endless_e0 : Declaration
endless_e0 = Inductive (codes "nat") false 0 (Sort (Typ (record { base = 0; atoms = [] }))) (record { name = codes "O"; ty = Ind 0 } ∷ record { name = codes "S"; ty = Prod (codes "_") (Ind 0) (Ind 0) } ∷ []) true

abbrev endless_e1 : Declaration
endless_e1 = Inductive (codes "eq") false 2 (Prod (codes "A") (Sort (Typ (record { base = 0; atoms = [] }))) (Prod (codes "x") (Var 0) (Prod (codes "_") (Var 1) (Sort Prop)))) (record { name = codes "refl"; ty = Prod (codes "A") (Sort (Typ (record { base = 0; atoms = [] }))) (Prod (codes "x") (Var 0) (App (App (App (Ind 1) (Var 1)) (Var 0)) (Var 0))) } ∷ []) true

abbrev endless_e2 : Declaration
endless_e2 = Definition (codes "cst") (Prod (codes "_") (Ind 0) (Ind 0)) (Lam (codes "n") (Ind 0) (Con 0 0))

abbrev endless_h0 : Hint
endless_h0 = record { precedence = 0; vars = record { name = codes "x"; ty = Ind 0 } ∷ []; eqs = []; left = App (Const 2) (Var 0); right = App (Const 2) (Con 0 0) }

abbrev endless_s3_0_0_0_env : Environment
endless_s3_0_0_0_env = record { entries = endless_e0 ∷ endless_e1 ∷ endless_e2 ∷ []; names = []; below = [] }

abbrev endless_s3_0_0_0 : Setting
endless_s3_0_0_0 = record { env = endless_s3_0_0_0_env; hints = []; coercions = coercions endless_s3_0_0_0_env ([]) }

-- `unification hint 0 ≔ x:nat ⊢ cst x ≡ cst O.`
endless_3 : charges (hint endless_s3_0_0_0 164 0 ((codes "x", Term 189 (raw.Name (codes "nat"))) ∷ []) ([]) (Term 197 (raw.App (Term 197 (raw.Name (codes "cst"))) (Argument (Term 201 (raw.Name (codes "x"))) NoArgument))) (Term 207 (raw.App (Term 207 (raw.Name (codes "cst"))) (Argument (Term 211 (raw.Name (codes "O"))) NoArgument)))) 14 ≡ Accepted 0
unfolding refine unify unified infer elimination check check_type convert compared ◌and◌ whd look step fixed is_alike normal_form raised maximum at_most same path height acyclic
endless_3 = refl

abbrev endless_s3_0_1_0_env : Environment
endless_s3_0_1_0_env = record { entries = endless_e0 ∷ endless_e1 ∷ endless_e2 ∷ []; names = []; below = [] }

abbrev endless_s3_0_1_0 : Setting
endless_s3_0_1_0 = record { env = endless_s3_0_1_0_env; hints = endless_h0 ∷ []; coercions = coercions endless_s3_0_1_0_env ([]) }

-- `definition e : eq nat (cst (S (S O))) (cst (S O)) ≝ refl nat (cst (S (S O))).`
endless_4 : charges (definition endless_s3_0_1_0 214 (codes "e") (Term 229 (raw.App (Term 229 (raw.Name (codes "eq"))) (Argument (Term 232 (raw.Name (codes "nat"))) (Argument (Term 237 (raw.App (Term 237 (raw.Name (codes "cst"))) (Argument (Term 242 (raw.App (Term 242 (raw.Name (codes "S"))) (Argument (Term 245 (raw.App (Term 245 (raw.Name (codes "S"))) (Argument (Term 247 (raw.Name (codes "O"))) NoArgument))) NoArgument))) NoArgument))) (Argument (Term 253 (raw.App (Term 253 (raw.Name (codes "cst"))) (Argument (Term 258 (raw.App (Term 258 (raw.Name (codes "S"))) (Argument (Term 260 (raw.Name (codes "O"))) NoArgument))) NoArgument))) NoArgument))))) (Term 268 (raw.App (Term 268 (raw.Name (codes "refl"))) (Argument (Term 273 (raw.Name (codes "nat"))) (Argument (Term 278 (raw.App (Term 278 (raw.Name (codes "cst"))) (Argument (Term 283 (raw.App (Term 283 (raw.Name (codes "S"))) (Argument (Term 286 (raw.App (Term 286 (raw.Name (codes "S"))) (Argument (Term 288 (raw.Name (codes "O"))) NoArgument))) NoArgument))) NoArgument))) NoArgument))))) 70 ≡ Spent
unfolding refine unify unified infer elimination check check_type convert compared ◌and◌ whd look step fixed is_alike normal_form raised maximum at_most same path height acyclic
endless_4 = refl

-- ---- older first
abbrev older_first_e0 : Declaration
older_first_e0 = Inductive (codes "group") false 0 (Sort (Typ (record { base = 1; atoms = [] }))) (record { name = codes "mk"; ty = Prod (codes "_") (Sort (Typ (record { base = 0; atoms = [] }))) (Ind 0) } ∷ []) true

abbrev older_first_e1 : Declaration
older_first_e1 = Definition (codes "carrier") (Prod (codes "_") (Ind 0) (Sort (Typ (record { base = 0; atoms = [] })))) (Lam (codes "g") (Ind 0) (Match 0 (Lam (codes "g") (Ind 0) (Sort (Typ (record { base = 0; atoms = [] })))) (Var 0) (Arm (codes "c" ∷ []) (Var 0) (NoArm))))

abbrev older_first_e2 : Declaration
older_first_e2 = Axiom (codes "Z") (Sort (Typ (record { base = 0; atoms = [] })))

abbrev older_first_e3 : Declaration
older_first_e3 = Axiom (codes "z") (Const 2)

abbrev older_first_e4 : Declaration
older_first_e4 = Definition (codes "Zg") (Ind 0) (App (Con 0 0) (Const 2))

abbrev older_first_e5 : Declaration
older_first_e5 = Axiom (codes "op") (Prod (codes "g") (Ind 0) (Prod (codes "_") (App (Const 1) (Var 0)) (App (Const 1) (Var 1))))

abbrev older_first_e6 : Declaration
older_first_e6 = Definition (codes "Zh") (Ind 0) (Const 4)

abbrev older_first_e7 : Declaration
older_first_e7 = Axiom (codes "k") (Prod (codes "g") (Ind 0) (Prod (codes "_") (App (Const 1) (Var 0)) (Sort Prop)))

abbrev older_first_h0 : Hint
older_first_h0 = record { precedence = 0; vars = record { name = codes "g"; ty = Ind 0 } ∷ []; eqs = record { place = 0; term = Const 4 } ∷ []; left = App (Const 1) (Var 0); right = Const 2 }

abbrev older_first_h1 : Hint
older_first_h1 = record { precedence = 0; vars = record { name = codes "g"; ty = Ind 0 } ∷ []; eqs = record { place = 0; term = Const 6 } ∷ []; left = App (Const 1) (Var 0); right = Const 2 }

abbrev older_first_s7_0_0_0_env : Environment
older_first_s7_0_0_0_env = record { entries = older_first_e0 ∷ older_first_e1 ∷ older_first_e2 ∷ older_first_e3 ∷ older_first_e4 ∷ older_first_e5 ∷ older_first_e6 ∷ []; names = []; below = [] }

abbrev older_first_s7_0_0_0 : Setting
older_first_s7_0_0_0 = record { env = older_first_s7_0_0_0_env; hints = []; coercions = coercions older_first_s7_0_0_0_env ([]) }

-- `unification hint 0 ≔ g:group; g ≟ Zg ⊢ carrier g ≡ Z.`
older_first_7 : charges (hint older_first_s7_0_0_0 302 0 ((codes "g", Term 327 (raw.Name (codes "group"))) ∷ []) ((codes "g", Term 340 (raw.Name (codes "Zg"))) ∷ []) (Term 347 (raw.App (Term 347 (raw.Name (codes "carrier"))) (Argument (Term 355 (raw.Name (codes "g"))) NoArgument))) (Term 361 (raw.Name (codes "Z")))) 13 ≡ Accepted 0
unfolding refine unify unified infer elimination check check_type convert compared ◌and◌ whd look step fixed is_alike normal_form raised maximum at_most same path height acyclic
older_first_7 = refl

abbrev older_first_s7_0_1_0_env : Environment
older_first_s7_0_1_0_env = record { entries = older_first_e0 ∷ older_first_e1 ∷ older_first_e2 ∷ older_first_e3 ∷ older_first_e4 ∷ older_first_e5 ∷ older_first_e6 ∷ []; names = []; below = [] }

abbrev older_first_s7_0_1_0 : Setting
older_first_s7_0_1_0 = record { env = older_first_s7_0_1_0_env; hints = older_first_h0 ∷ []; coercions = coercions older_first_s7_0_1_0_env ([]) }

-- `unification hint 0 ≔ g:group; g ≟ Zh ⊢ carrier g ≡ Z.`
older_first_8 : charges (hint older_first_s7_0_1_0 364 0 ((codes "g", Term 389 (raw.Name (codes "group"))) ∷ []) ((codes "g", Term 402 (raw.Name (codes "Zh"))) ∷ []) (Term 409 (raw.App (Term 409 (raw.Name (codes "carrier"))) (Argument (Term 417 (raw.Name (codes "g"))) NoArgument))) (Term 423 (raw.Name (codes "Z")))) 14 ≡ Accepted 0
unfolding refine unify unified infer elimination check check_type convert compared ◌and◌ whd look step fixed is_alike normal_form raised maximum at_most same path height acyclic
older_first_8 = refl

abbrev older_first_s8_0_2_0_env : Environment
older_first_s8_0_2_0_env = record { entries = older_first_e0 ∷ older_first_e1 ∷ older_first_e2 ∷ older_first_e3 ∷ older_first_e4 ∷ older_first_e5 ∷ older_first_e6 ∷ older_first_e7 ∷ []; names = []; below = [] }

abbrev older_first_s8_0_2_0 : Setting
older_first_s8_0_2_0 = record { env = older_first_s8_0_2_0_env; hints = older_first_h0 ∷ older_first_h1 ∷ []; coercions = coercions older_first_s8_0_2_0_env ([]) }

-- `definition w : Prop ≝ k ? z.`
older_first_10 : charges (definition older_first_s8_0_2_0 467 (codes "w") (Term 482 (raw.Sort raw_sort.Prop)) (Term 491 (raw.App (Term 491 (raw.Name (codes "k"))) (Argument (Term 493 (raw.Hole)) (Argument (Term 495 (raw.Name (codes "z"))) NoArgument))))) 32 ≡ Accepted 0
unfolding refine unify unified infer elimination check check_type convert compared ◌and◌ whd look step fixed is_alike normal_form raised maximum at_most same path height acyclic
older_first_10 = refl

-- ---- open left
abbrev open_left_e0 : Declaration
open_left_e0 = Inductive (codes "group") false 0 (Sort (Typ (record { base = 1; atoms = [] }))) (record { name = codes "mk"; ty = Prod (codes "_") (Sort (Typ (record { base = 0; atoms = [] }))) (Ind 0) } ∷ []) true

abbrev open_left_e1 : Declaration
open_left_e1 = Definition (codes "carrier") (Prod (codes "_") (Ind 0) (Sort (Typ (record { base = 0; atoms = [] })))) (Lam (codes "g") (Ind 0) (Match 0 (Lam (codes "g") (Ind 0) (Sort (Typ (record { base = 0; atoms = [] })))) (Var 0) (Arm (codes "c" ∷ []) (Var 0) (NoArm))))

abbrev open_left_e2 : Declaration
open_left_e2 = Axiom (codes "Z") (Sort (Typ (record { base = 0; atoms = [] })))

abbrev open_left_e3 : Declaration
open_left_e3 = Axiom (codes "z") (Const 2)

abbrev open_left_e4 : Declaration
open_left_e4 = Definition (codes "Zg") (Ind 0) (App (Con 0 0) (Const 2))

abbrev open_left_e5 : Declaration
open_left_e5 = Axiom (codes "op") (Prod (codes "g") (Ind 0) (Prod (codes "_") (App (Const 1) (Var 0)) (App (Const 1) (Var 1))))

abbrev open_left_h0 : Hint
open_left_h0 = record { precedence = 0; vars = record { name = codes "g"; ty = Ind 0 } ∷ []; eqs = record { place = 0; term = Const 4 } ∷ []; left = App (Const 1) (Var 0); right = Const 2 }

abbrev open_left_h1 : Hint
open_left_h1 = record { precedence = 1; vars = record { name = codes "g"; ty = Ind 0 } ∷ record { name = codes "h"; ty = Ind 0 } ∷ []; eqs = record { place = 0; term = Const 4 } ∷ []; left = App (Const 1) (Var 1); right = Const 2 }

abbrev open_left_s6_0_1_0_env : Environment
open_left_s6_0_1_0_env = record { entries = open_left_e0 ∷ open_left_e1 ∷ open_left_e2 ∷ open_left_e3 ∷ open_left_e4 ∷ open_left_e5 ∷ []; names = []; below = [] }

abbrev open_left_s6_0_1_0 : Setting
open_left_s6_0_1_0 = record { env = open_left_s6_0_1_0_env; hints = open_left_h0 ∷ []; coercions = coercions open_left_s6_0_1_0_env ([]) }

-- `unification hint 1 ≔ g:group, h:group; g ≟ Zg ⊢ carrier g ≡ Z.`
open_left_7 : charges (hint open_left_s6_0_1_0 334 1 ((codes "g", Term 359 (raw.Name (codes "group"))) ∷ (codes "h", Term 368 (raw.Name (codes "group"))) ∷ []) ((codes "g", Term 381 (raw.Name (codes "Zg"))) ∷ []) (Term 388 (raw.App (Term 388 (raw.Name (codes "carrier"))) (Argument (Term 396 (raw.Name (codes "g"))) NoArgument))) (Term 402 (raw.Name (codes "Z")))) 14 ≡ Accepted 0
unfolding refine unify unified infer elimination check check_type convert compared ◌and◌ whd look step fixed is_alike normal_form raised maximum at_most same path height acyclic
open_left_7 = refl

abbrev open_left_s6_0_2_0_env : Environment
open_left_s6_0_2_0_env = record { entries = open_left_e0 ∷ open_left_e1 ∷ open_left_e2 ∷ open_left_e3 ∷ open_left_e4 ∷ open_left_e5 ∷ []; names = []; below = [] }

abbrev open_left_s6_0_2_0 : Setting
open_left_s6_0_2_0 = record { env = open_left_s6_0_2_0_env; hints = open_left_h0 ∷ open_left_h1 ∷ []; coercions = coercions open_left_s6_0_2_0_env ([]) }

-- `definition w : Z ≝ op ? z.`
open_left_8 : charges (definition open_left_s6_0_2_0 405 (codes "w") (Term 420 (raw.Name (codes "Z"))) (Term 426 (raw.App (Term 426 (raw.Name (codes "op"))) (Argument (Term 429 (raw.Hole)) (Argument (Term 431 (raw.Name (codes "z"))) NoArgument))))) 48 ≡ Accepted 0
unfolding refine unify unified infer elimination check check_type convert compared ◌and◌ whd look step fixed is_alike normal_form raised maximum at_most same path height acyclic
open_left_8 = refl

-- ---- equation twice
abbrev equation_twice_e0 : Declaration
equation_twice_e0 = Inductive (codes "group") false 0 (Sort (Typ (record { base = 1; atoms = [] }))) (record { name = codes "mk"; ty = Prod (codes "_") (Sort (Typ (record { base = 0; atoms = [] }))) (Ind 0) } ∷ []) true

abbrev equation_twice_e1 : Declaration
equation_twice_e1 = Definition (codes "carrier") (Prod (codes "_") (Ind 0) (Sort (Typ (record { base = 0; atoms = [] })))) (Lam (codes "g") (Ind 0) (Match 0 (Lam (codes "g") (Ind 0) (Sort (Typ (record { base = 0; atoms = [] })))) (Var 0) (Arm (codes "c" ∷ []) (Var 0) (NoArm))))

abbrev equation_twice_e2 : Declaration
equation_twice_e2 = Axiom (codes "Z") (Sort (Typ (record { base = 0; atoms = [] })))

abbrev equation_twice_e3 : Declaration
equation_twice_e3 = Axiom (codes "z") (Const 2)

abbrev equation_twice_e4 : Declaration
equation_twice_e4 = Definition (codes "Zg") (Ind 0) (App (Con 0 0) (Const 2))

abbrev equation_twice_e5 : Declaration
equation_twice_e5 = Axiom (codes "op") (Prod (codes "g") (Ind 0) (Prod (codes "_") (App (Const 1) (Var 0)) (App (Const 1) (Var 1))))

abbrev equation_twice_s6_0_0_0_env : Environment
equation_twice_s6_0_0_0_env = record { entries = equation_twice_e0 ∷ equation_twice_e1 ∷ equation_twice_e2 ∷ equation_twice_e3 ∷ equation_twice_e4 ∷ equation_twice_e5 ∷ []; names = []; below = [] }

abbrev equation_twice_s6_0_0_0 : Setting
equation_twice_s6_0_0_0 = record { env = equation_twice_s6_0_0_0_env; hints = []; coercions = coercions equation_twice_s6_0_0_0_env ([]) }

-- `unification hint 0 ≔ g:group; g ≟ Zg; g ≟ Zg ⊢ carrier g ≡ Z.`
equation_twice_6 : charges (hint equation_twice_s6_0_0_0 272 0 ((codes "g", Term 297 (raw.Name (codes "group"))) ∷ []) ((codes "g", Term 310 (raw.Name (codes "Zg"))) ∷ (codes "g", Term 320 (raw.Name (codes "Zg"))) ∷ []) (Term 327 (raw.App (Term 327 (raw.Name (codes "carrier"))) (Argument (Term 335 (raw.Name (codes "g"))) NoArgument))) (Term 341 (raw.Name (codes "Z")))) 3 ≡ Refused BadHint 272 0
unfolding refine unify unified infer elimination check check_type convert compared ◌and◌ whd look step fixed is_alike normal_form raised maximum at_most same path height acyclic
equation_twice_6 = refl

-- ---- no such variable
abbrev no_such_variable_e0 : Declaration
no_such_variable_e0 = Inductive (codes "group") false 0 (Sort (Typ (record { base = 1; atoms = [] }))) (record { name = codes "mk"; ty = Prod (codes "_") (Sort (Typ (record { base = 0; atoms = [] }))) (Ind 0) } ∷ []) true

abbrev no_such_variable_e1 : Declaration
no_such_variable_e1 = Definition (codes "carrier") (Prod (codes "_") (Ind 0) (Sort (Typ (record { base = 0; atoms = [] })))) (Lam (codes "g") (Ind 0) (Match 0 (Lam (codes "g") (Ind 0) (Sort (Typ (record { base = 0; atoms = [] })))) (Var 0) (Arm (codes "c" ∷ []) (Var 0) (NoArm))))

abbrev no_such_variable_e2 : Declaration
no_such_variable_e2 = Axiom (codes "Z") (Sort (Typ (record { base = 0; atoms = [] })))

abbrev no_such_variable_e3 : Declaration
no_such_variable_e3 = Axiom (codes "z") (Const 2)

abbrev no_such_variable_e4 : Declaration
no_such_variable_e4 = Definition (codes "Zg") (Ind 0) (App (Con 0 0) (Const 2))

abbrev no_such_variable_e5 : Declaration
no_such_variable_e5 = Axiom (codes "op") (Prod (codes "g") (Ind 0) (Prod (codes "_") (App (Const 1) (Var 0)) (App (Const 1) (Var 1))))

abbrev no_such_variable_s6_0_0_0_env : Environment
no_such_variable_s6_0_0_0_env = record { entries = no_such_variable_e0 ∷ no_such_variable_e1 ∷ no_such_variable_e2 ∷ no_such_variable_e3 ∷ no_such_variable_e4 ∷ no_such_variable_e5 ∷ []; names = []; below = [] }

abbrev no_such_variable_s6_0_0_0 : Setting
no_such_variable_s6_0_0_0 = record { env = no_such_variable_s6_0_0_0_env; hints = []; coercions = coercions no_such_variable_s6_0_0_0_env ([]) }

-- `unification hint 0 ≔ g:group; h ≟ Zg ⊢ carrier g ≡ Z.`
no_such_variable_6 : charges (hint no_such_variable_s6_0_0_0 272 0 ((codes "g", Term 297 (raw.Name (codes "group"))) ∷ []) ((codes "h", Term 310 (raw.Name (codes "Zg"))) ∷ []) (Term 317 (raw.App (Term 317 (raw.Name (codes "carrier"))) (Argument (Term 325 (raw.Name (codes "g"))) NoArgument))) (Term 331 (raw.Name (codes "Z")))) 1 ≡ Refused BadHint 272 0
unfolding refine unify unified infer elimination check check_type convert compared ◌and◌ whd look step fixed is_alike normal_form raised maximum at_most same path height acyclic
no_such_variable_6 = refl
