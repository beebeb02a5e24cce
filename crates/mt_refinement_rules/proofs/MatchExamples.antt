-- What refinement gives for matches, and what it costs. Each raw term has one charge; further ones are named.
use Rattle.std.specs.Prelude.{◌≡◌, refl, List, [], ◌∷◌, true, false, None, Some, codes}
use Rattle.mt_term.specs.Trees.{Bytes, Tree, Var, Prod, Lam, App, Ind, Const, Match, NoArm, Arm}
use Rattle.mt_term.specs.Declarations.{Hypothesis, Axiom, Inductive, Environment}
use Rattle.mt_term.specs.Reasons.{Mismatch, NotAFunction, NoExpected, BadElimination, Unbound}
use Rattle.mt_rules.specs.Charges.{Done, Spent}
use Rattle.mt_rules.specs.Knot.{fixed}
use Rattle.mt_term.specs.Alike.{is_alike}
use Rattle.mt_rules.specs.WeakHead.{whd, look, step}
use Rattle.mt_rules.specs.Inference.{infer, elimination}
use Rattle.mt_rules.specs.Comparison.{convert, compared}
use Rattle.mt_unification_rules.specs.Unification.{unified, unify}
use Rattle.mt_term_parser.specs.Written as raw
use Rattle.mt_term_parser.specs.Written.{Written, Domain, Cases, Term, Absent, Given, NoCase, Case}
use Rattle.mt_resolver.specs.Resolution.{Found, Faults}
use Rattle.mt_refinement_rules.specs.Refinement.{refine}
use Rattle.mt_refinement_rules.proofs.Samples.{alone, n, x, y, p, unnamed, prop, type, arrow, nat, nought, next, equal, hypothesis, numbers_and, name, on_one, on_two}

-- after the numbers: `axiom plus : nat → nat → nat.`, `inductive or2 : Prop ≝ l : or2 | r : or2.`, `inductive false : Prop ≝ .`
abbrev E : Environment
E = numbers_and (
    Axiom (codes "plus") (arrow nat (arrow nat nat))
    ∷ Inductive (codes "or2") false 0 prop (record { name = codes "l"; ty = Ind 3 } ∷ record { name = codes "r"; ty = Ind 3 } ∷ []) false
    ∷ Inductive (codes "false") false 0 prop [] true
    ∷ [])

abbrev number : List Hypothesis
number = hypothesis n nat ∷ []

-- `match n return r with [ O ⇒ n | S p ⇒ p ]`
abbrev before : Domain → Written
before r = Term 0 (raw.Match (name 6 n) r (Case (codes "O") [] (name 19 n) (Case (codes "S") (p ∷ []) (name 29 p) NoCase)))

abbrev before_tree : Bytes → Tree
before_tree x = Match 0 (Lam x nat nat) (Var 0) (Arm [] (Var 0) (Arm (p ∷ []) (Var 0) NoArm))

-- four raw terms; the motive takes three to infer and one to compare its domain; the two bodies and the match have an end each
by_expected_type : refine (alone E) [] number (before Absent) (Some nat) 11 ≡ Done (Found (record { store = []; term = before_tree unnamed; ty = nat })) 0
unfolding refine unify unified infer elimination convert compared whd look fixed is_alike
by_expected_type = refl

by_expected_type_spent : refine (alone E) [] number (before Absent) (Some nat) 10 ≡ Spent
unfolding refine unify unified infer elimination convert compared whd look fixed is_alike
by_expected_type_spent = refl

no_return : refine (alone E) [] number (before Absent) None 2 ≡ Done (Faults NoExpected 0) 0
unfolding refine whd look fixed
no_return = refl

-- `λx:nat.nat` is three raw terms more, and the match has no end
by_return_term : refine (alone E) [] number (before (Given (Term 15 (raw.Lam x (Given (name 18 (codes "nat"))) (name 22 (codes "nat")))))) None 13 ≡ Done (Found (record { store = []; term = before_tree x; ty = nat })) 0
unfolding refine unify unified infer elimination convert compared whd look fixed is_alike
by_return_term = refl

-- a return term that is no function: two raw terms, its own, and one to infer it
no_return_function : refine (alone E) [] number (before (Given (name 15 (codes "nat")))) None 4 ≡ Done (Faults NotAFunction 0) 0
unfolding refine infer elimination whd look fixed
no_return_function = refl

-- ---- what is matched, and the arms

abbrev of_name : Bytes → Cases → Written
of_name x arms = Term 0 (raw.Match (name 6 x) Absent arms)

no_inductive_type : refine (alone E) [] [] (of_name (codes "nat") NoCase) (Some nat) 2 ≡ Done (Faults BadElimination 0) 0
unfolding refine whd look fixed
no_inductive_type = refl

unknown_matched : refine (alone E) [] [] (of_name (codes "b") NoCase) (Some nat) 2 ≡ Done (Faults (Unbound (codes "b")) 6) 0
unfolding refine
unknown_matched = refl

-- arms in another order, too few arms, and an arm with a name too many; they are judged before the return term
turned_arms : refine (alone E) [] number (of_name n (Case (codes "S") (p ∷ []) (name 19 p) (Case (codes "O") [] (name 27 n) NoCase))) None 2 ≡ Done (Faults BadElimination 0) 0
unfolding refine whd look fixed
turned_arms = refl

one_arm : refine (alone E) [] number (of_name n (Case (codes "O") [] (name 19 n) NoCase)) (Some nat) 2 ≡ Done (Faults BadElimination 0) 0
unfolding refine whd look fixed
one_arm = refl

two_names : refine (alone E) [] number (of_name n (Case (codes "O") [] (name 19 n) (Case (codes "S") (p ∷ x ∷ []) (name 29 p) NoCase))) (Some nat) 2 ≡ Done (Faults BadElimination 0) 0
unfolding refine whd look fixed
two_names = refl

-- a body of another type: two raw terms, four for the motive, and the first body with its end
other_body : refine (alone E) [] number (of_name n (Case (codes "O") [] (name 19 (codes "plus")) (Case (codes "S") (p ∷ []) (name 29 p) NoCase))) (Some nat) 8
    ≡ Done (Faults (Mismatch number (arrow nat (arrow nat nat)) nat []) 19) 0
unfolding refine unify unified infer elimination convert compared whd look step fixed is_alike
other_body = refl

-- ---- indices

-- `match e with [ refl ⇒ O ]` for e of type `eq nat O O`: three raw terms; the motive, over the index and e, takes fourteen to infer and two to compare; the body and the match have an end each
over_indices : refine (alone E) [] (hypothesis y (equal nat nought nought) ∷ []) (of_name y (Case (codes "refl") [] (name 23 (codes "O")) NoCase)) (Some nat) 21
    ≡ Done (Found (record { store = []; term = Match 1 (Lam unnamed nat (Lam unnamed (equal nat nought (Var 0)) nat)) (Var 0) (Arm [] nought NoArm); ty = nat })) 0
unfolding refine unify unified infer elimination convert compared whd look fixed is_alike
over_indices = refl

-- the body of `let rec plus (n:nat) (m:nat) on n : nat ≝ match n with [ O ⇒ m | S p ⇒ S (plus p m) ].`: nine raw terms, four for the motive, an end for each of the three arguments, of the two applications against a type, of `m` and of the match
body_of_plus : refine (alone E) [] (hypothesis (codes "m") nat ∷ number) (Term 0 (raw.Match (name 6 n) Absent (Case (codes "O") [] (name 20 (codes "m")) (Case (codes "S") (p ∷ [])
    (Term 30 (raw.App (name 30 (codes "S")) (on_one (Term 33 (raw.App (name 33 (codes "plus")) (on_two (name 38 p) (name 40 (codes "m")))))))) NoCase)))) (Some nat) 19
    ≡ Done (Found (record { store = []; term = Match 0 (Lam unnamed nat nat) (Var 1) (Arm [] (Var 0) (Arm (p ∷ []) (next (App (App (Const 2) (Var 0)) (Var 1))) NoArm)); ty = nat })) 0
unfolding refine unify unified infer elimination convert compared whd look fixed is_alike
body_of_plus = refl

-- against a type that is a hypothesis: `match n with [ O ⇒ y | S p ⇒ y ]` for y of the type x; as with numbers, and each y is a hypothesis that stands further out in its branch
over_a_variable : refine (alone E) [] (hypothesis y (Var 1) ∷ hypothesis n nat ∷ hypothesis x (type 0) ∷ []) (of_name n (Case (codes "O") [] (name 19 y) (Case (codes "S") (p ∷ []) (name 27 y) NoCase))) (Some (Var 2)) 11
    ≡ Done (Found (record { store = []; term = Match 0 (Lam unnamed nat (Var 3)) (Var 1) (Arm [] (Var 0) (Arm (p ∷ []) (Var 1) NoArm)); ty = Var 2 })) 0
unfolding refine unify unified infer elimination convert compared whd look fixed is_alike
over_a_variable = refl

-- ---- sorts

-- `definition d : or2 → nat ≝ λx:or2.match x with [ l ⇒ O | r ⇒ O ].`: three raw terms down to the match, the end of the domain, the matched term, and four for the motive
no_large_elimination : refine (alone E) [] [] (Term 26 (raw.Lam x (Given (name 29 (codes "or2"))) (Term 33 (raw.Match (name 39 x) Absent (Case (codes "l") [] (name 52 (codes "O")) (Case (codes "r") [] (name 60 (codes "O")) NoCase)))))) (Some (arrow (Ind 3) nat)) 9
    ≡ Done (Faults BadElimination 33) 0
unfolding refine unify unified infer elimination convert compared whd look fixed is_alike
no_large_elimination = refl

-- `definition e : false → nat ≝ λx:false.match x with [ ].`: the same, and the end of the match
no_arms : refine (alone E) [] [] (Term 28 (raw.Lam x (Given (name 31 (codes "false"))) (Term 37 (raw.Match (name 43 x) Absent NoCase)))) (Some (arrow (Ind 4) nat)) 10
    ≡ Done (Found (record { store = []; term = Lam x (Ind 4) (Match 4 (Lam unnamed (Ind 4) nat) (Var 0) NoArm); ty = Prod x (Ind 4) nat })) 0
unfolding refine unify unified infer elimination convert compared whd look fixed is_alike
no_arms = refl
