-- What refinement gives for names, sorts, placeholders, binders and casts, and what it costs. Each raw term has one charge; further ones are named.
use Rattle.std.specs.Prelude.{◌≡◌, refl, ℕ, [], ◌∷◌, Some, None, codes}
use Rattle.mt_term.specs.Trees.{Tree, Var, Prod, Lam, Const, Con, Meta, End, Item}
use Rattle.mt_term.specs.Declarations.{Axiom, Definition, Environment}
use Rattle.mt_term.specs.Reasons.{Unbound, Mismatch, NotASort, NoExpected, NoSuchPosition, NotHere}
use Rattle.mt_rules.specs.Charges.{Done, Spent}
use Rattle.mt_rules.specs.Knot.{fixed}
use Rattle.mt_term.specs.Alike.{is_alike}
use Rattle.mt_term.specs.UniverseForms.{normal_form, raised}
use Rattle.mt_term.specs.UniverseOrder.{at_most, acyclic}
use Rattle.mt_rules.specs.WeakHead.{whd, look, step}
use Rattle.mt_unification_rules.specs.Unification.{unified, unify}
use Rattle.mt_term_parser.specs.declared.raw.Part.TheVariants as part
use Rattle.mt_term_parser.specs.declared.raw.RawSort.TheVariants as raw_sort
use Rattle.mt_term_parser.specs.Written as raw
use Rattle.mt_term_parser.specs.Written.{Written, Term, Absent, Given}
use Rattle.mt_resolver.specs.Resolution.{Found, Faults}
use Rattle.mt_refinement_rules.specs.Refinement.{refine}
use Rattle.mt_refinement_rules.proofs.Samples.{alone, a, x, y, prop, type, arrow, nat, nought, hole, hypothesis, numbers_and, name, blank, dots}

-- `axiom a : Prop.` and `definition d : Type[0] ≝ nat → nat.` after the numbers
abbrev E : Environment
E = numbers_and (Axiom a prop ∷ Definition (codes "d") (type 0) (arrow nat nat) ∷ [])

-- ---- names

a_variable : refine (alone E) [] (hypothesis x nat ∷ []) (name 3 x) None 1 ≡ Done (Found (record { store = []; term = Var 0; ty = nat })) 0
unfolding refine
a_variable = refl

a_variable_spent : refine (alone E) [] (hypothesis x nat ∷ []) (name 3 x) None 0 ≡ Spent
unfolding refine
a_variable_spent = refl

-- the newest of two, with its type under the context
the_newest : refine (alone E) [] (hypothesis x (Var 0) ∷ hypothesis x prop ∷ []) (name 3 x) None 1 ≡ Done (Found (record { store = []; term = Var 0; ty = Var 1 })) 0
unfolding refine
the_newest = refl

a_constructor : refine (alone E) [] [] (name 3 (codes "S")) None 1 ≡ Done (Found (record { store = []; term = Con 0 1; ty = arrow nat nat })) 0
unfolding refine
a_constructor = refl

-- against a type: one charge more, of unification
against_type : refine (alone E) [] [] (name 3 (codes "O")) (Some nat) 2 ≡ Done (Found (record { store = []; term = nought; ty = nat })) 0
unfolding refine unify unified fixed is_alike
against_type = refl

against_type_spent : refine (alone E) [] [] (name 3 (codes "O")) (Some nat) 1 ≡ Spent
unfolding refine unify unified fixed is_alike
against_type_spent = refl

-- `axiom a : b.`
unknown : refine (alone E) [] [] (name 10 (codes "b")) None 1 ≡ Done (Faults (Unbound (codes "b")) 10) 0
unfolding refine
unknown = refl

-- The type `d` of a term that has type `nat`: unification takes a charge, and one for the step of `d`, and one anew; of the two weak heads the second takes a step.
unfit : refine (alone E) [] [] (name 3 (codes "O")) (Some (Const 3)) 5 ≡ Done (Faults (Mismatch [] nat (Const 3) []) 3) 0
unfolding refine unify unified whd look step fixed is_alike
unfit = refl

-- ---- constructors by their numbers

by_numbers : refine (alone E) [] [] (Term 3 (raw.Con 0 1)) None 1 ≡ Done (Found (record { store = []; term = Con 0 1; ty = arrow nat nat })) 0
unfolding refine
by_numbers = refl

by_other_numbers : refine (alone E) [] [] (Term 3 (raw.Con 0 2)) None 1 ≡ Done (Faults NoSuchPosition 3) 0
unfolding refine
by_other_numbers = refl

-- ---- sorts

abbrev type_of_number : ℕ → raw.Form
type_of_number k = raw.Sort (raw_sort.Typ (part.Number k ∷ []))

-- `definition t : Type[0] ≝ Type[0].`
too_large : refine (alone E) [] [] (Term 26 (type_of_number 0)) (Some (type 0)) 2 ≡ Done (Faults (Mismatch [] (type 1) (type 0) []) 26) 0
unfolding refine unify unified whd look step fixed is_alike normal_form raised at_most acyclic
too_large = refl

-- `axiom a : Type[4294967294].` and one more
last_sort : refine (alone E) [] [] (Term 10 (type_of_number 4294967294)) None 1 ≡ Done (Found (record { store = []; term = type 4294967294; ty = type 4294967295 })) 0
unfolding refine normal_form raised
last_sort = refl

past_last_sort : refine (alone E) [] [] (Term 10 (type_of_number 4294967295)) None 1 ≡ Done (Faults NotASort 10) 0
unfolding refine normal_form raised
past_last_sort = refl

-- an unknown name comes before a number that is too large
unknown_universe : refine (alone E) [] [] (Term 10 (raw.Sort (raw_sort.Typ (part.Number 4294967295 ∷ part.Name (codes "w") 0 ∷ [])))) None 1 ≡ Done (Faults (Unbound (codes "w")) 10) 0
unfolding refine normal_form raised
unknown_universe = refl

-- ---- placeholders

a_blank : refine (alone E) (hole nat ∷ []) (hypothesis y (Var 0) ∷ hypothesis x prop ∷ []) (blank 4) (Some nat) 1
    ≡ Done (Found (record { store = hole nat ∷ record { context = hypothesis x prop ∷ hypothesis y (Var 0) ∷ []; ty = nat; body = None } ∷ []; term = Meta 1 (Item (Var 1) (Item (Var 0) End)); ty = nat })) 0
unfolding refine
a_blank = refl

no_type_for_blank : refine (alone E) [] [] (blank 4) None 1 ≡ Done (Faults NoExpected 4) 0
unfolding refine
no_type_for_blank = refl

-- `…` as a whole term
dots_alone : refine (alone E) [] [] (dots 4) (Some nat) 1 ≡ Done (Faults NotHere 4) 0
unfolding refine
dots_alone = refl

-- ---- binders

-- `∀A:Prop.A → A`
abbrev every : Written
every = Term 15 (raw.Prod (codes "A") (Term 18 (raw.Sort raw_sort.Prop)) (Term 23 (raw.Prod (codes "_") (name 23 (codes "A")) (name 25 (codes "A")))))

abbrev every_tree : Tree
every_tree = Prod (codes "A") prop (arrow (Var 0) (Var 1))

a_product : refine (alone E) [] [] every None 5 ≡ Done (Found (record { store = []; term = every_tree; ty = prop })) 0
unfolding refine whd look fixed
a_product = refl

-- a domain, and a codomain, that is no type
no_domain : refine (alone E) [] [] (Term 0 (raw.Prod x (name 3 (codes "O")) (name 5 (codes "nat")))) None 2 ≡ Done (Faults NotASort 3) 0
unfolding refine whd look fixed
no_domain = refl

no_codomain : refine (alone E) [] [] (Term 0 (raw.Prod x (name 3 (codes "nat")) (name 5 x))) None 3 ≡ Done (Faults NotASort 5) 0
unfolding refine whd look fixed
no_codomain = refl

-- `λA:Prop.λx:A.x` against that: five raw terms, the two domains, and the end of the variable
abbrev identity : Written
identity = Term 29 (raw.Lam (codes "A") (Given (Term 32 (raw.Sort raw_sort.Prop))) (Term 37 (raw.Lam x (Given (name 40 (codes "A"))) (name 42 x))))

an_identity : refine (alone E) [] [] identity (Some every_tree) 8 ≡ Done (Found (record { store = []; term = Lam (codes "A") prop (Lam x (Var 0) (Var 0)); ty = Prod (codes "A") prop (Prod x (Var 0) (Var 1)) })) 0
unfolding refine unify unified whd look fixed is_alike
an_identity = refl

an_identity_spent : refine (alone E) [] [] identity (Some every_tree) 7 ≡ Spent
unfolding refine unify unified whd look fixed is_alike
an_identity_spent = refl

-- without an expected type
identity_alone : refine (alone E) [] [] identity None 5 ≡ Done (Found (record { store = []; term = Lam (codes "A") prop (Lam x (Var 0) (Var 0)); ty = Prod (codes "A") prop (Prod x (Var 0) (Var 1)) })) 0
unfolding refine whd look fixed
identity_alone = refl

-- where no product is expected: three raw terms, and unification at the end
no_product_expected : refine (alone E) [] [] (Term 0 (raw.Lam x (Given (name 3 (codes "nat"))) (name 7 x))) (Some nat) 4 ≡ Done (Faults (Mismatch [] (Prod x nat nat) nat []) 0) 0
unfolding refine unify unified whd look step fixed is_alike
no_product_expected = refl

-- a domain that is not the expected one: two raw terms, and unification
other_domain : refine (alone E) [] [] (Term 0 (raw.Lam x (Given (Term 3 (raw.Sort raw_sort.Prop))) (name 8 x))) (Some (arrow nat nat)) 3 ≡ Done (Faults (Mismatch [] prop nat []) 3) 0
unfolding refine unify unified whd look step fixed is_alike
other_domain = refl

-- `λx.x` against `d`: two raw terms, the step of `d`, and the end of the variable
bare : refine (alone E) [] [] (Term 0 (raw.Lam x Absent (name 3 x))) (Some (Const 3)) 4 ≡ Done (Found (record { store = []; term = Lam x nat (Var 0); ty = Prod x nat nat })) 0
unfolding refine unify unified whd look fixed is_alike
bare = refl

-- `definition b ≝ λx.x.`
bare_alone : refine (alone E) [] [] (Term 15 (raw.Lam x Absent (name 18 x))) None 1 ≡ Done (Faults NoExpected 15) 0
unfolding refine
bare_alone = refl

bare_no_product : refine (alone E) [] [] (Term 15 (raw.Lam x Absent (name 18 x))) (Some nat) 1 ≡ Done (Faults NoExpected 15) 0
unfolding refine whd look fixed
bare_no_product = refl

-- ---- casts

-- `(O : nat)`: three raw terms and the end of the first; and against a type
abbrev cast : Written
cast = Term 0 (raw.Cast (name 1 (codes "O")) (name 5 (codes "nat")))

a_cast : refine (alone E) [] [] cast None 4 ≡ Done (Found (record { store = []; term = nought; ty = nat })) 0
unfolding refine unify unified whd look fixed is_alike
a_cast = refl

a_cast_against : refine (alone E) [] [] cast (Some nat) 5 ≡ Done (Found (record { store = []; term = nought; ty = nat })) 0
unfolding refine unify unified whd look fixed is_alike
a_cast_against = refl

-- the type is judged first; a type that does not fit is refused at the term, and at the cast where it is the expected one
cast_to_no_type : refine (alone E) [] [] (Term 0 (raw.Cast (name 1 (codes "b")) (name 5 (codes "O")))) None 2 ≡ Done (Faults NotASort 5) 0
unfolding refine whd look fixed
cast_to_no_type = refl

cast_of_other : refine (alone E) [] [] (Term 0 (raw.Cast (name 1 (codes "O")) (name 5 a))) None 4 ≡ Done (Faults (Mismatch [] nat (Const 2) []) 1) 0
unfolding refine unify unified whd look step fixed is_alike
cast_of_other = refl

cast_against_other : refine (alone E) [] [] cast (Some (Const 2)) 5 ≡ Done (Faults (Mismatch [] nat (Const 2) []) 0) 0
unfolding refine unify unified whd look step fixed is_alike
cast_against_other = refl

-- `(? : nat)` has the type of the cast
cast_of_blank : refine (alone E) [] [] (Term 0 (raw.Cast (blank 1) (name 5 (codes "nat")))) None 3 ≡ Done (Found (record { store = hole nat ∷ []; term = Meta 0 End; ty = nat })) 0
unfolding refine whd look fixed
cast_of_blank = refl
