-- Short units and the entries that they declare.
use Rattle.std.specs.Prelude.{◌≡◌, true, false, ℕ, List, [], ◌∷◌, codes, refl}
use Rattle.mt_term.specs.Trees.{Tree, Bytes, Var, Sort, Prod, App, Ind, Con}
use Rattle.mt_term.specs.Declarations.{Declaration, Axiom, Definition, Inductive, Environment}
use Rattle.mt_term.specs.Reasons.{Unbound, Taken, NotASort, NotPositive, NotHere, KernelRefused}
use Rattle.mt_rules.specs.Knot.{fixed}
use Rattle.mt_term.specs.UniverseForms.{normal_form, maximum, raised}
use Rattle.mt_term.specs.UniverseOrder.{at_most, acyclic}
use Rattle.mt_rules.specs.KernelCheck.{check_type, check}
use Rattle.mt_rules.specs.Inference.{infer}
use Rattle.mt_rules.specs.Comparison.{compared, convert}
use Rattle.mt_rules.specs.WeakHead.{whd}
use Rattle.mt_term.specs.Alike.{is_alike}
use Rattle.mt_term.specs.declared.universes.Sort.TheVariants.{Prop, Typ}
use Rattle.mt_term_parser.specs.declared.raw.Part.TheVariants as part
use Rattle.mt_term_parser.specs.declared.raw.RawSort.TheVariants as raw_sort
use Rattle.mt_term_parser.specs.Written as raw
use Rattle.mt_term_parser.specs.Written.{Written, Term, Absent, Given, NoArgument, Argument}
use Rattle.mt_unit_parser.specs.WrittenUnits as unit
use Rattle.mt_unit_parser.specs.WrittenUnits.{WrittenGroup, WrittenCon, WrittenKind}
use Rattle.mt_decl.specs.Answers.{Made, Refused, Spent}
use Rattle.mt_decl.specs.Declaring.{declared_entry}

-- ---- terms

abbrev pub level : ℕ → Tree
level k = Sort (Typ (record { base = k; atoms = [] }))

abbrev pub name : Bytes → Written
name x = Term 0 (raw.Name x)

abbrev prop : Written
prop = Term 0 (raw.Sort raw_sort.Prop)

abbrev type : ℕ → Written
type k = Term 0 (raw.Sort (raw_sort.Typ (part.Number k ∷ [])))

abbrev pub on : Written → Written → Written
on f a = Term 0 (raw.App f (Argument a NoArgument))

abbrev all : Bytes → Written → Written → Written
all x A B = Term 0 (raw.Prod x A B)

abbrev pub blank : Bytes
blank = codes "_"

abbrev to : Written → Written → Written
to A B = all blank A B

abbrev con : ℕ → Bytes → Written → WrittenCon
con at x T = record { at = at; name = x; type = T }

abbrev pub group : Bytes → Written → WrittenGroup
group x T = record { name = x; type = T }

abbrev inductive : Bytes → List WrittenGroup → Written → List WrittenCon → WrittenKind
inductive x groups T cs =
    unit.Inductive false groups (record { name = x; arity = T; cons = cs } ∷ [])

abbrev pub environment : List Declaration → Environment
environment es = record { entries = es; names = []; below = [] }

abbrev none : Environment
none = environment []

-- ---- natural numbers

abbrev pub nat : Bytes
nat = codes "nat"

abbrev pub O : Bytes
O = codes "O"

abbrev pub S : Bytes
S = codes "S"

-- `inductive nat : Type[0] ≝ O : nat | S : nat → nat.`
abbrev nat_unit : WrittenKind
nat_unit =
    inductive nat [] (type 0) (con 26 O (name nat) ∷ con 36 S (to (name nat) (name nat)) ∷ [])

abbrev pub nat_entry : Declaration
nat_entry =
    Inductive nat false 0 (level 0)
    (record { name = O; ty = Ind 0 } ∷ record { name = S; ty = Prod blank (Ind 0) (Ind 0) } ∷ [])
    true

naturals : declared_entry none 0 nat_unit 100 ≡ Made nat_entry 92
unfolding normal_form raised fixed check_type check infer compared convert whd is_alike
naturals = refl

-- the last charge is paid with the last of the allowance
just_enough : declared_entry none 0 nat_unit 8 ≡ Made nat_entry 0
unfolding normal_form raised fixed check_type check infer compared convert whd is_alike
just_enough = refl

too_little : declared_entry none 0 nat_unit 7 ≡ Spent
unfolding normal_form raised fixed check_type check infer compared convert whd is_alike
too_little = refl

-- ---- types in Prop

abbrev a : Bytes
a = codes "a"

abbrev b : Bytes
b = codes "b"

abbrev t : Bytes
t = codes "t"

-- `inductive t : Prop ≝ a : t | b : t.`: two constructors
disjunction : declared_entry none 5
    (inductive t [] prop (con 30 a (name t) ∷ con 38 b (name t) ∷ [])) 100
    ≡ Made
    (Inductive t false 0 (Sort Prop) (record { name = a; ty = Ind 0 } ∷ record { name = b; ty = Ind 0 } ∷ []) false)
    97
unfolding normal_form raised fixed check_type check infer compared convert whd is_alike
disjunction = refl

-- `inductive t : Prop ≝.`: none
empty : declared_entry none 5 (inductive t [] prop []) 100 ≡ Made
    (Inductive t false 0 (Sort Prop) [] true) 99
unfolding normal_form raised fixed check_type check infer compared convert whd is_alike
empty = refl

-- `inductive t (A:Prop) (B:Prop) : Prop ≝ a : A → B → t A B.`: one, whose arguments have types of
-- sort Prop
abbrev A : Bytes
A = codes "A"

abbrev B : Bytes
B = codes "B"

abbrev pub x : Bytes
x = codes "x"

conjunction : declared_entry none 5
    (inductive t (group A prop ∷ group B prop ∷ []) prop (con 30 a (to (name A) (to (name B) (on (on (name t) (name A)) (name B)))) ∷ []))
    100
    ≡ Made
    (Inductive t false 2 (Prod A (Sort Prop) (Prod B (Sort Prop) (Sort Prop))) (record { name = a; ty = Prod A (Sort Prop) (Prod B (Sort Prop) (Prod blank (Var 1) (Prod blank (Var 1) (App (App (Ind 0) (Var 3)) (Var 2))))) } ∷ []) true)
    54
unfolding normal_form raised fixed check_type check infer compared convert whd is_alike
conjunction = refl

-- `inductive t : Prop ≝ a : Type[0] → t.`: one, with an argument of a larger sort, which is no
-- refusal
a_box : declared_entry none 5 (inductive t [] prop (con 30 a (to (type 0) (name t)) ∷ [])) 100
    ≡ Made
    (Inductive t false 0 (Sort Prop) (record { name = a; ty = Prod blank (level 0) (Ind 0) } ∷ []) false)
    93
unfolding normal_form raised fixed check_type check infer compared convert whd is_alike
a_box = refl

-- `inductive t (A:Type[0]) (x:A) : A → Prop ≝ a : t A x x.`: equality
equality : declared_entry none 5
    (inductive t (group A (type 0) ∷ group x (name A) ∷ []) (to (name A) prop) (con 30 a (on (on (on (name t) (name A)) (name x)) (name x)) ∷ []))
    100
    ≡ Made
    (Inductive t false 2 (Prod A (level 0) (Prod x (Var 0) (Prod blank (Var 1) (Sort Prop)))) (record { name = a; ty = Prod A (level 0) (Prod x (Var 0) (App (App (App (Ind 0) (Var 1)) (Var 0)) (Var 0))) } ∷ []) true)
    79
unfolding normal_form raised fixed check_type check infer compared convert whd is_alike
equality = refl

-- ---- families

-- vectors over the naturals
vectors : declared_entry (environment (nat_entry ∷ [])) 5
    (inductive t (group A (type 0) ∷ []) (to (name nat) (type 0)) (con 30 a (on (on (name t) (name A)) (name O)) ∷ con 50 b (all x (name nat) (to (name A) (to (on (on (name t) (name A)) (name x)) (on (on (name t) (name A)) (on (name S) (name x)))))) ∷ []))
    1000
    ≡ Made (Inductive t false 1 (Prod A (level 0) (Prod blank (Ind 0) (level 0)))
    (record { name = a; ty = Prod A (level 0) (App (App (Ind 1) (Var 0)) (Con 0 0)) }
    ∷ record
    { name = b; ty = Prod A (level 0) (Prod x (Ind 0) (Prod blank (Var 1) (Prod blank (App (App (Ind 1) (Var 2)) (Var 1)) (App (App (Ind 1) (Var 3)) (App (Con 0 1) (Var 2)))))) }
    ∷ []) true) 923
unfolding normal_form maximum raised fixed check_type check infer compared convert whd is_alike
vectors = refl

-- `inductive t (A:Type[0]) (B:A → Type[0]) : Type[0] ≝ a : ∀x:A.(B x → t A B) → t A B.`:
-- well-founded trees
trees : declared_entry none 5
    (inductive t (group A (type 0) ∷ group B (to (name A) (type 0)) ∷ []) (type 0) (con 30 a (all x (name A) (to (to (on (name B) (name x)) (on (on (name t) (name A)) (name B))) (on (on (name t) (name A)) (name B)))) ∷ []))
    1000
    ≡ Made (Inductive t false 2 (Prod A (level 0) (Prod B (Prod blank (Var 0) (level 0)) (level 0)))
    (record { name = a; ty = Prod A (level 0) (Prod B (Prod blank (Var 0) (level 0)) (Prod x (Var 1) (Prod blank (Prod blank (App (Var 1) (Var 0)) (App (App (Ind 0) (Var 3)) (Var 2))) (App (App (Ind 0) (Var 3)) (Var 2))))) } ∷ [])
    true) 920
unfolding normal_form maximum raised fixed check_type check infer compared convert whd is_alike
trees = refl

-- ---- refusals

-- `inductive b : Type[0] ≝ a : (b → A) → b.`: at the constructor's name
a_negative_occurrence : declared_entry (environment (Axiom A (level 0) ∷ [])) 5
    (inductive b [] (type 0) (con 30 a (to (to (name b) (name A)) (name b)) ∷ [])) 100 ≡ Refused
    NotPositive 30 99
unfolding normal_form raised fixed check_type check infer compared convert whd is_alike
a_negative_occurrence = refl

-- `inductive t : Type[0] ≝ a : Type[0] → t.`: Type[1] is no Type[0]
too_large_a_sort : declared_entry none 5
    (inductive t [] (type 0) (con 30 a (to (type 0) (name t)) ∷ [])) 100 ≡ Refused (KernelRefused 7)
    5 96
unfolding at_most acyclic normal_form raised fixed check_type check infer compared convert whd
    is_alike
too_large_a_sort = refl

-- `inductive t : nat ≝.`
no_arity : declared_entry (environment (nat_entry ∷ [])) 5 (inductive t [] (name nat) []) 100 ≡
    Refused NotASort 5 100
no_arity = refl

-- a type of a name that is in use; two constructors of one name; a constructor of its type's name
taken_type : declared_entry (environment (nat_entry ∷ [])) 5 nat_unit 100 ≡ Refused (Taken nat) 5
    100
taken_type = refl

taken_twice : declared_entry none 5
    (inductive t [] prop (con 30 a (name t) ∷ con 38 a (name t) ∷ [])) 100 ≡ Refused (Taken a) 5 100
taken_twice = refl

taken_as_type : declared_entry none 5
    (inductive t [] prop (con 30 b (name t) ∷ con 38 t (name t) ∷ [])) 100 ≡ Refused (Taken t) 5 100
taken_as_type = refl

-- a constructor does not know the one before it
unknown_constructor : declared_entry none 5
    (inductive t [] prop (con 30 a (name t) ∷ con 38 b (Term 42 (raw.Name a)) ∷ [])) 100 ≡ Refused
    (Unbound a) 42 98
unfolding normal_form raised fixed check_type check infer compared convert whd is_alike
unknown_constructor = refl

-- ---- axioms and definitions

an_axiom : declared_entry none 5 (unit.Axiom a (type 0)) 100 ≡ Made (Axiom a (level 0)) 99
unfolding normal_form raised fixed check_type check infer compared convert whd is_alike
an_axiom = refl

a_definition : declared_entry none 5 (unit.Definition a (Given (type 1)) (type 0)) 100 ≡ Made
    (Definition a (level 1) (level 0)) 97
unfolding normal_form raised fixed check_type check infer compared convert whd is_alike
a_definition = refl

another_type : declared_entry none 5 (unit.Definition a (Given (type 0)) (type 0)) 100 ≡ Refused
    (KernelRefused 7) 5 97
unfolding at_most acyclic normal_form raised fixed check_type check infer compared convert whd
    is_alike
another_type = refl

without_type : declared_entry none 5 (unit.Definition a Absent (type 0)) 100 ≡ Refused NotHere 5 100
without_type = refl
