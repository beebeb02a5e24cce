-- Short terms taken by their names.
use Rattle.std.specs.Prelude.{◌≡◌, true, false, ℕ, [], ◌∷◌, codes, refl}
use Rattle.mt_term.specs.Trees.{Bytes, Var, Sort, Prod, Lam, App, Const, Ind, Con, Match, NoArm}
use Rattle.mt_term.specs.Trees.{Arm}
use Rattle.mt_term.specs.Declarations.{Axiom, Inductive, Environment}
use Rattle.mt_term.specs.Reasons.{Unbound, BadElimination, NotHere}
use Rattle.mt_term.specs.UniverseForms.{normal_form}
use Rattle.mt_term.specs.declared.universes.Sort.TheVariants.{Prop, Typ}
use Rattle.mt_term_parser.specs.declared.raw.Part.TheVariants as part
use Rattle.mt_term_parser.specs.declared.raw.RawSort.TheVariants as raw_sort
use Rattle.mt_term_parser.specs.Written as raw
use Rattle.mt_term_parser.specs.Written.{Written, Term, Absent, Given, NoArgument, Argument, NoCase}
use Rattle.mt_term_parser.specs.Written.{Case}
use Rattle.mt_resolver.specs.Built.{is_built}
use Rattle.mt_resolver.specs.Resolution.{Found, Faults, resolved}

abbrev a : Bytes
a = codes "a"

abbrev nat : Bytes
nat = codes "nat"

abbrev O : Bytes
O = codes "O"

abbrev S : Bytes
S = codes "S"

abbrev x : Bytes
x = codes "x"

abbrev y : Bytes
y = codes "y"

-- `axiom a : Prop. inductive nat : Type[0] ≝ O : nat | S : nat → nat.`, with the universe names u
-- and v
abbrev env : Environment
env = record {
  entries =
      Axiom a (Sort Prop) ∷ Inductive nat false 0 (Sort (Typ (record { base = 0; atoms = [] })))
      (record { name = O; ty = Ind 1 } ∷ record { name = S; ty = Prod (codes "_") (Ind 1) (Ind 1) } ∷ [])
      true ∷ [];
  names = codes "u" ∷ codes "v" ∷ [];
  below = [];
}

abbrev name : ℕ → Bytes → Written
name at x = Term at (raw.Name x)

an_axiom : resolved env [] (name 3 a) ≡ Found (Const 0)
an_axiom = refl

a_type : resolved env [] (name 3 nat) ≡ Found (Ind 1)
a_type = refl

a_constructor : resolved env [] (name 3 S) ≡ Found (Con 1 1)
a_constructor = refl

an_unknown_name : resolved env (y ∷ []) (name 3 x) ≡ Faults (Unbound x) 3
an_unknown_name = refl

-- of two hypotheses the newer one; a hypothesis hides an entry
the_newest : resolved env (y ∷ x ∷ x ∷ []) (name 3 x) ≡ Found (Var 1)
the_newest = refl

hiding : resolved env (a ∷ []) (name 3 a) ≡ Found (Var 0)
hiding = refl

-- `∀x:a.λy:x.x`
binders : resolved env []
    (Term 0 (raw.Prod x (name 3 a) (Term 5 (raw.Lam y (Given (name 7 x)) (name 9 x))))) ≡ Found
    (Prod x (Const 0) (Lam y (Var 0) (Var 1)))
binders = refl

-- `S a O`
on_arguments : resolved env []
    (Term 0 (raw.App (name 0 S) (Argument (name 2 a) (Argument (name 4 O) NoArgument)))) ≡ Found
    (App (App (Con 1 1) (Const 0)) (Con 1 0))
on_arguments = refl

-- the first fault from the left
two_faults : resolved env []
    (Term 0 (raw.App (name 0 S) (Argument (name 2 x) (Argument (name 4 y) NoArgument)))) ≡ Faults
    (Unbound x) 2
two_faults = refl

-- `Type[v,1,u+2]`
a_sort : resolved env []
    (Term 5 (raw.Sort (raw_sort.Typ (part.Name (codes "v") 0 ∷ part.Number 1 ∷ part.Name (codes "u") 2 ∷ []))))
    ≡ Found
    (Sort (Typ (record { base = 0; atoms = record { name = 0; offset = 2 } ∷ record { name = 1; offset = 0 } ∷ [] })))
unfolding normal_form
a_sort = refl

-- `Type[1,w,z]`
an_unknown_universe : resolved env []
    (Term 5 (raw.Sort (raw_sort.Typ (part.Number 1 ∷ part.Name (codes "w") 0 ∷ part.Name (codes "z") 2 ∷ []))))
    ≡ Faults (Unbound (codes "w")) 5
an_unknown_universe = refl

-- `match a return nat with [O ⇒ nat | S x ⇒ x]`
a_match : resolved env []
    (Term 2 (raw.Match (name 8 a) (Given (name 17 nat)) (Case O [] (name 33 nat) (Case S (x ∷ []) (name 50 x) NoCase))))
    ≡ Found (Match 1 (Ind 1) (Const 0) (Arm [] (Ind 1) (Arm (x ∷ []) (Var 0) NoArm)))
a_match = refl

-- arms in another order, too few arms, an arm with a name too many, and arms of no type
turned_arms : resolved env []
    (Term 2 (raw.Match (name 8 a) (Given (name 17 nat)) (Case S (x ∷ []) (name 33 x) (Case O [] (name 50 nat) NoCase))))
    ≡ Faults BadElimination 2
turned_arms = refl

one_arm : resolved env []
    (Term 2 (raw.Match (name 8 a) (Given (name 17 nat)) (Case O [] (name 33 nat) NoCase))) ≡ Faults
    BadElimination 2
one_arm = refl

two_names : resolved env []
    (Term 2 (raw.Match (name 8 a) (Given (name 17 nat)) (Case O [] (name 33 nat) (Case S (x ∷ y ∷ []) (name 50 x) NoCase))))
    ≡ Faults BadElimination 2
two_names = refl

no_constructor : resolved env []
    (Term 2 (raw.Match (name 8 a) (Given (name 17 nat)) (Case a [] (name 33 nat) NoCase))) ≡ Faults
    BadElimination 2
no_constructor = refl

-- the matched term is judged before the arms, and these before the return term
matched_first : resolved env []
    (Term 2 (raw.Match (name 8 y) (Given (name 17 x)) (Case x [] (name 33 nat) NoCase))) ≡ Faults
    (Unbound y) 8
matched_first = refl

arms_second : resolved env []
    (Term 2 (raw.Match (name 8 a) (Given (name 17 x)) (Case x [] (name 33 nat) NoCase))) ≡ Faults
    BadElimination 2
arms_second = refl

a_hole : resolved env [] (Term 2 raw.Hole) ≡ Faults NotHere 2
a_hole = refl

-- `λx.x`, `λx:a.x` and a match
without_type : is_built true (Term 0 (raw.Lam x Absent (name 3 x))) ≡ false
without_type = refl

with_type : is_built false (Term 0 (raw.Lam x (Given (name 3 a)) (name 5 x))) ≡ true
with_type = refl

with_matches : is_built true
    (Term 2 (raw.Match (name 8 a) (Given (name 17 nat)) (Case O [] (name 33 nat) NoCase))) ≡ true
with_matches = refl

without_matches : is_built false
    (Term 2 (raw.Match (name 8 a) (Given (name 17 nat)) (Case O [] (name 33 nat) NoCase))) ≡ false
without_matches = refl
