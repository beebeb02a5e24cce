-- What the definitions with charges give on small terms.
use Rattle.std.specs.Prelude.{◌≡◌, refl, List, [], ◌∷◌, true, false, Some}
use Rattle.mt_term.specs.Trees.{Tree, Var, Sort, Prod, Lam, App, Const, Ind, Con, Match, NoArm, Arm, Meta, End}
use Rattle.mt_term.specs.Declarations.{Hypothesis, Inductive, Recursive, Environment}
use Rattle.mt_term.specs.Reasons.{Mismatch}
use Rattle.mt_rules.specs.Charges.{Done, Refused, Spent, Charged, charge, ◌>>=◌}
use Rattle.mt_rules.specs.Knot.{fixed}
use Rattle.mt_term.specs.Stores.{no_store}
use Rattle.mt_term.specs.Alike.{is_alike}
use Rattle.mt_rules.specs.WeakHead.{whd, look, step, normal}
use Rattle.mt_rules.specs.Comparison.{◌and◌, compared, convert}
use Rattle.mt_rules.specs.Inference.{infer, sorted, agrees}
use Rattle.mt_rules.specs.KernelCheck.{check_type, check}
use Rattle.mt_term.specs.UniverseForms.{normal_form, maximum, raised}
use Rattle.mt_term.specs.UniverseOrder.{path, height, acyclic, at_most, same}
use Rattle.mt_term.specs.declared.modes.Mode.TheVariants.{Equal, AtMost}
use Rattle.mt_term.specs.declared.universes.Sort.TheVariants.{Prop, Typ}
use Rattle.mt_calculus.proofs.CalculusExamples.{numbers, store}

abbrev type0 : Tree
type0 = Sort (Typ (record { base = 0; atoms = [] }))

abbrev type1 : Tree
type1 = Sort (Typ (record { base = 1; atoms = [] }))

abbrev nat : Tree
nat = Ind 0

abbrev nought : Tree
nought = Con 0 0

abbrev next : Tree → Tree
next t = App (Con 0 1) t

abbrev plus : Tree → Tree → Tree
plus t u = App (App (Const 1) t) u

-- n + m by recursion on n
abbrev plus_body : Tree
plus_body = Lam (110 ∷ []) nat (Lam (109 ∷ []) nat (Match 0 (Lam (120 ∷ []) nat nat) (Var 1)
    (Arm [] (Var 0) (Arm ((107 ∷ []) ∷ []) (next (plus (Var 0) (Var 1))) NoArm))))

-- natural numbers with their sum, streams, and the stream of noughts
abbrev sums : Environment
sums = record {
  entries =
      Inductive (78 ∷ []) false 0 type0 (record { name = 79 ∷ []; ty = nat } ∷ record { name = 83 ∷ []; ty = Prod (95 ∷ []) nat nat } ∷ []) true
      ∷ Recursive (112 ∷ []) false 2 0 (Prod (95 ∷ []) nat (Prod (95 ∷ []) nat nat)) plus_body false
      ∷ Inductive (84 ∷ []) true 0 type0 (record { name = 67 ∷ []; ty = Prod (95 ∷ []) nat (Prod (95 ∷ []) (Ind 2) (Ind 2)) } ∷ []) true
      ∷ Recursive (122 ∷ []) true 0 0 (Ind 2) (App (App (Con 2 0) nought) (Const 3)) false
      ∷ [];
  names = [];
  below = [];
}

abbrev empty : Environment
empty = record { entries = []; names = []; below = [] }

-- the head of a stream
abbrev first_in : Tree → Tree
first_in t = Match 2 (Lam (120 ∷ []) (Ind 2) nat) t (Arm ((104 ∷ []) ∷ (116 ∷ []) ∷ []) (Var 1) NoArm)

-- a recursive function on a constructor: it is unfolded, two abstractions and the match are contracted
plus_steps : whd sums no_store (plus (next nought) (Var 0)) 9 ≡ Done (next (plus nought (Var 0))) 5
unfolding whd fixed
plus_steps = refl

-- on a variable it stays
plus_stays : whd sums no_store (plus (Var 1) (Var 0)) 9 ≡ Done (plus (Var 1) (Var 0)) 9
unfolding whd fixed
plus_stays = refl

-- the argument at its place is taken to its weak head before the step's own charge, which stays spent where there is no step
plus_of_plus : whd sums no_store (plus (plus nought nought) (Var 0)) 9 ≡ Done (Var 0) 1
unfolding whd fixed
plus_of_plus = refl

plus_of_stuck : whd sums no_store (plus (App (Lam (120 ∷ []) nat (Var 0)) (Var 1)) (Var 0)) 9 ≡ Done (plus (App (Lam (120 ∷ []) nat (Var 0)) (Var 1)) (Var 0)) 8
unfolding whd fixed
plus_of_stuck = refl

-- a corecursive function stays, but steps as a matched term
noughts_stay : whd sums no_store (Const 3) 9 ≡ Done (Const 3) 9
unfolding whd fixed
noughts_stay = refl

noughts_match : whd sums no_store (first_in (Const 3)) 9 ≡ Done nought 7
unfolding whd fixed
noughts_match = refl

noughts_one_step : step sums no_store (first_in (Const 3)) 9 ≡ Done (Some (first_in (App (App (Con 2 0) nought) (Const 3)))) 8
unfolding step look whd fixed
noughts_one_step = refl

-- a normal form
plus_normal : normal sums no_store (plus (next nought) (next nought)) 9 ≡ Done (next (next nought)) 1
unfolding normal look whd fixed
plus_normal = refl

-- 1 + 1 is 2
two : convert sums no_store Equal (plus (next nought) (next nought)) (next (next nought)) 19 ≡ Done true 8
unfolding convert compared ◌and◌ whd fixed is_alike
two = refl

not_one : convert sums no_store Equal (plus (next nought) (next nought)) (next nought) 19 ≡ Done false 9
unfolding convert compared ◌and◌ whd fixed is_alike
not_one = refl

-- the type of all identities costs 5, and the check of the identity 11
every : Tree
every = Prod (65 ∷ []) (Sort Prop) (Prod (95 ∷ []) (Var 0) (Var 1))

same_again : Tree
same_again = Lam (65 ∷ []) (Sort Prop) (Lam (120 ∷ []) (Var 0) (Var 0))

every_type : infer empty no_store [] every 5 ≡ Done (Sort Prop) 0
unfolding infer whd fixed every maximum normal_form
every_type = refl

-- The term, taken against its type, costs 8: one charge for each part, and one for each comparison. An abstraction is taken against
-- a product by its type, the comparison of both domains, and its body.
abbrev against : List Hypothesis → Tree → Tree → Charged (Unit {0})
against Γ (Lam x a b) (Prod y c d) =
    charge (sorted empty no_store (infer empty no_store Γ a) >>= λ s. agrees empty no_store Γ Equal a c >>= λ z. against (record { name = x; ty = a } ∷ Γ) b d)
against Γ t u = infer empty no_store Γ t >>= λ v. agrees empty no_store Γ AtMost v u

identity_against : against [] same_again every 8 ≡ Done tt 0
unfolding infer convert compared whd fixed every same_again is_alike
identity_against = refl

identity_check : check empty same_again every 11 ≡ Done tt 0
unfolding check check_type infer convert compared whd fixed every same_again is_alike
identity_check = refl

identity_spent : check empty same_again every 10 ≡ Spent
unfolding check check_type infer convert compared whd fixed every same_again is_alike
identity_spent = refl

-- a match is inferred
sum_type : infer sums no_store [] plus_body 30 ≡ Done (Prod (110 ∷ []) nat (Prod (109 ∷ []) nat nat)) 7
unfolding infer convert compared ◌and◌ whd fixed is_alike maximum raised normal_form at_most same path height acyclic
sum_type = refl

-- a refused argument shows the types and the context
wrong_argument : infer sums no_store (record { name = 120 ∷ []; ty = Sort Prop } ∷ []) (next (Var 0)) 9 ≡ Refused (Mismatch (record { name = 120 ∷ []; ty = Sort Prop } ∷ []) (Sort Prop) nat []) 5
unfolding infer convert compared ◌and◌ whd fixed is_alike
wrong_argument = refl

-- the normal form of a term with an assigned metavariable is its instance here
value_normal : normal numbers store (App (Con 0 1) (Meta 0 End)) 1 ≡ Done (App (Con 0 1) (Con 0 0)) 0
unfolding normal look whd fixed
value_normal = refl
