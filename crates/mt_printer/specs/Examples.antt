-- Examples that the definitions of names and texts compute to.
use Rattle.std.specs.Prelude.{◌≡◌, refl, List, [], ◌∷◌, ◌++◌, false, true, codes, Some, None}
use Rattle.std.specs.Fmt.{digits}
use Rattle.mt_term.specs.Trees.{Tree, Bytes, Var, Sort, Prod, Lam, App, Const, Ind, Con, Match, Meta, End, Item, NoArm, Arm}
use Rattle.mt_term.specs.Declarations.{Declaration, Environment, Axiom, Definition, Inductive, Recursive}
use Rattle.mt_term.specs.declared.universes.Sort.TheVariants.{Prop, Typ}
use Rattle.mt_printer.specs.Chosen.{Scope, fit_name}
use Rattle.mt_printer.specs.TermText.{term_text, forall_sign, lambda_sign, arrow_text, gives_text}

abbrev prop : Tree
prop = Sort Prop

abbrev small : Tree
small = Sort (Typ (record { base = 0; atoms = [] }))

-- a type of numbers, and a constant of that type
abbrev sample : Environment
sample = record {
  entries =
      Inductive (codes "nat") false 0 small
      (record { name = codes "O"; ty = Ind 0 } ∷ record { name = codes "S"; ty = Prod (codes "_") (Ind 0) (Ind 0) } ∷ []) true
      ∷ Axiom (codes "x") (Ind 0) ∷ [];
  names = codes "a" ∷ codes "b" ∷ [];
  below = [];
}

fits_first : fit_name [] (codes "x") ≡ codes "x"
unfolding fit_name digits
fits_first = refl

fits_second : fit_name (codes "x" ∷ codes "x_1" ∷ []) (codes "x") ≡ codes "x_2"
unfolding fit_name digits
fits_second = refl

-- a used variable has a name that the constant in the body does not have
apart : term_text sample [] (Lam (codes "x") (Ind 0) (App (App (Var 0) (Const 1)) (Lam (codes "x") (Ind 0) (Var 1)))) ≡ lambda_sign ++ codes "x_1:nat.x_1 x (" ++ lambda_sign ++ codes "_:nat.x_1)"
unfolding fit_name digits
apart = refl

arrows : term_text sample [] (Prod (codes "f") (Prod (codes "_") (Ind 0) (Ind 0)) (Prod (codes "n") (Ind 0) (App (Var 1) (App (Con 0 1) (Var 0)))))
    ≡ forall_sign ++ codes "f:nat" ++ arrow_text ++ codes "nat." ++ forall_sign ++ codes "n:nat.f (S n)"
unfolding fit_name digits
arrows = refl

left_arrow : term_text sample [] (Prod (codes "f") (Prod (codes "_") (Ind 0) (Ind 0)) (Ind 0)) ≡ codes "(nat" ++ arrow_text ++ codes "nat)" ++ arrow_text ++ codes "nat"
unfolding fit_name digits
left_arrow = refl

matched : term_text sample (Some (codes "n") ∷ []) (Match 0 (Lam (codes "_") (Ind 0) (Ind 0)) (Var 0) (Arm [] (Con 0 0) (Arm (codes "n" ∷ []) (Var 0) NoArm)))
    ≡ codes "match n return " ++ lambda_sign ++ codes "_:nat.nat with [ O" ++ gives_text ++ codes "O | S n_1" ++ gives_text ++ codes "n_1 ]"
unfolding fit_name digits
matched = refl

unmatched : term_text sample (Some (codes "n") ∷ []) (Match 0 (Ind 0) (Var 0) NoArm) ≡ codes "match n return nat with [ ]"
unmatched = refl

metavariables : term_text sample [] (App (Meta 12 (Item (Const 1) (Item (Con 0 0) End))) (Meta 0 End)) ≡ codes "?12[x;O] ?0[]"
unfolding digits
metavariables = refl

sorts : term_text sample [] (Sort (Typ (record { base = 0; atoms = record { name = 0; offset = 0 } ∷ record { name = 1; offset = 2 } ∷ [] }))) ≡ codes "Type[a,b+2]"
unfolding digits
sorts = refl

based : term_text sample [] (Sort (Typ (record { base = 3; atoms = record { name = 0; offset = 1 } ∷ [] }))) ≡ codes "Type[3,a+1]"
unfolding digits
based = refl

smallest : term_text sample [] small ≡ codes "Type[0]"
unfolding digits
smallest = refl

-- a product is an argument, an application is an argument, and a match is neither enclosed
enclosures : term_text sample (Some (codes "f") ∷ []) (App (App (Var 0) (Prod (codes "_") (Ind 0) (Ind 0))) (App (Con 0 1) (Match 0 (Ind 0) (Con 0 0) NoArm)))
    ≡ codes "f (nat" ++ arrow_text ++ codes "nat) (S match O return nat with [ ])"
enclosures = refl

-- no two binders of a branch are shown by one name, and one that is not used shows none
branches : term_text sample [] (Match 0 (Ind 0) (Con 0 0) (Arm (codes "p" ∷ codes "p" ∷ codes "p" ∷ []) (App (Var 0) (Var 2)) NoArm))
    ≡ codes "match O return nat with [ O p _ p_1" ++ gives_text ++ codes "p_1 p ]"
unfolding fit_name digits
branches = refl
