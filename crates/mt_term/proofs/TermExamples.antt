-- Small terms: lifting, substitution, likeness, spines, scope, names and instances.
use Rattle.std.proofs.Common.{true, false, ◌≡◌, ◌<◌, ℕ, List, [], ◌∷◌, Option, Some, None, refl, arith}
use Rattle.std.specs.Prelude.{codes}
use Rattle.mt_term.specs.declared.universes.Sort.TheVariants.{Prop, Typ}
use Rattle.mt_term.specs.Trees.{Tree, Var, Sort, Lam, App, Const, Ind, Con, Match, Meta, End, Item, NoArm, Arm}
use Rattle.mt_term.specs.Declarations.{Axiom, Inductive, Environment}
use Rattle.mt_term.specs.States.{Metavariable}
use Rattle.mt_term.specs.Substitution.{under, apps}
use Rattle.mt_term.specs.Lifting.{lift, substitute}
use Rattle.mt_term.specs.Alike.{is_alike}
use Rattle.mt_term.specs.Spines.{as_con, as_const, as_ind, motive_on}
use Rattle.mt_term.specs.Naming.{named}
use Rattle.mt_term.specs.Instancing.{instance}

abbrev prop : Tree
prop = Sort Prop

abbrev small : Tree
small = Sort (Typ (record { base = 0; atoms = [] }))

-- ---- lifting and substitution

lifted : lift 2 0 (Var 0) ≡ Var 2
lifted = refl

not_lifted : lift 2 1 (Var 0) ≡ Var 0
not_lifted = refl

lifted_under_a_binder : lift 1 0 (Lam (codes "x") (Var 0) (App (Var 0) (Var 1))) ≡ Lam (codes "x") (Var 1) (App (Var 0) (Var 2))
lifted_under_a_binder = refl

lifted_in_a_branch : lift 1 0 (Match 0 prop (Var 0) (Arm (codes "m" ∷ codes "n" ∷ []) (App (Var 1) (Var 2)) NoArm)) ≡ Match 0 prop (Var 1) (Arm (codes "m" ∷ codes "n" ∷ []) (App (Var 1) (Var 3)) NoArm)
lifted_in_a_branch = refl

put_for_a_variable : substitute 0 prop (App (Var 0) (Var 1)) ≡ App prop (Var 0)
put_for_a_variable = refl

put_under_a_binder : substitute 0 (Var 3) (Lam (codes "x") prop (App (Var 0) (App (Var 1) (Var 2)))) ≡ Lam (codes "x") prop (App (Var 0) (App (Var 4) (Var 1)))
put_under_a_binder = refl

oldest_first : under (Item prop (Item small End)) (App (Var 0) (Var 1)) ≡ App small prop
oldest_first = refl

-- ---- likeness

names_do_not_count : is_alike (Lam (codes "x") prop (Var 0)) (Lam (codes "y") prop (Var 0)) ≡ true
unfolding is_alike
names_do_not_count = refl

variables_count : is_alike (Lam (codes "x") prop (Var 0)) (Lam (codes "x") prop (Var 1)) ≡ false
unfolding is_alike
variables_count = refl

branches_count : is_alike (Match 0 prop (Var 0) (Arm (codes "n" ∷ []) (Var 0) NoArm)) (Match 0 prop (Var 0) (Arm [] (Var 0) NoArm)) ≡ false
unfolding is_alike
branches_count = refl

-- ---- spines

constructor_on_arguments : as_con (App (App (Con 0 1) prop) (Var 0)) End ≡ Some (0, 1, Item prop (Item (Var 0) End))
constructor_on_arguments = refl

no_constructor : as_con (App (Var 0) prop) End ≡ None
no_constructor = refl

constant_on_arguments : as_const (App (Const 3) prop) End ≡ Some (3, Item prop End)
constant_on_arguments = refl

type_on_arguments : as_ind (App (Ind 2) (Var 0)) End ≡ Some (2, Item (Var 0) End)
type_on_arguments = refl

all_arguments : apps (Con 0 1) (Item prop (Item (Var 0) End)) ≡ App (App (Con 0 1) prop) (Var 0)
all_arguments = refl

at_an_abstraction : motive_on (Lam (codes "x") prop (App (Var 0) (Var 1))) small ≡ App small (Var 0)
at_an_abstraction = refl

at_a_variable : motive_on (Var 0) small ≡ App (Var 0) small
at_a_variable = refl

-- ---- scope and names: `axiom a : Prop.`, and a type n with one constructor o

abbrev sample : Environment
sample = record { entries = Axiom (codes "a") prop ∷ Inductive (codes "n") false 0 small (record { name = codes "o"; ty = Ind 1 } ∷ []) true ∷ []; names = []; below = [] }

an_entry_by_name : named sample.entries (codes "n") ≡ Some (Ind 1)
an_entry_by_name = refl

a_constructor_by_name : named sample.entries (codes "o") ≡ Some (Con 1 0)
a_constructor_by_name = refl

an_unknown_name : named sample.entries (codes "b") ≡ None
an_unknown_name = refl

-- ---- instances: ?0 is a constant on ?1 under its hypothesis, ?1 is open, and ?2 is its second hypothesis on ?0

abbrev store : List Metavariable
store =
    record { context = record { name = codes "x"; ty = prop } ∷ []; ty = prop; body = Some (App (Const 0) (Meta 1 (Item (Var 0) End))) }
    ∷ record { context = record { name = codes "x"; ty = prop } ∷ []; ty = prop; body = None }
    ∷ record { context = record { name = codes "x"; ty = prop } ∷ record { name = codes "y"; ty = prop } ∷ []; ty = prop; body = Some (App (Var 0) (Meta 0 (Item (Var 1) End))) }
    ∷ []

an_instance : instance store (Meta 2 (Item prop (Item small End))) ≡ App small (App (Const 0) (Meta 1 (Item prop End)))
an_instance = refl

an_open_one_stays : instance store (Meta 1 (Item (Meta 0 (Item prop End)) End)) ≡ Meta 1 (Item (App (Const 0) (Meta 1 (Item prop End))) End)
an_open_one_stays = refl
