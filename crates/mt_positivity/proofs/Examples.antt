-- Positive constructors of a type that is entry 0, and ones that are not.
use Rattle.std.specs.Prelude.{◌≡◌, [], true, false, refl}
use Rattle.mt_term.specs.Trees.{Tree, Var, Sort, Prod, App, Const, Ind}
use Rattle.mt_term.specs.Alike.{is_alike}
use Rattle.mt_term.specs.declared.universes.Sort.TheVariants.{Prop, Typ}
use Rattle.mt_positivity.specs.Deciding.{is_positive}

abbrev prop : Tree
prop = Sort Prop

abbrev type0 : Tree
type0 = Sort (Typ (record { base = 0; atoms = [] }))

-- the type at Prop, and of a parameter in Prop
abbrev indexed : Tree
indexed = Prod [] prop prop

successor : is_positive 0 0 type0 (Prod [] (Ind 0) (Ind 0)) ≡ true
successor = refl

left_of_an_arrow : is_positive 0 0 type0 (Prod [] (Prod [] (Ind 0) (Const 1)) (Ind 0)) ≡ false
left_of_an_arrow = refl

under_a_product : is_positive 0 0 type0 (Prod [] (Const 2) (Prod [] (Prod [] (Const 1) (Ind 0)) (Ind 0))) ≡ true
under_a_product = refl

in_its_own_index : is_positive 0 0 indexed (App (Ind 0) (Ind 0)) ≡ false
in_its_own_index = refl

in_an_index_of_an_argument : is_positive 0 0 indexed (Prod [] (App (Ind 0) (Ind 0)) (App (Ind 0) (Const 1))) ≡ false
in_an_index_of_an_argument = refl

an_index_left_out : is_positive 0 0 indexed (Ind 0) ≡ false
an_index_left_out = refl

on_its_parameter : is_positive 0 1 indexed (Prod [] prop (Prod [] (Var 0) (Prod [] (App (Ind 0) (Var 1)) (App (Ind 0) (Var 2))))) ≡ true
unfolding is_alike
on_its_parameter = refl

on_another_parameter : is_positive 0 1 indexed (Prod [] prop (App (Ind 0) prop)) ≡ false
unfolding is_alike
on_another_parameter = refl

argument_on_another_parameter : is_positive 0 1 indexed (Prod [] prop (Prod [] (App (Ind 0) prop) (App (Ind 0) (Var 1)))) ≡ false
unfolding is_alike
argument_on_another_parameter = refl

a_parameter_of_another_type : is_positive 0 1 indexed (Prod [] type0 (App (Ind 0) (Var 0))) ≡ false
unfolding is_alike
a_parameter_of_another_type = refl

no_parameter : is_positive 0 1 indexed (Ind 0) ≡ false
no_parameter = refl
