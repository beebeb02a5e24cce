-- Short recursive and corecursive units and the entries that they declare.
use Rattle.std.specs.Prelude.{◌≡◌, Bool, true, false, List, [], ◌∷◌, Option, Some, None, codes}
use Rattle.std.specs.Prelude.{refl}
use Rattle.mt_term.specs.Trees.{Bytes, Var, Prod, Lam, App, Const, Ind, Con, Match, NoArm, Arm}
use Rattle.mt_term.specs.Declarations.{Declaration, Inductive, Recursive}
use Rattle.mt_term.specs.Reasons.{Unbound, NotGuarded}
use Rattle.mt_rules.specs.Knot.{fixed}
use Rattle.mt_term.specs.UniverseForms.{normal_form, raised}
use Rattle.mt_rules.specs.KernelCheck.{check_type, check}
use Rattle.mt_rules.specs.Inference.{infer}
use Rattle.mt_rules.specs.Comparison.{compared, convert}
use Rattle.mt_rules.specs.WeakHead.{whd}
use Rattle.mt_term.specs.Alike.{is_alike}
use Rattle.mt_term_parser.specs.Written as raw
use Rattle.mt_term_parser.specs.Written.{Written, Term, Given, NoCase, Case}
use Rattle.mt_unit_parser.specs.WrittenUnits as unit
use Rattle.mt_unit_parser.specs.WrittenUnits.{WrittenGroup, WrittenKind}
use Rattle.mt_decl.specs.Answers.{Made, Refused}
use Rattle.mt_decl.specs.Declaring.{declared_entry}
use Rattle.mt_decl.specs.Examples.{level, name, on, blank, group, environment, nat, O, S, nat_entry}
use Rattle.mt_decl.specs.Examples.{x}

abbrev function : Bool → Bytes → List WrittenGroup → Option Bytes → Written → Written → WrittenKind
function co f groups place T b =
    unit.Recursive co (record { name = f; groups = groups; on = place; type = T; body = b } ∷ [])

abbrev f : Bytes
f = codes "f"

abbrev n : Bytes
n = codes "n"

abbrev m : Bytes
m = codes "m"

-- `let rec f (n:nat) (m:nat) on n : nat ≝ match n return λ_:nat.nat with [O ⇒ m | S x ⇒ S (f x
-- m)].`
addition : declared_entry (environment (nat_entry ∷ [])) 5
    (function false f (group n (name nat) ∷ group m (name nat) ∷ []) (Some n) (name nat)
    (Term 0 (raw.Match (name n) (Given (Term 0 (raw.Lam blank (Given (name nat)) (name nat)))) (Case O [] (name m) (Case S (x ∷ []) (on (name S) (on (on (name f) (name x)) (name m))) NoCase))))) 100
    ≡ Made (Recursive f false 2 0 (Prod n (Ind 0) (Prod m (Ind 0) (Ind 0)))
    (Lam n (Ind 0) (Lam m (Ind 0) (Match 0 (Lam blank (Ind 0) (Ind 0)) (Var 1) (Arm [] (Var 0) (Arm (x ∷ []) (App (Con 0 1) (App (App (Const 1) (Var 0)) (Var 1))) NoArm)))))
    false) 66
unfolding normal_form raised fixed check_type check infer compared convert whd is_alike
addition = refl

-- `let rec f (n:nat) on n : nat ≝ f n.`
a_loop : declared_entry (environment (nat_entry ∷ [])) 5
    (function false f (group n (name nat) ∷ []) (Some n) (name nat) (on (name f) (name n))) 100 ≡
    Refused NotGuarded 5 97
unfolding normal_form raised fixed check_type check infer compared convert whd is_alike
a_loop = refl

-- `let rec f (n:nat) on m : nat ≝ n.`: refused before the kernel looks at the type
no_such_binder : declared_entry (environment (nat_entry ∷ [])) 5
    (function false f (group n (name nat) ∷ []) (Some m) (name nat) (name n)) 100 ≡ Refused
    (Unbound m) 5 100
no_such_binder = refl

-- `coinductive stream : Type[0] ≝ cons : nat → stream → stream.`
abbrev stream : Declaration
stream =
    Inductive (codes "stream") true 0 (level 0)
    (record { name = codes "cons"; ty = Prod blank (Ind 0) (Prod blank (Ind 1) (Ind 1)) } ∷ [])
    true

-- `let corec f : stream ≝ cons O f.`
zeros : declared_entry (environment (nat_entry ∷ stream ∷ [])) 5
    (function true f [] None (name (codes "stream")) (on (on (name (codes "cons")) (name O)) (name f)))
    100
    ≡ Made (Recursive f true 0 0 (Ind 1) (App (App (Con 1 0) (Con 0 0)) (Const 2)) false) 90
unfolding normal_form raised fixed check_type check infer compared convert whd is_alike
zeros = refl

-- `let corec f : stream ≝ f.`
no_constructor : declared_entry (environment (nat_entry ∷ stream ∷ [])) 5
    (function true f [] None (name (codes "stream")) (name f)) 100 ≡ Refused NotGuarded 5 99
unfolding normal_form raised fixed check_type check infer compared convert whd is_alike
no_constructor = refl
