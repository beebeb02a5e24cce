-- What refinement gives for applications, and for `…` among their arguments, and what it costs. Each raw term has one charge; further ones are named.
use Rattle.std.specs.Prelude.{◌≡◌, refl, [], ◌∷◌, true, false, None, Some, codes}
use Rattle.mt_term.specs.Trees.{Tree, Var, Prod, Lam, App, Ind, Con, Const, Match, NoArm, Arm}
use Rattle.mt_term.specs.Declarations.{Axiom, Definition, Inductive, Environment}
use Rattle.mt_term.specs.Reasons.{Mismatch, NotAFunction}
use Rattle.mt_rules.specs.Charges.{Done, Spent}
use Rattle.mt_rules.specs.Knot.{fixed}
use Rattle.mt_term.specs.Alike.{is_alike}
use Rattle.mt_rules.specs.WeakHead.{whd, look, step}
use Rattle.mt_rules.specs.Inference.{infer}
use Rattle.mt_unification_rules.specs.Unification.{unified, unify}
use Rattle.mt_term_parser.specs.Written as raw
use Rattle.mt_term_parser.specs.Written.{Written, Term, NoArgument, Argument}
use Rattle.mt_resolver.specs.Resolution.{Found, Faults}
use Rattle.mt_refinement_rules.specs.Refinement.{refine}
use Rattle.mt_refinement_rules.proofs.Samples.{alone, a, n, prop, type, arrow, nat, nought, next, equal, meta, hole, filled, numbers_and, name, blank, dots, on_one, on_two, on_three}

abbrev unit : Tree
unit = Ind 2

abbrev pair_of : Tree → Tree → Tree
pair_of A B = App (App (Ind 3) A) B

-- after the numbers: `inductive unit : Type[0] ≝ tt : unit.`, `inductive prod (A:Type[0]) (B:Type[0]) : Type[0] ≝ pair : A → B → prod A B.`,
-- `axiom a : Prop.`, `axiom f : nat → nat → nat.`, `axiom q : ∀n:nat.eq nat n (S n).`, `axiom r : ∀m:nat.eq nat m m → Prop.`
abbrev E : Environment
E = numbers_and (
    Inductive (codes "unit") false 0 (type 0) (record { name = codes "tt"; ty = unit } ∷ []) true
    ∷ Inductive (codes "prod") false 2 (Prod (codes "A") (type 0) (Prod (codes "B") (type 0) (type 0)))
    (record { name = codes "pair"; ty = Prod (codes "A") (type 0) (Prod (codes "B") (type 0) (arrow (Var 1) (arrow (Var 1) (pair_of (Var 3) (Var 2))))) } ∷ []) true
    ∷ Axiom a prop
    ∷ Axiom (codes "f") (arrow nat (arrow nat nat))
    ∷ Axiom (codes "q") (Prod n nat (equal nat (Var 0) (next (Var 0))))
    ∷ Axiom (codes "r") (Prod (codes "m") nat (arrow (equal nat (Var 0) (Var 0)) prop))
    ∷ [])

-- ---- applications

-- `S O`: three raw terms and the end of the argument
one_argument : refine (alone E) [] [] (Term 0 (raw.App (name 0 (codes "S")) (on_one (name 2 (codes "O"))))) None 4 ≡ Done (Found (record { store = []; term = next nought; ty = nat })) 0
unfolding refine unify unified whd look fixed is_alike
one_argument = refl

-- and its own end
one_argument_against : refine (alone E) [] [] (Term 0 (raw.App (name 0 (codes "S")) (on_one (name 2 (codes "O"))))) (Some nat) 5 ≡ Done (Found (record { store = []; term = next nought; ty = nat })) 0
unfolding refine unify unified whd look fixed is_alike
one_argument_against = refl

-- `axiom a : Prop. definition b ≝ a a.`
no_function : refine (alone E) [] [] (Term 31 (raw.App (name 31 a) (on_one (name 33 a)))) None 2 ≡ Done (Faults NotAFunction 33) 0
unfolding refine whd look fixed
no_function = refl

-- `S a`
other_argument : refine (alone E) [] [] (Term 0 (raw.App (name 0 (codes "S")) (on_one (name 2 a)))) None 4 ≡ Done (Faults (Mismatch [] prop nat []) 2) 0
unfolding refine unify unified whd look step fixed is_alike
other_argument = refl

-- `pair ? ? O tt` against `prod nat unit`
abbrev a_pair : Written
a_pair = Term 0 (raw.App (name 0 (codes "pair")) (Argument (blank 5) (Argument (blank 7) (on_two (name 9 (codes "O")) (name 11 (codes "tt"))))))

pair_given : refine (alone E) [] [] a_pair (Some (pair_of nat unit)) 21 ≡ Done (Found (record { store = filled (type 0) nat ∷ filled (type 0) unit ∷ []; term = App (App (App (App (Con 3 0) (meta 0)) (meta 1)) nought) (Con 2 0); ty = pair_of (meta 0) (meta 1) })) 0
unfolding refine unify unified infer whd look fixed is_alike
pair_given = refl

-- `…`: no placeholder, one and two
no_dots : refine (alone E) [] [] (Term 0 (raw.App (name 0 (codes "O")) (on_one (dots 2)))) (Some nat) 3 ≡ Done (Found (record { store = []; term = nought; ty = nat })) 0
unfolding refine unify unified whd look fixed is_alike
no_dots = refl

-- `S …`: two raw terms, the end of `S`, the placeholder, and the end of `S ?`
one_dot : refine (alone E) [] [] (Term 0 (raw.App (name 0 (codes "S")) (on_one (dots 2)))) (Some nat) 5 ≡ Done (Found (record { store = hole nat ∷ []; term = next (meta 0); ty = nat })) 0
unfolding refine unify unified whd look step fixed is_alike
one_dot = refl

one_dot_spent : refine (alone E) [] [] (Term 0 (raw.App (name 0 (codes "S")) (on_one (dots 2)))) (Some nat) 4 ≡ Spent
unfolding refine unify unified whd look step fixed is_alike
one_dot_spent = refl

-- `f …`: two raw terms, an end, a placeholder and an end, two placeholders and an end
two_dots : refine (alone E) [] [] (Term 0 (raw.App (name 0 (codes "f")) (on_one (dots 2)))) (Some nat) 8 ≡ Done (Found (record { store = hole nat ∷ hole nat ∷ []; term = App (App (Const 5) (meta 0)) (meta 1); ty = nat })) 0
unfolding refine unify unified whd look step fixed is_alike
two_dots = refl

-- `f … …`: the first stands for nothing, the second for two
dots_twice : refine (alone E) [] [] (Term 0 (raw.App (name 0 (codes "f")) (on_two (dots 2) (dots 4)))) (Some nat) 8 ≡ Done (Found (record { store = hole nat ∷ hole nat ∷ []; term = App (App (Const 5) (meta 0)) (meta 1); ty = nat })) 0
unfolding refine unify unified whd look step fixed is_alike
dots_twice = refl

-- `S …` against `Prop`: two raw terms, the end of `S`, a placeholder and the end of `S ?`, and a placeholder before the one that meets `nat`; the refusal is the first
refused_dots : refine (alone E) [] [] (Term 0 (raw.App (name 0 (codes "S")) (on_one (dots 2)))) (Some prop) 6 ≡ Done (Faults (Mismatch [] (arrow nat nat) prop []) 0) 0
unfolding refine unify unified whd look step fixed is_alike
refused_dots = refl

-- `O … O`: neither without a placeholder nor with one
no_function_after_dots : refine (alone E) [] [] (Term 0 (raw.App (name 0 (codes "O")) (on_two (dots 2) (name 4 (codes "O"))))) None 2 ≡ Done (Faults NotAFunction 4) 0
unfolding refine whd look fixed
no_function_after_dots = refl

-- `eq … O`: two raw terms; `O` and its end, which is refused; a placeholder, `O`, and its end, which takes three
dots_first : refine (alone E) [] [] (Term 0 (raw.App (name 0 (codes "eq")) (on_two (dots 3) (name 5 (codes "O"))))) None 9
    ≡ Done (Found (record { store = filled (type 0) nat ∷ []; term = App (App (Ind 1) (meta 0)) nought; ty = arrow (meta 0) prop })) 0
unfolding refine unify unified infer whd look step fixed is_alike
dots_first = refl

-- `pair … O tt`: two raw terms; `O` and its end, which is refused; a placeholder, and the same; two placeholders, and 17 as with `pair ? ? O tt`
pair_of_dots : refine (alone E) [] [] (Term 0 (raw.App (name 0 (codes "pair")) (on_three (dots 5) (name 7 (codes "O")) (name 9 (codes "tt"))))) (Some (pair_of nat unit)) 26
    ≡ Done (Found (record { store = filled (type 0) nat ∷ filled (type 0) unit ∷ []; term = App (App (App (App (Con 3 0) (meta 0)) (meta 1)) nought) (Con 2 0); ty = pair_of (meta 0) (meta 1) })) 0
unfolding refine unify unified infer whd look step fixed is_alike
pair_of_dots = refl

-- ---- what is reached

-- `definition b ≝ r ? (q ?).`: six raw terms, and the end of `q ?`, in which `?1` is `?0` (five) and `S ?1` is not `?0` (one)
a_circle : refine (alone E) [] [] (Term 15 (raw.App (name 15 (codes "r")) (on_two (blank 17) (Term 20 (raw.App (name 20 (codes "q")) (on_one (blank 22))))))) None 13
    ≡ Done (Faults (Mismatch [] (equal nat (meta 1) (next (meta 1))) (equal nat (meta 0) (meta 0)) []) 20) 0
unfolding refine unify unified infer whd look step fixed is_alike
a_circle = refl

-- after the numbers: `definition P : nat → Type[0] ≝ λn:nat.nat.`, `axiom f : nat → nat.`, `axiom s : ∀n:nat.∀m:P n.eq nat n (f m) → Prop.`
abbrev E' : Environment
E' = numbers_and (
    Definition (codes "P") (arrow nat (type 0)) (Lam n nat nat)
    ∷ Axiom (codes "f") (arrow nat nat)
    ∷ Axiom (codes "s") (Prod n nat (Prod (codes "m") (App (Const 2) (Var 0)) (arrow (equal nat (Var 1) (App (Const 3) (Var 0))) prop)))
    ∷ [])

-- `definition b ≝ s ? ? (refl nat ?).`: eight raw terms, the end of `nat`, and the end of `refl nat ?`, in which `?2` is `?0` (five), which is not `f ?1` (three), since the type of `?1` speaks of `?0`
a_circle_by_type : refine (alone E') [] [] (Term 15 (raw.App (name 15 (codes "s")) (on_three (blank 17) (blank 19) (Term 22 (raw.App (name 22 (codes "refl")) (on_two (name 27 (codes "nat")) (blank 31))))))) None 18
    ≡ Done (Faults (Mismatch [] (equal nat (meta 2) (meta 2)) (equal nat (meta 0) (App (Const 3) (meta 1))) []) 22) 0
unfolding refine unify unified infer whd look step fixed is_alike
a_circle_by_type = refl

-- `inductive group : Type[1] ≝ mk : Type[0] → group.`, `definition carrier : group → Type[0] ≝ λg:group.match g return λg:group.Type[0] with [ mk c ⇒ c ].`, `axiom Z : Type[0].`, `axiom z : Z.`, `axiom op : ∀g:group.carrier g → carrier g.`
abbrev carrier : Tree → Tree
carrier t = App (Const 1) t

abbrev E'' : Environment
E'' = record {
  entries =
      Inductive (codes "group") false 0 (type 1) (record { name = codes "mk"; ty = arrow (type 0) (Ind 0) } ∷ []) true
      ∷ Definition (codes "carrier") (arrow (Ind 0) (type 0)) (Lam (codes "g") (Ind 0) (Match 0 (Lam (codes "g") (Ind 0) (type 0)) (Var 0) (Arm (codes "c" ∷ []) (Var 0) NoArm)))
      ∷ Axiom (codes "Z") (type 0)
      ∷ Axiom (codes "z") (Const 2)
      ∷ Axiom (codes "op") (Prod (codes "g") (Ind 0) (arrow (carrier (Var 0)) (carrier (Var 1))))
      ∷ [];
  names = [];
  below = [];
}

-- `definition w : Z ≝ op ? z.`: four raw terms; the end of `z`, where the carrier takes two steps and each begins anew (five), and two steps for its weak head
no_hint : refine (alone E'') [] [] (Term 21 (raw.App (name 21 (codes "op")) (on_two (blank 24) (name 26 (codes "z"))))) (Some (Const 2)) 11 ≡ Done (Faults (Mismatch [] (Const 2) (carrier (meta 0)) []) 26) 0
unfolding refine unify unified infer whd look step fixed is_alike
no_hint = refl
