-- An environment, goals and actions for examples.
use Rattle.std.specs.Prelude.{ℕ, List, [], ◌∷◌, ◌++◌, true, false, Some, None, codes}
use Rattle.mt_term.specs.Trees.{Bytes, Tree, Var, Sort, Prod, Lam, App, Const, Ind, Con}
use Rattle.mt_term.specs.Trees.{Match, Meta, End, Item, NoArm, Arm}
use Rattle.mt_term.specs.Declarations.{Hypothesis, Declaration, Axiom, Definition, Inductive}
use Rattle.mt_term.specs.Declarations.{Recursive}
use Rattle.mt_term.specs.Reasons.{Reason, NotHere}
use Rattle.mt_term.specs.States.{Metavariable}
use Rattle.mt_term.specs.declared.universes.Sort.TheVariants.{Prop, Typ}
use Rattle.mt_rules.specs.Charges.{Outcome, Done}
use Rattle.mt_unification_rules.specs.Placeholders.{Metas}
use Rattle.mt_term_parser.specs.Written as raw
use Rattle.mt_term_parser.specs.Written.{Written, Arguments, Term, NoArgument, Argument}
use Rattle.mt_unit_parser.specs.WrittenUnits.{Deed}
use Rattle.mt_resolver.specs.Resolution.{Resolution, Found, Faults}
use Rattle.mt_refinement_rules.specs.Placed.{Placed, faults}
use Rattle.mt_refinement_rules.specs.Settings.{Setting}
use Rattle.mt_action_rules.specs.Actions.{Split, act}

-- ---- names

abbrev pub n : Bytes
n = codes "n"

abbrev pub m : Bytes
m = codes "m"

abbrev pub h : Bytes
h = codes "h"

abbrev pub x : Bytes
x = codes "x"

abbrev pub unnamed : Bytes
unnamed = codes "_"

-- ---- terms

abbrev pub prop : Tree
prop = Sort Prop

abbrev pub type : ℕ → Tree
type n = Sort (Typ (record { base = n; atoms = [] }))

abbrev pub arrow : Tree → Tree → Tree
arrow A B = Prod unnamed A B

abbrev pub nat : Tree
nat = Ind 0

abbrev pub nought : Tree
nought = Con 0 0

abbrev pub next : Tree → Tree
next t = App (Con 0 1) t

abbrev pub equal : Tree → Tree → Tree
equal t u = App (App (App (Ind 1) nat) t) u

abbrev pub reflexive : Tree → Tree
reflexive t = App (App (Con 1 0) nat) t

abbrev pub plus : Tree → Tree → Tree
plus t u = App (App (Const 2) t) u

abbrev pub holds : Tree → Tree
holds t = App (Const 3) t

abbrev pub alias : Tree
alias = Const 6

abbrev pub functions : Tree
functions = Const 7

-- a metavariable under no hypothesis, one and two
abbrev pub meta : ℕ → Tree
meta k = Meta k End

abbrev pub meta_under_one : ℕ → Tree
meta_under_one k = Meta k (Item (Var 0) End)

abbrev pub meta_under_two : ℕ → Tree
meta_under_two k = Meta k (Item (Var 1) (Item (Var 0) End))

-- ---- the environment

-- `inductive nat : Type[0] ≝ O : nat | S : nat → nat.` and
-- `inductive eq (A:Type[0]) (x:A) : A → Prop ≝ refl : eq A x x.`
abbrev numbers : List Declaration
numbers =
    Inductive (codes "nat") false 0 (type 0)
    (record { name = codes "O"; ty = nat } ∷ record { name = codes "S"; ty = arrow nat nat } ∷ [])
    true
    ∷ Inductive (codes "eq") false 2
    (Prod (codes "A") (type 0) (Prod x (Var 0) (arrow (Var 1) prop)))
    (record {
      name = codes "refl";
      ty = Prod (codes "A") (type 0)
          (Prod x (Var 0) (App (App (App (Ind 1) (Var 1)) (Var 0)) (Var 0)));
    } ∷ []) true
    ∷ []

-- `let rec plus (n:nat) (m:nat) on n : nat ≝ match n with [ O ⇒ m | S p ⇒ S (plus p m) ].`
abbrev addition : Declaration
addition =
    Recursive (codes "plus") false 2 0 (Prod n nat (Prod m nat nat))
    (Lam n nat (Lam m nat (Match 0 (Lam unnamed nat nat) (Var 1)
    (Arm [] (Var 0) (Arm (codes "p" ∷ []) (next (plus (Var 0) (Var 1))) NoArm))))) false

-- `axiom P : nat → Prop.`, `axiom p : ∀n:nat.P n → P (S n).`, `axiom b : P O.`,
-- `definition d : Type[0] ≝ nat.` and `definition f : Type[0] ≝ nat → nat.`
abbrev facts : List Declaration
facts =
    Axiom (codes "P") (arrow nat prop)
    ∷ Axiom (codes "p") (Prod n nat (arrow (holds (Var 0)) (holds (next (Var 1)))))
    ∷ Axiom (codes "b") (holds nought)
    ∷ Definition (codes "d") (type 0) nat
    ∷ Definition (codes "f") (type 0) (arrow nat nat)
    ∷ []

-- all these entries, and further ones, without hints and coercions
abbrev pub entries_and : List Declaration → Setting
entries_and ds =
    record {
      env = record { entries = numbers ++ (addition ∷ facts) ++ ds; names = []; below = [] };
      hints = [];
      coercions = [];
    }

-- ---- goals, their contexts oldest hypothesis first

abbrev pub hypothesis : Bytes → Tree → Hypothesis
hypothesis x T = record { name = x; ty = T }

abbrev pub goal : List Hypothesis → Tree → Metavariable
goal Γ T = record { context = Γ; ty = T; body = None }

abbrev pub closed : List Hypothesis → Tree → Tree → Metavariable
closed Γ T t = record { context = Γ; ty = T; body = Some t }

-- ---- raw terms

abbrev pub name : ℕ → Bytes → Written
name at x = Term at (raw.Name x)

abbrev pub blank : ℕ → Written
blank at = Term at raw.Hole

-- a function on one argument and on two
abbrev pub on_one : ℕ → Bytes → Written → Written
on_one at f a = Term at (raw.App (name at f) (Argument a NoArgument))

abbrev pub on_two : ℕ → Bytes → Written → Written → Written
on_two at f a b = Term at (raw.App (name at f) (Argument a (Argument b NoArgument)))

-- ---- actions

-- neither `cases` nor `elim`
abbrev pub no_split : Split
no_split recursively at w g ms = faults NotHere at

-- an action at place 20 on a goal
abbrev pub does_in : Setting → Deed → ℕ → Metas → Placed (Metas × List ℕ)
does_in S d = act S no_split (record { start = 20; deed = d })

abbrev pub does : Deed → ℕ → Metas → Placed (Metas × List ℕ)
does = does_in (entries_and [])

-- a store and new goals, and a refusal at a place; nothing is left of the allowance
abbrev pub gives : Metas → List ℕ → Outcome (Resolution (Metas × List ℕ))
gives ms ns = Done (Found (ms, ns)) 0

abbrev pub refuses : Reason → ℕ → Outcome (Resolution (Metas × List ℕ))
refuses r at = Done (Faults r at) 0
