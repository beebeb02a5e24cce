-- Environments and raw terms for examples.
use Rattle.std.specs.Prelude.{ℕ, List, [], ◌∷◌, ◌++◌, true, false, Some, None, codes}
use Rattle.mt_term.specs.Trees.{Bytes, Tree, Var, Sort, Prod, App, Ind, Con, Meta, End}
use Rattle.mt_term.specs.Declarations.{Hypothesis, Declaration, Inductive, Environment}
use Rattle.mt_term.specs.States.{Metavariable}
use Rattle.mt_term.specs.declared.universes.Sort.TheVariants.{Prop, Typ}
use Rattle.mt_refinement_rules.specs.Settings.{Setting}
use Rattle.mt_term_parser.specs.Written as raw
use Rattle.mt_term_parser.specs.Written.{Written, Arguments, Term, NoArgument, Argument}

-- names
abbrev pub a : Bytes
a = codes "a"

abbrev pub n : Bytes
n = codes "n"

abbrev pub x : Bytes
x = codes "x"

abbrev pub y : Bytes
y = codes "y"

abbrev pub p : Bytes
p = codes "p"

abbrev pub unnamed : Bytes
unnamed = codes "_"

-- terms
abbrev pub prop : Tree
prop = Sort Prop

abbrev pub type : ℕ → Tree
type n = Sort (Typ (record { base = n; atoms = [] }))

abbrev pub arrow : Tree → Tree → Tree
arrow A B = Prod unnamed A B

abbrev pub nat : Tree
nat = Ind 0

abbrev pub nought : Tree
nought = Con 0 0

abbrev pub next : Tree → Tree
next t = App (Con 0 1) t

abbrev pub equal : Tree → Tree → Tree → Tree
equal A t u = App (App (App (Ind 1) A) t) u

abbrev pub meta : ℕ → Tree
meta k = Meta k End

-- `inductive nat : Type[0] ≝ O : nat | S : nat → nat.` and `inductive eq (A:Type[0]) (x:A) : A → Prop ≝ refl : eq A x x.`
abbrev pub numbers : List Declaration
numbers =
    Inductive (codes "nat") false 0 (type 0) (record { name = codes "O"; ty = nat } ∷ record { name = codes "S"; ty = arrow nat nat } ∷ []) true
    ∷ Inductive (codes "eq") false 2 (Prod (codes "A") (type 0) (Prod x (Var 0) (arrow (Var 1) prop)))
    (record { name = codes "refl"; ty = Prod (codes "A") (type 0) (Prod x (Var 0) (equal (Var 1) (Var 0) (Var 0))) } ∷ []) true
    ∷ []

-- these, and more entries
abbrev pub numbers_and : List Declaration → Environment
numbers_and ds = record { entries = numbers ++ ds; names = []; below = [] }

-- an environment without hints and coercions
abbrev pub alone : Environment → Setting
alone E = record { env = E; hints = []; coercions = [] }

-- metavariables in the empty context: an open one of a type, and one with a body
abbrev pub hole : Tree → Metavariable
hole T = record { context = []; ty = T; body = None }

abbrev pub filled : Tree → Tree → Metavariable
filled T b = record { context = []; ty = T; body = Some b }

abbrev pub hypothesis : Bytes → Tree → Hypothesis
hypothesis x T = record { name = x; ty = T }

-- raw terms
abbrev pub name : ℕ → Bytes → Written
name at x = Term at (raw.Name x)

abbrev pub blank : ℕ → Written
blank at = Term at raw.Hole

abbrev pub dots : ℕ → Written
dots at = Term at raw.Vector

abbrev pub on_one : Written → Arguments
on_one t = Argument t NoArgument

abbrev pub on_two : Written → Written → Arguments
on_two t u = Argument t (on_one u)

abbrev pub on_three : Written → Written → Written → Arguments
on_three t u v = Argument t (on_two u v)
