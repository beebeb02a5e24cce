-- Notation for examples, and inductive types: the naturals are entry 0, the others entry 2.
use Rattle.std.specs.Prelude.{ℕ, ◌-◌, List, [], ◌∷◌, length, true, false, Option, Some, None, codes}
use Rattle.mt_term.specs.Trees.{Bytes, Tree, Var, Sort, Prod, Lam, App, Ind, Con}
use Rattle.mt_term.specs.Declarations.{Hypothesis, Constructor, Declaration, Inductive, Recursive}
use Rattle.mt_term.specs.Declarations.{Environment}
use Rattle.mt_term.specs.declared.universes.Sort.TheVariants.{Prop, Typ}
use Rattle.mt_induction_rules.specs.Principles.{principle}

infixl 9 ◌·◌
infixr 5 ◌⟶◌
-- ---- notation

abbrev pub ◌·◌ : Tree → Tree → Tree
◌·◌ t u = App t u

abbrev pub ◌⟶◌ : Tree → Tree → Tree
◌⟶◌ T U = Prod (codes "_") T U

abbrev pub prop : Tree
prop = Sort Prop

abbrev pub type : ℕ → Tree
type i = Sort (Typ (record { base = i; atoms = [] }))

abbrev pub nat : Tree
nat = Ind 0

abbrev pub O : Tree
O = Con 0 0

abbrev pub S : Tree
S = Con 0 1

abbrev pub binder : Bytes → Tree → Hypothesis
binder x T = record { name = x; ty = T }

abbrev pub constructor : Bytes → Tree → Constructor
constructor x T = record { name = x; ty = T }

-- products and abstractions over binders, the oldest first
abbrev pub all_of : List Hypothesis → Tree → Tree
all_of [] t = t
all_of (h ∷ hs) t = Prod h.name h.ty (all_of hs t)

abbrev pub function_of : List Hypothesis → Tree → Tree
function_of [] t = t
function_of (h ∷ hs) t = Lam h.name h.ty (function_of hs t)

-- a function over binders that is made, recursive on the last one, by its result and its body
abbrev pub made : Bytes → List Hypothesis → Tree → Tree → Declaration
made x hs T b =
    Recursive x false (length hs) (length hs - 1) (all_of hs T) (function_of hs b) true

-- an environment of these entries
abbrev pub environment : List Declaration → Environment
environment ds = record { entries = ds; names = []; below = [] }

-- an entry, and its principle where it has one
abbrev listed : Option Declaration → List Declaration
listed None = []
listed (Some q) = q ∷ []

abbrev pub and_its_principle : ℕ → Declaration → List Declaration
and_its_principle e d = d ∷ listed (principle e d)

-- names
abbrev pub A : Bytes
A = codes "A"

abbrev pub B : Bytes
B = codes "B"

abbrev pub P : Bytes
P = codes "P"

abbrev pub R : Bytes
R = codes "R"

abbrev pub a : Bytes
a = codes "a"

abbrev pub b : Bytes
b = codes "b"

abbrev pub f : Bytes
f = codes "f"

abbrev pub m : Bytes
m = codes "m"

abbrev pub n : Bytes
n = codes "n"

abbrev pub x : Bytes
x = codes "x"

abbrev pub y : Bytes
y = codes "y"

abbrev pub z : Bytes
z = codes "z"

-- ---- types

-- `inductive nat : Type[0] ≝ O : nat | S : nat → nat.`
abbrev pub nat_type : Declaration
nat_type =
    Inductive (codes "nat") false 0 (type 0)
    (constructor (codes "O") nat
    ∷ constructor (codes "S") (nat ⟶ nat) ∷ []) true

-- `inductive list (A:Type[0]) : Type[0] ≝ nil : list A | cons : A → list A → list A.`
abbrev pub list_type : Declaration
list_type =
    Inductive (codes "list") false 1 (Prod A (type 0) (type 0))
    (constructor (codes "nil") (Prod A (type 0) (Ind 2 · Var 0))
    ∷ constructor (codes "cons") (Prod A (type 0) (Var 0 ⟶ Ind 2 · Var 1 ⟶ Ind 2 · Var 2)) ∷ [])
    true

-- `inductive vec (A:Type[0]) : nat → Type[0] ≝ vnil : vec A O | vcons : ∀n:nat.A → vec A n → vec A
-- (S n).`
abbrev pub vector_type : Declaration
vector_type =
    Inductive (codes "vec") false 1 (Prod A (type 0) (nat ⟶ type 0))
    (constructor (codes "vnil") (Prod A (type 0) (Ind 2 · Var 0 · O))
    ∷ constructor (codes "vcons")
    (Prod A (type 0) (Prod n nat (Var 1 ⟶ Ind 2 · Var 2 · Var 1 ⟶ Ind 2 · Var 3 · (S · Var 2))))
    ∷ []) true

-- `inductive eq (A:Type[0]) (x:A) : A → Prop ≝ refl : eq A x x.`
abbrev pub equality_type : Declaration
equality_type =
    Inductive (codes "eq") false 2 (Prod A (type 0) (Prod x (Var 0) (Var 1 ⟶ prop)))
    (constructor (codes "refl") (Prod A (type 0) (Prod x (Var 0) (Ind 2 · Var 1 · Var 0 · Var 0)))
    ∷ []) true

-- `inductive and (A:Prop) (B:Prop) : Prop ≝ conj : A → B → and A B.`
abbrev pub conjunction_type : Declaration
conjunction_type =
    Inductive (codes "and") false 2 (Prod A prop (Prod B prop prop))
    (constructor (codes "conj") (Prod A prop (Prod B prop (Var 1 ⟶ Var 1 ⟶ Ind 2 · Var 3 · Var 2)))
    ∷ []) true

-- `inductive ex (A:Type[0]) (B:A → Prop) : Prop ≝ witness : ∀x:A.B x → ex A B.`
abbrev pub existential_type : Declaration
existential_type =
    Inductive (codes "ex") false 2 (Prod A (type 0) (Prod B (Var 0 ⟶ prop) prop))
    (constructor (codes "witness")
    (Prod A (type 0)
    (Prod B (Var 0 ⟶ prop) (Prod x (Var 1) (Var 1 · Var 0 ⟶ Ind 2 · Var 3 · Var 2)))) ∷ []) false

-- `inductive W (A:Type[0]) (B:A → Type[0]) : Type[0] ≝ sup : ∀a:A.(B a → W A B) → W A B.`
abbrev pub well_founded_type : Declaration
well_founded_type =
    Inductive (codes "W") false 2 (Prod A (type 0) (Prod B (Var 0 ⟶ type 0) (type 0)))
    (constructor (codes "sup")
    (Prod A (type 0)
    (Prod B (Var 0 ⟶ type 0)
    (Prod a (Var 1) ((Var 1 · Var 0 ⟶ Ind 2 · Var 3 · Var 2) ⟶ Ind 2 · Var 3 · Var 2)))) ∷ []) true

-- `inductive le (n:nat) : nat → Prop ≝ le_n : le n n | le_S : ∀m:nat.le n m → le n (S m).`
abbrev pub order_type : Declaration
order_type =
    Inductive (codes "le") false 1 (Prod n nat (nat ⟶ prop))
    (constructor (codes "le_n") (Prod n nat (Ind 2 · Var 0 · Var 0))
    ∷ constructor (codes "le_S")
    (Prod n nat (Prod m nat (Ind 2 · Var 1 · Var 0 ⟶ Ind 2 · Var 2 · (S · Var 1)))) ∷ []) false

-- `inductive tree : Type[0] ≝ leaf : tree | node : tree → (nat → tree) → tree.`
abbrev pub tree_type : Declaration
tree_type =
    Inductive (codes "tree") false 0 (type 0)
    (constructor (codes "leaf") (Ind 2)
    ∷ constructor (codes "node") (Ind 2 ⟶ (nat ⟶ Ind 2) ⟶ Ind 2) ∷ []) true

-- `inductive False : Prop ≝ .`
abbrev pub false_type : Declaration
false_type =
    Inductive (codes "False") false 0 prop [] true

-- `inductive True : Prop ≝ I : True.`
abbrev pub true_type : Declaration
true_type =
    Inductive (codes "True") false 0 prop (constructor (codes "I") (Ind 2) ∷ []) true

-- `inductive acc (A:Type[0]) (R:A → A → Prop) : A → Prop ≝ acc_in : ∀x:A.(∀y:A.R y x → acc A R y) →
-- acc A R x.`
abbrev pub accessible_type : Declaration
accessible_type =
    Inductive (codes "acc") false 2 (Prod A (type 0) (Prod R (Var 0 ⟶ Var 1 ⟶ prop) (Var 1 ⟶ prop)))
    (constructor (codes "acc_in")
    (Prod A (type 0)
    (Prod R (Var 0 ⟶ Var 1 ⟶ prop)
    (Prod x (Var 1)
    (Prod y (Var 2) (Var 2 · Var 0 · Var 1 ⟶ Ind 2 · Var 4 · Var 3 · Var 1)
    ⟶ Ind 2 · Var 3 · Var 2 · Var 1)))) ∷ []) false

-- `inductive at (A:Type[0]) (B:A → Type[0]) : ∀a:A.B a → Prop ≝ here : ∀a:A.∀b:B a.at A B a b.`
abbrev pub dependent_type : Declaration
dependent_type =
    Inductive (codes "at") false 2
    (Prod A (type 0) (Prod B (Var 0 ⟶ type 0) (Prod a (Var 1) (Var 1 · Var 0 ⟶ prop))))
    (constructor (codes "here")
    (Prod A (type 0)
    (Prod B (Var 0 ⟶ type 0)
    (Prod a (Var 1) (Prod b (Var 1 · Var 0) (Ind 2 · Var 3 · Var 2 · Var 1 · Var 0))))) ∷ []) false

-- `inductive path (A:Type[0]) (R:A → A → Prop) : A → A → Prop ≝ stop : ∀x:A.path A R x x | step :
-- ∀x:A.∀y:A.∀z:A.R x y → path A R y z → path A R x z.`
abbrev pub path_type : Declaration
path_type =
    Inductive (codes "path") false 2
    (Prod A (type 0) (Prod R (Var 0 ⟶ Var 1 ⟶ prop) (Var 1 ⟶ Var 2 ⟶ prop)))
    (constructor (codes "stop")
    (Prod A (type 0)
    (Prod R (Var 0 ⟶ Var 1 ⟶ prop) (Prod x (Var 1) (Ind 2 · Var 2 · Var 1 · Var 0 · Var 0))))
    ∷ constructor (codes "step")
    (Prod A (type 0)
    (Prod R (Var 0 ⟶ Var 1 ⟶ prop)
    (Prod x (Var 1)
    (Prod y (Var 2)
    (Prod z (Var 3)
    (Var 3 · Var 2 · Var 1 ⟶ Ind 2 · Var 5 · Var 4 · Var 2 · Var 1
    ⟶ Ind 2 · Var 6 · Var 5 · Var 4 · Var 2)))))) ∷ []) false
