-- Coercions, and the path of them from one head to another.
use Rattle.std.specs.Prelude.{ℕ, zero, suc, List, [], ◌∷◌, length, if◌then◌else◌, Option, Some, None, option_map, slice_get}
use Rattle.mt_term.specs.Trees.{Bytes, Tree, Prod, App, Const, Ind, Con}
use Rattle.mt_term.specs.Declarations.{Environment, constructor_at}
use Rattle.mt_term.specs.Alike.{is_alike}
use Rattle.mt_term.specs.Naming.{named}
use Rattle.mt_term.specs.Substitution.{products}
use Rattle.mt_rules.specs.Inference.{constant_type, constructor_type}

-- a coercion: its name, the constant or constructor, its type, the heads that it leads from and to, and the number of its arguments
pub record Coercion : Type 0 where
  pub name : Bytes
  pub term : Tree
  pub ty : Tree
  pub source : Tree
  pub target : Tree
  pub count : ℕ

-- the head of a type, where it is a constant or an inductive type
abbrev pub type_head : Tree → Option Tree
type_head (App f a) = type_head f
type_head (Const c) = Some (Const c)
type_head (Ind e) = Some (Ind e)
type_head t = None

-- ---- what may be a coercion

-- the last domain of a type of products, as it stands; where there is none, another
abbrev pub last_domain : Option Tree → Tree → Option Tree
last_domain o (Prod x a b) = last_domain (Some a) b
last_domain o t = o

-- what is left past the products
abbrev pub result_of : Tree → Tree
result_of (Prod x a b) = result_of b
result_of t = t

abbrev pub head_of : Option Tree → Option Tree
head_of None = None
head_of (Some t) = type_head t

abbrev pub between : Bytes → Tree → Tree → Option Tree → Option Tree → Option Coercion
between x t T (Some a) (Some b) = if is_alike a b then None else Some (record { name = x; term = t; ty = T; source = a; target = b; count = products T })
between x t T a b = None

-- a coercion by this type: from the head of the last domain to that of the result, where these differ
abbrev pub by_type : Bytes → Tree → Option Tree → Option Coercion
by_type x t None = None
by_type x t (Some T) = between x t T (head_of (last_domain None T)) (type_head (result_of T))

abbrev pub by_meaning : Environment → Bytes → Option Tree → Option Coercion
by_meaning E x (Some (Const c)) = by_type x (Const c) (constant_type (slice_get E.entries c))
by_meaning E x (Some (Con e k)) = by_type x (Con e k) (constructor_type (constructor_at E.entries e k))
by_meaning E x t = None

-- the coercion that a constant or a constructor is, by its name
abbrev pub coercion_of : Environment → Bytes → Option Coercion
coercion_of E x = by_meaning E x (named E.entries x)

-- ---- paths

abbrev pub first_some : {A : Type 0} → Option A → Option A → Option A
first_some None o = o
first_some (Some a) o = Some a

-- the first coercion from a after which the rest leads on
abbrev pub first_chain : (Coercion → Option (List Coercion)) → Tree → List Coercion → Option (List Coercion)
first_chain rest a [] = None
first_chain rest a (c ∷ cs) = if is_alike c.source a then first_some (option_map (λ ds. c ∷ ds) (rest c)) (first_chain rest a cs) else first_chain rest a cs

-- so many coercions from head to head: of all such lists the least by the numbers of declaration
abbrev pub chain : List Coercion → ℕ → Tree → Tree → Option (List Coercion)
chain cs zero a b = if is_alike a b then Some [] else None
chain cs (suc n) a b = first_chain (λ c. chain cs n c.target b) a cs

-- the chain of the least length, of so many lengths from one on
abbrev pub shortest : List Coercion → ℕ → ℕ → Tree → Tree → Option (List Coercion)
shortest cs zero n a b = None
shortest cs (suc more) n a b = first_some (chain cs n a b) (shortest cs more (suc n) a b)

-- The path: the chain of the least length, from 1 to as many coercions as there are. There is none between equal heads, or where a side has no such head.
abbrev pub path : List Coercion → Option Tree → Option Tree → Option (List Coercion)
path cs (Some a) (Some b) = if is_alike a b then None else shortest cs (length cs) 1 a b
path cs o p = None
