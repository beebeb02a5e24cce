-- What a name stands for in an environment: an entry or a constructor.
use Rattle.std.specs.Prelude.{ℕ, suc, if◌then◌else◌, List, [], ◌∷◌, ◌++◌, Option, Some, None}
use Rattle.std.specs.Str.{bytes_eq}
use Rattle.mt_term.specs.Trees.{Tree, Bytes, Const, Ind, Con}
use Rattle.mt_term.specs.Declarations.{Constructor, Declaration, Axiom, Definition, Inductive}
use Rattle.mt_term.specs.Declarations.{Recursive}

-- the name of an entry
abbrev pub name_of : Declaration → Bytes
name_of (Axiom x T) = x
name_of (Definition x T b) = x
name_of (Inductive x co p T cs l) = x
name_of (Recursive x co n r T b made) = x

-- entry n as a term
abbrev pub as_term : ℕ → Declaration → Tree
as_term n (Inductive x co p T cs l) = Ind n
as_term n d = Const n

-- the constructors of an entry, none where it is no inductive type
abbrev pub constructors_of : Declaration → List Constructor
constructors_of (Inductive x co p T cs l) = cs
constructors_of d = []

-- names and the terms that they stand for
abbrev pub Naming : Type 0
Naming = List (Bytes × Tree)

-- the constructors of entry n, from number k on
abbrev pub naming_constructors : ℕ → ℕ → List Constructor → Naming
naming_constructors n k [] = []
naming_constructors n k (c ∷ cs) = (c.name, Con n k) ∷ naming_constructors n (suc k) cs

-- entry n and its constructors
abbrev pub naming_entry : ℕ → Declaration → Naming
naming_entry n d = (name_of d, as_term n d) ∷ naming_constructors n 0 (constructors_of d)

-- entries from number n on, and their constructors
abbrev pub naming_from : ℕ → List Declaration → Naming
naming_from n [] = []
naming_from n (d ∷ ds) = naming_entry n d ++ naming_from (suc n) ds

-- all entries and constructors, oldest first
abbrev pub naming : List Declaration → Naming
naming es = naming_from 0 es

-- what a name stands for; of two places the older one counts
abbrev pub find : Naming → Bytes → Option Tree
find [] x = None
find (n ∷ ns) x = if bytes_eq n.0 x then Some n.1 else find ns x

-- what a name stands for in an environment
abbrev pub named : List Declaration → Bytes → Option Tree
named es x = find (naming es) x
