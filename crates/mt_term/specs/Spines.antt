-- Terms as a head on arguments.
use Rattle.std.specs.Prelude.{ℕ, zero, suc, Option, Some, None}
use Rattle.mt_term.specs.Trees.{Tree, Trees, Prod, Lam, App, Const, Ind, Con, End, Item}
use Rattle.mt_term.specs.Substitution.{apps, sub, one}

-- the constructor and its arguments, where a term on arguments is a constructor on arguments
abbrev pub as_con : Tree → Trees → Option (ℕ × ℕ × Trees)
as_con (Con e k) s = Some (e, k, s)
as_con (App f a) s = as_con f (Item a s)
as_con _ s = None

-- the constant and its arguments, where a term on arguments is a constant on arguments
abbrev pub as_const : Tree → Trees → Option (ℕ × Trees)
as_const (Const c) s = Some (c, s)
as_const (App f a) s = as_const f (Item a s)
as_const _ s = None

-- the inductive type and its arguments, where a term on arguments is an inductive type on arguments
abbrev pub as_ind : Tree → Trees → Option (ℕ × Trees)
as_ind (Ind e) s = Some (e, s)
as_ind (App f a) s = as_ind f (Item a s)
as_ind _ s = None

-- an optional term on arguments
abbrev pub on_args : Option Tree → Trees → Option Tree
on_args None s = None
on_args (Some t) s = Some (apps t s)

-- a motive on an argument: the body at it where it is an abstraction, else the application
abbrev pub motive_on : Tree → Tree → Tree
motive_on (Lam x a b) u = sub (one u) b
motive_on r u = App r u

-- the same on several arguments
abbrev pub motive_on_all : Tree → Trees → Tree
motive_on_all r End = r
motive_on_all r (Item u s) = motive_on_all (motive_on r u) s

-- a type of products at arguments
abbrev pub at_args : Tree → Trees → Option Tree
at_args t End = Some t
at_args (Prod x a b) (Item u s) = at_args (sub (one u) b) s
at_args _ (Item u s) = None

-- the first terms of a list, where there are so many
abbrev pub with_first : Tree → Option Trees → Option Trees
with_first t None = None
with_first t (Some s) = Some (Item t s)

abbrev pub first_of : ℕ → Trees → Option Trees
first_of zero s = Some End
first_of (suc p) End = None
first_of (suc p) (Item t s) = with_first t (first_of p s)

-- the term at a place, from 0
abbrev pub item_at : Trees → ℕ → Option Tree
item_at End i = None
item_at (Item t s) zero = Some t
item_at (Item t s) (suc i) = item_at s i

-- the terms with another at a place
abbrev pub put_at : ℕ → Tree → Trees → Trees
put_at i u End = End
put_at zero u (Item t s) = Item u s
put_at (suc i) u (Item t s) = Item t (put_at i u s)
