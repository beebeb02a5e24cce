-- Instances as a function: over a store in which no metavariable is below itself, what it gives is
-- the instance.
use Rattle.std.specs.Prelude.{ℕ, zero, suc, List, [], ◌∷◌, ◌++◌, length, Option, Some, None}
use Rattle.std.specs.Prelude.{option_map, slice_get}
use Rattle.mt_term.specs.Trees.{Tree, Trees, Arms, Bytes, Var, Sort, Prod, Lam, App, Const, Ind}
use Rattle.mt_term.specs.Trees.{Con, Match, Meta, End, Item, NoArm, Arm}
use Rattle.mt_term.specs.Declarations.{Hypothesis}
use Rattle.mt_term.specs.States.{Metavariable}
use Rattle.mt_term.specs.Substitution.{under}

-- a metavariable on terms, where it has a value, and where it has none
abbrev pub valued : Option Tree → ℕ → Trees → Tree
valued None n s = Meta n s
valued (Some b) n s = under s b

-- each metavariable that has a value replaced by it under its terms
abbrev mutual
  pub put_values : (ℕ → Option Tree) → Tree → Tree
  put_values f (Var i) = Var i
  put_values f (Sort s) = Sort s
  put_values f (Prod x A B) = Prod x (put_values f A) (put_values f B)
  put_values f (Lam x A b) = Lam x (put_values f A) (put_values f b)
  put_values f (App g a) = App (put_values f g) (put_values f a)
  put_values f (Const c) = Const c
  put_values f (Ind e) = Ind e
  put_values f (Con e k) = Con e k
  put_values f (Match e R c bs) = Match e (put_values f R) (put_values f c) (put_values_arms f bs)
  put_values f (Meta n s) = valued (f n) n (put_values_all f s)

  pub put_values_all : (ℕ → Option Tree) → Trees → Trees
  put_values_all f End = End
  put_values_all f (Item t s) = Item (put_values f t) (put_values_all f s)

  pub put_values_arms : (ℕ → Option Tree) → Arms → Arms
  put_values_arms f NoArm = NoArm
  put_values_arms f (Arm xs b bs) = Arm xs (put_values f b) (put_values_arms f bs)

-- the body of a metavariable, where it is there and has one
abbrev pub assigned_body : Option Metavariable → Option Tree
assigned_body None = None
assigned_body (Some m) = m.body

-- the instances of bodies, through so many bodies within bodies
abbrev pub body_values : List Metavariable → ℕ → ℕ → Option Tree
body_values ms zero n = None
body_values ms (suc k) n =
    option_map (put_values (body_values ms k)) (assigned_body (slice_get ms n))

-- The instance of a term: a body goes through fewer bodies than there are metavariables, where none
-- is below itself.
abbrev pub instance : List Metavariable → Tree → Tree
instance ms t = put_values (body_values ms (length ms)) t

-- the instances of the types of hypotheses
abbrev pub instance_part : List Metavariable → Hypothesis → List Hypothesis
instance_part ms h = record { name = h.name; ty = instance ms h.ty } ∷ []

abbrev pub instances : List Metavariable → List Hypothesis → List Hypothesis
instances ms [] = []
instances ms (h ∷ hs) = instance_part ms h ++ instances ms hs
