-- The weak head and the normal form, with their charges. RuleTables says them case by case.
use Rattle.std.specs.Prelude.{ℕ, zero, suc, List, [], ◌∷◌, length, if◌then◌else◌, nat_eq, Bool}
use Rattle.std.specs.Prelude.{true, false, Option, Some, None, is_some, slice_get}
use Rattle.mt_term.specs.Trees.{Bytes, Tree, Trees, Arms, Var, Prod, Lam, App, Const, Match, Meta}
use Rattle.mt_term.specs.Trees.{End, Item, NoArm, Arm}
use Rattle.mt_term.specs.Substitution.{sub, one, fill, under, apps, all_but, count, products}
use Rattle.mt_term.specs.Declarations.{Constructor, Declaration, Definition, Inductive, Recursive}
use Rattle.mt_term.specs.Declarations.{Environment, constructor_at}
use Rattle.mt_rules.specs.Charges.{Charged, give, ◌>>=◌, charge}
use Rattle.mt_rules.specs.Knot.{fixed}
use Rattle.mt_term.specs.Spines.{as_con, as_const, on_args, with_first, put_at}
use Rattle.mt_term.specs.Stores.{Store, body_of}

-- an argument, beside its weak head
abbrev pub Arg : Type 0
Arg = Tree × Charged Tree

-- the arguments alone
abbrev pub plain : List Arg → Trees
plain [] = End
plain (a ∷ vs) = Item a.0 (plain vs)

-- whether so many are all the arguments of a constructor
abbrev pub takes : Option Constructor → ℕ → Bool
takes None n = false
takes (Some c) n = nat_eq n (products c.ty)

-- only with all its arguments
abbrev pub if_full : List Declaration → Option (ℕ × ℕ × Trees) → Option (ℕ × ℕ × Trees)
if_full es None = None
if_full es (Some k) = if takes (constructor_at es k.0 k.1) (count k.2) then Some k else None

-- the constructor and its arguments, where a term is a constructor with all its arguments
abbrev pub full_con : List Declaration → Tree → Option (ℕ × ℕ × Trees)
full_con es d = if_full es (as_con d End)

-- the number of an inductive type's parameters
abbrev pub params_of : Option Declaration → ℕ
params_of (Some (Inductive x co p t cs l)) = p
params_of _ = zero

-- the names and the body of a branch
abbrev pub branch_at : Arms → ℕ → Option (List Bytes × Tree)
branch_at NoArm k = None
branch_at (Arm xs b bs) zero = Some (xs, b)
branch_at (Arm xs b bs) (suc k) = branch_at bs k

-- a branch's body under as many arguments as it has names
abbrev pub branch_under : Option (List Bytes × Tree) → Trees → Option Tree
branch_under None us = None
branch_under (Some b) us =
    if nat_eq (length b.0) (count us) then Some (sub (fill us Var) b.1) else None

-- the body of the branch for a constructor of type e, under its arguments past the parameters
abbrev pub taken : List Declaration → ℕ → Option (ℕ × ℕ × Trees) → Arms → Option Tree
taken es e None bs = None
taken es e (Some k) bs =
    if nat_eq k.0 e
    then branch_under (branch_at bs k.1) (all_but (params_of (slice_get es e)) k.2)
    else None

-- the body of a corecursive function
abbrev pub corecursive_body : Option Declaration → Option Tree
corecursive_body (Some (Recursive x true n r t b made)) = Some b
corecursive_body _ = None

-- the body on the arguments, of a corecursive function on arguments
abbrev pub unrolled : List Declaration → Option (ℕ × Trees) → Option Tree
unrolled es None = None
unrolled es (Some c) = on_args (corecursive_body (slice_get es c.0)) c.1

-- the branch that is taken, or else the match on what is unrolled
abbrev pub branch_or_match : ℕ → Tree → Arms → Option Tree → Option Tree → Option Tree
branch_or_match e r bs (Some t) o = Some t
branch_or_match e r bs None None = None
branch_or_match e r bs None (Some c) = Some (Match e r c bs)

-- what a match becomes, where the weak head of its matched term is d
abbrev pub matched : List Declaration → ℕ → Tree → Arms → Tree → Option Tree
matched es e r bs d =
    branch_or_match e r bs (taken es e (full_con es d) bs) (unrolled es (as_const d End))

-- the body of an abstraction at its first argument, on the others
abbrev pub beta : Tree → Trees → Option Tree
beta b End = None
beta b (Item a s) = Some (apps (sub (one a) b) s)

-- that body under the terms
abbrev pub body_under : Option Tree → Trees → Option Tree
body_under None s = None
body_under (Some b) s = Some (under s b)

-- the arguments with the one at the place in its weak head, where that is a constructor with all
-- its arguments
abbrev pub opened : List Declaration → ℕ → List Arg → Charged (Option Trees)
opened es r [] = give None
opened es zero (a ∷ vs) =
    a.1 >>= (λ d. give (if is_some (full_con es d) then Some (Item d (plain vs)) else None))
opened es (suc r) (a ∷ vs) = opened es r vs >>= (λ o. give (with_first a.0 o))

-- a body on the arguments that were opened
abbrev pub on_opened : Tree → Option Trees → Option Tree
on_opened b None = None
on_opened b (Some s) = Some (apps b s)

-- what a constant on arguments becomes
abbrev pub unfolded : List Declaration → Option Declaration → List Arg → Charged (Option Tree)
unfolded es (Some (Definition x t b)) vs = give (Some (apps b (plain vs)))
unfolded es (Some (Recursive x false n r t b made)) vs =
    opened es r vs >>= (λ o. give (on_opened b o))
unfolded es _ vs = give None

-- what a recursive function of this place and body becomes on arguments, where the one at the place
-- has this weak head
abbrev pub recursive_step : List Declaration → ℕ → Tree → Trees → Tree → Option Tree
recursive_step es r b s d = if is_some (full_con es d) then Some (apps b (put_at r d s)) else None

-- goes on from a step, where there is one, for one charge
abbrev pub follow : (Tree → Charged Tree) → Tree → Option Tree → Charged Tree
follow again t None = give t
follow again t (Some u) = charge (again u)

-- `again` is the weak head, after a charge
module _ (E : Environment) (S : Store) (again : Tree → Charged Tree) where
  -- what a term on arguments becomes by a step, where there is one; the step's own charge is not
  -- paid yet
  abbrev pub look_by : Tree → List Arg → Charged (Option Tree)
  look_by (Lam x a b) vs = give (beta b (plain vs))
  look_by (App f a) vs = look_by f ((a, look_by a [] >>= follow again a) ∷ vs)
  look_by (Const c) vs = unfolded E.entries (slice_get E.entries c) vs
  look_by (Match e r c bs) vs = do
    d ← look_by c [] >>= follow again c
    give (on_args (matched E.entries e r bs d) (plain vs))
  look_by (Meta n s) vs = give (on_args (body_under (body_of (S.at n)) s) (plain vs))
  look_by _ vs = give None

  -- steps until there is none
  abbrev pub whd_by : Tree → Charged Tree
  whd_by t = look_by t [] >>= follow again t

-- the weak head
unfoldable pub whd : Environment → Store → Tree → Charged Tree
whd E S = fixed Tree (λ t. Tree) (whd_by E S)

-- arguments, each beside its weak head
abbrev pub beside : Environment → Store → Trees → List Arg
beside E S End = []
beside E S (Item a s) = (a, whd_by E S (whd E S) a) ∷ beside E S s

-- what a term on arguments becomes by a step, where there is one
unfoldable pub look : Environment → Store → Tree → Trees → Charged (Option Tree)
look E S t s = look_by E S (whd E S) t (beside E S s)

-- pays for a step
abbrev pub paid : Option Tree → Charged (Option Tree)
paid None = give None
paid (Some u) = charge (give (Some u))

-- one step of a term, where there is one
unfoldable pub step : Environment → Store → Tree → Charged (Option Tree)
step E S t = look E S t End >>= paid

-- goes on from a step, or with the parts where there is none
abbrev pub follow_or : Charged Tree → (Tree → Charged Tree) → Option Tree → Charged Tree
follow_or parts again None = parts
follow_or parts again (Some u) = charge (again u)

-- `again` is the normal form, after a charge
module _ (E : Environment) (S : Store) (again : Tree → Charged Tree) where
  abbrev mutual
    -- a weak head with each direct part replaced by its normal form, left to right
    pub parts_by : Tree → Charged Tree
    parts_by (Prod x a b) = do
      a' ← look E S a End >>= follow_or (parts_by a) again
      b' ← look E S b End >>= follow_or (parts_by b) again
      give (Prod x a' b')
    parts_by (Lam x a b) = do
      a' ← look E S a End >>= follow_or (parts_by a) again
      b' ← look E S b End >>= follow_or (parts_by b) again
      give (Lam x a' b')
    parts_by (App f a) = do
      f' ← look E S f End >>= follow_or (parts_by f) again
      a' ← look E S a End >>= follow_or (parts_by a) again
      give (App f' a')
    parts_by (Match e r c bs) = do
      r' ← look E S r End >>= follow_or (parts_by r) again
      c' ← look E S c End >>= follow_or (parts_by c) again
      bs' ← arms_by bs
      give (Match e r' c' bs')
    parts_by (Meta n s) = do
      s' ← all_by s
      give (Meta n s')
    parts_by t = give t

    -- each term of a list
    pub all_by : Trees → Charged Trees
    all_by End = give End
    all_by (Item t s) = do
      t' ← look E S t End >>= follow_or (parts_by t) again
      s' ← all_by s
      give (Item t' s')

    -- each branch body
    pub arms_by : Arms → Charged Arms
    arms_by NoArm = give NoArm
    arms_by (Arm xs b bs) = do
      b' ← look E S b End >>= follow_or (parts_by b) again
      bs' ← arms_by bs
      give (Arm xs b' bs')

  -- the weak head, and then its parts
  abbrev pub normal_by : Tree → Charged Tree
  normal_by t = look E S t End >>= follow_or (parts_by t) again

-- the normal form
unfoldable pub normal : Environment → Store → Tree → Charged Tree
normal E S = fixed Tree (λ t. Tree) (normal_by E S)

-- The parts of a normal form, by names that stay as they are in a goal: a weak head with each
-- direct part replaced, each term of a list, and each branch body.
unfoldable pub normal_parts : Environment → Store → Tree → Charged Tree
normal_parts E S t = parts_by E S (normal E S) t

unfoldable pub normal_terms : Environment → Store → Trees → Charged Trees
normal_terms E S s = all_by E S (normal E S) s

unfoldable pub normal_arms : Environment → Store → Arms → Charged Arms
normal_arms E S bs = arms_by E S (normal E S) bs
