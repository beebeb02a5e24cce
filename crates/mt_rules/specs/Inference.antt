-- The inference of types, with its charges. RuleTables says it case by case.
use Rattle.std.specs.Prelude.{ℕ, zero, suc, ◌+◌, List, [], ◌∷◌, length, if◌then◌else◌, nat_eq, Bool}
use Rattle.std.specs.Prelude.{true, false, ◌&&◌, Option, Some, None, slice_get}
use Rattle.mt_term.specs.Trees.{Bytes, Tree, Trees, Arms, Var, Sort, Prod, Lam, App, Const, Ind}
use Rattle.mt_term.specs.Trees.{Con, Match, Meta, End, Item, NoArm, Arm}
use Rattle.mt_term.specs.Substitution.{ren, sub, one, then_as, beyond, under, apps, all_but}
use Rattle.mt_term.specs.Substitution.{products}
use Rattle.mt_term.specs.Lifting.{lift}
use Rattle.mt_term.specs.Substitution.{join, count}
use Rattle.mt_term.specs.Declarations.{Hypothesis, Constructor, Declaration, Inductive, Environment}
use Rattle.mt_term.specs.Declarations.{declared_type, constructor_at}
use Rattle.mt_term.specs.Reasons.{Unbound, Mismatch, NotAFunction, NotASort, BadElimination}
use Rattle.mt_rules.specs.Charges.{Charged, give, refuse, ◌>>=◌, charge}
use Rattle.mt_term.specs.Spines.{as_ind, motive_on_all, at_args, first_of}
use Rattle.mt_term.specs.UniverseForms.{sort_above, sort_of_product}
use Rattle.mt_term.specs.Stores.{Store}
use Rattle.mt_rules.specs.WeakHead.{whd}
use Rattle.mt_rules.specs.Comparison.{convert}
use Rattle.mt_term.specs.declared.modes.Mode.{Mode}
use Rattle.mt_term.specs.declared.modes.Mode.TheVariants.{Equal, AtMost}
use Rattle.mt_term.specs.declared.universes.Sort.{Sort as AnySort}
use Rattle.mt_term.specs.declared.universes.Sort.TheVariants.{Prop, Typ}

-- the parts of a product
pub record Product : Type 0 where
  pub name : Bytes
  pub dom : Tree
  pub cod : Tree

-- an inductive type on its parameters and indices: its number, these, its type at the parameters,
-- its constructors, and whether it is large
pub record Family : Type 0 where
  pub number : ℕ
  pub params : Trees
  pub indices : Trees
  pub arity : Tree
  pub constructors : List Constructor
  pub large : Bool

-- only a sort will do
abbrev pub a_sort : Tree → Charged AnySort
a_sort (Sort s) = give s
a_sort _ = refuse NotASort

-- only a product will do
abbrev pub a_product : Tree → Charged Product
a_product (Prod x a b) = give (record { name = x; dom = a; cod = b })
a_product _ = refuse NotAFunction

-- What is there; no term in scope has a number that is not there.
abbrev pub found : {A : Type 0} → Option A → Charged A
found None = refuse (Unbound [])
found (Some a) = give a

-- only where it is so, else BadElimination
abbrev pub eliminable : {A : Type 0} → Option A → Charged A
eliminable None = refuse BadElimination
eliminable (Some a) = give a

abbrev pub checked : Bool → Charged (Unit {0})
checked true = give tt
checked false = refuse BadElimination

-- the sort above, where its numbers fit, else NotASort
abbrev pub in_range : Option AnySort → Charged Tree
in_range None = refuse NotASort
in_range (Some s) = give (Sort s)

-- after a no there is a mismatch of the inferred and the expected type in the context
abbrev pub agreed : List Hypothesis → Tree → Tree → Bool → Charged (Unit {0})
agreed Γ t u true = give tt
agreed Γ t u false = refuse (Mismatch Γ t u [])

-- a hypothesis's type, which stands under the hypotheses before it, in a context with so many more
abbrev pub lifted_type : ℕ → Option Hypothesis → Option Tree
lifted_type by None = None
lifted_type by (Some h) = Some (lift by zero h.ty)

-- the type of variable i
abbrev pub type_at : List Hypothesis → ℕ → Option Tree
type_at Γ i = lifted_type (suc i) (slice_get Γ i)

-- the types of a context, as judgements see it
abbrev pub context_types : List Hypothesis → List Tree
context_types [] = []
context_types (h ∷ Γ) = h.ty ∷ context_types Γ

-- the declared types of a constant, an inductive type and a constructor
abbrev pub constant_type : Option Declaration → Option Tree
constant_type None = None
constant_type (Some (Inductive x co p t cs l)) = None
constant_type (Some d) = Some (declared_type d)

abbrev pub inductive_type : Option Declaration → Option Tree
inductive_type (Some (Inductive x co p t cs l)) = Some t
inductive_type _ = None

abbrev pub constructor_type : Option Constructor → Option Tree
constructor_type None = None
constructor_type (Some c) = Some c.ty

-- the types of a context, oldest first, and then others
abbrev pub oldest : List Tree → List Tree → List Tree
oldest [] more = more
oldest (t ∷ Γ) more = oldest Γ (t ∷ more)

-- an inductive type on these arguments, where they are all its parameters and indices
abbrev pub family_at : ℕ → Trees → List Constructor → Bool → ℕ → Option Trees → Option Tree
    → Option Family
family_at e s cs l p (Some ps) (Some u) =
    Some (record {
      number = e;
      params = ps;
      indices = all_but p s;
      arity = u;
      constructors = cs;
      large = l;
    })
family_at e s cs l p _ _ = None

abbrev pub at_some_args : Tree → Option Trees → Option Tree
at_some_args t None = None
at_some_args t (Some s) = at_args t s

abbrev pub family_of : ℕ → Trees → Option Declaration → Option Family
family_of e s (Some (Inductive x co p t cs l)) =
    if nat_eq (count s) (products t)
    then family_at e s cs l p (first_of p s) (at_some_args t (first_of p s))
    else None
family_of e s _ = None

abbrev pub family_on : List Declaration → Option (ℕ × Trees) → Option Family
family_on es None = None
family_on es (Some a) = family_of a.0 a.1 (slice_get es a.0)

-- a type as an inductive type on its parameters and indices
abbrev pub as_family : List Declaration → Tree → Option Family
as_family es t = family_on es (as_ind t End)

-- the same where it is type e
abbrev pub only : ℕ → Option Family → Option Family
only e None = None
only e (Some f) = if nat_eq f.number e then Some f else None

-- a match on a type of the first sort may answer in the second
abbrev pub may_eliminate : Bool → AnySort → AnySort → Bool
may_eliminate large Prop (Typ u) = large
may_eliminate large _ _ = true

-- each branch has as many names as the constructor has arguments past the parameters, and there are
-- as many branches as constructors
abbrev pub branches_fit : ℕ → List Constructor → Arms → Bool
branches_fit p [] NoArm = true
branches_fit p (c ∷ cs) (Arm xs b bs) =
    nat_eq (length xs + p) (products c.ty) && branches_fit p cs bs
branches_fit p _ _ = false

-- the context of a branch body: the constructor's arguments by the branch's names
abbrev pub branch_context : List Hypothesis → Tree → List Bytes → List Hypothesis
branch_context Γ (Prod y a b) (x ∷ xs) = branch_context (record { name = x; ty = a } ∷ Γ) b xs
branch_context Γ u xs = Γ

-- the motive on the indices of a constructor's result and on the constructor
abbrev pub return_at : ℕ → Tree → Tree → Option (ℕ × Trees) → Option Tree
return_at p r c None = None
return_at p r c (Some a) = Some (motive_on_all r (join (all_but p a.1) (Item c End)))

-- the type of a branch body, from the motive, the constructor on what is bound so far, and
-- the rest of its type
abbrev pub branch_type : ℕ → Tree → Tree → Tree → List Bytes → Option Tree
branch_type p r c (Prod y a b) (x ∷ xs) =
    branch_type p (ren suc r) (App (ren suc c) (Var zero)) b xs
branch_type p r c u [] = return_at p r c (as_ind u End)
branch_type p r c u (x ∷ xs) = None

module _ (E : Environment) (S : Store) where
  -- the sort of a term, from the inference of its type
  abbrev pub sorted : Charged Tree → Charged AnySort
  sorted m = m >>= whd E S >>= a_sort

  -- the comparison of an inferred type with the expected one
  abbrev pub agrees : List Hypothesis → Mode → Tree → Tree → Charged (Unit {0})
  agrees Γ mode t u = convert E S mode t u >>= agreed Γ t u

  -- The type of a motive against the arity: products over its indices, and over the type h
  -- on them, into a sort.
  abbrev pub eliminated : List Hypothesis → Bool → Tree → Tree → Tree → Charged AnySort
  eliminated Γ large (Prod x a b) h t = do
    p ← whd E S t >>= a_product
    _ ← agrees Γ Equal p.dom a
    eliminated (record { name = p.name; ty = p.dom } ∷ Γ) large b (App (ren suc h) (Var zero)) p.cod
  eliminated Γ large (Sort r) h t = do
    p ← whd E S t >>= a_product
    _ ← agrees Γ Equal p.dom h
    s ← whd E S p.cod >>= a_sort
    _ ← checked (may_eliminate large r s)
    give s
  eliminated Γ large u h t = refuse BadElimination

  -- the same, from the inference of the motive's type
  abbrev pub elim_by : List Hypothesis → Family → Charged Tree → Charged AnySort
  elim_by Γ f m = m >>= eliminated Γ f.large f.arity (apps (Ind f.number) f.params)

  abbrev mutual
    -- one charge for each term
    pub inferred : List Hypothesis → Tree → Charged Tree
    inferred Γ (Var i) = charge (found (type_at Γ i))
    inferred Γ (Sort s) = charge (in_range (sort_above s))
    inferred Γ (Prod x a b) = charge (do
      s ← sorted (inferred Γ a)
      r ← sorted (inferred (record { name = x; ty = a } ∷ Γ) b)
      give (Sort (sort_of_product s r)))
    inferred Γ (Lam x a b) = charge (do
      s ← sorted (inferred Γ a)
      t ← inferred (record { name = x; ty = a } ∷ Γ) b
      give (Prod x a t))
    inferred Γ (App f a) = charge (do
      p ← inferred Γ f >>= whd E S >>= a_product
      t ← inferred Γ a
      _ ← agrees Γ AtMost t p.dom
      give (sub (one a) p.cod))
    inferred Γ (Const c) = charge (found (constant_type (slice_get E.entries c)))
    inferred Γ (Ind e) = charge (found (inductive_type (slice_get E.entries e)))
    inferred Γ (Con e k) = charge (found (constructor_type (constructor_at E.entries e k)))
    inferred Γ (Match e r c bs) = charge (do
      d ← inferred Γ c >>= whd E S
      f ← eliminable (only e (as_family E.entries d))
      s ← elim_by Γ f (inferred Γ r)
      _ ← checked (branches_fit (count f.params) f.constructors bs)
      _ ← inferred_arms Γ f r zero f.constructors bs
      give (motive_on_all r (join f.indices (Item c End))))
    inferred Γ (Meta n s) = charge (do
      d ← found (S.at n)
      _ ← inferred_terms Γ s (oldest d.context []) beyond
      give (under s d.ty))

    -- the terms of a metavariable against the types of its hypotheses, oldest first, each under the
    -- earlier terms
    pub inferred_terms : List Hypothesis → Trees → List Tree → (ℕ → Tree) → Charged (Unit {0})
    inferred_terms Γ End [] σ = give tt
    inferred_terms Γ (Item t s) (a ∷ more) σ = do
      u ← inferred Γ t
      _ ← agrees Γ AtMost u (sub σ a)
      inferred_terms Γ s more (then_as t σ)
    inferred_terms Γ s more σ = refuse (Unbound [])

    -- the branches from number k on, for these constructors
    pub inferred_arms : List Hypothesis → Family → Tree → ℕ → List Constructor → Arms
        → Charged (Unit {0})
    inferred_arms Γ f r k (c ∷ cs) (Arm xs b bs) = do
      u ← eliminable (at_args c.ty f.params)
      v ← eliminable (branch_type (count f.params) r (apps (Con f.number k) f.params) u xs)
      t ← inferred (branch_context Γ u xs) b
      _ ← agrees (branch_context Γ u xs) AtMost t v
      inferred_arms Γ f r (suc k) cs bs
    inferred_arms Γ f r k cs bs = give tt

-- the inferred type
unfoldable pub infer : Environment → Store → List Hypothesis → Tree → Charged Tree
infer E S Γ t = inferred E S Γ t

-- the sort that a motive answers in, for an inductive type on its parameters
unfoldable pub elimination : Environment → Store → List Hypothesis → Family → Tree → Charged AnySort
elimination E S Γ f r = elim_by E S Γ f (infer E S Γ r)

-- The parts of inference, by names that stay as they are in a goal: the weak head as a sort, and as
-- a product,
unfoldable pub as_sort : Environment → Store → Tree → Charged AnySort
as_sort E S t = whd E S t >>= a_sort

unfoldable pub as_product : Environment → Store → Tree → Charged Product
as_product E S t = whd E S t >>= a_product

-- the sort of a term, and the product that is the type of a term,
unfoldable pub sort_of : Environment → Store → List Hypothesis → Tree → Charged AnySort
sort_of E S Γ t = sorted E S (infer E S Γ t)

unfoldable pub product_of : Environment → Store → List Hypothesis → Tree → Charged Product
product_of E S Γ t = infer E S Γ t >>= whd E S >>= a_product

-- the weak head of the type of a matched term,
unfoldable pub type_head : Environment → Store → List Hypothesis → Tree → Charged Tree
type_head E S Γ c = infer E S Γ c >>= whd E S

-- the comparison of an inferred type with the expected one,
unfoldable pub agreement : Environment → Store → List Hypothesis → Mode → Tree → Tree
    → Charged (Unit {0})
agreement E S Γ mode t u = agrees E S Γ mode t u

-- the type of a motive against an arity,
unfoldable pub eliminating : Environment → Store → List Hypothesis → Bool → Tree → Tree → Tree
    → Charged AnySort
eliminating E S Γ large u h t = eliminated E S Γ large u h t

-- the terms of a metavariable, and the branches of a match
unfoldable pub infer_terms : Environment → Store → List Hypothesis → Trees → List Tree → (ℕ → Tree)
    → Charged (Unit {0})
infer_terms E S Γ s more σ = inferred_terms E S Γ s more σ

unfoldable pub infer_arms : Environment → Store → List Hypothesis → Family → Tree → ℕ
    → List Constructor → Arms → Charged (Unit {0})
infer_arms E S Γ f r k cs bs = inferred_arms E S Γ f r k cs bs
