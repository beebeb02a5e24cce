-- The entry that a unit declares, each term taken by its names and checked by the kernel.
use Rattle.std.specs.Prelude.{ℕ, Bool, true, false, ◌&&◌, ◌||◌, ◌-◌, suc, nat_eq, if◌then◌else◌}
use Rattle.std.specs.Prelude.{List, [], ◌∷◌, length, Option, Some, None}
use Rattle.std.specs.Str.{bytes_eq}
use Rattle.mt_term.specs.Trees.{Tree, Bytes, Sort, Prod}
use Rattle.mt_term.specs.Declarations.{Hypothesis, Constructor, Declaration, Axiom, Definition}
use Rattle.mt_term.specs.Declarations.{Inductive, Recursive, Environment}
use Rattle.mt_term.specs.Reasons.{Unbound, Taken, NotASort, NotPositive, NotGuarded, NotHere}
use Rattle.mt_rules.specs.Charges.{Charged}
use Rattle.mt_term.specs.Naming.{named}
use Rattle.mt_calculus.specs.SoundEnvironment.{with_entry}
use Rattle.mt_rules.specs.KernelCheck.{check_type, check}
use Rattle.mt_term.specs.declared.universes.Sort.{Sort as AnySort}
use Rattle.mt_term.specs.declared.universes.Sort.TheVariants as sort
use Rattle.mt_positivity.specs.Deciding.{is_positive}
use Rattle.mt_guard.specs.Deciding.{is_guarded}
use Rattle.mt_guard.specs.Corecursive.{is_co_guarded}
use Rattle.mt_term_parser.specs.Written.{Written, Given}
use Rattle.mt_unit_parser.specs.WrittenUnits as unit
use Rattle.mt_unit_parser.specs.WrittenUnits.{WrittenGroup, WrittenCon, WrittenType}
use Rattle.mt_unit_parser.specs.WrittenUnits.{WrittenFunction, WrittenKind}
use Rattle.mt_resolver.specs.Resolution.{Resolution, Found, then_found, first_place, resolved}
use Rattle.mt_decl.specs.Answers.{Answering, make, refuse, ◌>>=◌, taken, by_kernel, is_accepted}
use Rattle.mt_decl.specs.Telescopes.{abstracted, generalized, names_of, result_sort}

-- ---- names

-- a name stands in a list
abbrev pub stands_in : Bytes → List Bytes → Bool
stands_in x [] = false
stands_in x (y ∷ ys) = bytes_eq y x || stands_in x ys

-- an entry or a constructor has this name
abbrev pub is_something : Option Tree → Bool
is_something None = false
is_something (Some t) = true

-- each name is new: it names no entry and no constructor, and none of the earlier ones; the first
-- that is not is refused
abbrev pub all_new : Environment → ℕ → List Bytes → List Bytes → Answering (Unit {0})
all_new E start earlier [] = make tt
all_new E start earlier (x ∷ xs) =
    if is_something (named E.entries x)
    || stands_in x earlier then refuse (Taken x) start else all_new E start (x ∷ earlier) xs

-- the names of constructors
abbrev pub constructor_names : List WrittenCon → List Bytes
constructor_names [] = []
constructor_names (c ∷ cs) = c.name ∷ constructor_names cs

-- ---- terms

-- binders after a context, each type under the earlier ones
abbrev pub resolved_groups : Environment → List Hypothesis → List WrittenGroup
    → Resolution (List Hypothesis)
resolved_groups E Γ [] = Found Γ
resolved_groups E Γ (g ∷ gs) =
    then_found (resolved E (names_of Γ) g.type)
    (λ A. resolved_groups E (record { name = g.name; ty = A } ∷ Γ) gs)

-- only where there is a sort, else NotASort
abbrev pub or_not_a_sort : ℕ → Option AnySort → Answering AnySort
or_not_a_sort start None = refuse NotASort start
or_not_a_sort start (Some s) = make s

-- ---- constructors

-- only where it is so, else NotPositive
abbrev pub or_not_positive : ℕ → Bool → Answering (Unit {0})
or_not_positive at true = make tt
or_not_positive at false = refuse NotPositive at

-- The type of an argument, under the context before it, has this sort: abstracted over that context
-- it has the product over it into the sort as its type.
abbrev pub argument_check : Environment → AnySort → List Hypothesis → Tree → Charged (Unit {0})
argument_check E s Γ A = check E (abstracted Γ A) (generalized Γ (Sort s))

-- each argument of a constructor in order, where a No is refused
abbrev pub arguments_fit : Environment → ℕ → AnySort → List Hypothesis → Tree → Answering (Unit {0})
arguments_fit E start s Γ (Prod x A B) = do
  _ ← by_kernel start (argument_check E s Γ A)
  arguments_fit E start s (record { name = x; ty = A } ∷ Γ) B
arguments_fit E start s Γ C = make tt

-- each argument of a constructor in order: whether all fit
abbrev pub do_arguments_fit : Environment → AnySort → List Hypothesis → Tree → Answering Bool
do_arguments_fit E s Γ (Prod x A B) = do
  first ← is_accepted (argument_check E s Γ A)
  others ← do_arguments_fit E s (record { name = x; ty = A } ∷ Γ) B
  make (first && others)
do_arguments_fit E s Γ C = make true

-- The sorts of a constructor's arguments: whether they allow a match into every sort. In a type of
-- sort Prop they are looked at only where the constructor is the only one.
abbrev pub argument_sorts : Environment → ℕ → AnySort → Bool → List Hypothesis → Tree
    → Answering Bool
argument_sorts E start (sort.Typ u) only Γ C = do
  _ ← arguments_fit E start (sort.Typ u) Γ C
  make true
argument_sorts E start sort.Prop true Γ C = do_arguments_fit E sort.Prop Γ C
argument_sorts E start sort.Prop false Γ C = make false

-- an inductive type whose constructors are declared: its number, its parameters innermost first,
-- its closed type and its sort
pub record NewFamily : Type 0 where
  pub number : ℕ
  pub params : List Hypothesis
  pub ty : Tree
  pub sort : AnySort

-- constructors, and whether they allow a match into every sort
abbrev pub DeclaredConstructors : Type 0
DeclaredConstructors = List Constructor × Bool

abbrev pub one_more : Constructor → Bool → DeclaredConstructors → DeclaredConstructors
one_more c large d = (c ∷ d.0, large && d.1)

-- One constructor: its type under the parameters, where the environment knows the type; positivity;
-- the sorts of its arguments; the kernel on its closed type.
abbrev pub declared_constructor : Environment → ℕ → NewFamily → Bool → WrittenCon
    → Answering (Constructor × Bool)
declared_constructor E start f only c = do
  C ← taken (resolved E (names_of f.params) c.type)
  _ ← or_not_positive c.at (is_positive f.number (length f.params) f.ty (generalized f.params C))
  large ← argument_sorts E start f.sort only f.params C
  _ ← by_kernel start (check_type E (generalized f.params C))
  make (record { name = c.name; ty = generalized f.params C }, large)

-- the constructors in order
abbrev pub declared_constructors : Environment → ℕ → NewFamily → Bool → List WrittenCon
    → Answering DeclaredConstructors
declared_constructors E start f only [] = make ([], true)
declared_constructors E start f only (c ∷ cs) = do
  d ← declared_constructor E start f only c
  ds ← declared_constructors E start f only cs
  make (one_more d.0 d.1 ds)

-- ---- units

-- an axiom
abbrev pub declared_axiom : Environment → ℕ → Bytes → Written → Answering Declaration
declared_axiom E start x type = do
  _ ← all_new E start [] (x ∷ [])
  T ← taken (resolved E [] type)
  _ ← by_kernel start (check_type E T)
  make (Axiom x T)

-- a definition
abbrev pub declared_definition : Environment → ℕ → Bytes → Written → Written → Answering Declaration
declared_definition E start x type body = do
  _ ← all_new E start [] (x ∷ [])
  T ← taken (resolved E [] type)
  b ← taken (resolved E [] body)
  _ ← by_kernel start (check E b T)
  make (Definition x T b)

-- an environment that knows an inductive type, without constructors
abbrev pub knowing : Environment → Bytes → Bool → ℕ → Tree → Environment
knowing E x co p T = with_entry E (Inductive x co p T [] true)

-- an inductive or coinductive type, from its parameters, its closed type and its sort on
abbrev pub declared_family : Environment → ℕ → Bool → WrittenType → List Hypothesis → Tree → AnySort
    → Answering Declaration
declared_family E start co t Γ T s = do
  d ← declared_constructors (knowing E t.name co (length Γ) T) start
      (record { number = length E.entries; params = Γ; ty = T; sort = s })
      (nat_eq (length t.cons) 1) t.cons
  make (Inductive t.name co (length Γ) T d.0 d.1)

-- an inductive or coinductive type
abbrev pub declared_inductive : Environment → ℕ → Bool → List WrittenGroup → WrittenType
    → Answering Declaration
declared_inductive E start co groups t = do
  _ ← all_new E start [] (t.name ∷ constructor_names t.cons)
  Γ ← taken (resolved_groups E [] groups)
  A ← taken (resolved E (names_of Γ) t.arity)
  s ← or_not_a_sort start (result_sort A)
  _ ← by_kernel start (check_type E (generalized Γ A))
  declared_family E start co t Γ (generalized Γ A) s

-- ---- recursive functions

-- the place of a binder among so many, counted from the oldest, by its place from the newest
abbrev pub place_of : ℕ → Option ℕ → Option ℕ
place_of many None = None
place_of many (Some i) = Some (many - suc i)

-- only a binder, else Unbound
abbrev pub or_no_binder : ℕ → Bytes → Option ℕ → Answering ℕ
or_no_binder start y None = refuse (Unbound y) start
or_no_binder start y (Some r) = make r

-- only where it is so, else NotGuarded
abbrev pub or_not_guarded : ℕ → Bool → Answering (Unit {0})
or_not_guarded start true = make tt
or_not_guarded start false = refuse NotGuarded start

-- an environment that knows a function as an axiom of its closed type
abbrev pub assuming : Environment → Bytes → Tree → Environment
assuming E x T = with_entry E (Axiom x T)

-- a function, from its binders and its closed type on: its body, where the environment knows it as
-- an axiom; the guard; the kernel on the closed body
abbrev pub function_rest : Environment → ℕ → WrittenFunction → List Hypothesis → Tree
    → (Tree → Bool) → (Tree → Declaration) → Answering Declaration
function_rest E start f Γ T is_guarded_for entry = do
  b ← taken (resolved (assuming E f.name T) (names_of Γ) f.body)
  _ ← or_not_guarded start (is_guarded_for (abstracted Γ b))
  _ ← by_kernel start (check (assuming E f.name T) (abstracted Γ b) T)
  make (entry (abstracted Γ b))

-- a recursive function on the binder y
abbrev pub declared_recursive : Environment → ℕ → WrittenFunction → Bytes → Answering Declaration
declared_recursive E start f y = do
  _ ← all_new E start [] (f.name ∷ [])
  Γ ← taken (resolved_groups E [] f.groups)
  T ← taken (resolved E (names_of Γ) f.type)
  r ← or_no_binder start y (place_of (length Γ) (first_place (names_of Γ) y))
  _ ← by_kernel start (check_type E (generalized Γ T))
  function_rest E start f Γ (generalized Γ T) (is_guarded E (length E.entries) (length Γ) r)
      (λ b. Recursive f.name false (length Γ) r (generalized Γ T) b false)

-- a corecursive function
abbrev pub declared_corecursive : Environment → ℕ → WrittenFunction → Answering Declaration
declared_corecursive E start f = do
  _ ← all_new E start [] (f.name ∷ [])
  Γ ← taken (resolved_groups E [] f.groups)
  T ← taken (resolved E (names_of Γ) f.type)
  _ ← by_kernel start (check_type E (generalized Γ T))
  function_rest E start f Γ (generalized Γ T)
      (is_co_guarded E (length E.entries) (length Γ) (generalized Γ T))
      (λ b. Recursive f.name true (length Γ) 0 (generalized Γ T) b false)

-- a function, recursive where it names a binder
abbrev pub declared_function : Environment → ℕ → Bool → WrittenFunction → Option Bytes
    → Answering Declaration
declared_function E start false f (Some y) = declared_recursive E start f y
declared_function E start true f None = declared_corecursive E start f
declared_function E start co f on = refuse NotHere start

-- The entry that a unit declares, which begins at this place. A unit that declares none, a
-- definition without a type, and units of several types or functions are not here.
abbrev pub declared_entry : Environment → ℕ → WrittenKind → Answering Declaration
declared_entry E start (unit.Axiom x T) = declared_axiom E start x T
declared_entry E start (unit.Definition x (Given T) b) = declared_definition E start x T b
declared_entry E start (unit.Inductive co groups (t ∷ [])) = declared_inductive E start co groups t
declared_entry E start (unit.Recursive co (f ∷ [])) = declared_function E start co f f.on
declared_entry E start kind = refuse NotHere start
