-- The names that are shown for variables.
use Rattle.std.specs.Prelude.{ℕ, zero, suc, ◌+◌, Bool, true, false, ◌||◌, nat_eq, if◌then◌else◌}
use Rattle.std.specs.Prelude.{List, [], ◌∷◌, ◌++◌, length, codes, Option, Some, None, slice_get}
use Rattle.std.specs.Prelude.{bytes_eq}
use Rattle.std.specs.List.{list_any}
use Rattle.std.specs.Fmt.{decimal}
use Rattle.mt_term.specs.Trees.{Tree, Trees, Arms, Bytes, Var, Sort, Prod, Lam, App, Const, Ind}
use Rattle.mt_term.specs.Trees.{Con, Match, Meta, End, Item, NoArm, Arm}
use Rattle.mt_term.specs.Declarations.{Declaration, Constructor, constructor_at}
use Rattle.mt_term.specs.Naming.{name_of}

-- the names that variables are shown by, the innermost first; none for one that is not used
abbrev pub Scope : Type 0
Scope = List (Option Bytes)

-- the names in a scope
abbrev pub shown_names : Scope → List Bytes
shown_names [] = []
shown_names (None ∷ s) = shown_names s
shown_names (Some x ∷ s) = x ∷ shown_names s

abbrev pub name_of_entry : Option Declaration → Bytes
name_of_entry None = []
name_of_entry (Some d) = name_of d

abbrev pub name_of_constructor : Option Constructor → Bytes
name_of_constructor None = []
name_of_constructor (Some c) = c.name

-- the name of entry n; no bytes where there is none
abbrev pub entry_name : List Declaration → ℕ → Bytes
entry_name es n = name_of_entry (slice_get es n)

-- the name of constructor k of entry e; no bytes where there is none
abbrev pub constructor_name : List Declaration → ℕ → ℕ → Bytes
constructor_name es e k = name_of_constructor (constructor_at es e k)

-- variable i stands in a term
abbrev mutual
  pub uses : ℕ → Tree → Bool
  uses i (Var j) = nat_eq i j
  uses i (Sort s) = false
  uses i (Prod x A B) = uses i A || uses (i + 1) B
  uses i (Lam x A b) = uses i A || uses (i + 1) b
  uses i (App f a) = uses i f || uses i a
  uses i (Const c) = false
  uses i (Ind e) = false
  uses i (Con e k) = false
  uses i (Match e R c bs) = uses i R || uses i c || uses_arms i bs
  uses i (Meta n s) = uses_all i s

  pub uses_all : ℕ → Trees → Bool
  uses_all i End = false
  uses_all i (Item t s) = uses i t || uses_all i s

  pub uses_arms : ℕ → Arms → Bool
  uses_arms i NoArm = false
  uses_arms i (Arm xs b bs) = uses (i + length xs) b || uses_arms i bs

-- the names of the entries and constructors that stand in a term, as often as they stand there
abbrev mutual
  pub occurring : List Declaration → Tree → List Bytes
  occurring es (Var j) = []
  occurring es (Sort s) = []
  occurring es (Prod x A B) = occurring es A ++ occurring es B
  occurring es (Lam x A b) = occurring es A ++ occurring es b
  occurring es (App f a) = occurring es f ++ occurring es a
  occurring es (Const c) = entry_name es c ∷ []
  occurring es (Ind e) = entry_name es e ∷ []
  occurring es (Con e k) = constructor_name es e k ∷ []
  occurring es (Match e R c bs) = occurring es R ++ occurring es c ++ occurring_arms es bs
  occurring es (Meta n s) = occurring_all es s

  pub occurring_all : List Declaration → Trees → List Bytes
  occurring_all es End = []
  occurring_all es (Item t s) = occurring es t ++ occurring_all es s

  pub occurring_arms : List Declaration → Arms → List Bytes
  occurring_arms es NoArm = []
  occurring_arms es (Arm xs b bs) = occurring es b ++ occurring_arms es bs

-- the same of several terms
abbrev pub occurring_each : List Declaration → List Tree → List Bytes
occurring_each es [] = []
occurring_each es (t ∷ ts) = occurring es t ++ occurring_each es ts

-- a name is one of some names
abbrev pub is_one_of : List Bytes → Bytes → Bool
is_one_of xs x = list_any (λ y. bytes_eq y x) xs

-- the name itself, or `x` for `_`
abbrev pub base_name : Bytes → Bytes
base_name x = if bytes_eq x (codes "_") then codes "x" else x

-- the base name, then the base name with _1, with _2 and so on
abbrev pub candidate : Bytes → ℕ → Bytes
candidate x zero = x
candidate x (suc k) = x ++ codes "_" ++ decimal (suc k)

-- the first candidate from number k on that is none of some names, of so many candidates and the
-- next
abbrev pub first_fit : List Bytes → Bytes → ℕ → ℕ → Bytes
first_fit avoided x zero k = candidate x k
first_fit avoided x (suc more) k =
    if is_one_of avoided (candidate x k) then first_fit avoided x more (suc k) else candidate x k

-- The first candidate that is none of some names: one of them is, of one more than there are names.
unfoldable pub fit_name : List Bytes → Bytes → Bytes
fit_name avoided x = first_fit avoided x (length avoided) 0

-- what a binder's name must not be: a name in scope, or that of an entry or constructor in a part
-- under the binder
abbrev pub avoided_under : List Declaration → Scope → List Tree → List Bytes
avoided_under es s parts = shown_names s ++ occurring_each es parts

-- the name chosen for a binder
abbrev pub chosen : List Declaration → Scope → Bytes → List Tree → Bytes
chosen es s x parts = fit_name (avoided_under es s parts) (base_name x)

-- what is shown for a binder that is variable i of a part: its chosen name, or nothing where it is
-- not used
abbrev pub shown_binder : List Declaration → Scope → Bytes → ℕ → Tree → Option Bytes
shown_binder es s x i b = if uses i b then Some (chosen es s x (b ∷ [])) else None

-- the scope under the names of a branch
abbrev pub branch_scope : List Declaration → Scope → List Bytes → Tree → Scope
branch_scope es s [] b = s
branch_scope es s (x ∷ xs) b = branch_scope es (shown_binder es s x (length xs) b ∷ s) xs b

-- hypotheses, groups and variables of a hint are named all
abbrev pub scope_of_names : List Bytes → Scope → Scope
scope_of_names [] s = s
scope_of_names (x ∷ xs) s = scope_of_names xs (Some x ∷ s)
