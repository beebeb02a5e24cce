-- Raw terms taken by their names: the terms that they stand for, or the first fault from the left.
use Rattle.std.specs.Prelude.{ℕ, suc, ◌+◌, max, Bool, true, false, ◌&&◌, nat_eq, if◌then◌else◌}
use Rattle.std.specs.Prelude.{List, [], ◌∷◌, length, Option, Some, None, slice_get}
use Rattle.std.specs.Str.{bytes_eq}
use Rattle.mt_term.specs.Trees.{Tree, Arms, Bytes, Var, Sort, Prod, Lam, App, Con, Match, NoArm}
use Rattle.mt_term.specs.Trees.{Arm}
use Rattle.mt_term.specs.Declarations.{Constructor, Declaration, Inductive, Environment}
use Rattle.mt_term.specs.Reasons.{Reason, Unbound, BadElimination, NotHere}
use Rattle.mt_term.specs.Naming.{named}
use Rattle.mt_term.specs.Substitution.{products}
use Rattle.mt_term.specs.UniverseForms.{normal_form}
use Rattle.mt_term.specs.declared.universes.UnivExpr.{UnivExpr}
use Rattle.mt_term.specs.declared.universes.Sort.TheVariants as sort
use Rattle.mt_term_parser.specs.Written as raw
use Rattle.mt_term_parser.specs.Written.{Written, Form, Arguments, Cases, Term, Given, NoArgument}
use Rattle.mt_term_parser.specs.Written.{Argument, NoCase, Case}
use Rattle.mt_term_parser.specs.declared.raw.RawSort.{RawSort}
use Rattle.mt_term_parser.specs.declared.raw.RawSort.TheVariants as raw_sort
use Rattle.mt_term_parser.specs.declared.raw.Part.{Part}
use Rattle.mt_term_parser.specs.declared.raw.Part.TheVariants as part

-- what is found; or why not, and the place of the fault
pub data Resolution (A : Type 0) : Type 0 where
  Found : A → Resolution A
  Faults : Reason → ℕ → Resolution A

-- one part, and then another
abbrev pub then_found : {A B : Type 0} → Resolution A → (A → Resolution B) → Resolution B
then_found (Found a) rest = rest a
then_found (Faults r at) rest = Faults r at

-- ---- names

abbrev pub one_further : Option ℕ → Option ℕ
one_further None = None
one_further (Some i) = Some (suc i)

-- the first place of a name in a list
abbrev pub first_place : List Bytes → Bytes → Option ℕ
first_place [] x = None
first_place (y ∷ ys) x = if bytes_eq y x then Some 0 else one_further (first_place ys x)

abbrev pub variable_or : Option ℕ → Option Tree → Option Tree
variable_or (Some i) o = Some (Var i)
variable_or None o = o

-- what a name stands for: the newest hypothesis of that name, else the entry or constructor
abbrev pub meant : Environment → List Bytes → Bytes → Option Tree
meant E Γ x = variable_or (first_place Γ x) (named E.entries x)

abbrev pub or_unbound : {A : Type 0} → Bytes → ℕ → Option A → Resolution A
or_unbound x at (Some a) = Found a
or_unbound x at None = Faults (Unbound x) at

-- ---- sorts

abbrev pub with_number : ℕ → UnivExpr → UnivExpr
with_number k u = record { base = max k u.base; atoms = u.atoms }

abbrev pub with_name : ℕ → ℕ → UnivExpr → UnivExpr
with_name n k u = record { base = u.base; atoms = record { name = n; offset = k } ∷ u.atoms }

-- the maximum of parts: each universe name by its number
abbrev pub resolved_parts : List Bytes → ℕ → List Part → Resolution UnivExpr
resolved_parts names at [] = Found (record { base = 0; atoms = [] })
resolved_parts names at (part.Number k ∷ parts) =
    then_found (resolved_parts names at parts) (λ u. Found (with_number k u))
resolved_parts names at (part.Name x k ∷ parts) =
    then_found (or_unbound x at (first_place names x)) (λ n.
    then_found (resolved_parts names at parts) (λ u. Found (with_name n k u)))

-- a sort, in normal form
abbrev pub resolved_sort : List Bytes → ℕ → RawSort → Resolution Tree
resolved_sort names at raw_sort.Prop = Found (Sort sort.Prop)
resolved_sort names at (raw_sort.Typ parts) =
    then_found (resolved_parts names at parts) (λ u. Found (Sort (sort.Typ (normal_form u))))

-- ---- arms

abbrev pub type_of_constructor : Option Tree → Option ℕ
type_of_constructor (Some (Con e k)) = Some e
type_of_constructor _ = None

-- the inductive type of the constructor that the first arm names
abbrev pub type_of_first : List Declaration → Cases → Option ℕ
type_of_first es NoCase = None
type_of_first es (Case x xs b arms) = type_of_constructor (named es x)

-- the arms name these constructors in order, each with as many names as it has arguments past p
-- parameters
abbrev pub name_all : ℕ → List Constructor → Cases → Bool
name_all p [] NoCase = true
name_all p (c ∷ cs) (Case x xs b arms) =
    bytes_eq c.name x && nat_eq (length xs + p) (products c.ty) && name_all p cs arms
name_all p _ _ = false

abbrev pub name_those_of : Option Declaration → Cases → Bool
name_those_of (Some (Inductive x co p T cs l)) arms = name_all p cs arms
name_those_of _ arms = false

abbrev pub only_fitting : List Declaration → Option ℕ → Cases → Option ℕ
only_fitting es None arms = None
only_fitting es (Some e) arms = if name_those_of (slice_get es e) arms then Some e else None

-- the inductive type whose constructors the arms name
abbrev pub type_of_arms : List Declaration → Cases → Option ℕ
type_of_arms es arms = only_fitting es (type_of_first es arms) arms

abbrev pub or_bad : ℕ → Option ℕ → Resolution ℕ
or_bad at (Some e) = Found e
or_bad at None = Faults BadElimination at

-- further names over others: the last one is the innermost
abbrev pub with_binders : List Bytes → List Bytes → List Bytes
with_binders [] Γ = Γ
with_binders (x ∷ xs) Γ = with_binders xs (x ∷ Γ)

-- ---- terms

-- A raw term under hypotheses of these names, innermost first. A form that is not taken by names is
-- not here.
abbrev mutual
  pub resolved : Environment → List Bytes → Written → Resolution Tree
  resolved E Γ (Term at f) = resolved_form E Γ at f

  pub resolved_form : Environment → List Bytes → ℕ → Form → Resolution Tree
  resolved_form E Γ at (raw.Name x) = or_unbound x at (meant E Γ x)
  resolved_form E Γ at (raw.Sort s) = resolved_sort E.names at s
  resolved_form E Γ at (raw.Lam x (Given A) b) =
      then_found (resolved E Γ A) (λ t. then_found (resolved E (x ∷ Γ) b) (λ u. Found (Lam x t u)))
  resolved_form E Γ at (raw.Prod x A B) =
      then_found (resolved E Γ A) (λ t. then_found (resolved E (x ∷ Γ) B) (λ u. Found (Prod x t u)))
  resolved_form E Γ at (raw.App f args) = then_found (resolved E Γ f) (λ t. resolved_on E Γ t args)
  resolved_form E Γ at (raw.Match c (Given R) arms) =
      then_found (resolved E Γ c) (λ t.
      then_found (or_bad at (type_of_arms E.entries arms)) (λ e.
      then_found (resolved E Γ R) (λ r.
      then_found (resolved_arms E Γ arms) (λ bs. Found (Match e r t bs)))))
  resolved_form E Γ at _ = Faults NotHere at

  -- a term on further arguments
  pub resolved_on : Environment → List Bytes → Tree → Arguments → Resolution Tree
  resolved_on E Γ t NoArgument = Found t
  resolved_on E Γ t (Argument a args) =
      then_found (resolved E Γ a) (λ u. resolved_on E Γ (App t u) args)

  -- the bodies of arms, each under its names
  pub resolved_arms : Environment → List Bytes → Cases → Resolution Arms
  resolved_arms E Γ NoCase = Found NoArm
  resolved_arms E Γ (Case x xs b arms) =
      then_found (resolved E (with_binders xs Γ) b)
      (λ t. then_found (resolved_arms E Γ arms) (λ bs. Found (Arm xs t bs)))
