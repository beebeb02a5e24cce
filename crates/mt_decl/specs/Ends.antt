-- The parts of a unit after its new names, by names that stay as they are in a goal.
use Rattle.std.specs.Prelude.{ℕ, Bool, false, true, List, length, map, nat_eq}
use Rattle.mt_term.specs.Trees.{Tree, Bytes}
use Rattle.mt_term.specs.Declarations.{Hypothesis, Declaration, Recursive, Environment}
use Rattle.mt_term.specs.declared.universes.Sort.{Sort as AnySort}
use Rattle.mt_guard.specs.Deciding.{is_guarded}
use Rattle.mt_guard.specs.Corecursive.{is_co_guarded}
use Rattle.mt_resolver.specs.Resolution.{first_place, resolved}
use Rattle.mt_term_parser.specs.WrittenOf.{written_of}
use Rattle.mt_unit_parser.specs.declared.units.Group.{Group}
use Rattle.mt_unit_parser.specs.declared.units.RawType.{RawType}
use Rattle.mt_unit_parser.specs.declared.units.RawFunction.{RawFunction}
use Rattle.mt_unit_parser.specs.UnitOf.{con_of, function_of, group_of, type_of}
use Rattle.mt_decl.specs.Answers.{Answering, taken, ◌>>=◌}
use Rattle.mt_decl.specs.Constructing.{family}
use Rattle.mt_decl.specs.Declaring.{DeclaredConstructors, declared_constructors, declared_family}
use Rattle.mt_decl.specs.Declaring.{function_rest, knowing, or_no_binder, or_not_a_sort, place_of}
use Rattle.mt_decl.specs.Declaring.{resolved_groups}
use Rattle.mt_decl.specs.Judging.{type_judged}
use Rattle.mt_decl.specs.Telescopes.{generalized, names_of, result_sort}
use Rattle.mt_decl.specs.declared.groups.End.{End}
use Rattle.mt_decl.specs.declared.groups.End.TheVariants as end

-- the constructors of a type with so many parameters, which the environment knows
unfoldable pub family_known : Environment → ℕ → ℕ → List Hypothesis → Tree → AnySort → ℕ → Bool
    → RawType → Answering DeclaredConstructors
family_known E start number Γ T s many co t =
    declared_constructors (knowing E t.name co many T) start (family number Γ T s)
    (nat_eq (length t.cons) 1) (map con_of t.cons)

-- a type from its closed type and its sort on
unfoldable pub family_end : Environment → ℕ → Bool → RawType → List Hypothesis → Tree → AnySort
    → Answering Declaration
family_end E start co t Γ T s = declared_family E start co (type_of t) Γ T s

-- a type from its closed type and its sort on, which the kernel checks first
unfoldable pub closed_end : Environment → ℕ → Bool → RawType → List Hypothesis → Tree → AnySort
    → Answering Declaration
closed_end E start co t Γ T s = do
  _ ← type_judged E start T
  family_end E start co t Γ T s

-- a type, under its parameters
unfoldable pub type_end : Environment → ℕ → Bool → RawType → List Hypothesis → Answering Declaration
type_end E start co t Γ = do
  A ← taken (resolved E (names_of Γ) (written_of t.arity))
  s ← or_not_a_sort start (result_sort A)
  closed_end E start co t Γ (generalized Γ A) s

-- a recursive function on the binder y, under its binders
unfoldable pub recursive_end : Environment → ℕ → RawFunction → Bytes → List Hypothesis
    → Answering Declaration
recursive_end E start f y Γ = do
  T ← taken (resolved E (names_of Γ) (written_of f.ty))
  r ← or_no_binder start y (place_of (length Γ) (first_place (names_of Γ) y))
  _ ← type_judged E start (generalized Γ T)
  function_rest E start (function_of f) Γ (generalized Γ T)
      (is_guarded E (length E.entries) (length Γ) r)
      (λ b. Recursive f.name false (length Γ) r (generalized Γ T) b false)

-- a corecursive function, under its binders
unfoldable pub corecursive_end : Environment → ℕ → RawFunction → List Hypothesis
    → Answering Declaration
corecursive_end E start f Γ = do
  T ← taken (resolved E (names_of Γ) (written_of f.ty))
  _ ← type_judged E start (generalized Γ T)
  function_rest E start (function_of f) Γ (generalized Γ T)
      (is_co_guarded E (length E.entries) (length Γ) (generalized Γ T))
      (λ b. Recursive f.name true (length Γ) 0 (generalized Γ T) b false)

-- what comes after the binders
unfoldable pub ended : Environment → ℕ → End → List Hypothesis → Answering Declaration
ended E start (end.Inductive co t) Γ = type_end E start co t.now Γ
ended E start (end.Recursive f y) Γ = recursive_end E start f.now y.now Γ
ended E start (end.Corecursive f) Γ = corecursive_end E start f.now Γ

-- further binders, and what comes after them
unfoldable pub walked : Environment → ℕ → End → List Hypothesis → List Group → Answering Declaration
walked E start e Γ gs = do
  Δ ← taken (resolved_groups E Γ (map group_of gs))
  ended E start e Δ
