-- The rules of raw terms without parts: names, constructors by their numbers, sorts.
use Rattle.std.specs.Prelude.{ℕ, List, Option, Some, None, option_map, slice_get}
use Rattle.mt_term.specs.Trees.{Bytes, Tree, Var, Const, Ind, Con}
use Rattle.mt_term.specs.Declarations.{Hypothesis, Constructor, Environment, constructor_at}
use Rattle.mt_term.specs.Reasons.{NoSuchPosition}
use Rattle.mt_rules.specs.Charges.{give}
use Rattle.mt_term.specs.UniverseForms.{sort_above}
use Rattle.mt_rules.specs.Inference.{a_sort, in_range, type_at, constant_type, inductive_type, constructor_type}
use Rattle.mt_term_parser.specs.declared.raw.RawSort.{RawSort}
use Rattle.mt_resolver.specs.Resolution.{Resolution, Found, Faults, meant, or_unbound, resolved_sort}
use Rattle.mt_refinement_rules.specs.Placed.{◌>>=◌, by}
use Rattle.mt_refinement_rules.specs.Settings.{Setting}
use Rattle.mt_refinement_rules.specs.Finishing.{Refinement, names_of, finish}

-- the declared type of a variable, a constant, an inductive type or a constructor
abbrev pub declared_type_of : Environment → List Hypothesis → Tree → Option Tree
declared_type_of E Γ (Var i) = type_at Γ i
declared_type_of E Γ (Const c) = constant_type (slice_get E.entries c)
declared_type_of E Γ (Ind e) = inductive_type (slice_get E.entries e)
declared_type_of E Γ (Con e k) = constructor_type (constructor_at E.entries e k)
declared_type_of E Γ t = None

abbrev pub with_declared_type : Environment → List Hypothesis → Option Tree → Option (Tree × Tree)
with_declared_type E Γ None = None
with_declared_type E Γ (Some t) = option_map (λ T. (t, T)) (declared_type_of E Γ t)

-- a name: the newest hypothesis of that name, else the entry or constructor
abbrev pub by_name : Setting → ℕ → Bytes → Refinement
by_name S at x ms Γ o = do
  h ← give (or_unbound x at (with_declared_type S.env Γ (meant S.env (names_of Γ) x)))
  finish S at Γ o (record { store = ms; term = h.0; ty = h.1 })

abbrev pub or_no_position : ℕ → Option Constructor → Resolution Constructor
or_no_position at None = Faults NoSuchPosition at
or_no_position at (Some c) = Found c

-- a constructor by its numbers
abbrev pub by_numbers : Setting → ℕ → ℕ → ℕ → Refinement
by_numbers S at e k ms Γ o = do
  c ← give (or_no_position at (constructor_at S.env.entries e k))
  finish S at Γ o (record { store = ms; term = Con e k; ty = c.ty })

-- a sort: its names are looked up before its numbers are judged
abbrev pub by_sort : Setting → ℕ → RawSort → Refinement
by_sort S at raw ms Γ o = do
  t ← give (resolved_sort S.env.names at raw)
  s ← by at (a_sort t)
  T ← by at (in_range (sort_above s))
  finish S at Γ o (record { store = ms; term = t; ty = T })
