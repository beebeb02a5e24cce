-- Units, by names that stay as they are in a goal.
use Rattle.std.specs.Prelude.{ℕ, Bool, List, [], ◌∷◌, map}
use Rattle.mt_term.specs.Trees.{Bytes, Tree}
use Rattle.mt_term.specs.Declarations.{Declaration, Environment}
use Rattle.mt_term_parser.specs.Written.{Written}
use Rattle.mt_unit_parser.specs.declared.units.Group.{Group}
use Rattle.mt_unit_parser.specs.declared.units.RawType.{RawType}
use Rattle.mt_unit_parser.specs.declared.units.RawFunction.{RawFunction}
use Rattle.mt_unit_parser.specs.UnitOf.{function_of, group_of, type_of}
use Rattle.mt_unit_parser.specs.WrittenUnits as unit
use Rattle.mt_unit_parser.specs.WrittenUnits.{WrittenKind}
use Rattle.mt_decl.specs.Answers.{Answering, make, taken, ◌>>=◌}
use Rattle.mt_decl.specs.Declaring.{declared_axiom, declared_definition, declared_entry}
use Rattle.mt_decl.specs.Ends.{walked}
use Rattle.mt_decl.specs.Fronts.{newness}
use Rattle.mt_decl.specs.Judging.{term_judged}
use Rattle.mt_resolver.specs.Resolution.{resolved}
use Rattle.mt_decl.specs.declared.groups.End.{End}

unfoldable pub axiom_unit : Environment → ℕ → Bytes → Written → Answering Declaration
axiom_unit E start x w = declared_axiom E start x w

-- a closed term of a closed type
unfoldable pub body_judged : Environment → ℕ → Tree → Written → Answering Tree
body_judged E start T w = do
  b ← taken (resolved E [] w)
  _ ← term_judged E start b T
  make b

unfoldable pub definition_unit : Environment → ℕ → Bytes → Written → Written → Answering Declaration
definition_unit E start x w b = declared_definition E start x w b

unfoldable pub types_unit : Environment → ℕ → Bool → List Group → List RawType
    → Answering Declaration
types_unit E start co gs ts =
    declared_entry E start (unit.Inductive co (map group_of gs) (map type_of ts))

unfoldable pub functions_unit : Environment → ℕ → Bool → List RawFunction → Answering Declaration
functions_unit E start co fs = declared_entry E start (unit.Recursive co (map function_of fs))

-- a function of a new name
unfoldable pub on_unit : Environment → ℕ → RawFunction → End → Answering Declaration
on_unit E start f e = do
  _ ← taken (newness E start [] (f.name ∷ []))
  walked E start e [] f.groups

unfoldable pub unit_declared : Environment → ℕ → WrittenKind → Answering Declaration
unit_declared E start kind = declared_entry E start kind
