-- What the program's units say.
use Rattle.std.specs.Prelude.{map, Option, Some, None}
use Rattle.mt_tactical.specs.TacticalOf.{sequence_of}
use Rattle.mt_term_parser.specs.Written.{Written, Domain, Absent, Given}
use Rattle.mt_term_parser.specs.WrittenOf.{written_of}
use Rattle.mt_term_parser.specs.declared.raw.Raw.{Raw}
use Rattle.mt_tiny.specs.declared.Tiny.{Tiny}
use Rattle.mt_tiny.specs.declared.Tiny.TheVariants as tiny
use Rattle.mt_unit_parser.specs.declared.units.Group.{Group}
use Rattle.mt_unit_parser.specs.declared.units.RawCon.{RawCon}
use Rattle.mt_unit_parser.specs.declared.units.RawType.{RawType}
use Rattle.mt_unit_parser.specs.declared.units.RawFunction.{RawFunction}
use Rattle.mt_unit_parser.specs.declared.units.RawEq.{RawEq}
use Rattle.mt_unit_parser.specs.declared.units.Action.{Action}
use Rattle.mt_unit_parser.specs.declared.units.ActionShape.{ActionShape}
use Rattle.mt_unit_parser.specs.declared.units.ActionShape.TheVariants as shape
use Rattle.mt_unit_parser.specs.declared.units.UnitKind.{UnitKind}
use Rattle.mt_unit_parser.specs.declared.units.UnitKind.TheVariants as kind
use Rattle.mt_unit_parser.specs.declared.units.Unit.{Unit as ProgramUnit}
use Rattle.mt_unit_parser.specs.declared.units.Parsed.{Parsed}
use Rattle.mt_unit_parser.specs.declared.units.Parsed.TheVariants as parsed
use Rattle.mt_unit_parser.specs.WrittenUnits.{WrittenGroup, WrittenCon, WrittenType}
use Rattle.mt_unit_parser.specs.WrittenUnits.{WrittenFunction, WrittenEq, Deed, WrittenAction}
use Rattle.mt_unit_parser.specs.WrittenUnits.{WrittenKind, WrittenUnit, Intro, Exact, Refine, Apply}
use Rattle.mt_unit_parser.specs.WrittenUnits.{Cut, Lapply, Change, Whd, Normalize, Assumption}
use Rattle.mt_unit_parser.specs.WrittenUnits.{Constructor, Generalize, Clear, Cases, Elim}
use Rattle.mt_unit_parser.specs.WrittenUnits.{Constraint, Axiom, Definition, Inductive, Recursive}
use Rattle.mt_unit_parser.specs.WrittenUnits.{Hint, Coercion, Theorem, Qed, Step, Block}

abbrev pub group_of : Group → WrittenGroup
group_of g = record { name = g.name; type = written_of g.ty }

abbrev pub con_of : RawCon → WrittenCon
con_of c = record { at = c.at; name = c.name; type = written_of c.ty }

abbrev pub type_of : RawType → WrittenType
type_of t = record { name = t.name; arity = written_of t.arity; cons = map con_of t.cons }

abbrev pub function_of : RawFunction → WrittenFunction
function_of f =
    record {
      name = f.name;
      groups = map group_of f.groups;
      on = f.on;
      type = written_of f.ty;
      body = written_of f.body;
    }

abbrev pub eq_of : RawEq → WrittenEq
eq_of e = record { name = e.name; term = written_of e.term }

abbrev pub deed_of : ActionShape → Deed
deed_of (shape.Intro x) = Intro x
deed_of (shape.Exact t) = Exact (written_of t)
deed_of (shape.Refine t) = Refine (written_of t)
deed_of (shape.Apply t) = Apply (written_of t)
deed_of (shape.Cut t) = Cut (written_of t)
deed_of (shape.Lapply t) = Lapply (written_of t)
deed_of (shape.Change t) = Change (written_of t)
deed_of shape.Whd = Whd
deed_of shape.Normalize = Normalize
deed_of shape.Assumption = Assumption
deed_of (shape.Constructor n) = Constructor n
deed_of (shape.Generalize t) = Generalize (written_of t)
deed_of (shape.Clear x) = Clear x
deed_of (shape.Cases t) = Cases (written_of t)
deed_of (shape.Elim t) = Elim (written_of t)

abbrev pub action_of : Action → WrittenAction
action_of a = record { start = a.start; deed = deed_of a.shape }

abbrev pub tiny_of : Tiny Action → Tiny WrittenAction
tiny_of (tiny.Action a) = tiny.Action (action_of a)
tiny_of tiny.Semicolon = tiny.Semicolon
tiny_of tiny.Dot = tiny.Dot
tiny_of tiny.BranchOpen = tiny.BranchOpen
tiny_of tiny.Bar = tiny.Bar
tiny_of tiny.BranchClose = tiny.BranchClose
tiny_of (tiny.Positions ns) = tiny.Positions ns
tiny_of tiny.Wildcard = tiny.Wildcard
tiny_of (tiny.Focus ns) = tiny.Focus ns
tiny_of tiny.Unfocus = tiny.Unfocus
tiny_of tiny.Skip = tiny.Skip

-- a type that may be left out
abbrev pub optional_of : Option Raw → Domain
optional_of None = Absent
optional_of (Some t) = Given (written_of t)

abbrev pub kind_of : UnitKind → WrittenKind
kind_of (kind.Constraint x y) = Constraint x y
kind_of (kind.Axiom x T) = Axiom x (written_of T)
kind_of (kind.Definition x T t) = Definition x (optional_of T) (written_of t)
kind_of (kind.Inductive co groups types) = Inductive co (map group_of groups) (map type_of types)
kind_of (kind.Recursive co functions) = Recursive co (map function_of functions)
kind_of (kind.Hint n vars eqs t u) =
    Hint n (map group_of vars) (map eq_of eqs) (written_of t) (written_of u)
kind_of (kind.Coercion x) = Coercion x
kind_of (kind.Theorem x T) = Theorem x (written_of T)
kind_of kind.Qed = Qed
kind_of (kind.Step s) = Step (tiny_of s)
kind_of (kind.Block b) = Block (sequence_of action_of b)

abbrev pub unit_of : ProgramUnit → WrittenUnit
unit_of u =
    record { start = u.span.start; end = u.span.end; seen = u.span.seen; kind = kind_of u.kind }

abbrev pub parsed_of : Parsed → Option WrittenUnit
parsed_of (parsed.Unit u) = Some (unit_of u)
parsed_of parsed.End = None
