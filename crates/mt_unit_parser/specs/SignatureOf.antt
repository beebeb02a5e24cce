-- What a signature that is being read says.
use Rattle.std.specs.Prelude.{List, map}
use Rattle.mt_term_parser.specs.Written.{Bytes}
use Rattle.mt_term_parser.specs.WrittenOf.{written_of}
use Rattle.mt_unit_parser.specs.declared.commands.FunctionHead.{FunctionHead}
use Rattle.mt_unit_parser.specs.UnitOf.{group_of}
use Rattle.mt_unit_parser.specs.Units.{WrittenSignature}

abbrev pub signature_of : FunctionHead → WrittenSignature
signature_of s = record { name = s.name; groups = map group_of s.groups; type = written_of s.ty }

abbrev pub recursion_of : FunctionHead × Bytes → WrittenSignature × Bytes
recursion_of p = (signature_of p.0, p.1)
