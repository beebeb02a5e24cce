-- What the program's raw terms say.
use Rattle.std.specs.Prelude.{Option, Some, None}
use Rattle.std.proofs.Common.{Box, Global}
use Rattle.mt_term_parser.specs.Written.{Written, WrittenArm, Form, Domain, Arguments, Cases, Term}
use Rattle.mt_term_parser.specs.Written.{Name, Con, Hole, Vector, Sort, Lam, Prod, App, Match, Cast}
use Rattle.mt_term_parser.specs.Written.{Absent, Given, NoArgument, Argument, NoCase, Case}
use Rattle.mt_term_parser.specs.declared.raw.Raw.{Raw}
use Rattle.mt_term_parser.specs.declared.raw.Arm.{Arm}
use Rattle.mt_term_parser.specs.declared.raw.RawShape.{RawShape, Name as RawName, Con as RawCon}
use Rattle.mt_term_parser.specs.declared.raw.RawShape.{Hole as RawHole, Vector as RawVector}
use Rattle.mt_term_parser.specs.declared.raw.RawShape.{Sort as RawSort, Lam', Prod', App', Match'}
use Rattle.mt_term_parser.specs.declared.raw.RawShape.{Cast'}
use Rattle.mt_term_parser.specs.declared.raw.RawShape as shape
use Rattle.mt_term_parser.specs.declared.raw.Raws.{Raws, End as NoRaw, Item' as RawItem'}
use Rattle.mt_term_parser.specs.declared.raw.RawArms.{RawArms as Arms, End as NoArm, Item' as Arm'}

abbrev mutual
  pub form_of : RawShape → Form
  form_of (RawName x) = Name x
  form_of (RawCon n k) = Con n k
  form_of RawHole = Hole
  form_of RawVector = Vector
  form_of (RawSort s) = Sort s
  form_of (Lam' x A p start b) = Lam x (domain_of A) (Term start (form_of b))
  form_of (Prod' x p start A q place B) = Prod x (Term start (form_of A)) (Term place (form_of B))
  form_of (App' p start f args) = App (Term start (form_of f)) (arguments_of args)
  form_of (Match' p start c r arms) = Match (Term start (form_of c)) (domain_of r) (cases_of arms)
  form_of (Cast' p start t q place T) = Cast (Term start (form_of t)) (Term place (form_of T))

  pub domain_of : shape.Held-RawShape-Lam-1 → Domain
  domain_of shape.None' = Absent
  domain_of (shape.Some' p start t) = Given (Term start (form_of t))

  pub arguments_of : Raws → Arguments
  arguments_of NoRaw = NoArgument
  arguments_of (RawItem' p start a q args) = Argument (Term start (form_of a)) (arguments_of args)

  pub cases_of : Arms → Cases
  cases_of NoArm = NoCase
  cases_of (Arm' p name binders start body q arms) =
      Case name binders (Term start (form_of body)) (cases_of arms)

abbrev pub written_of : Raw → Written
written_of r = Term r.start (form_of r.shape)

-- a type that may be left out
abbrev pub choice_of : Option (Box Raw Global) → Domain
choice_of None = Absent
choice_of (Some r) = Given (written_of r.value)

abbrev pub case_of : Arm → WrittenArm
case_of a = record { name = a.name; binders = a.binders; body = written_of a.body }
