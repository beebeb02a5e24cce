-- Terms as they are written, as trees that know no pointers.
use Rattle.std.specs.Prelude.{ℕ, List}
use Rattle.mt_term_parser.specs.declared.raw.RawSort.{RawSort}

abbrev pub Bytes : Type 0
Bytes = List ℕ

mutual
  -- a term and the place of its first token
  pub data Written : Type 0 where
    Term : ℕ → Form → Written

  pub data Form : Type 0 where
    Name : Bytes → Form
    Con : ℕ → ℕ → Form
    Hole : Form
    Vector : Form
    Sort : RawSort → Form
    Lam : Bytes → Domain → Written → Form
    Prod : Bytes → Written → Written → Form
    App : Written → Arguments → Form
    Match : Written → Domain → Cases → Form
    Cast : Written → Written → Form

  -- a type that may be left out
  pub data Domain : Type 0 where
    Absent : Domain
    Given : Written → Domain

  pub data Arguments : Type 0 where
    NoArgument : Arguments
    Argument : Written → Arguments → Arguments

  -- the arms of a match: the constructor, its binders and the body
  pub data Cases : Type 0 where
    NoCase : Cases
    Case : Bytes → List Bytes → Written → Cases → Cases

-- an arm of a match
pub record WrittenArm : Type 0 where
  pub name : Bytes
  pub binders : List Bytes
  pub body : Written
