-- Units as they are written, as trees that know no pointers.
use Rattle.std.specs.Prelude.{ℕ, Bool, List, Option}
use Rattle.mt_tactical.specs.Tacticals.{Sequence}
use Rattle.mt_term_parser.specs.Written.{Bytes, Written, Domain}
use Rattle.mt_tiny.specs.declared.Tiny.{Tiny}

-- a binder and its type
pub record WrittenGroup : Type 0 where
  pub name : Bytes
  pub type : Written

-- a constructor, the place of its name, and its type
pub record WrittenCon : Type 0 where
  pub at : ℕ
  pub name : Bytes
  pub type : Written

pub record WrittenType : Type 0 where
  pub name : Bytes
  pub arity : Written
  pub cons : List WrittenCon

pub record WrittenFunction : Type 0 where
  pub name : Bytes
  pub groups : List WrittenGroup
  pub on : Option Bytes
  pub type : Written
  pub body : Written

pub record WrittenEq : Type 0 where
  pub name : Bytes
  pub term : Written

pub data Deed : Type 0 where
  Intro : Bytes → Deed
  Exact : Written → Deed
  Refine : Written → Deed
  Apply : Written → Deed
  Cut : Written → Deed
  Lapply : Written → Deed
  Change : Written → Deed
  Whd : Deed
  Normalize : Deed
  Assumption : Deed
  Constructor : ℕ → Deed
  Generalize : Written → Deed
  Clear : Bytes → Deed
  Cases : Written → Deed
  Elim : Written → Deed

-- an action and the place of its first token
pub record WrittenAction : Type 0 where
  pub start : ℕ
  pub deed : Deed

pub data WrittenKind : Type 0 where
  Constraint : Bytes → Bytes → WrittenKind
  Axiom : Bytes → Written → WrittenKind
  Definition : Bytes → Domain → Written → WrittenKind
  Inductive : Bool → List WrittenGroup → List WrittenType → WrittenKind
  Recursive : Bool → List WrittenFunction → WrittenKind
  Hint : ℕ → List WrittenGroup → List WrittenEq → Written → Written → WrittenKind
  Coercion : Bytes → WrittenKind
  Theorem : Bytes → Written → WrittenKind
  Qed : WrittenKind
  Step : Tiny WrittenAction → WrittenKind
  Block : Sequence WrittenAction → WrittenKind

-- a unit stands at start..end, and the bytes before seen decide it
pub record WrittenUnit : Type 0 where
  pub start : ℕ
  pub end : ℕ
  pub seen : ℕ
  pub kind : WrittenKind
