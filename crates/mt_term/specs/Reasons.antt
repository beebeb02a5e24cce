-- Why a unit, or a definition with charges, refuses.
use Rattle.std.specs.Prelude.{ℕ, List}
use Rattle.mt_term.specs.Trees.{Tree, Bytes}
use Rattle.mt_term.specs.Declarations.{Hypothesis, Declaration}

-- why a unit, or a definition with charges, refuses
pub data Reason : Type 0 where
  Lex : Reason
  Syntax : Reason
  Incomplete : Reason
  TooDeep : Reason
  Unbound : Bytes → Reason
  Taken : Bytes → Reason
  -- the context, innermost first; the inferred and the expected type; entries taken as known past
  -- the environment
  Mismatch : List Hypothesis → Tree → Tree → List Declaration → Reason
  NotAFunction : Reason
  NotASort : Reason
  NoExpected : Reason
  Cycle : Reason
  NotPositive : Reason
  NotGuarded : Reason
  BadElimination : Reason
  BadHint : Reason
  BadCoercion : Reason
  OpenMetas : Reason
  NoGoal : Reason
  NoBranch : Reason
  NoSuchPosition : Reason
  NotHere : Reason
  KernelRefused : ℕ → Reason
  Spent : Reason

abbrev pub number_of : Reason → ℕ
number_of Lex = 1
number_of Syntax = 2
number_of Incomplete = 3
number_of TooDeep = 4
number_of (Unbound x) = 5
number_of (Taken x) = 6
number_of (Mismatch Γ T U es) = 7
number_of NotAFunction = 8
number_of NotASort = 9
number_of NoExpected = 10
number_of Cycle = 11
number_of NotPositive = 12
number_of NotGuarded = 13
number_of BadElimination = 14
number_of BadHint = 15
number_of BadCoercion = 16
number_of OpenMetas = 17
number_of NoGoal = 18
number_of NoBranch = 19
number_of NoSuchPosition = 20
number_of NotHere = 21
number_of (KernelRefused n) = 22
number_of Spent = 23
