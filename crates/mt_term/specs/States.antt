-- Metavariables, hints and notes as definitions speak of them.
use Rattle.std.specs.Prelude.{ℕ, List, Bool, false, Option, Some, None, is_none}
use Rattle.mt_term.specs.Trees.{Tree, Bytes}
use Rattle.mt_term.specs.Declarations.{Hypothesis}

-- a metavariable: its context, oldest hypothesis first, its type, and its body where it has one
pub record Metavariable : Type 0 where
  pub context : List Hypothesis
  pub ty : Tree
  pub body : Option Tree

-- the parts of a metavariable
abbrev pub meta_context : Metavariable → List Hypothesis
meta_context m = m.context

abbrev pub meta_type : Metavariable → Tree
meta_type m = m.ty

-- whether a metavariable that may be there is open: it is there and has no body
abbrev pub is_open : Option Metavariable → Bool
is_open None = false
is_open (Some m) = is_none m.body

-- a metavariable with a body
abbrev pub meta_with_body : Metavariable → Tree → Metavariable
meta_with_body m v = record { context = m.context; ty = m.ty; body = Some v }

-- an equation of a hint: the place of a variable, the oldest at 0, and its term
pub record Equation : Type 0 where
  pub place : ℕ
  pub term : Tree

-- a hint: its precedence, its variables, oldest first, its equations and the two sides of its
-- conclusion
pub record Hint : Type 0 where
  pub precedence : ℕ
  pub vars : List Hypothesis
  pub eqs : List Equation
  pub left : Tree
  pub right : Tree

-- an accepted command: an entry's number, a constraint's place, a hint, or a coercion's name
pub data Note : Type 0 where
  EntryNote : ℕ → Note
  ConstraintNote : ℕ → Note
  HintNote : Hint → Note
  CoercionNote : Bytes → Note
