-- The state of a script as definitions speak of it.
use Rattle.std.specs.Prelude.{ℕ, Bool, List, Option}
use Rattle.mt_term.specs.Trees.{Tree, Bytes}
use Rattle.mt_term.specs.Declarations.{Environment}
use Rattle.mt_term.specs.States.{Metavariable, Note}

-- an open proof: its name, its statement, its first metavariable, and its goals in order, each with
-- whether it is in focus
pub record Proof : Type 0 where
  pub name : Bytes
  pub ty : Tree
  pub root : ℕ
  pub goals : List (ℕ × Bool)

-- the environment, the store by numbers, the open proof where there is one, how many units were
-- accepted, where the last one ends, and the accepted commands in order
pub record State : Type 0 where
  pub env : Environment
  pub store : List Metavariable
  pub proof : Option Proof
  pub units : ℕ
  pub place : ℕ
  pub notes : List Note
