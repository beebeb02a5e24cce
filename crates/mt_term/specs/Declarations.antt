-- Hypotheses, declared entries and environments as definitions speak of them.
use Rattle.std.specs.Prelude.{ℕ, Bool, List, Option, Some, None, slice_get}
use Rattle.mt_term.specs.Trees.{Tree, Bytes}

-- a hypothesis: its name and its type
pub record Hypothesis : Type 0 where
  pub name : Bytes
  pub ty : Tree

-- a constructor: its name and its closed type
pub record Constructor : Type 0 where
  pub name : Bytes
  pub ty : Tree

pub data Declaration : Type 0 where
  -- name, type
  Axiom : Bytes → Tree → Declaration
  -- name, type, body
  Definition : Bytes → Tree → Tree → Declaration
  -- name, coinductive or not, number of parameters, type, constructors, large or not
  Inductive : Bytes → Bool → ℕ → Tree → List Constructor → Bool → Declaration
  -- name, corecursive or not, number of binders, recursive place, type, body, made (a generated
  -- principle) or written
  Recursive : Bytes → Bool → ℕ → ℕ → Tree → Tree → Bool → Declaration

-- an environment: its entries, oldest first; the names of its universes; and its constraints, each
-- a pair of numbers of names, the first below the second
pub record Environment : Type 0 where
  pub entries : List Declaration
  pub names : List Bytes
  pub below : List (ℕ × ℕ)

abbrev pub declared_type : Declaration → Tree
declared_type (Axiom x T) = T
declared_type (Definition x T b) = T
declared_type (Inductive x co p T cs l) = T
declared_type (Recursive x co n r T b made) = T

-- constructor k of entry e
abbrev pub constructor_in : Option Declaration → ℕ → Option Constructor
constructor_in (Some (Inductive x co p T cs l)) k = slice_get cs k
constructor_in _ k = None

abbrev pub constructor_at : List Declaration → ℕ → ℕ → Option Constructor
constructor_at es e k = constructor_in (slice_get es e) k
