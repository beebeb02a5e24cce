-- Placeholders: new open metavariables.
use Rattle.std.specs.Prelude.{ℕ, zero, suc, List, [], ◌∷◌, ◌++◌, length, reverse, None}
use Rattle.mt_term.specs.Trees.{Tree, Trees, Var, Meta, End, Item}
use Rattle.mt_term.specs.Declarations.{Hypothesis}
use Rattle.mt_term.specs.States.{Metavariable}

-- the store, by its places
abbrev pub Metas : Type 0
Metas = List Metavariable

-- a term and its type, over a store
pub record Typed : Type 0 where
  pub store : Metas
  pub term : Tree
  pub ty : Tree

-- all variables of a context with so many hypotheses, oldest first
abbrev pub all_variables : ℕ → Trees
all_variables zero = End
all_variables (suc n) = Item (Var n) (all_variables n)

-- a store with one more open metavariable, of this type in this context
abbrev pub with_meta : Metas → List Hypothesis → Tree → Metas
with_meta ms Γ T = ms ++ record { context = reverse Γ; ty = T; body = None } ∷ []

-- a new metavariable on all variables of its context
abbrev pub placeholder : Metas → List Hypothesis → Tree → Typed
placeholder ms Γ T = record { store = with_meta ms Γ T; term = Meta (length ms) (all_variables (length Γ)); ty = T }
