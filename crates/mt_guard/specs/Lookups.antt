-- The constructors of an environment, beside what the guard takes from their types.
use Rattle.std.specs.Prelude.{ℕ, ◌-◌, ◌<◌, Bool, List, Option, Some, None, slice_get}
use Rattle.mt_term.specs.Trees.{Tree}
use Rattle.mt_term.specs.Substitution.{products}
use Rattle.mt_term.specs.Declarations.{Constructor, Declaration, Inductive, Environment}
use Rattle.mt_pool.specs.Region.{tree_at}
use Rattle.mt_guard.specs.declared.constructors.Maker.{Maker}

-- the closed type of a constructor, and of the type that it makes the kind and the numbers of parameters and indices
pub record Making : Type 0 where
  pub co : Bool
  pub params : ℕ
  pub indices : ℕ
  pub constructor : Tree

-- of a type's kind, parameters and type, and a constructor of it
abbrev pub made_of : Bool → ℕ → Tree → Option Constructor → Option Making
made_of co p T None = None
made_of co p T (Some c) = Some (record { co = co; params = p; indices = products T - p; constructor = c.ty })

abbrev pub making_of : Option Declaration → ℕ → Option Making
making_of (Some (Inductive x co p T cs l)) k = made_of co p T (slice_get cs k)
making_of _ k = None

-- constructor k of entry e
abbrev pub making_at : Environment → ℕ → ℕ → Option Making
making_at E e k = making_of (slice_get E.entries e) k

-- as the pool says it
abbrev pub made_in : List Tree → Option Maker → Option Making
made_in p None = None
made_in p (Some m) = Some (record { co = m.co; params = m.params; indices = m.indices; constructor = tree_at p m.constructor })

abbrev pub MakerBelow : ℕ → Option Maker → Type 0
MakerBelow n None = Unit {0}
MakerBelow n (Some m) = m.constructor.at < n
