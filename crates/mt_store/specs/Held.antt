-- Stores that are held in a pool, as contracts see them.
use Rattle.std.specs.Prelude.{ℕ, zero, suc, ◌<◌, ◌≡◌, List, [], ◌∷◌, map, Option, Some, None}
use Rattle.mt_term.specs.Trees.{Tree}
use Rattle.mt_term.specs.Declarations.{Hypothesis}
use Rattle.mt_term.specs.States.{Metavariable}
use Rattle.mt_term.specs.Stores.{Declared, Store, store_of, declared_as, Owned, Acyclic}
use Rattle.mt_pool.specs.declared.nodes.TermId.{TermId}
use Rattle.mt_pool.specs.declared.contexts.HeldHyp.{HeldHyp}
use Rattle.mt_pool.specs.HeldOf.{hypotheses_in, ContextBelow}
use Rattle.mt_pool.specs.Region.{tree_at}
use Rattle.mt_store.specs.declared.metavariables.HeldMeta.{HeldMeta}

-- a body's tree, where there is one
abbrev pub body_in : List Tree → Option TermId → Option Tree
body_in p None = None
body_in p (Some t) = Some (tree_at p t)

-- a metavariable as the pool says it
abbrev pub metavariable_in : List Tree → HeldMeta → Metavariable
metavariable_in p m =
    record { context = hypotheses_in p m.context; ty = tree_at p m.ty; body = body_in p m.body }

-- a metavariable as judgements see it
abbrev pub declared_in : List Tree → HeldMeta → Declared
declared_in p m = declared_as (metavariable_in p m)

-- metavariables by their numbers
abbrev pub metavariables_in : List Tree → List HeldMeta → List Metavariable
metavariables_in p ms = map (metavariable_in p) ms

-- the store as the pool says it: the list of its metavariables, and what judgements see of it
unfoldable pub metas_in : List Tree → List HeldMeta → List Metavariable
metas_in p ms = metavariables_in p ms

unfoldable pub store_in : List Tree → List HeldMeta → Store
store_in p ms = store_of (metavariables_in p ms)

-- a body is held where there are n ids
abbrev pub BodyBelow : ℕ → Option TermId → Type 0
BodyBelow n None = Unit {0}
BodyBelow n (Some t) = t.at < n

-- the ids of a metavariable are held
abbrev pub MetaBelow : ℕ → HeldMeta → Type 0
MetaBelow n m = ContextBelow n m.context × (m.ty.at < n) × BodyBelow n m.body

abbrev pub MetasBelow : ℕ → List HeldMeta → Type 0
MetasBelow n [] = Unit {0}
MetasBelow n (m ∷ ms) = MetaBelow n m × MetasBelow n ms

-- where n is the length of a pool, it holds the store
unfoldable pub StoreBelow : ℕ → List HeldMeta → Type 0
StoreBelow n ms = MetasBelow n ms

-- an open metavariable
abbrev pub new_meta : List HeldHyp → TermId → HeldMeta
new_meta Γ ty = record { context = Γ; ty = ty; body = None }

abbrev pub new_in : List Tree → List HeldHyp → TermId → Declared
new_in p Γ ty = declared_in p (new_meta Γ ty)

-- with a body for metavariable n
abbrev pub assigned : List HeldMeta → ℕ → TermId → List HeldMeta
assigned [] n t = []
assigned (m ∷ ms) zero t = record m { body = Some t } ∷ ms
assigned (m ∷ ms) (suc n) t = m ∷ assigned ms n t

-- metavariable n is there, and has no body
pub record IsOpen (S : Store) (n : ℕ) : Type 0 where
  pub declared : Declared
  pub there : S.at n ≡ Some declared
  pub no_body : declared.body ≡ None

-- a store mentions its own metavariables alone, and none of them is below itself
pub record IsProper (S : Store) : Type 0 where
  pub owned : Owned S
  pub acyclic : Acyclic S

abbrev pub context_held : HeldMeta → List HeldHyp
context_held m = m.context

abbrev pub type_held : HeldMeta → TermId
type_held m = m.ty

abbrev pub context_of : Declared → List Tree
context_of d = d.context

abbrev pub type_of : Declared → Tree
type_of d = d.ty
