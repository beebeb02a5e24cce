-- The contexts that inference holds.
use Rattle.std.specs.Prelude.{ℕ, ◌<◌, List, [], ◌∷◌, Option, Some, None}
use Rattle.mt_term.specs.Trees.{Tree}
use Rattle.mt_term.specs.Declarations.{Hypothesis}
use Rattle.mt_pool.specs.declared.contexts.HeldHyp.{HeldHyp}
use Rattle.mt_pool.specs.HeldOf.{hypothesis_in}
use Rattle.mt_pool.specs.Region.{tree_at}
use Rattle.mt_infer.specs.declared.scopes.Scope.{Scope, Empty, More'}

-- the hypotheses, innermost first
abbrev pub scope_in : List Tree → Scope → List Hypothesis
scope_in p Empty = []
scope_in p (More' x a q rest) = record { name = x.now; ty = tree_at p a } ∷ scope_in p rest

-- its types are held where there are n ids
abbrev pub ScopeBelow : ℕ → Scope → Type 0
ScopeBelow n Empty = Unit {0}
ScopeBelow n (More' x a q rest) = (a.at < n) × ScopeBelow n rest

-- hypotheses, oldest first, inside a context
abbrev pub inside : List Tree → List HeldHyp → List Hypothesis → List Hypothesis
inside p [] Γ = Γ
inside p (h ∷ hs) Γ = inside p hs (hypothesis_in p h ∷ Γ)

-- the type of a hypothesis that was found
abbrev pub held_type : Option Hypothesis → Option Tree
held_type None = None
held_type (Some h) = Some h.ty
