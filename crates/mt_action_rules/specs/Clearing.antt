-- The action `clear`.
use Rattle.std.specs.Prelude.{ℕ, zero, suc, List, [], ◌∷◌, length, if◌then◌else◌, nat_eq, Option}
use Rattle.std.specs.Prelude.{Some, None}
use Rattle.mt_term.specs.Trees.{Bytes, Tree, Trees, Var, Meta, End, Item}
use Rattle.mt_term.specs.Declarations.{Hypothesis}
use Rattle.mt_term.specs.Reasons.{Taken}
use Rattle.mt_term.specs.Instancing.{instance}
use Rattle.mt_rules.specs.Charges.{give}
use Rattle.mt_unification_rules.specs.Placeholders.{Metas, with_meta}
use Rattle.mt_unification_rules.specs.TakingBack.{joined, up_place, moved}
use Rattle.mt_resolver.specs.Resolution.{Resolution, Found, Faults, first_place, or_unbound}
use Rattle.mt_refinement_rules.specs.Placed.{◌>>=◌}
use Rattle.mt_refinement_rules.specs.Finishing.{names_of}
use Rattle.mt_action_rules.specs.Goals.{Rule, fill}

-- what becomes of variables where the newest goes, and where variable i goes
abbrev pub but_newest : ℕ → Option ℕ
but_newest zero = None
but_newest (suc j) = Some j

abbrev pub places_but : ℕ → ℕ → Option ℕ
places_but zero = but_newest
places_but (suc i) = up_place (places_but i)

-- the instance of a term without variable i, where that does not stand in it
abbrev pub term_without : Metas → ℕ → Tree → Option Tree
term_without ms i t = moved (places_but i) (instance ms t)

abbrev pub with_hypothesis : Bytes → Tree → List Hypothesis → List Hypothesis
with_hypothesis x A Γ = record { name = x; ty = A } ∷ Γ

-- a context without hypothesis i, the later ones as instances, where none of these uses it
abbrev pub context_without : Metas → ℕ → List Hypothesis → Option (List Hypothesis)
context_without ms i [] = None
context_without ms zero (h ∷ Γ) = Some Γ
context_without ms (suc i) (h ∷ Γ) =
    joined (with_hypothesis h.name) (term_without ms i h.ty) (context_without ms i Γ)

-- all variables of a context with so many hypotheses but variable i, oldest first
abbrev pub variables_but : ℕ → ℕ → Trees
variables_but zero i = End
variables_but (suc n) i =
    if nat_eq n i then variables_but n i else Item (Var n) (variables_but n i)

abbrev pub or_taken : {A : Type 0} → Bytes → ℕ → Option A → Resolution A
or_taken x at (Some a) = Found a
or_taken x at None = Faults (Taken x) at

-- `clear x`: the new goal is the goal's instance without the newest hypothesis x
abbrev pub by_clear : ℕ → Bytes → Rule
by_clear at x g ms = do
  i ← give (or_unbound x at (first_place (names_of g.context) x))
  Γ ← give (or_taken x at (context_without ms i g.context))
  T ← give (or_taken x at (term_without ms i g.ty))
  fill at g (with_meta ms Γ T) (Meta (length ms) (variables_but (length g.context) i))
