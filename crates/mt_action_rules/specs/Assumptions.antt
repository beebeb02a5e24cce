-- The action `assumption`.
use Rattle.std.specs.Prelude.{ℕ, zero, suc, List, [], ◌∷◌, codes}
use Rattle.mt_term.specs.Trees.{Bytes, Var}
use Rattle.mt_term.specs.Lifting.{lift}
use Rattle.mt_term.specs.Declarations.{Hypothesis}
use Rattle.mt_term.specs.Reasons.{Unbound}
use Rattle.mt_unification_rules.specs.Placeholders.{Metas, Typed}
use Rattle.mt_refinement_rules.specs.Placed.{Placed, faults, ◌>>=◌, tried}
use Rattle.mt_refinement_rules.specs.Settings.{Setting}
use Rattle.mt_refinement_rules.specs.Finishing.{fitted}
use Rattle.mt_action_rules.specs.Goals.{Goal, Rule, fill_by, itself}

-- the name that a refusal tells
abbrev pub assumption : Bytes
assumption = codes "assumption"

-- hypothesis number i as a term, with its type under the context
abbrev pub hypothesis_term : Metas → ℕ → Hypothesis → Typed
hypothesis_term ms i h = record { store = ms; term = Var i; ty = lift (suc i) 0 h.ty }

-- the first hypothesis, from number i on, whose type is at most the goal; each is tried
abbrev pub fitting : Setting → ℕ → Goal → Metas → ℕ → List Hypothesis → Placed Typed
fitting S at g ms i [] = faults (Unbound assumption) at
fitting S at g ms i (h ∷ hs) =
    tried (fitted S at g.context (hypothesis_term ms i h) g.ty)
    (λ r place. fitting S at g ms (suc i) hs)

-- `assumption`: the goal is filled by the newest hypothesis whose type is at most it
abbrev pub by_assumption : Setting → ℕ → Rule
by_assumption S at g ms = fitting S at g ms zero g.context >>= fill_by at g itself
