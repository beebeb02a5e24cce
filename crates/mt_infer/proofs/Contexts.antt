-- The types of variables, and contexts oldest first.
use Rattle.std.proofs.Common.{ℕ, suc, ◌+◌, ◌≡◌, List, [], ◌∷◌, reverse, Option, Some, None, slice_get, add-one, refl, ap, sym, ◌∙◌}
use mathlib.Core.List.{reverse_aux}
use Rattle.mt_term.specs.Trees.{Tree}
use Rattle.mt_rules.specs.Inference.{lifted_type, type_at}
use Rattle.mt_term.specs.Lifting.{lift}
use Rattle.mt_term.specs.Declarations.{Hypothesis}
use Rattle.mt_rules_laws.proofs.InferenceLaws.{infer-rest}
use Rattle.mt_pool.specs.declared.contexts.HeldHyp.{HeldHyp}
use Rattle.mt_pool.specs.HeldOf.{hypothesis_in, hypotheses_in}
use Rattle.mt_infer.specs.Scopes.{held_type, inside}

-- the type of a variable, by the hypothesis that was found
pub type-none : (Γ : List Hypothesis) (i : ℕ) → held_type (slice_get Γ i) ≡ None → type_at Γ i ≡ None
type-none Γ i e = none (slice_get Γ i) e
  where
    none : (o : Option Hypothesis) → held_type o ≡ None → lifted_type (suc i) o ≡ None
    none None e = refl
    none (Some h) e = absurd cc

pub type-some : (Γ : List Hypothesis) (i : ℕ) (t : Tree) → held_type (slice_get Γ i) ≡ Some t → type_at Γ i ≡ Some (lift (i + 1) 0 t)
type-some Γ i t e = some (slice_get Γ i) e ∙ ap (λ (k : ℕ). Some (lift k 0 t)) (sym (add-one i))
  where
    some : (o : Option Hypothesis) → held_type o ≡ Some t → lifted_type (suc i) o ≡ Some (lift (suc i) 0 t)
    some None e = absurd cc
    some (Some h) e = let same : h.ty ≡ t = cc in ap (λ (u : Tree). Some (lift (suc i) 0 u)) same

pub ruleset type_rules = (type-none, type-some)

-- hypotheses, oldest first, as the context that judgements see
inside_onto : (p : List Tree) (hs : List HeldHyp) (Γ : List Hypothesis) → inside p hs Γ ≡ reverse_aux (hypotheses_in p hs) Γ
inside_onto p [] Γ = refl
inside_onto p (h ∷ hs) Γ = inside_onto p hs (hypothesis_in p h ∷ Γ)

pub inside_nothing : (p : List Tree) (hs : List HeldHyp) → inside p hs [] ≡ reverse (hypotheses_in p hs)
inside_nothing p hs = inside_onto p hs []

pub ruleset inside_rules = (infer-rest)
