-- The rules of abstractions, products and casts.
use Rattle.std.specs.Prelude.{ℕ, List, ◌∷◌, Option, Some, None}
use Rattle.mt_term.specs.Trees.{Bytes, Tree, Sort, Prod, Lam}
use Rattle.mt_term.specs.Declarations.{Hypothesis}
use Rattle.mt_term.specs.Reasons.{NoExpected}
use Rattle.mt_term.specs.Stores.{store_of}
use Rattle.mt_term.specs.UniverseForms.{sort_of_product}
use Rattle.mt_rules.specs.WeakHead.{whd}
use Rattle.mt_rules.specs.Inference.{Product}
use Rattle.mt_term.specs.declared.modes.Mode.TheVariants.{Equal}
use Rattle.mt_unification_rules.specs.Placeholders.{Metas, Typed}
use Rattle.mt_unification_rules.specs.Unification.{unify}
use Rattle.mt_refinement_rules.specs.Placed.{Placed, found, faults, ◌>>=◌, by, in_store}
use Rattle.mt_refinement_rules.specs.Settings.{Setting}
use Rattle.mt_refinement_rules.specs.Finishing.{Sorted, Refinement, finish, as_type}

-- the parts of a product, where a term is one as it stands
abbrev pub product_in : Tree → Option Product
product_in (Prod x a b) = Some (record { name = x; dom = a; cod = b })
product_in t = None

-- the product that the weak head of the expected type is, where there is one
abbrev pub expected_product : Setting → ℕ → Metas → Option Tree → Placed (Option Product)
expected_product S at ms None = found None
expected_product S at ms (Some U) = do
  u ← by at (whd S.env (store_of ms) U)
  found (product_in u)

-- a body under x:A, abstracted
abbrev pub abstracted : Bytes → Tree → Refinement → Refinement
abstracted x A body ms Γ o = do
  b ← body ms (record { name = x; ty = A } ∷ Γ) o
  found (record { store = b.store; term = Lam x A b.term; ty = Prod x A b.ty })

-- An abstraction over the type A, which is written at this place: where a product is expected its domain must be A, and the body is against its codomain.
-- A refusal shows the two types as instances in the store after A.
abbrev pub over_type : Setting → ℕ → Bytes → ℕ → Refinement → Sorted → List Hypothesis → Option Tree → Option Product → Placed Typed
over_type S at x place body A Γ o (Some p) = do
  ms ← in_store A.store (by place (unify S.env S.hints A.store Γ Equal A.term p.dom))
  abstracted x A.term body ms Γ (Some p.cod)
over_type S at x place body A Γ o None = do
  t ← abstracted x A.term body A.store Γ None
  finish S at Γ o t

-- `λx:A.b`
abbrev pub by_abstraction : Setting → ℕ → Bytes → ℕ → Refinement → Refinement → Refinement
by_abstraction S at x place type body ms Γ o = do
  A ← as_type S place type ms Γ
  p ← expected_product S at A.store o
  over_type S at x place body A Γ o p

-- an abstraction over the domain of the expected product
abbrev pub over_domain : ℕ → Bytes → Refinement → Metas → List Hypothesis → Option Product → Placed Typed
over_domain at x body ms Γ (Some p) = abstracted x p.dom body ms Γ (Some p.cod)
over_domain at x body ms Γ None = faults NoExpected at

-- `λx.b`
abbrev pub by_bare_abstraction : Setting → ℕ → Bytes → Refinement → Refinement
by_bare_abstraction S at x body ms Γ o = do
  p ← expected_product S at ms o
  over_domain at x body ms Γ p

-- `∀x:A.B`
abbrev pub by_product : Setting → ℕ → Bytes → ℕ → Refinement → ℕ → Refinement → Refinement
by_product S at x place type place' codomain ms Γ o = do
  A ← as_type S place type ms Γ
  B ← as_type S place' codomain A.store (record { name = x; ty = A.term } ∷ Γ)
  finish S at Γ o (record { store = B.store; term = Prod x A.term B.term; ty = Sort (sort_of_product A.sort B.sort) })

-- `(t : T)`
abbrev pub by_cast : Setting → ℕ → Refinement → ℕ → Refinement → Refinement
by_cast S at term place type ms Γ o = do
  T ← as_type S place type ms Γ
  t ← term T.store Γ (Some T.term)
  finish S at Γ o (record { store = t.store; term = t.term; ty = T.term })
