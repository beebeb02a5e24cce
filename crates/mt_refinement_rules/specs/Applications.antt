-- The rules of applications, and of `…` among their arguments.
use Rattle.std.specs.Prelude.{ℕ, zero, suc, List, Option, Some, None}
use Rattle.mt_term.specs.Trees.{Tree}
use Rattle.mt_term.specs.Declarations.{Hypothesis}
use Rattle.mt_term.specs.Reasons.{Reason}
use Rattle.mt_rules.specs.Charges.{charge}
use Rattle.mt_rules.specs.Knot.{fixed}
use Rattle.mt_term.specs.Stores.{store_of}
use Rattle.mt_rules.specs.WeakHead.{whd}
use Rattle.mt_rules.specs.Inference.{Product, a_product}
use Rattle.mt_resolver.specs.Resolution.{Resolution}
use Rattle.mt_refinement_rules.specs.Placed.{Placed, faults, ◌>>=◌, tried, by}
use Rattle.mt_unification_rules.specs.Placeholders.{Typed, placeholder}
use Rattle.mt_refinement_rules.specs.Settings.{Setting}
use Rattle.mt_refinement_rules.specs.Finishing.{Refinement, on_argument}
use Rattle.mt_refinement_rules.specs.Binders.{product_in}

-- the rest of an application, from a function on the arguments so far on
abbrev pub Rest : Type 0
Rest = Typed → Placed Typed

-- an argument at this place, and then the rest
abbrev pub by_argument : Setting → List Hypothesis → ℕ → Refinement → Rest → Rest
by_argument S Γ place argument rest f = do
  u ← by place (whd S.env (store_of f.store) f.ty)
  p ← by place (a_product u)
  a ← argument f.store Γ (Some p.dom)
  rest (on_argument f p a)

-- a placeholder as the next argument, for one charge, and then the rest, where the function's type is a product; else `none`
abbrev pub on_product : List Hypothesis → Placed Typed → Rest → Typed → Option Product → Placed Typed
on_product Γ none rest f (Some p) = charge (rest (on_argument f p (placeholder f.store Γ p.dom)))
on_product Γ none rest f None = none

-- so many placeholders, each where the weak head of the function's type is a product, and then the rest
abbrev pub placeholders : Setting → List Hypothesis → ℕ → Placed Typed → ℕ → Rest → Rest
placeholders S Γ place none zero rest = rest
placeholders S Γ place none (suc j) rest = λ f. by place (whd S.env (store_of f.store) f.ty) >>= (λ u. on_product Γ none (placeholders S Γ place none j rest) f (product_in u))

-- one placeholder more than so many, and the rest tried; else one more again. Where a type is no product, the refusal is the one that is given.
abbrev pub one_more : Setting → List Hypothesis → ℕ → Rest → Typed → Reason → ℕ → (ℕ → Placed Typed) → ℕ → Placed Typed
one_more S Γ place rest f r at again j = placeholders S Γ place (faults r at) (suc j) (λ g. tried (rest g) (λ s p. again (suc j))) f

-- `…`: no placeholder, and else one, two and so on, each tried from the same store; the first that is not refused is the answer
abbrev pub by_vector : Setting → List Hypothesis → ℕ → Rest → Rest
by_vector S Γ place rest f = tried (rest f) (λ r at. fixed ℕ (λ j. Resolution Typed) (one_more S Γ place rest f r at) zero)

-- an application: the head, and then the rest
abbrev pub by_application : Refinement → (List Hypothesis → Option Tree → Rest) → Refinement
by_application head rest ms Γ o = do
  f ← head ms Γ None
  rest Γ o f
