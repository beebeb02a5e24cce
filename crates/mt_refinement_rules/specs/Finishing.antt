-- Refinements, and how a rule ends: the type of its term against the expected one.
use Rattle.std.specs.Prelude.{ℕ, zero, suc, ◌-◌, List, [], ◌∷◌, Option, Some, None}
use Rattle.mt_term.specs.Trees.{Bytes, Tree, App}
use Rattle.mt_term.specs.Substitution.{sub, one}
use Rattle.mt_term.specs.Declarations.{Hypothesis}
use Rattle.mt_term.specs.Reasons.{Mismatch}
use Rattle.mt_rules.specs.Charges.{charge}
use Rattle.mt_term.specs.Instancing.{instance}
use Rattle.mt_term.specs.Stores.{store_of}
use Rattle.mt_rules.specs.WeakHead.{whd}
use Rattle.mt_rules.specs.Inference.{Product, a_product, a_sort}
use Rattle.mt_term.specs.declared.modes.Mode.TheVariants.{AtMost}
use Rattle.mt_term.specs.declared.universes.Sort.{Sort as AnySort}
use Rattle.mt_unification_rules.specs.Placeholders.{Metas, Typed, placeholder}
use Rattle.mt_unification_rules.specs.Unification.{unify}
use Rattle.mt_refinement_rules.specs.Coercions.{Coercion, type_head, path}
use Rattle.mt_refinement_rules.specs.Settings.{Setting}
use Rattle.mt_refinement_rules.specs.Placed.{Placed, found, faults, ◌>>=◌, tried, by}

-- what a raw term gives from a store, a context, innermost first, and the expected type, where there is one
abbrev pub Refinement : Type 0
Refinement = Metas → List Hypothesis → Option Tree → Placed Typed

-- the names of a context
abbrev pub names_of : List Hypothesis → List Bytes
names_of [] = []
names_of (h ∷ Γ) = h.name ∷ names_of Γ

-- a function whose type is a product, on an argument
abbrev pub on_argument : Typed → Product → Typed → Typed
on_argument f p a = record { store = a.store; term = App f.term a.term; ty = sub (one a.term) p.cod }

-- a term against an expected type: its own type is made at most that one
abbrev pub fitted : Setting → ℕ → List Hypothesis → Typed → Tree → Placed Typed
fitted S at Γ t U = do
  ms ← by at (unify S.env S.hints t.store Γ AtMost t.ty U)
  found (record { store = ms; term = t.term; ty = t.ty })

-- a function of products as they stand, on new metavariables for its first arguments, one charge each
abbrev pub on_new : ℕ → List Hypothesis → ℕ → Typed → Placed Typed
on_new at Γ zero f = found f
on_new at Γ (suc k) f = charge (by at (a_product f.ty) >>= (λ p. on_new at Γ k (on_argument f p (placeholder f.store Γ p.dom))))

-- a term under one coercion: on its first arguments, and against its last domain
abbrev pub put_under : Setting → ℕ → List Hypothesis → Coercion → Typed → Placed Typed
put_under S at Γ c t = do
  f ← on_new at Γ (c.count - 1) (record { store = t.store; term = c.term; ty = c.ty })
  p ← by at (a_product f.ty)
  ms ← by at (unify S.env S.hints f.store Γ AtMost t.ty p.dom)
  found (record { store = ms; term = App f.term t.term; ty = sub (one t.term) p.cod })

-- the same, for one charge
abbrev pub under_coercion : Setting → ℕ → List Hypothesis → Coercion → Typed → Placed Typed
under_coercion S at Γ c t = charge (put_under S at Γ c t)

-- under these coercions, and then against the expected type
abbrev pub inserted : Setting → ℕ → List Hypothesis → Tree → List Coercion → Typed → Placed Typed
inserted S at Γ U [] t = fitted S at Γ t U
inserted S at Γ U (c ∷ cs) t = under_coercion S at Γ c t >>= inserted S at Γ U cs

-- the two types of a mismatch as instances in the store
abbrev pub mismatch : ℕ → List Hypothesis → Typed → Tree → Placed Typed
mismatch at Γ t U = faults (Mismatch Γ (instance t.store t.ty) (instance t.store U) []) at

-- the path tried; where there is none, or a part is refused, the types do not fit
abbrev pub on_path : Setting → ℕ → List Hypothesis → Typed → Tree → Option (List Coercion) → Placed Typed
on_path S at Γ t U None = mismatch at Γ t U
on_path S at Γ t U (Some cs) = tried (inserted S at Γ U cs t) (λ r place. mismatch at Γ t U)

-- Where the type does not fit, the path of coercions between the heads is inserted. Both weak heads are taken, that of the inferred type first.
abbrev pub coerced : Setting → ℕ → List Hypothesis → Typed → Tree → Placed Typed
coerced S at Γ t U = do
  a ← by at (whd S.env (store_of t.store) t.ty)
  b ← by at (whd S.env (store_of t.store) U)
  on_path S at Γ t U (path S.coercions (type_head a) (type_head b))

-- the end of a rule, for a raw term at this place
abbrev pub finish : Setting → ℕ → List Hypothesis → Option Tree → Typed → Placed Typed
finish S at Γ None t = found t
finish S at Γ (Some U) t = tried (fitted S at Γ t U) (λ r place. coerced S at Γ t U)

-- a type and its sort, over a store
pub record Sorted : Type 0 where
  pub store : Metas
  pub term : Tree
  pub sort : AnySort

-- a raw term at this place, as a type
abbrev pub as_type : Setting → ℕ → Refinement → Metas → List Hypothesis → Placed Sorted
as_type S at refinement ms Γ = do
  t ← refinement ms Γ None
  u ← by at (whd S.env (store_of t.store) t.ty)
  s ← by at (a_sort u)
  found (record { store = t.store; term = t.term; sort = s })
