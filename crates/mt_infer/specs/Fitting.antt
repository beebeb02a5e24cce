-- The parts of inference, by names that stay as they are in a goal.
use Rattle.std.specs.Prelude.{ℕ, zero, Bool, List, ◌∷◌, Option, Some, None, drop, slice_get}
use Rattle.mt_term.specs.Trees.{Bytes, Tree, Arms, App, Var, Ind, Con, End, Item}
use Rattle.mt_term.specs.Substitution.{apps, count, join, one, sub}
use Rattle.mt_term.specs.Lifting.{lift}
use Rattle.mt_term.specs.Declarations.{Hypothesis, Environment}
use Rattle.mt_term.specs.Reasons.{BadElimination}
use Rattle.mt_rules.specs.Charges.{Charged, give, refuse, ◌>>=◌}
use Rattle.mt_term.specs.Spines.{at_args, motive_on_all}
use Rattle.mt_term.specs.Stores.{Store}
use Rattle.mt_rules.specs.Inference.{Family, Product, as_family, as_product, branch_context}
use Rattle.mt_rules.specs.Inference.{branch_type, branches_fit, checked, constructor_type}
use Rattle.mt_rules.specs.Inference.{eliminable, eliminating, elimination, infer, infer_arms}
use Rattle.mt_rules.specs.Inference.{agreement, only}
use Rattle.mt_term.specs.declared.universes.Sort.{Sort as AnySort}
use Rattle.mt_term.specs.declared.modes.Mode.TheVariants.{Equal, AtMost}

-- b[a]
unfoldable pub instance : Tree → Tree → Tree
instance b a = sub (one a) b

-- a term under one more binder, on that binder's variable
unfoldable pub on_newest : Tree → Tree
on_newest t = App (lift 1 0 t) (Var 0)

-- the type of a function of a product's type on an argument
unfoldable pub applied : Environment → Store → List Hypothesis → Product → Tree → Charged Tree
applied E S Γ p a = do
  t ← infer E S Γ a
  _ ← agreement E S Γ AtMost t p.dom
  give (instance p.cod a)

-- the weak head of a type, which has to be a product over this domain
unfoldable pub product_over : Environment → Store → List Hypothesis → Tree → Tree → Charged Product
product_over E S Γ t a = do
  p ← as_product E S t
  _ ← agreement E S Γ Equal p.dom a
  give p

-- the type of a motive against an arity that is a product over a further index
unfoldable pub eliminating_over : Environment → Store → List Hypothesis → Bool → Tree → Tree → Tree
    → Tree → Charged AnySort
eliminating_over E S Γ large a b u t =
    product_over E S Γ t a >>=
    (λ p. eliminating E S (record { name = p.name; ty = p.dom } ∷ Γ) large b (on_newest u) p.cod)

-- the inferred type of a term is at most a type
unfoldable pub fits : Environment → Store → List Hypothesis → Tree → Tree → Charged (Unit {0})
fits E S Γ t v = infer E S Γ t >>= (λ u. agreement E S Γ AtMost u v)

-- a constructor's type at the parameters, and the type of its branch's body
pub record Goal : Type 0 where
  pub own : Tree
  pub ty : Tree

abbrev pub with_type : Tree → Option Tree → Option Goal
with_type u None = None
with_type u (Some v) = Some (record { own = u; ty = v })

abbrev pub goal_at : Family → ℕ → Tree → List Bytes → Option Tree → Option Goal
goal_at f k r xs None = None
goal_at f k r xs (Some u) =
    with_type u (branch_type (count f.params) r (apps (Con f.number k) f.params) u xs)

-- of constructor k, which has this type
unfoldable pub branch_goal : Family → ℕ → Tree → Tree → List Bytes → Option Goal
branch_goal f k t r xs = goal_at f k r xs (at_args t f.params)

-- the body of a branch against its goal
abbrev pub goal_fits : Environment → Store → List Hypothesis → List Bytes → Tree → Option Goal
    → Charged (Unit {0})
goal_fits E S Γ xs b None = refuse BadElimination
goal_fits E S Γ xs b (Some g) = fits E S (branch_context Γ g.own xs) b g.ty

-- the branch for constructor k, which has this type
unfoldable pub branch_fits : Environment → Store → List Hypothesis → Family → Tree → ℕ → Tree
    → List Bytes → Tree → Charged (Unit {0})
branch_fits E S Γ f r k t xs b = goal_fits E S Γ xs b (branch_goal f k t r xs)

-- the type of constructor k
unfoldable pub declared : Family → ℕ → Option Tree
declared f k = constructor_type (slice_get f.constructors k)

-- the branches from number k on
unfoldable pub arms_from : Environment → Store → List Hypothesis → Family → Tree → ℕ → Arms
    → Charged (Unit {0})
arms_from E S Γ f r k bs = infer_arms E S Γ f r k (drop k f.constructors) bs

-- whether these are the branches of the constructors
unfoldable pub has_branches : Family → Arms → Bool
has_branches f bs = branches_fit (count f.params) f.constructors bs

-- the inductive type on its parameters
unfoldable pub on_params : Family → Tree
on_params f = apps (Ind f.number) f.params

-- the motive on the indices and on the matched term
unfoldable pub answer : Family → Tree → Tree → Tree
answer f r c = motive_on_all r (join f.indices (Item c End))

-- the type of a match on a term of an inductive type
unfoldable pub match_type : Environment → Store → List Hypothesis → Family → Tree → Tree → Arms
    → Charged Tree
match_type E S Γ f r c bs = do
  s ← elimination E S Γ f r
  _ ← checked (has_branches f bs)
  _ ← arms_from E S Γ f r zero bs
  give (answer f r c)

-- the same where the type's weak head has to be inductive type e
unfoldable pub match_on : Environment → Store → List Hypothesis → ℕ → Tree → Tree → Tree → Arms
    → Charged Tree
match_on E S Γ e d r c bs =
    eliminable (only e (as_family E.entries d)) >>= (λ f. match_type E S Γ f r c bs)
