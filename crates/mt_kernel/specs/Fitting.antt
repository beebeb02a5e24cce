-- A body against its type, the type of a branch's body, and the type of a match.
use Rattle.std.specs.Prelude.{ℕ, zero, Bool, List, Option, Some, None}
use Rattle.mt_term.specs.Trees.{Bytes, Tree, Trees, Arms, Con, End, Item}
use Rattle.mt_term.specs.Substitution.{apps, count, join}
use Rattle.mt_term.specs.Declarations.{Constructor, Hypothesis, Environment}
use Rattle.mt_term.specs.Reasons.{BadElimination}
use Rattle.mt_rules.specs.Charges.{Charged, give, refuse, ◌>>=◌}
use Rattle.mt_term.specs.Spines.{at_args, motive_on_all}
use Rattle.mt_term.specs.Stores.{no_store}
use Rattle.mt_rules.specs.Inference.{Family, branch_context, branch_type, branches_fit, checked}
use Rattle.mt_rules.specs.Inference.{elimination, infer, infer_arms, agreement}
use Rattle.mt_term.specs.declared.modes.Mode.TheVariants.{AtMost}

-- the inferred type of a term is at most a type
unfoldable pub fits : Environment → List Hypothesis → Tree → Tree → Charged (Unit {0})
fits E Γ t v = infer E no_store Γ t >>= (λ u. agreement E no_store Γ AtMost u v)

-- a constructor's type at the parameters, and the type of its branch's body
pub record Goal : Type 0 where
  pub own : Tree
  pub ty : Tree

abbrev pub with_type : Tree → Option Tree → Option Goal
with_type u None = None
with_type u (Some v) = Some (record { own = u; ty = v })

abbrev pub goal_at : ℕ → Trees → ℕ → Tree → List Bytes → Option Tree → Option Goal
goal_at e ps k r xs None = None
goal_at e ps k r xs (Some u) = with_type u (branch_type (count ps) r (apps (Con e k) ps) u xs)

-- of constructor k of type e at the parameters, which has this type
unfoldable pub branch_goal : ℕ → Trees → ℕ → Tree → Tree → List Bytes → Option Goal
branch_goal e ps k T r xs = goal_at e ps k r xs (at_args T ps)

-- the body of a branch against its goal
abbrev pub goal_fits : Environment → List Hypothesis → List Bytes → Tree → Option Goal
    → Charged (Unit {0})
goal_fits E Γ xs b None = refuse BadElimination
goal_fits E Γ xs b (Some g) = fits E (branch_context Γ g.own xs) b g.ty

-- the branch for constructor k of type e at the parameters, which has this type
unfoldable pub branch_fits : Environment → List Hypothesis → ℕ → Trees → Tree → ℕ → Tree
    → List Bytes → Tree → Charged (Unit {0})
branch_fits E Γ e ps r k T xs b = goal_fits E Γ xs b (branch_goal e ps k T r xs)

-- the type of a match on a term of an inductive type
unfoldable pub match_type : Environment → List Hypothesis → Family → Tree → Tree → Arms
    → Charged Tree
match_type E Γ f r c bs = do
  s ← elimination E no_store Γ f r
  _ ← checked (branches_fit (count f.params) f.constructors bs)
  _ ← infer_arms E no_store Γ f r zero f.constructors bs
  give (motive_on_all r (join f.indices (Item c End)))

-- whether a family has these branches
unfoldable pub has_branches : Trees → List Constructor → Arms → Bool
has_branches ps cs bs = branches_fit (count ps) cs bs
