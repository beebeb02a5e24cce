-- Actions that refine a raw term against the goal: `refine`, `exact`, `intro`, `apply` and
-- `constructor`. A raw term that a rule makes, and that is not written, stands at the action.
use Rattle.std.specs.Prelude.{ℕ, zero, suc, ◌-◌, List, [], ◌∷◌, length, nat_lt, Bool, true, false}
use Rattle.std.specs.Prelude.{Some}
use Rattle.mt_term.specs.Trees.{Bytes}
use Rattle.mt_term.specs.Declarations.{Constructor}
use Rattle.mt_term.specs.Reasons.{OpenMetas, NoSuchPosition}
use Rattle.mt_term.specs.Stores.{store_of}
use Rattle.mt_rules.specs.WeakHead.{whd}
use Rattle.mt_rules.specs.Inference.{eliminable, as_family}
use Rattle.mt_term_parser.specs.Written.{Written, Term, Con, Hole, Vector, Lam, App, Absent}
use Rattle.mt_term_parser.specs.Written.{NoArgument, Argument}
use Rattle.mt_refinement_rules.specs.Placed.{found, ◌>>=◌, by, only}
use Rattle.mt_refinement_rules.specs.Settings.{Setting}
use Rattle.mt_refinement_rules.specs.Refinement.{refine}
use Rattle.mt_action_rules.specs.Goals.{Rule, new_goals, fill_by, itself}

-- `refine t`: the goal is filled by t, refined against its type
abbrev pub by_refine : Setting → ℕ → Written → Rule
by_refine S at w g ms = refine S ms g.context w (Some g.ty) >>= fill_by at g itself

abbrev pub is_empty : List ℕ → Bool
is_empty [] = true
is_empty (n ∷ ns) = false

-- `exact t`: as `refine`, and no new goal is left
abbrev pub by_exact : Setting → ℕ → Written → Rule
by_exact S at w g ms = do
  ms' ← by_refine S at w g ms
  _ ← only (is_empty (new_goals ms ms')) OpenMetas at
  found ms'

-- `intro x`: the goal is filled by `λx.?`
abbrev pub by_intro : Setting → ℕ → Bytes → Rule
by_intro S at x = by_refine S at (Term at (Lam x Absent (Term at Hole)))

-- `apply t`: by t on `…`
abbrev pub by_apply : Setting → ℕ → Written → Rule
by_apply S at w = by_refine S at (Term at (App w (Argument (Term at Vector) NoArgument)))

-- positions are counted from 1
abbrev pub is_position : ℕ → List Constructor → Bool
is_position zero cs = false
is_position (suc k) cs = nat_lt k (length cs)

-- `constructor k`: where the weak head of the goal is an inductive type on arguments, its k-th
-- constructor is applied; it is given by its numbers, so that no hypothesis hides it
abbrev pub by_constructor : Setting → ℕ → ℕ → Rule
by_constructor S at k g ms = do
  u ← by at (whd S.env (store_of ms) g.ty)
  f ← by at (eliminable (as_family S.env.entries u))
  _ ← only (is_position k f.constructors) NoSuchPosition at
  by_apply S at (Term at (Con f.number (k - 1))) g ms
