-- Actions that put another type in the place of the goal's: `change`, `whd` and `normalize`.
use Rattle.std.specs.Prelude.{ℕ}
use Rattle.mt_term.specs.Trees.{Tree}
use Rattle.mt_term.specs.Stores.{store_of}
use Rattle.mt_term.specs.declared.modes.Mode.TheVariants.{Equal}
use Rattle.mt_rules.specs.WeakHead.{whd, normal}
use Rattle.mt_unification_rules.specs.Placeholders.{Metas, placeholder}
use Rattle.mt_unification_rules.specs.Unification.{unify}
use Rattle.mt_term_parser.specs.Written.{Written}
use Rattle.mt_refinement_rules.specs.Placed.{Placed, ◌>>=◌, by, in_store}
use Rattle.mt_refinement_rules.specs.Settings.{Setting}
use Rattle.mt_refinement_rules.specs.Finishing.{as_type}
use Rattle.mt_refinement_rules.specs.Refinement.{place_of, refined}
use Rattle.mt_action_rules.specs.Goals.{Goal, Rule, fill_by, itself}

-- a new goal of this type: the goal is filled by it
abbrev pub by_new_goal : ℕ → Goal → Metas → Tree → Placed Metas
by_new_goal at g ms T = fill_by at g itself (placeholder ms g.context T)

-- `change T`: T is equal to the goal
abbrev pub by_change : Setting → ℕ → Written → Rule
by_change S at w g ms = do
  T ← as_type S (place_of w) (refined S w) ms g.context
  ms' ← in_store T.store (by at (unify S.env S.hints T.store g.context Equal T.term g.ty))
  by_new_goal at g ms' T.term

-- `whd`: the weak head of the goal
abbrev pub by_whd : Setting → ℕ → Rule
by_whd S at g ms = by at (whd S.env (store_of ms) g.ty) >>= by_new_goal at g ms

-- `normalize`: its normal form
abbrev pub by_normalize : Setting → ℕ → Rule
by_normalize S at g ms = by at (normal S.env (store_of ms) g.ty) >>= by_new_goal at g ms
