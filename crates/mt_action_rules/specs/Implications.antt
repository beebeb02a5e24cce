-- Actions that go by an implication with the goal behind it: `cut` and `lapply`.
use Rattle.std.specs.Prelude.{ℕ, suc, None}
use Rattle.mt_term.specs.Trees.{Tree, Prod, App}
use Rattle.mt_term.specs.Substitution.{ren}
use Rattle.mt_unification_rules.specs.Placeholders.{Typed, placeholder}
use Rattle.mt_term_parser.specs.Written.{Written}
use Rattle.mt_refinement_rules.specs.Placed.{Placed, ◌>>=◌}
use Rattle.mt_refinement_rules.specs.Settings.{Setting}
use Rattle.mt_refinement_rules.specs.Finishing.{as_type}
use Rattle.mt_refinement_rules.specs.Matches.{unnamed}
use Rattle.mt_refinement_rules.specs.Refinement.{place_of, refined, refine}
use Rattle.mt_unification_rules.specs.Placeholders.{Metas}
use Rattle.mt_action_rules.specs.Goals.{Goal, Rule, fill_by}

-- `T → U`
abbrev pub implication : Tree → Tree → Tree
implication T U = Prod unnamed T (ren suc U)

-- a new goal, `T → G` for the goal G
abbrev pub implied : Goal → Metas → Tree → Typed
implied g ms T = placeholder ms g.context (implication T g.ty)

-- two new goals, the function and then its argument: the goal is filled by the one on the other
abbrev pub by_two : ℕ → Goal → Tree → Typed → Placed Metas
by_two at g T f = fill_by at g (App f.term) (placeholder f.store g.context T)

-- `cut T`: the new goals are `T → G` and T
abbrev pub by_cut : Setting → ℕ → Written → Rule
by_cut S at w g ms = do
  T ← as_type S (place_of w) (refined S w) ms g.context
  by_two at g T.term (implied g T.store T.term)

-- `lapply t`: the new goal is `T → G`, where t is of type T
abbrev pub by_lapply : Setting → ℕ → Written → Rule
by_lapply S at w g ms = do
  t ← refine S ms g.context w None
  fill_by at g (λ f. App f t.term) (implied g t.store t.ty)
