-- Actions, with their charges: each by its rule, and the new goals.
use Rattle.std.specs.Prelude.{ℕ, List, Bool, true, false, Option, Some, None, slice_get}
use Rattle.mt_term.specs.Reasons.{NoGoal}
use Rattle.mt_rules.specs.Charges.{charge}
use Rattle.mt_unification_rules.specs.Placeholders.{Metas}
use Rattle.mt_term_parser.specs.Written.{Written}
use Rattle.mt_unit_parser.specs.WrittenUnits.{Deed, WrittenAction, Intro, Exact, Refine, Apply}
use Rattle.mt_unit_parser.specs.WrittenUnits.{Cut, Lapply, Change, Whd, Normalize, Assumption}
use Rattle.mt_unit_parser.specs.WrittenUnits.{Constructor, Generalize, Clear, Cases, Elim}
use Rattle.mt_refinement_rules.specs.Placed.{Placed, found, faults, ◌>>=◌}
use Rattle.mt_refinement_rules.specs.Settings.{Setting}
use Rattle.mt_action_rules.specs.Goals.{Goal, Rule, as_goal, new_goals}
use Rattle.mt_action_rules.specs.RawTerms.{by_refine, by_exact, by_intro, by_apply, by_constructor}
use Rattle.mt_action_rules.specs.Implications.{by_cut, by_lapply}
use Rattle.mt_action_rules.specs.Changes.{by_change, by_whd, by_normalize}
use Rattle.mt_action_rules.specs.Assumptions.{by_assumption}
use Rattle.mt_action_rules.specs.Generalizing.{by_generalize}
use Rattle.mt_action_rules.specs.Clearing.{by_clear}

-- the rule of `elim` and `cases` of a raw term, for an action at a place: whether it goes by the
-- principle of induction
abbrev pub Split : Type 0
Split = Bool → ℕ → Written → Rule

module _ (S : Setting) (split : Split) where
  -- each action by its rule
  abbrev pub by_deed : ℕ → Deed → Rule
  by_deed at (Intro x) = by_intro S at x
  by_deed at (Exact t) = by_exact S at t
  by_deed at (Refine t) = by_refine S at t
  by_deed at (Apply t) = by_apply S at t
  by_deed at (Cut T) = by_cut S at T
  by_deed at (Lapply t) = by_lapply S at t
  by_deed at (Change T) = by_change S at T
  by_deed at Whd = by_whd S at
  by_deed at Normalize = by_normalize S at
  by_deed at Assumption = by_assumption S at
  by_deed at (Constructor k) = by_constructor S at k
  by_deed at (Generalize t) = by_generalize S at t
  by_deed at (Clear x) = by_clear at x
  by_deed at (Cases t) = split false at t
  by_deed at (Elim t) = split true at t

  -- an action on a goal, for one charge: the new store, and the new goals
  abbrev pub by_action : WrittenAction → Goal → Metas → Placed (Metas × List ℕ)
  by_action a g ms =
      charge (by_deed a.start a.deed g ms >>= (λ ms'. found (ms', new_goals ms ms')))

  -- a metavariable that is not open is no goal, which is told before the charge
  abbrev pub on_goal : WrittenAction → Metas → Option Goal → Placed (Metas × List ℕ)
  on_goal a ms None = faults NoGoal a.start
  on_goal a ms (Some g) = by_action a g ms

-- an action on the goal of a number
unfoldable pub act : Setting → Split → WrittenAction → ℕ → Metas → Placed (Metas × List ℕ)
act S split a n ms = on_goal S split a ms (as_goal n (slice_get ms n))
