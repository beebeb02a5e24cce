-- A term given for a goal.
use Rattle.std.specs.Prelude.{ℕ}
use Rattle.mt_term.specs.Trees.{Tree}
use Rattle.mt_term.specs.Stores.{store_of}
use Rattle.mt_term.specs.declared.modes.Mode.TheVariants.{AtMost}
use Rattle.mt_rules.specs.Inference.{infer}
use Rattle.mt_unification_rules.specs.Placeholders.{Metas}
use Rattle.mt_unification_rules.specs.Unification.{unify}
use Rattle.mt_refinement_rules.specs.Placed.{Placed, ◌>>=◌, by, in_store}
use Rattle.mt_refinement_rules.specs.Settings.{Setting}
use Rattle.mt_action_rules.specs.Goals.{Goal, fill}

-- A term, whose type is made at most the goal, becomes its body. A refusal shows types as instances
-- in the store that was given.
abbrev pub give_term : Setting → ℕ → Goal → Metas → Tree → Placed Metas
give_term S at g ms t = do
  T ← in_store ms (by at (infer S.env (store_of ms) g.context t))
  ms' ← in_store ms (by at (unify S.env S.hints ms g.context AtMost T g.ty))
  fill at g ms' t
