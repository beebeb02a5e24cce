use Rattle.std.proofs.Common.{sym, ◌∙◌, arith, inl, inr}
use Rattle.std.proofs.lemmas.Bool.{cases_lt}
use Rattle.mt_universe.proofs.TableLaws.{more_past_row}
use Rattle.mt_universe.proofs.paths.extend_paths.Goals as goal

pub returns : goal.returns
returns c a b =
    elim (cases_lt a 256) [
      | inl p ↦ c.loop-a.invariant.done a b (omega arith)
      | inr p ↦ c.loop-a.invariant.rest a b (omega arith) ∙ sym (more_past_row c.args.paths.now c.args.low c.args.high c.requires.low_in c.requires.high_in a b p)
    ]
