use Rattle.std.proofs.Common.{◌∙◌, sym, arith, inl, inr}
use Rattle.std.proofs.lemmas.Bool.{cases_lt}
use Rattle.std.proofs.lemmas.List.{get_or_past}
use Rattle.mt_universe.proofs.TableLaws.{more_heights_past}
use Rattle.mt_universe.proofs.paths.extend_heights.Goals as goal

pub returns : goal.returns
returns c b =
    elim (cases_lt b 256) [
      | inl p ↦ c.loop-b.invariant.done b (omega arith)
      | inr p ↦ get_or_past c.loop-b.heights b 0 (omega (arith, c.loop-b.invariant.size))
          ∙ sym (more_heights_past c.args.heights.now c.args.paths.now c.args.low c.args.high b c.requires.size c.requires.high_in p)
    ]
