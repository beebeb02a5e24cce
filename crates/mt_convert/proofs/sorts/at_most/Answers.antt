use Rattle.std.proofs.lemmas.Bool.Decides.{same_from_decides}
use Rattle.mt_universe.proofs.UniverseOrderLaws.{at_most_decides}
use Rattle.mt_convert.proofs.sorts.at_most.Goals as goal

pub returns : goal.returns
returns c = same_from_decides _ _ c.leq.ensures (at_most_decides c.args.graph.now.below c.args.u.now c.args.w.now)
