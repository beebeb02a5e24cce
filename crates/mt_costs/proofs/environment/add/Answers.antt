use Rattle.mt_layers.proofs.Kept.{added-below}
use Rattle.mt_costs.proofs.environment.add.Goals as goal

pub returns : goal.returns
returns c = added-below _ _ _ _ _ c.in_ok-add.ensures.added c.add.ensures.kept c.requires
