use Rattle.mt_layers.proofs.Kept.{seen-entry, seen-below}
use Rattle.mt_layers.proofs.entries.entry.Goals as goal

pub returns-clause-tree : goal.returns-clause-tree
returns-clause-tree c = λ p. seen-entry p c.args.env.now c.args.n c.held_at.result c.held_at.ensures

pub returns-clause-held : goal.returns-clause-held
returns-clause-held c = λ m b. seen-below m c.args.env.now c.args.n c.held_at.result c.held_at.ensures b
