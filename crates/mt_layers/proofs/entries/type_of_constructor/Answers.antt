use Rattle.std.proofs.Common.{ap, sym}
use Rattle.mt_rules.specs.Inference.{constructor_type}
use Rattle.mt_layers.proofs.Kept.{constructor-none, constructor-below}
use Rattle.mt_layers.proofs.entries.type_of_constructor.Goals as goal

pub returns-in-Some-clause-held : goal.returns-in-Some-clause-held
returns-in-Some-clause-held c = λ m h. constructor-below m c.args.constructors.now c.args.k _ h (sym c.in-Some.ensures)

pub returns-in-None-clause-tree : goal.returns-in-None-clause-tree
returns-in-None-clause-tree c = λ p. ap constructor_type (sym (constructor-none p c.args.constructors.now c.args.k (sym c.in-None.ensures)))
