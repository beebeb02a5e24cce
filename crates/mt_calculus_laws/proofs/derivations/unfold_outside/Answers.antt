use Rattle.mt_calculus_laws.proofs.derivations.unfold_outside.Goals as goal
use Rattle.mt_calculus_laws.proofs.UnfoldLaws.{unfold_law}

pub returns : goal.returns
returns c = record { law = unfold_law }
