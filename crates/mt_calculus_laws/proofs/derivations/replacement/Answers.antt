use Rattle.mt_calculus_laws.proofs.derivations.replacement.Goals as goal
use Rattle.mt_calculus_laws.proofs.PlaceLaws.{replacement_law}

pub returns : goal.returns
returns c = record { law = replacement_law }
