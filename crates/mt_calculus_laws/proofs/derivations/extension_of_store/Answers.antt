use Rattle.mt_calculus_laws.proofs.derivations.extension_of_store.Goals as goal
use Rattle.mt_calculus_laws.proofs.DerivationLaws.{extension_law}

pub returns : goal.returns
returns c = record { law = extension_law }
