use Rattle.mt_calculus_laws.proofs.derivations.one_term.Goals as goal
use Rattle.mt_calculus_laws.proofs.DerivationLaws.{one_term_law}

pub returns : goal.returns
returns c = record { law = one_term_law }
