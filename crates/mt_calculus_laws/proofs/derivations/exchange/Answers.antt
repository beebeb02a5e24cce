use Rattle.mt_calculus_laws.proofs.derivations.exchange.Goals as goal
use Rattle.mt_calculus_laws.proofs.PlaceLaws.{exchange_law}

pub returns : goal.returns
returns c = record { law = exchange_law }
