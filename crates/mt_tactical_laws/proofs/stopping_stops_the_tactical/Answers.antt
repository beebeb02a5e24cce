use Rattle.mt_tactical_laws.proofs.Laws.{stopping_law}
use Rattle.mt_tactical_laws.proofs.stopping_stops_the_tactical.Goals as goal

pub returns : goal.returns
returns g c = record { law = stopping_law g.P.Prover.rules g.met.P.Prover.succeeds_on g.met.P.Prover.leaves_no_more }
