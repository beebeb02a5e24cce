use Rattle.mt_tactical_laws.proofs.Laws.{stepping_law, block_law}
use Rattle.mt_tactical_laws.proofs.stepping_ends_alike.Goals as goal

pub returns : goal.returns
returns g c = record {
  law = stepping_law g.P.Prover.rules g.met.P.Prover.succeeds_on g.met.P.Prover.leaves_no_more;
  block = block_law g.P.Prover.rules g.met.P.Prover.succeeds_on g.met.P.Prover.leaves_no_more;
}
