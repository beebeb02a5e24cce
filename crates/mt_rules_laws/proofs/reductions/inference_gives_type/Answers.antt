use Rattle.mt_rules_laws.proofs.reductions.inference_gives_type.Goals as goal
use Rattle.mt_rules_laws.proofs.ReductionTheorems.{inference_law}

pub returns : goal.returns
returns c = record { law = inference_law }
