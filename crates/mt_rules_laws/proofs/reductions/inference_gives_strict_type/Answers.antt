use Rattle.mt_rules_laws.proofs.reductions.inference_gives_strict_type.Goals as goal
use Rattle.mt_rules_laws.proofs.ReductionTheorems.{strict_inference_law}

pub returns : goal.returns
returns c = record { law = strict_inference_law }
