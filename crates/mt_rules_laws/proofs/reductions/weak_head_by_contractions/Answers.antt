use Rattle.mt_rules_laws.proofs.reductions.weak_head_by_contractions.Goals as goal
use Rattle.mt_rules_laws.proofs.ReductionTheorems.{weak_head_law}

pub returns : goal.returns
returns c = record { law = weak_head_law }
