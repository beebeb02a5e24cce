use Rattle.mt_rules_laws.proofs.reductions.step_by_contractions.Goals as goal
use Rattle.mt_rules_laws.proofs.ReductionTheorems.{step_law}

pub returns : goal.returns
returns c = record { law = step_law }
