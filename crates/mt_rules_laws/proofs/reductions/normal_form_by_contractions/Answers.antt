use Rattle.mt_rules_laws.proofs.reductions.normal_form_by_contractions.Goals as goal
use Rattle.mt_rules_laws.proofs.ReductionTheorems.{normal_form_law}

pub returns : goal.returns
returns c = record { law = normal_form_law }
