use Rattle.mt_rules_laws.proofs.reductions.comparison_gives_conversion.Goals as goal
use Rattle.mt_rules_laws.proofs.ReductionTheorems.{comparison_law}

pub returns : goal.returns
returns c = record { law = comparison_law }
