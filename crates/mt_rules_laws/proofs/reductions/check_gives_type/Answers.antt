use Rattle.mt_rules_laws.proofs.reductions.check_gives_type.Goals as goal
use Rattle.mt_rules_laws.proofs.ReductionTheorems.{check_law}

pub returns : goal.returns
returns c = record { law = check_law }
