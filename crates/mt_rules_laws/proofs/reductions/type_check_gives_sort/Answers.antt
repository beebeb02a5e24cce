use Rattle.mt_rules_laws.proofs.reductions.type_check_gives_sort.Goals as goal
use Rattle.mt_rules_laws.proofs.ReductionTheorems.{type_check_law}

pub returns : goal.returns
returns c = record { law = type_check_law }
