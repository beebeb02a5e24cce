use Rattle.mt_rules_laws.proofs.reductions.going_by_allowance.Goals as goal
use Rattle.mt_rules_laws.proofs.AllowanceTheorem.{allowance_law}

pub returns : goal.returns
returns c = record { law = allowance_law }
