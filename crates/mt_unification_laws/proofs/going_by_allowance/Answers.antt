use Rattle.mt_unification_laws.proofs.going_by_allowance.Goals as goal
use Rattle.mt_unification_laws.proofs.UnificationAllowance.{unification_allowance_law}

pub returns : goal.returns
returns c = record { law = unification_allowance_law }
