use Rattle.mt_decl.proofs.Allowance.{allowance_law}
use Rattle.mt_decl.proofs.declared_by_allowance.Goals as goal

pub returns : goal.returns
returns c = record { law = allowance_law }
