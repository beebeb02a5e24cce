use Rattle.mt_decl.proofs.Names.{names_law}
use Rattle.mt_decl.proofs.declared_keeps_names_distinct.Goals as goal

pub returns : goal.returns
returns c = record { law = names_law }
