use Rattle.mt_term.proofs.universe_laws.values_of_maximum.Goals as goal
use Rattle.mt_term.proofs.UniverseFormLaws.{value_of_maximum}

pub returns : goal.returns
returns c = record { law = λ u w v. value_of_maximum v u w }
