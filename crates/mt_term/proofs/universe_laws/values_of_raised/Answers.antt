use Rattle.mt_term.proofs.universe_laws.values_of_raised.Goals as goal
use Rattle.mt_term.proofs.UniverseFormLaws.{value_of_raised}

pub returns : goal.returns
returns c = record { law = λ u r e v. value_of_raised v u r e }
