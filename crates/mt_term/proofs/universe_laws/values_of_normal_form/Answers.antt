use Rattle.mt_term.proofs.universe_laws.values_of_normal_form.Goals as goal
use Rattle.mt_term.proofs.UniverseFormLaws.{value_of_normal_form}
use Rattle.mt_term.proofs.UniverseNormalLaws.{normal_form_normal}

pub returns : goal.returns
returns c = record { law = λ u. (normal_form_normal u, λ v. value_of_normal_form v u) }
