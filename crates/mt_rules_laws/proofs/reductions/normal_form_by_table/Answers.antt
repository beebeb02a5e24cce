use Rattle.mt_rules_laws.proofs.reductions.normal_form_by_table.Goals as goal
use Rattle.mt_rules_laws.proofs.TableLaws.{normal_form_by_table}

pub returns : goal.returns
returns c = record { law = normal_form_by_table }
