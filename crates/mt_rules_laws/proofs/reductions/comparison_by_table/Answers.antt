use Rattle.mt_rules_laws.proofs.reductions.comparison_by_table.Goals as goal
use Rattle.mt_rules_laws.proofs.TableLaws.{comparison_by_table}

pub returns : goal.returns
returns c = record { law = comparison_by_table }
