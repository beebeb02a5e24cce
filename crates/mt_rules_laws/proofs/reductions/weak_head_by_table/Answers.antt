use Rattle.mt_rules_laws.proofs.reductions.weak_head_by_table.Goals as goal
use Rattle.mt_rules_laws.proofs.TableLaws.{weak_head_by_table}

pub returns : goal.returns
returns c = record { law = weak_head_by_table }
