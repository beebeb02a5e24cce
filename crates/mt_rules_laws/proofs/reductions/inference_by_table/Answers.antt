use Rattle.mt_rules_laws.proofs.reductions.inference_by_table.Goals as goal
use Rattle.mt_rules_laws.proofs.TableLaws.{inference_by_table}

pub returns : goal.returns
returns c = record { law = inference_by_table }
