use Rattle.mt_resolver.proofs.Tables.{AreNamesOf-push}
use Rattle.mt_resolver.proofs.table.Table.add.Goals as goal

pub returns-in-Ok-clause-names : goal.returns-in-Ok-clause-names
returns-in-Ok-clause-names c = λ es count names. AreNamesOf-push _ _ es _ _ c.in-Ok.ensures.ok count names
