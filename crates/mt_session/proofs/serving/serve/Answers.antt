use Rattle.mt_session.proofs.Sounding.{derivable_where_told, named_once_where_told}
use Rattle.mt_session.proofs.serving.serve.Goals as goal

pub returns-then-not-is_empty-clause-sound : goal.returns-then-not-is_empty-clause-sound
returns-then-not-is_empty-clause-sound g c = derivable_where_told _

pub returns-in-Ok-clause-sound : goal.returns-in-Ok-clause-sound
returns-in-Ok-clause-sound g c = derivable_where_told _

pub returns-in-Err-TooLong-clause-sound : goal.returns-in-Err-TooLong-clause-sound
returns-in-Err-TooLong-clause-sound g c = derivable_where_told _

pub returns-in-Err-ReadFault-clause-sound : goal.returns-in-Err-ReadFault-clause-sound
returns-in-Err-ReadFault-clause-sound g c = derivable_where_told _

pub returns-in-Err-OutOfMemory-clause-sound : goal.returns-in-Err-OutOfMemory-clause-sound
returns-in-Err-OutOfMemory-clause-sound g c = derivable_where_told _

pub returns-then-not-is_empty-clause-names : goal.returns-then-not-is_empty-clause-names
returns-then-not-is_empty-clause-names g c = named_once_where_told _

pub returns-in-Ok-clause-names : goal.returns-in-Ok-clause-names
returns-in-Ok-clause-names g c = named_once_where_told _

pub returns-in-Err-TooLong-clause-names : goal.returns-in-Err-TooLong-clause-names
returns-in-Err-TooLong-clause-names g c = named_once_where_told _

pub returns-in-Err-ReadFault-clause-names : goal.returns-in-Err-ReadFault-clause-names
returns-in-Err-ReadFault-clause-names g c = named_once_where_told _

pub returns-in-Err-OutOfMemory-clause-names : goal.returns-in-Err-OutOfMemory-clause-names
returns-in-Err-OutOfMemory-clause-names g c = named_once_where_told _
