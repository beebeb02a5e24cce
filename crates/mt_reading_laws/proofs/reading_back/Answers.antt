use Rattle.mt_reading_laws.proofs.Law.{reading-back}
use Rattle.mt_reading_laws.proofs.reading_back.Goals as goal

pub returns : goal.returns
returns c = record { law = reading-back }
