use Rattle.mt_positivity.proofs.Deciding.{positive-decides}
use Rattle.mt_positivity.proofs.laws.positivity_by_test.Goals as goal

pub returns : goal.returns
returns c = record { law = positive-decides }
