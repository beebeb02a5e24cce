use Rattle.mt_positivity.proofs.Deciding.{avoids-decides}
use Rattle.mt_positivity.proofs.laws.avoiding_by_test.Goals as goal

pub returns : goal.returns
returns c = record { law = avoids-decides }
