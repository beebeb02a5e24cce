use Rattle.mt_positivity.proofs.Deciding.{recursive-decides}
use Rattle.mt_positivity.proofs.laws.recursive_place_by_test.Goals as goal

pub returns : goal.returns
returns c = record { law = recursive-decides }
