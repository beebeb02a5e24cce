use Rattle.mt_guard.proofs.Deciding.{guarded-decides}
use Rattle.mt_guard.proofs.laws.guard_by_test.Goals as goal

pub returns : goal.returns
returns c = record { law = guarded-decides }
