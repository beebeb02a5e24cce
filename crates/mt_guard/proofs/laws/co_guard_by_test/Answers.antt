use Rattle.mt_guard.proofs.Corecursive.{co_guarded-decides}
use Rattle.mt_guard.proofs.laws.co_guard_by_test.Goals as goal

pub returns : goal.returns
returns c = record { law = co_guarded-decides }
