use Rattle.mt_unification_laws.proofs.reach_by_test.Goals as goal
use Rattle.mt_unification_laws.proofs.ReachTest.{reach_test_law}

pub returns : goal.returns
returns c = record { law = reach_test_law }
