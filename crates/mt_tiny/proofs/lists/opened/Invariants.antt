use Rattle.std.proofs.Common.{◌≡◌, ◌++◌, drop}
use Rattle.mt_tiny.specs.Goals.{opened}
use Rattle.mt_tiny.proofs.lists.opened.Given as goal

abbrev pub invariant-loop-goal : goal.invariant-loop-goal
invariant-loop-goal g l =
    l.open ++ opened g.P.Prover.rules (g.P.Prover.state_of l.prover) (drop l.goal-index l.goals) ≡ opened g.P.Prover.rules (g.P.Prover.state_of l.prover) l.goals
