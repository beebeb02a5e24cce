use Rattle.std.proofs.Common.{◌≡◌, drop}
use Rattle.mt_tiny.specs.Goals.{any_open}
use Rattle.mt_tiny.proofs.lists.any_open.Given as goal

abbrev pub invariant-loop-goal : goal.invariant-loop-goal
invariant-loop-goal g l =
    any_open g.P.Prover.rules (g.P.Prover.state_of l.prover) (drop l.goal-index l.goals) ≡ any_open g.P.Prover.rules (g.P.Prover.state_of l.prover) l.goals
