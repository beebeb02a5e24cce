use Rattle.std.proofs.Common.{◌≡◌, ◌+◌, drop}
use Rattle.mt_tiny.specs.Goals.{on_goals}
use Rattle.mt_tiny.proofs.Acting.{with_new}
use Rattle.mt_tiny.proofs.lists.on_goals.Given as goal

abbrev pub invariant-loop-goal : goal.invariant-loop-goal
invariant-loop-goal g l = record {
  same : with_new g.P.Prover.rules l.new (on_goals g.P.Prover.rules (g.P.Prover.deed_of l.action) (drop l.goal-index l.goals) (g.P.Prover.state_of l.prover) (g.P.Prover.allowance l.prover))
      ≡ on_goals g.P.Prover.rules (g.P.Prover.deed_of l.action) l.goals (g.P.Prover.state_of l.initial.prover) (g.P.Prover.allowance l.initial.prover);
  cost : l.steps + g.P.Prover.allowance l.prover ≡ l.initial.steps + g.P.Prover.allowance l.initial.prover;
}
