use Rattle.std.proofs.Common.{sym}
use Rattle.mt_tiny.proofs.Acting.{goals-memory}
use Rattle.mt_tiny.proofs.lists.on_goals.Goals as goal

pub returns-in-Err-OutOfMemory-clause-outcome : goal.returns-in-Err-OutOfMemory-clause-outcome
returns-in-Err-OutOfMemory-clause-outcome g c =
    let h = rw c.in-Err-OutOfMemory.field-0-is at c.in-Err-OutOfMemory.ensures.outcome in
    goals-memory g.P.Prover.rules g.met.P.Prover.leaves_no_more (g.P.Prover.deed_of c.args.action.now) c.loop-goal.new c.args.goals.now c.loop-goal.goal-index
    (g.P.Prover.allowance c.loop-goal.prover) (g.P.Prover.state_of c.loop-goal.prover) (g.P.Prover.allowance c.apply.new.self)
    c.loop-goal-test.true (sym c.if-is_open.ensures) h _ c.loop-goal.invariant.same
