use Rattle.mt_tiny.specs.Stepping.{next_branch}
use Rattle.mt_tiny.proofs.Tags.{in_branch-is}
use Rattle.mt_tiny.proofs.steps.step_bar.Goals as goal

pub returns-in-Branch-clause-outcome : goal.returns-in-Branch-clause-outcome
returns-in-Branch-clause-outcome g c =
    λ bs. rw (in_branch-is g.P.Prover.rules c.args.top.now.tag (next_branch g.P.Prover.rules (g.P.Prover.state_of c.args.prover.now) c.args.top.now bs c.args.top.now.left) c.in-Branch.is)
    (c.to_next_branch.ensures.outcome bs)
