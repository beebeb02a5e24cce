use Rattle.std.proofs.Common.{◌≡◌, drop}
use Rattle.mt_tiny.specs.Goals.{may_focus}
use Rattle.mt_tiny.proofs.lists.may_focus.Given as goal

abbrev pub invariant-loop-i : goal.invariant-loop-i
invariant-loop-i g l =
    may_focus g.P.Prover.rules (g.P.Prover.state_of l.prover) (drop l.i l.goals) ≡ may_focus g.P.Prover.rules (g.P.Prover.state_of l.prover) l.goals
