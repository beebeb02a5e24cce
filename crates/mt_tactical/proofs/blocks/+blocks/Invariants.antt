use Rattle.std.proofs.Common.{◌≡◌, ◌+◌, []}
use Rattle.mt_tactical.specs.Meaning.{meaning, branches}
use Rattle.mt_tactical.specs.TacticalOf.{sequence_of, choices_of}
use Rattle.mt_tactical.proofs.blocks.+blocks.Given as goal

abbrev pub decreases-run : goal.decreases-run
decreases-run g l = l.depth_left

abbrev pub decreases-run_item : goal.decreases-run_item
decreases-run_item g l = l.depth_left

abbrev pub decreases-run_branching : goal.decreases-run_branching
decreases-run_branching g l = l.depth_left

abbrev pub decreases-run_branches : goal.decreases-run_branches
decreases-run_branches g l = l.depth_left

abbrev pub decreases-run_focus : goal.decreases-run_focus
decreases-run_focus g l = l.depth_left

abbrev pub invariant-run-loop-rest : goal.invariant-run-loop-rest
invariant-run-loop-rest g l = record {
  same : meaning g.P.Prover.rules (sequence_of g.P.Prover.deed_of l.rest) (g.P.Prover.state_of l.prover) l.focus l.pending (g.P.Prover.allowance l.prover)
      ≡ meaning g.P.Prover.rules (sequence_of g.P.Prover.deed_of l.initial.rest) (g.P.Prover.state_of l.initial.prover) l.initial.focus l.initial.pending (g.P.Prover.allowance l.initial.prover);
  cost : l.steps + g.P.Prover.allowance l.prover ≡ l.initial.steps + g.P.Prover.allowance l.initial.prover;
}

abbrev pub invariant-run_branches-loop-rest : goal.invariant-run_branches-loop-rest
invariant-run_branches-loop-rest g l = record {
  same : branches g.P.Prover.rules (choices_of g.P.Prover.deed_of l.rest) (g.P.Prover.state_of l.prover) l.done l.left (g.P.Prover.allowance l.prover)
      ≡ branches g.P.Prover.rules (choices_of g.P.Prover.deed_of l.initial.rest) (g.P.Prover.state_of l.initial.prover) [] l.initial.left (g.P.Prover.allowance l.initial.prover);
  cost : l.steps + g.P.Prover.allowance l.prover ≡ l.initial.steps + g.P.Prover.allowance l.initial.prover;
}
