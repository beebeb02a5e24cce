use Rattle.mt_infer.proofs.metavariables.+context_types.Given as goal

abbrev pub decreases-context_types : goal.decreases-context_types
decreases-context_types l = l.depth_left
