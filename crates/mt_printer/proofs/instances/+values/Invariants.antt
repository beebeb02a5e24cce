use Rattle.mt_printer.proofs.instances.+values.Given as goal

abbrev pub decreases-with_values : goal.decreases-with_values
decreases-with_values l = l.depth_left

abbrev pub decreases-meta_with_value : goal.decreases-meta_with_value
decreases-meta_with_value l = l.depth_left

abbrev pub decreases-value : goal.decreases-value
decreases-value l = l.depth_left

abbrev pub decreases-terms_with_values : goal.decreases-terms_with_values
decreases-terms_with_values l = l.depth_left

abbrev pub decreases-branches_with_values : goal.decreases-branches_with_values
decreases-branches_with_values l = l.depth_left
