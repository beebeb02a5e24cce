use Rattle.mt_printer.proofs.terms.+print.Given as goal

abbrev pub decreases-put_within : goal.decreases-put_within
decreases-put_within l = l.depth_left

abbrev pub decreases-put_enclosed : goal.decreases-put_enclosed
decreases-put_enclosed l = l.depth_left

abbrev pub decreases-put_product : goal.decreases-put_product
decreases-put_product l = l.depth_left

abbrev pub decreases-put_abstraction : goal.decreases-put_abstraction
decreases-put_abstraction l = l.depth_left

abbrev pub decreases-put_terms : goal.decreases-put_terms
decreases-put_terms l = l.depth_left

abbrev pub decreases-put_more_terms : goal.decreases-put_more_terms
decreases-put_more_terms l = l.depth_left

abbrev pub decreases-put_branches : goal.decreases-put_branches
decreases-put_branches l = l.depth_left

abbrev pub decreases-put_branch : goal.decreases-put_branch
decreases-put_branch l = l.depth_left
