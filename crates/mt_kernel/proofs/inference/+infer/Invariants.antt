use Rattle.std.proofs.Common.{◌*◌, ◌+◌}
use Rattle.mt_kernel.proofs.inference.+infer.Given as goal

abbrev pub decreases-infer : goal.decreases-infer
decreases-infer g l = 2 * l.depth_left

abbrev pub decreases-sort_of : goal.decreases-sort_of
decreases-sort_of g l = 2 * l.depth_left

abbrev pub decreases-product_of : goal.decreases-product_of
decreases-product_of g l = 2 * l.depth_left

abbrev pub decreases-type_head : goal.decreases-type_head
decreases-type_head g l = 2 * l.depth_left

abbrev pub decreases-infer_match : goal.decreases-infer_match
decreases-infer_match g l = 2 * l.depth_left

abbrev pub decreases-elimination : goal.decreases-elimination
decreases-elimination g l = 2 * l.depth_left

abbrev pub decreases-infer_branches : goal.decreases-infer_branches
decreases-infer_branches g l = 2 * l.depth_left

abbrev pub decreases-check_branch : goal.decreases-check_branch
decreases-check_branch g l = 2 * l.depth_left

abbrev pub decreases-check_fit : goal.decreases-check_fit
decreases-check_fit g l = 2 * l.depth_left

abbrev pub decreases-match_type : goal.decreases-match_type
decreases-match_type g l = 2 * l.depth_left

abbrev pub decreases-infer_branch : goal.decreases-infer_branch
decreases-infer_branch g l = 2 * l.depth_left

abbrev pub decreases-infer_product : goal.decreases-infer_product
decreases-infer_product g l = 2 * l.depth_left + 1

abbrev pub decreases-infer_abstraction : goal.decreases-infer_abstraction
decreases-infer_abstraction g l = 2 * l.depth_left + 1

abbrev pub decreases-infer_application : goal.decreases-infer_application
decreases-infer_application g l = 2 * l.depth_left + 1
