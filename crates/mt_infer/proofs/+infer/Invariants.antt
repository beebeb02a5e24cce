use Rattle.mt_infer.proofs.+infer.Given as goal

abbrev pub decreases-inference::infer : goal.decreases-inference::infer
decreases-inference::infer g l = l.depth_left

abbrev pub decreases-inference::infer_product : goal.decreases-inference::infer_product
decreases-inference::infer_product g l = l.depth_left

abbrev pub decreases-inference::infer_abstraction : goal.decreases-inference::infer_abstraction
decreases-inference::infer_abstraction g l = l.depth_left

abbrev pub decreases-inference::infer_application : goal.decreases-inference::infer_application
decreases-inference::infer_application g l = l.depth_left

abbrev pub decreases-inference::sort_of : goal.decreases-inference::sort_of
decreases-inference::sort_of g l = l.depth_left

abbrev pub decreases-inference::product_of : goal.decreases-inference::product_of
decreases-inference::product_of g l = l.depth_left

abbrev pub decreases-inference::type_head : goal.decreases-inference::type_head
decreases-inference::type_head g l = l.depth_left

abbrev pub decreases-matching::infer_match : goal.decreases-matching::infer_match
decreases-matching::infer_match g l = l.depth_left

abbrev pub decreases-matching::match_type : goal.decreases-matching::match_type
decreases-matching::match_type g l = l.depth_left

abbrev pub decreases-matching::elimination : goal.decreases-matching::elimination
decreases-matching::elimination g l = l.depth_left

abbrev pub decreases-matching::infer_branches : goal.decreases-matching::infer_branches
decreases-matching::infer_branches g l = l.depth_left

abbrev pub decreases-matching::infer_branch : goal.decreases-matching::infer_branch
decreases-matching::infer_branch g l = l.depth_left

abbrev pub decreases-matching::check_branch : goal.decreases-matching::check_branch
decreases-matching::check_branch g l = l.depth_left

abbrev pub decreases-matching::check_fit : goal.decreases-matching::check_fit
decreases-matching::check_fit g l = l.depth_left

abbrev pub decreases-inference::applied : goal.decreases-inference::applied
decreases-inference::applied g l = l.depth_left

abbrev pub decreases-matching::match_on : goal.decreases-matching::match_on
decreases-matching::match_on g l = l.depth_left

abbrev pub decreases-metavariables::infer_metavariable : goal.decreases-metavariables::infer_metavariable
decreases-metavariables::infer_metavariable g l = l.depth_left

abbrev pub decreases-metavariables::infer_terms : goal.decreases-metavariables::infer_terms
decreases-metavariables::infer_terms g l = l.depth_left

abbrev pub decreases-metavariables::check_term : goal.decreases-metavariables::check_term
decreases-metavariables::check_term g l = l.depth_left
