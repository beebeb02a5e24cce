use Rattle.mt_infer.proofs.arguments.+has_products.Given as goal

abbrev pub decreases-has_products : goal.decreases-has_products
decreases-has_products l = l.depth_left
