use Rattle.mt_positivity.proofs.constructors.+products.Given as goal

abbrev pub decreases-products : goal.decreases-products
decreases-products l = l.depth_left
