use Rattle.mt_reduce.proofs.branches.+has_products.Given as goal

abbrev pub decreases-has_products : goal.decreases-has_products
decreases-has_products l = l.n
