use Rattle.mt_infer.proofs.branches.+branches_fit.Goals as goal

pub has_products-requires : goal.has_products-requires
has_products-requires t c = c.in-Some-constructor_type.ensures.held _ c.requires
