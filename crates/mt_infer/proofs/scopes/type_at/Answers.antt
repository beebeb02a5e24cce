use Rattle.mt_infer.proofs.scopes.type_at.Goals as goal

pub lift-requires : goal.lift-requires
lift-requires c = c.in-Some.ensures.held _ c.requires
