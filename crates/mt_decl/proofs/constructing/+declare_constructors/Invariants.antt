use Rattle.mt_decl.proofs.constructing.+declare_constructors.Given as goal

abbrev pub decreases-declare_constructors : goal.decreases-declare_constructors
decreases-declare_constructors g l = l.depth_left
