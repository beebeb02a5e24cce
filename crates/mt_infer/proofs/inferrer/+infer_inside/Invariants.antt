use Rattle.mt_infer.proofs.inferrer.+infer_inside.Given as goal

abbrev pub decreases-infer_inside : goal.decreases-infer_inside
decreases-infer_inside g l = l.depth_left
