use Rattle.mt_layers.proofs.instances.+instance.Given as goal

abbrev pub decreases-instance : goal.decreases-instance
decreases-instance l = l.depth_left

abbrev pub decreases-instance_match : goal.decreases-instance_match
decreases-instance_match l = l.depth_left

abbrev pub decreases-instance_meta : goal.decreases-instance_meta
decreases-instance_meta l = l.depth_left

abbrev pub decreases-instance_ids : goal.decreases-instance_ids
decreases-instance_ids l = l.depth_left

abbrev pub decreases-instance_branches : goal.decreases-instance_branches
decreases-instance_branches l = l.depth_left

abbrev pub decreases-two_instances : goal.decreases-two_instances
decreases-two_instances l = l.depth_left
