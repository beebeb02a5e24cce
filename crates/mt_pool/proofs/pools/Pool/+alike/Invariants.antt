use Rattle.std.proofs.Common.{◌+◌, ◌*◌}
use Rattle.mt_term.specs.Depth.{depth, depth_all, depth_arms}
use Rattle.mt_pool.specs.Region.{tree_at, trees_at, arms_at, tree_in, ids_of, branches_of}
use Rattle.mt_pool.proofs.pools.Pool.+alike.Given as goal

abbrev pub decreases-alike_ids : goal.decreases-alike_ids
decreases-alike_ids l = 2 * depth (tree_at l.self.now l.t) + 1

abbrev pub decreases-alike_nodes : goal.decreases-alike_nodes
decreases-alike_nodes l = 2 * depth (tree_in l.self.now l.t.now)

abbrev pub decreases-alike_lists : goal.decreases-alike_lists
decreases-alike_lists l = 2 * depth_all (trees_at l.self.now (ids_of l.ts.now)) + 1

abbrev pub decreases-alike_branches : goal.decreases-alike_branches
decreases-alike_branches l = 2 * depth_arms (arms_at l.self.now (branches_of l.bs.now)) + 1
