-- What a pool keeps beside its nodes: how deep their trees are.
use Rattle.std.specs.Prelude.{ℕ, ◌≤◌, ◌≡◌, List, [], map, All}
use Rattle.mt_term.specs.Depth.{depth}
use Rattle.mt_pool.specs.declared.nodes.Node.{Node}
use Rattle.mt_pool.specs.declared.nodes.NodeAtDepth.{NodeAtDepth}
use Rattle.mt_pool.specs.Region.{built, InOrder}

abbrev pub node_of : NodeAtDepth → Node
node_of e = e.node

abbrev pub depth_beside : NodeAtDepth → ℕ
depth_beside e = e.depth

abbrev pub nodes_of : List NodeAtDepth → List Node
nodes_of es = map node_of es

-- what is true of the nodes of a pool
pub record IsPlaced (es : List NodeAtDepth) : Type 0 where
  pub in_order : InOrder 0 (nodes_of es)
  pub depths_are : map depth_beside es ≡ map depth (built [] (nodes_of es))
  pub max_depth : All (λ e. e.depth ≤ 2000) es
