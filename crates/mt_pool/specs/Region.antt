-- What the nodes of a pool say: the pool is the list of the trees that its ids name.
use Rattle.std.specs.Prelude.{ℕ, ◌+◌, ◌<◌, ◌≡◌, List, [], ◌∷◌, ◌++◌, length, slice_index_or}
use Rattle.mt_term.specs.Trees.{Tree, Trees, Arms, Bytes, Var, Sort, Prod, Lam, App, Const, Ind}
use Rattle.mt_term.specs.Trees.{Con, Match, Meta, End, Item, NoArm, Arm}
use Rattle.mt_pool.specs.declared.nodes.TermId.{TermId}
use Rattle.mt_pool.specs.declared.nodes.TermIds.{TermIds, End as NoId, Item' as IdItem}
use Rattle.mt_pool.specs.declared.nodes.BranchIds.{BranchIds, End as NoBranch, Item' as BranchItem}
use Rattle.mt_pool.specs.declared.nodes.Node.{Node}
use Rattle.mt_pool.specs.declared.nodes.Node.TheVariants.{Var as VarNode, Sort as SortNode}
use Rattle.mt_pool.specs.declared.nodes.Node.TheVariants.{Prod as ProdNode, Lam as LamNode}
use Rattle.mt_pool.specs.declared.nodes.Node.TheVariants.{App as AppNode, Const as ConstNode}
use Rattle.mt_pool.specs.declared.nodes.Node.TheVariants.{Ind as IndNode, Con as ConNode}
use Rattle.mt_pool.specs.declared.nodes.Node.TheVariants.{Match as MatchNode, Meta as MetaNode}

-- the ids of a metavariable's terms as their list
abbrev pub ids_of : TermIds → List TermId
ids_of NoId = []
ids_of (IdItem k p ks) = k ∷ ids_of ks

-- the branches as the list of their names and bodies
abbrev pub branches_of : BranchIds → List (List Bytes × TermId)
branches_of NoBranch = []
branches_of (BranchItem xs k p bs) = (xs, k) ∷ branches_of bs

-- the tree that an id names
abbrev pub tree_at : List Tree → TermId → Tree
tree_at p k = slice_index_or p k.at (Var 0)

abbrev pub trees_at : List Tree → List TermId → Trees
trees_at p [] = End
trees_at p (k ∷ ks) = Item (tree_at p k) (trees_at p ks)

abbrev pub arms_at : List Tree → List (List Bytes × TermId) → Arms
arms_at p [] = NoArm
arms_at p (b ∷ bs) = Arm b.0 (tree_at p b.1) (arms_at p bs)

-- the tree of a node whose ids name trees of the list
abbrev pub tree_in : List Tree → Node → Tree
tree_in p (VarNode i) = Var i
tree_in p (SortNode s) = Sort s
tree_in p (ProdNode x a b) = Prod x (tree_at p a) (tree_at p b)
tree_in p (LamNode x a b) = Lam x (tree_at p a) (tree_at p b)
tree_in p (AppNode f a) = App (tree_at p f) (tree_at p a)
tree_in p (ConstNode c) = Const c
tree_in p (IndNode e) = Ind e
tree_in p (ConNode e k) = Con e k
tree_in p (MatchNode e r c bs) = Match e (tree_at p r) (tree_at p c) (arms_at p (branches_of bs))
tree_in p (MetaNode n s) = Meta n (trees_at p (ids_of s))

-- all ids are below n: where n is the length of a pool, it holds them
abbrev pub AllBelow : ℕ → List TermId → Type 0
AllBelow n [] = Unit {0}
AllBelow n (k ∷ ks) = (k.at < n) × AllBelow n ks

abbrev pub ArmsBelow : ℕ → List (List Bytes × TermId) → Type 0
ArmsBelow n [] = Unit {0}
ArmsBelow n (b ∷ bs) = (b.1.at < n) × ArmsBelow n bs

-- the node's ids are below n
abbrev pub Below : ℕ → Node → Type 0
Below n (VarNode i) = Unit {0}
Below n (SortNode s) = Unit {0}
Below n (ProdNode x a b) = (a.at < n) × (b.at < n)
Below n (LamNode x a b) = (a.at < n) × (b.at < n)
Below n (AppNode f a) = (f.at < n) × (a.at < n)
Below n (ConstNode c) = Unit {0}
Below n (IndNode e) = Unit {0}
Below n (ConNode e k) = Unit {0}
Below n (MatchNode e r c bs) = (r.at < n) × (c.at < n) × ArmsBelow n (branches_of bs)
Below n (MetaNode m s) = AllBelow n (ids_of s)

-- each node's ids are below its own, which count from n
abbrev pub InOrder : ℕ → List Node → Type 0
InOrder n [] = Unit {0}
InOrder n (x ∷ xs) = Below n x × InOrder (n + 1) xs

-- the trees that are there, and those of the nodes after them
abbrev pub built : List Tree → List Node → List Tree
built p [] = p
built p (x ∷ xs) = built (p ++ tree_in p x ∷ []) xs

-- every id that is held stays held, with its tree
unfoldable pub Kept : List Tree → List Tree → Type 0
Kept p q = (more : List Tree) × (q ≡ p ++ more)

-- the id is held, and it names the tree
abbrev pub Denotes : List Tree → TermId → Tree → Type 0
Denotes p k t = (k.at < length p) × (tree_at p k ≡ t)
