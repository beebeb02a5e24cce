-- What stays as a pool grows.
use Rattle.std.proofs.Common.{ℕ, ◌<◌, ◌≤◌, ◌≡◌, List, [], ◌∷◌, ◌++◌, length, take, sym, ◌∙◌, append_assoc, length-append, arith}
use Rattle.std.proofs.lemmas.List.{append-nil}
use Rattle.std.proofs.Math.Seq.{take-append_seam}
use Rattle.mt_term.specs.Trees.{Tree, Bytes}
use Rattle.mt_pool.specs.declared.nodes.TermId.{TermId}
use Rattle.mt_pool.specs.declared.nodes.Node.{Node}
use Rattle.mt_pool.specs.declared.nodes.Node.TheVariants.{Var as VarNode, Sort as SortNode, Prod as ProdNode, Lam as LamNode, App as AppNode, Const as ConstNode, Ind as IndNode, Con as ConNode, Match as MatchNode, Meta as MetaNode}
use Rattle.mt_pool.specs.Region.{tree_at, trees_at, arms_at, tree_in, ids_of, branches_of, AllBelow, ArmsBelow, Below, Kept}
use Rattle.mt_pool.proofs.Built.{tree_at-append, trees_at-append, arms_at-append, tree_in-append}

pub tree-kept : (p q : List Tree) (k : TermId) → Kept p q → k.at < length p → tree_at q k ≡ tree_at p k
unfolding Kept
tree-kept p q k h l = rw h.1 (tree_at-append p h.0 k l)

pub trees-kept : (p q : List Tree) (ks : List TermId) → Kept p q → AllBelow (length p) ks → trees_at q ks ≡ trees_at p ks
unfolding Kept
trees-kept p q ks h l = rw h.1 (trees_at-append p h.0 ks l)

pub arms-kept : (p q : List Tree) (bs : List (List Bytes × TermId)) → Kept p q → ArmsBelow (length p) bs → arms_at q bs ≡ arms_at p bs
unfolding Kept
arms-kept p q bs h l = rw h.1 (arms_at-append p h.0 bs l)

pub node-kept : (p q : List Tree) (x : Node) → Kept p q → Below (length p) x → tree_in q x ≡ tree_in p x
unfolding Kept
node-kept p q x h l = rw h.1 (tree_in-append p h.0 x l)

pub length-kept : (p q : List Tree) → Kept p q → length p ≤ length q
unfolding Kept
length-kept p q h = rw h.1 (omega (arith, length-append p h.0))

pub kept-same : (p : List Tree) → Kept p p
unfolding Kept
kept-same p = ([], sym (append-nil p))

pub kept-then : (p q r : List Tree) → Kept p q → Kept q r → Kept p r
unfolding Kept
kept-then p q r h k = (h.0 ++ k.0, rw (k.1, h.1) (append_assoc p h.0 k.0))

pub all-more : (n m : ℕ) (ks : List TermId) → n ≤ m → AllBelow n ks → AllBelow m ks
all-more n m [] l h = tt
all-more n m (k ∷ ks) l h = (omega (arith, h.0), all-more n m ks l h.1)

pub arms-more : (n m : ℕ) (bs : List (List Bytes × TermId)) → n ≤ m → ArmsBelow n bs → ArmsBelow m bs
arms-more n m [] l h = tt
arms-more n m (b ∷ bs) l h = (omega (arith, h.0), arms-more n m bs l h.1)

pub below-more : (n m : ℕ) (x : Node) → n ≤ m → Below n x → Below m x
below-more n m (VarNode i) l h = tt
below-more n m (SortNode s) l h = tt
below-more n m (ProdNode x a b) l h = (omega (arith, h.0), omega (arith, h.1))
below-more n m (LamNode x a b) l h = (omega (arith, h.0), omega (arith, h.1))
below-more n m (AppNode f a) l h = (omega (arith, h.0), omega (arith, h.1))
below-more n m (ConstNode c) l h = tt
below-more n m (IndNode e) l h = tt
below-more n m (ConNode e k) l h = tt
below-more n m (MatchNode e r c bs) l h = (omega (arith, h.0), omega (arith, h.1), arms-more n m (branches_of bs) l h.2)
below-more n m (MetaNode e s) l h = all-more n m (ids_of s) l h

-- a pool cut to its old length is the old one
pub kept-cut : (p q : List Tree) → Kept p q → take (length p) q ≡ p
unfolding Kept
kept-cut p q h = rw h.1 (take-append_seam p h.0)

pub cut-kept : (p q r : List Tree) → Kept p q → r ≡ take (length p) q → Kept p r
cut-kept p q r h e = let s : r ≡ p = e ∙ kept-cut p q h in rw s (kept-same p)

pub ruleset restored = (kept-cut, cut-kept)

-- of a larger pool
pub all-below : (p q : List Tree) (ks : List TermId) → Kept p q → AllBelow (length p) ks → AllBelow (length q) ks
all-below p q ks k h = all-more _ _ ks (length-kept p q k) h

pub arms-below : (p q : List Tree) (bs : List (List Bytes × TermId)) → Kept p q → ArmsBelow (length p) bs → ArmsBelow (length q) bs
arms-below p q bs k h = arms-more _ _ bs (length-kept p q k) h

pub node-below : (p q : List Tree) (x : Node) → Kept p q → Below (length p) x → Below (length q) x
node-below p q x k h = below-more _ _ x (length-kept p q k) h

-- what is below an id that is held is held
pub all-held : (n m : ℕ) (ks : List TermId) → AllBelow n ks → n < m → AllBelow m ks
all-held n m ks h l = all-more n m ks (omega arith) h

pub arms-held : (n m : ℕ) (bs : List (List Bytes × TermId)) → ArmsBelow n bs → n < m → ArmsBelow m bs
arms-held n m bs h l = arms-more n m bs (omega arith) h

pub node-held : (n m : ℕ) (x : Node) → Below n x → n < m → Below m x
node-held n m x h l = below-more n m x (omega arith) h

pub ruleset kept = (trees-kept, arms-kept, node-kept, all-below, arms-below, node-below, all-held, arms-held, node-held, tree-kept, length-kept, kept-same, kept-then)
