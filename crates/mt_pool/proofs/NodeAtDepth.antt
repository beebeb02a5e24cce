-- Nodes with their depths beside them, as a pool of no tree takes them up one after the other.
use Rattle.std.proofs.Common.{ℕ, zero, suc, ◌<◌, ◌≤◌, ◌≡◌, List, [], ◌∷◌, ◌++◌, length, map, take, slice_index_or, sym, ap, subst, ◌∙◌, arith}
use Rattle.std.proofs.lemmas.List.{get_or-map, map-append, take-map, length-map}
use Rattle.std.proofs.lemmas.List.Elements.{All-append, All-take}
use Rattle.mt_term.specs.Trees.{Var}
use Rattle.mt_term.specs.Depth.{depth}
use Rattle.mt_pool.specs.declared.nodes.TermId.{TermId}
use Rattle.mt_pool.specs.declared.nodes.NodeAtDepth.{NodeAtDepth}
use Rattle.mt_pool.specs.Region.{tree_at, tree_in, Below, InOrder, built, Kept}
use Rattle.mt_pool.specs.Depths.{node_of, depth_beside, nodes_of, IsPlaced}
use Rattle.mt_pool.proofs.Built.{node-tree, node-below, pool-length, put-order, put-tree, put-held, put-kept, built-push, order-take, pool-take}

map-at : {A B : Type 0} (f : A → B) (es : List A) (k : ℕ) (x : A) → k < length es → x ≡ slice_index_or es k x → f x ≡ slice_index_or (map f es) k (f x)
map-at f es k x l e = ap f e ∙ sym (get_or-map f es k x (f x) l)

pub placed-length : (es : List NodeAtDepth) → length (built [] (nodes_of es)) ≡ length es
placed-length es = pool-length (nodes_of es) ∙ length-map es node_of

nodes-length : (es : List NodeAtDepth) → length (nodes_of es) ≡ length es
nodes-length es = length-map es node_of

pub placed-tree : (es : List NodeAtDepth) (k : TermId) (x : NodeAtDepth) → IsPlaced es → k.at < length es → x ≡ slice_index_or es k.at x
    → tree_at (built [] (nodes_of es)) k ≡ tree_in (built [] (nodes_of es)) x.node
placed-tree es k x h l e = node-tree (nodes_of es) k x.node h.in_order (rw (nodes-length es) l) (map-at node_of es k.at x l e)

pub placed-below : (es : List NodeAtDepth) (k : TermId) (x : NodeAtDepth) → IsPlaced es → k.at < length es → x ≡ slice_index_or es k.at x → Below k.at x.node
placed-below es k x h l e = node-below (nodes_of es) k x.node h.in_order (rw (nodes-length es) l) (map-at node_of es k.at x l e)

pub placed-depth : (es : List NodeAtDepth) (k : TermId) (x : NodeAtDepth) → IsPlaced es → k.at < length es → x ≡ slice_index_or es k.at x
    → x.depth ≡ depth (tree_at (built [] (nodes_of es)) k)
placed-depth es k x h l e =
    let l' : k.at < length (built [] (nodes_of es)) = rw (placed-length es) l in
    map-at depth_beside es k.at x l e ∙ ap (λ ds. slice_index_or ds k.at x.depth) h.depths_are ∙ get_or-map depth (built [] (nodes_of es)) k.at (Var 0) x.depth l'

pub placed-most : (es : List NodeAtDepth) (k : ℕ) (x : NodeAtDepth) → IsPlaced es → k < length es → x ≡ slice_index_or es k x → x.depth ≤ 2000
placed-most es k x h l e = subst (λ (y : NodeAtDepth). y.depth ≤ 2000) (sym e) (h.max_depth k x l)

alone : (x : NodeAtDepth) (k : ℕ) (d : NodeAtDepth) → x.depth ≤ 2000 → k < 1 → (slice_index_or (x ∷ []) k d).depth ≤ 2000
alone x zero d m l = m
alone x (suc k) d m l = absurd (omega arith)

pub place-order : (es : List NodeAtDepth) (x : NodeAtDepth) → IsPlaced es → Below (length (built [] (nodes_of es))) x.node
    → x.depth ≡ depth (tree_in (built [] (nodes_of es)) x.node) → x.depth ≤ 2000 → IsPlaced (es ++ x ∷ [])
place-order es x h b d m =
    let ns = map-append node_of es (x ∷ []) in
    let ds : map depth_beside (es ++ x ∷ []) ≡ map depth (built [] (nodes_of es) ++ tree_in (built [] (nodes_of es)) x.node ∷ []) =
    map-append depth_beside es (x ∷ []) ∙ (λ i. h.depths_are i ++ d i ∷ []) ∙ sym (map-append depth (built [] (nodes_of es)) (tree_in (built [] (nodes_of es)) x.node ∷ [])) in
    let o : InOrder 0 (nodes_of (es ++ x ∷ [])) = rw ns (put-order (nodes_of es) x.node h.in_order b) in
    let t : built [] (nodes_of (es ++ x ∷ [])) ≡ built [] (nodes_of es) ++ tree_in (built [] (nodes_of es)) x.node ∷ [] = ap (built []) ns ∙ built-push [] (nodes_of es) x.node in
    record { in_order = o; depths_are = ds ∙ sym (ap (map depth) t); max_depth = All-append (λ e. e.depth ≤ 2000) es (x ∷ []) h.max_depth (λ k y l. alone x k y m l) }

pub place-kept : (es : List NodeAtDepth) (x : NodeAtDepth) → Kept (built [] (nodes_of es)) (built [] (nodes_of (es ++ x ∷ [])))
place-kept es x = rw (map-append node_of es (x ∷ [])) (put-kept (nodes_of es) x.node)

pub place-held : (es : List NodeAtDepth) (x : NodeAtDepth) → length es < length (built [] (nodes_of (es ++ x ∷ [])))
place-held es x = rw (map-append node_of es (x ∷ []), ← nodes-length es) (put-held (nodes_of es) x.node)

pub place-tree : (es : List NodeAtDepth) (x : NodeAtDepth) → tree_at (built [] (nodes_of (es ++ x ∷ []))) record { at = length es } ≡ tree_in (built [] (nodes_of es)) x.node
place-tree es x = rw (map-append node_of es (x ∷ []), ← nodes-length es) (put-tree (nodes_of es) x.node)

nodes-take : (n : ℕ) (es : List NodeAtDepth) → nodes_of (take n es) ≡ take n (nodes_of es)
nodes-take n es = sym (take-map node_of n es)

pub placed-take : (n : ℕ) (es : List NodeAtDepth) → n ≤ length es → built [] (nodes_of (take n es)) ≡ take n (built [] (nodes_of es))
placed-take n es h = ap (built []) (nodes-take n es) ∙ pool-take n (nodes_of es) (rw (nodes-length es) h)

pub take-order : (n : ℕ) (es : List NodeAtDepth) → n ≤ length es → IsPlaced es → IsPlaced (take n es)
take-order n es l h =
    let o : InOrder 0 (nodes_of (take n es)) = rw (nodes-take n es) (order-take 0 n (nodes_of es) h.in_order) in
    let ds : map depth_beside (take n es) ≡ map depth (built [] (nodes_of (take n es))) =
    sym (take-map depth_beside n es) ∙ ap (take n) h.depths_are ∙ take-map depth n (built [] (nodes_of es)) ∙ sym (ap (map depth) (placed-take n es l)) in
    record { in_order = o; depths_are = ds; max_depth = All-take (λ e. e.depth ≤ 2000) n es h.max_depth }
