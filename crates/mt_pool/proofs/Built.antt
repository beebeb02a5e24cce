-- The trees of a pool's nodes.
use Rattle.std.proofs.Common.{ℕ, zero, suc, ◌+◌, ◌<◌, ◌≡◌, List, [], ◌∷◌, ◌++◌, length, slice_index_or, refl, sym, ◌∙◌, append_assoc, length-append, arith, add-zero, zero-add, ap, take, ◌≤◌, OnErr, Result, Ok, Err}
use Rattle.std.proofs.lemmas.List.{append-nil}
use Rattle.std.proofs.Math.Seq.{get_or-append_seam, take-append_seam}
use Rattle.std.proofs.lemmas.Grind.{common_steps}
use Rattle.mt_term.specs.Trees.{Tree, Bytes, Var, Prod, Lam, App, Match, Meta, Item, Arm}
use Rattle.mt_pool.specs.declared.nodes.TermId.{TermId}
use Rattle.mt_pool.specs.declared.nodes.Node.{Node}
use Rattle.mt_pool.specs.declared.nodes.Node.TheVariants.{Var as VarNode, Sort as SortNode, Prod as ProdNode, Lam as LamNode, App as AppNode, Const as ConstNode, Ind as IndNode, Con as ConNode, Match as MatchNode, Meta as MetaNode}
use Rattle.mt_pool.specs.Region.{tree_at, trees_at, arms_at, tree_in, ids_of, branches_of, AllBelow, ArmsBelow, Below, InOrder, built, Kept}

index-append : (p more : List Tree) (i : ℕ) (d : Tree) → i < length p → slice_index_or (p ++ more) i d ≡ slice_index_or p i d
index-append p more i d h = grind (arith, common_steps)

-- a held id keeps its tree
pub tree_at-append : (p more : List Tree) (k : TermId) → k.at < length p → tree_at (p ++ more) k ≡ tree_at p k
tree_at-append p more k h = index-append p more k.at (Var 0) h

pub trees_at-append : (p more : List Tree) (ks : List TermId) → AllBelow (length p) ks → trees_at (p ++ more) ks ≡ trees_at p ks
trees_at-append p more [] h = refl
trees_at-append p more (k ∷ ks) h = λ i. Item (tree_at-append p more k h.0 i) (trees_at-append p more ks h.1 i)

pub arms_at-append : (p more : List Tree) (bs : List (List Bytes × TermId)) → ArmsBelow (length p) bs → arms_at (p ++ more) bs ≡ arms_at p bs
arms_at-append p more [] h = refl
arms_at-append p more (b ∷ bs) h = λ i. Arm b.0 (tree_at-append p more b.1 h.0 i) (arms_at-append p more bs h.1 i)

pub tree_in-append : (p more : List Tree) (x : Node) → Below (length p) x → tree_in (p ++ more) x ≡ tree_in p x
tree_in-append p more (VarNode i) h = refl
tree_in-append p more (SortNode s) h = refl
tree_in-append p more (ProdNode x a b) h = λ i. Prod x (tree_at-append p more a h.0 i) (tree_at-append p more b h.1 i)
tree_in-append p more (LamNode x a b) h = λ i. Lam x (tree_at-append p more a h.0 i) (tree_at-append p more b h.1 i)
tree_in-append p more (AppNode f a) h = λ i. App (tree_at-append p more f h.0 i) (tree_at-append p more a h.1 i)
tree_in-append p more (ConstNode c) h = refl
tree_in-append p more (IndNode e) h = refl
tree_in-append p more (ConNode e k) h = refl
tree_in-append p more (MatchNode e r c bs) h =
    λ i. Match e (tree_at-append p more r h.0 i) (tree_at-append p more c h.1 i) (arms_at-append p more (branches_of bs) h.2 i)
tree_in-append p more (MetaNode n s) h = λ i. Meta n (trees_at-append p more (ids_of s) h i)

pub built-push : (p : List Tree) (xs : List Node) (x : Node) → built p (xs ++ x ∷ []) ≡ built p xs ++ tree_in (built p xs) x ∷ []
built-push p [] x = refl
built-push p (y ∷ ys) x = built-push (p ++ tree_in p y ∷ []) ys x

pub length-built : (p : List Tree) (xs : List Node) → length (built p xs) ≡ length p + length xs
length-built p [] = sym (add-zero (length p))
length-built p (x ∷ xs) = omega (arith, length-built (p ++ tree_in p x ∷ []) xs, length-append p (tree_in p x ∷ []))

pub in_order-push : (n : ℕ) (xs : List Node) (x : Node) → InOrder n xs → Below (n + length xs) x → InOrder n (xs ++ x ∷ [])
in_order-push n [] x h b = (rw (add-zero n) at b, tt)
in_order-push n (y ∷ ys) x h b =
    let e : n + length (y ∷ ys) ≡ n + 1 + length ys = omega arith in
    (h.0, in_order-push (n + 1) ys x h.1 (rw e at b))

built-more : (p : List Tree) (xs : List Node) → Kept p (built p xs)
unfolding Kept
built-more p [] = ([], sym (append-nil p))
built-more p (x ∷ xs) =
    let k = built-more (p ++ tree_in p x ∷ []) xs in
    (tree_in p x ∷ k.0, k.1 ∙ append_assoc p (tree_in p x ∷ []) k.0)

in_order-at : (n : ℕ) (xs : List Node) (k : ℕ) (x : Node) → InOrder n xs → k < length xs → x ≡ slice_index_or xs k x → Below (n + k) x
in_order-at n [] k x h l e = absurd (omega arith)
in_order-at n (y ∷ ys) zero x h l e = rw (add-zero n, e) h.0
in_order-at n (y ∷ ys) (suc k) x h l e =
    let q : n + suc k ≡ n + 1 + k = omega arith in rw q (in_order-at (n + 1) ys k x h.1 (omega arith) e)

built-first : (p : List Tree) (y : Node) (q : List Tree) → Below (length p) y → Kept (p ++ tree_in p y ∷ []) q
    → slice_index_or q (length p) (Var 0) ≡ tree_in q y
unfolding Kept
built-first p y q b k =
    let e : q ≡ p ++ (tree_in p y ∷ k.0) = k.1 ∙ append_assoc p (tree_in p y ∷ []) k.0 in
    rw e (get_or-append_seam p (tree_in p y) k.0 (Var 0) ∙ sym (tree_in-append p (tree_in p y ∷ k.0) y b))

built-at : (p : List Tree) (xs : List Node) (k : ℕ) (x : Node) → InOrder (length p) xs → k < length xs → x ≡ slice_index_or xs k x
    → slice_index_or (built p xs) (length p + k) (Var 0) ≡ tree_in (built p xs) x
built-at p [] k x h l e = absurd (omega arith)
built-at p (y ∷ ys) zero x h l e =
    rw (add-zero, e) (built-first p y (built p (y ∷ ys)) h.0 (built-more (p ++ tree_in p y ∷ []) ys))
built-at p (y ∷ ys) (suc k) x h l e =
    let n : length (p ++ tree_in p y ∷ []) ≡ length p + 1 = length-append p (tree_in p y ∷ []) in
    let q : length p + suc k ≡ length (p ++ tree_in p y ∷ []) + k = omega arith in
    let h' : InOrder (length (p ++ tree_in p y ∷ [])) ys = rw n h.1 in
    rw q (built-at (p ++ tree_in p y ∷ []) ys k x h' (omega arith) e)

-- of a pool, which begins with no tree
pub node-tree : (xs : List Node) (k : TermId) (x : Node) → InOrder 0 xs → k.at < length xs → x ≡ slice_index_or xs k.at x
    → tree_at (built [] xs) k ≡ tree_in (built [] xs) x
node-tree xs k x h l e = let r = built-at [] xs k.at x h l e in rw (zero-add k.at) at r

pub node-below : (xs : List Node) (k : TermId) (x : Node) → InOrder 0 xs → k.at < length xs → x ≡ slice_index_or xs k.at x → Below k.at x
node-below xs k x h l e = let r = in_order-at 0 xs k.at x h l e in rw (zero-add k.at) at r

pub pool-length : (xs : List Node) → length (built [] xs) ≡ length xs
pool-length xs = omega (arith, length-built [] xs)

pub put-order : (xs : List Node) (x : Node) → InOrder 0 xs → Below (length (built [] xs)) x → InOrder 0 (xs ++ x ∷ [])
put-order xs x h b =
    let e : length (built [] xs) ≡ 0 + length xs = omega (arith, length-built [] xs) in in_order-push 0 xs x h (rw e at b)

pub put-tree : (xs : List Node) (x : Node) → tree_at (built [] (xs ++ x ∷ [])) record { at = length xs } ≡ tree_in (built [] xs) x
put-tree xs x =
    rw (built-push [] xs x, ← pool-length xs) (get_or-append_seam (built [] xs) (tree_in (built [] xs) x) [] (Var 0))

pub put-held : (xs : List Node) (x : Node) → length xs < length (built [] (xs ++ x ∷ []))
put-held xs x = omega (arith, length-built [] (xs ++ x ∷ []), length-append xs (x ∷ []))

pub put-kept : (xs : List Node) (x : Node) → Kept (built [] xs) (built [] (xs ++ x ∷ []))
unfolding Kept
put-kept xs x = (tree_in (built [] xs) x ∷ [], built-push [] xs x)

pub order-take : (m n : ℕ) (xs : List Node) → InOrder m xs → InOrder m (take n xs)
order-take m zero xs h = tt
order-take m (suc n) [] h = tt
order-take m (suc n) (x ∷ xs) h = (h.0, order-take (m + 1) n xs h.1)

built-take : (p : List Tree) (n : ℕ) (xs : List Node) → n ≤ length xs → built p (take n xs) ≡ take (length p + n) (built p xs)
unfolding Kept
built-take p zero xs h =
    let k = built-more p xs in rw (add-zero, k.1) (sym (take-append_seam p k.0))
built-take p (suc n) [] h = absurd (omega arith)
built-take p (suc n) (x ∷ xs) h =
    let e : length (p ++ tree_in p x ∷ []) + n ≡ length p + suc n = omega (arith, length-append p (tree_in p x ∷ [])) in
    built-take (p ++ tree_in p x ∷ []) n xs (omega arith) ∙ ap (λ k. take k (built p (x ∷ xs))) e

pub pool-take : (n : ℕ) (xs : List Node) → n ≤ length xs → built [] (take n xs) ≡ take n (built [] xs)
pool-take n xs h = built-take [] n xs h ∙ ap (λ k. take k (built [] xs)) (zero-add n)

pub on_err : {T E : Type 0} (r : Result T E) (P : Type 0) → P → OnErr r P
on_err (Ok x) P h = tt
on_err (Err e) P h = h
