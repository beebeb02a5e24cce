-- What is put in for variables stays as a pool grows.
use Rattle.std.proofs.Common.{ℕ, zero, suc, ◌-◌, ◌<◌, ◌≤◌, ◌≡◌, List, [], ◌∷◌, length, slice_index_or, ap, sym, ◌∙◌, arith, ◌⊎◌, inl, inr}
use Rattle.std.proofs.lemmas.Bool.Decides.{leb_tells}
use Rattle.mt_term.specs.Trees.{Tree, Arms, Bytes, Var, Match}
use Rattle.mt_term.specs.Substitution.{then_as, fill, beyond}
use Rattle.mt_pool.specs.declared.nodes.TermId.{TermId}
use Rattle.mt_pool.specs.declared.replacement.Replacement.{Replacement}
use Rattle.mt_pool.specs.declared.replacement.Replacement.TheVariants.{One, Under, Filled}
use Rattle.mt_pool.specs.Region.{tree_at, trees_at, arms_at, AllBelow, ArmsBelow, Kept, Denotes}
use Rattle.mt_pool.specs.Replaced.{replacement_in, ReplacementBelow}
use Rattle.mt_pool.proofs.Region.{tree-kept, trees-kept, arms-kept, length-kept, kept-then, all-below, arms-held}

pub replacement-kept : (p q : List Tree) (by : Replacement) → Kept p q → ReplacementBelow (length p) by → replacement_in q by ≡ replacement_in p by
replacement-kept p q (One u) k h = ap (λ t. then_as t Var) (tree-kept p q u k h)
replacement-kept p q (Under s) k h = ap (λ ts. fill ts beyond) (trees-kept p q s.now k h)
replacement-kept p q (Filled s) k h = ap (λ ts. fill ts Var) (trees-kept p q s.now k h)

pub replacement-below : (p q : List Tree) (by : Replacement) → Kept p q → ReplacementBelow (length p) by → ReplacementBelow (length q) by
replacement-below p q (One u) k h = let l = length-kept p q k in omega (arith, h, l)
replacement-below p q (Under s) k h = all-below p q s.now k h
replacement-below p q (Filled s) k h = all-below p q s.now k h

pub ruleset replaced = (replacement-kept, replacement-below)

dichotomy : (a b : ℕ) → (a < b) ⊎ (b ≤ a)
dichotomy a b = elim (leb_tells (suc a) b) [ inl h ↦ inl (omega (arith, h.1)) | inr h ↦ inr (omega (arith, h.1)) ]

-- the newest of the ids stands for variable 0
pub fill-past : (p : List Tree) (σ : ℕ → Tree) (ks : List TermId) (i : ℕ) → length ks ≤ i → fill (trees_at p ks) σ i ≡ σ (i - length ks)
fill-past p σ [] i h = let e : i - 0 ≡ i = omega arith in ap σ (sym e)
fill-past p σ (k ∷ ks) i h =
    let e : i - length ks ≡ suc (i - suc (length ks)) = omega arith in
    fill-past p (then_as (tree_at p k) σ) ks i (omega arith) ∙ ap (then_as (tree_at p k) σ) e

pub fill-found : (p : List Tree) (σ : ℕ → Tree) (ks : List TermId) (i : ℕ) (d : TermId) → i < length ks
    → fill (trees_at p ks) σ i ≡ tree_at p (slice_index_or ks (length ks - 1 - i) d)
fill-found p σ [] i d h = absurd (omega arith)
fill-found p σ (k ∷ ks) i d h = elim (dichotomy i (length ks)) [
  | inl l ↦
      let e : suc (length ks) - 1 - i ≡ suc (length ks - 1 - i) = omega arith in
      fill-found p (then_as (tree_at p k) σ) ks i d l ∙ ap (λ n. tree_at p (slice_index_or (k ∷ ks) n d)) (sym e)
  | inr l ↦
      let e : suc (length ks) - 1 - i ≡ 0 = omega arith in
      let z : i - length ks ≡ 0 = omega arith in
      fill-past p (then_as (tree_at p k) σ) ks i l ∙ ap (then_as (tree_at p k) σ) z ∙ ap (λ n. tree_at p (slice_index_or (k ∷ ks) n d)) (sym e)
]

pub all-at : (n : ℕ) (ks : List TermId) (i : ℕ) (d : TermId) → AllBelow n ks → i < length ks → (slice_index_or ks i d).at < n
all-at n [] i d h l = absurd (omega arith)
all-at n (k ∷ ks) zero d h l = h.0
all-at n (k ∷ ks) (suc i) d h l = all-at n ks i d h.1 (omega arith)

-- a match of parts that were made one after the other, as the pool grew
pub match-made : (f h : Tree → Tree) (g m : Arms → Arms) → h ≡ f → m ≡ g
    → ((e : ℕ) (r c : Tree) (bs : Arms) → f (Match e r c bs) ≡ Match e (f r) (f c) (g bs))
    → (p0 p1 p2 p3 : List Tree) → Kept p0 p1 → Kept p1 p2 → Kept p2 p3
    → (t : TermId) (e : ℕ) (r c : TermId) (bs copied : List (List Bytes × TermId)) → t.at < length p0
    → (r.at < t.at) × (c.at < t.at) × ArmsBelow t.at bs → copied ≡ bs
    → tree_at p0 t ≡ Match e (tree_at p0 r) (tree_at p0 c) (arms_at p0 bs)
    → (r' c' : TermId) (bs' : List (List Bytes × TermId))
    → Denotes p1 r' (f (tree_at p0 r)) → Denotes p2 c' (h (tree_at p1 c)) → arms_at p3 bs' ≡ m (arms_at p2 copied)
    → Match e (tree_at p3 r') (tree_at p3 c') (arms_at p3 bs') ≡ f (tree_at p0 t)
match-made f h g m eh em dist p0 p1 p2 p3 k1 k2 k3 t e r c bs copied l below ec et r' c' bs' nr nc nb =
    let k02 : Kept p0 p2 = kept-then p0 p1 p2 k1 k2 in
    let k13 : Kept p1 p3 = kept-then p1 p2 p3 k2 k3 in
    let er : tree_at p3 r' ≡ f (tree_at p0 r) = tree-kept p1 p3 r' k13 nr.0 ∙ nr.1 in
    let lc : c.at < length p0 = omega (arith, below.1) in
    let ecc : tree_at p3 c' ≡ f (tree_at p0 c) =
    tree-kept p2 p3 c' k3 nc.0 ∙ nc.1 ∙ ap h (tree-kept p0 p1 c k1 lc) ∙ ap (λ w. w (tree_at p0 c)) eh in
    let eb : arms_at p3 bs' ≡ g (arms_at p0 bs) =
    nb ∙ ap (λ w. m (arms_at p2 w)) ec ∙ ap m (arms-kept p0 p2 bs k02 (arms-held _ _ bs below.2 l)) ∙ ap (λ w. w (arms_at p0 bs)) em in
    (λ i. Match e (er i) (ecc i) (eb i)) ∙ sym (dist e (tree_at p0 r) (tree_at p0 c) (arms_at p0 bs)) ∙ ap f (sym et)
