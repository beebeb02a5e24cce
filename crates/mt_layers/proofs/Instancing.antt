-- Instances, rule by rule, as a program makes them.
use Rattle.std.proofs.Common.{ℕ, ◌≡◌, ◌<◌, List, length, Option, Some, None, Result, Ok, Err, IfOk, refl, sym, subst, ◌∙◌}
use Rattle.mt_term.specs.Trees.{Bytes, Tree, Trees, Arms, Var, Sort, Prod, Lam, App, Const, Ind, Con, Match, Meta, End, Item, NoArm, Arm}
use Rattle.mt_term.specs.declared.universes.Sort.{Sort as AnySort}
use Rattle.mt_term.specs.Substitution.{under}
use Rattle.mt_term.specs.Stores.{Declared, Store, body_of}
use Rattle.mt_term.specs.Instances.{InstanceOf, InstanceAll, InstanceArms, inst_var, inst_sort, inst_prod, inst_lam, inst_app, inst_const, inst_ind, inst_con, inst_match, inst_open, inst_assigned, inst_end, inst_item, inst_no_arm, inst_arm}
use Rattle.mt_pool.specs.declared.nodes.TermId.{TermId}
use Rattle.mt_pool.specs.Region.{arms_at, tree_at, trees_at, AllBelow, ArmsBelow, Kept, Denotes}
use Rattle.mt_pool.proofs.Region.{kept, arms-kept, kept-same, kept-then, tree-kept, trees-kept}
use Rattle.mt_store.specs.declared.metavariables.HeldMeta.{HeldMeta}
use Rattle.mt_store.specs.Held.{store_in, StoreBelow}
use Rattle.mt_store.proofs.HeldLaws.{store-kept, store-below}

body-is : (o : Option Declared) → body_of o ≡ body_of o
body-is None = refl
body-is (Some d) = refl

module _ (S : Store) where
  pub instance-var : (i : ℕ) → InstanceOf S (Var i) (Var i)
  instance-var i = inst_var

  pub instance-sort : (s : AnySort) → InstanceOf S (Sort s) (Sort s)
  instance-sort s = inst_sort

  pub instance-prod : (x : Bytes) (A A' B B' : Tree) → InstanceOf S A A' → InstanceOf S B B' → InstanceOf S (Prod x A B) (Prod x A' B')
  instance-prod x A A' B B' a b = inst_prod a b

  pub instance-lam : (x : Bytes) (A A' B B' : Tree) → InstanceOf S A A' → InstanceOf S B B' → InstanceOf S (Lam x A B) (Lam x A' B')
  instance-lam x A A' B B' a b = inst_lam a b

  pub instance-app : (f f' a a' : Tree) → InstanceOf S f f' → InstanceOf S a a' → InstanceOf S (App f a) (App f' a')
  instance-app f f' a a' h k = inst_app h k

  pub instance-const : (c : ℕ) → InstanceOf S (Const c) (Const c)
  instance-const c = inst_const

  pub instance-ind : (e : ℕ) → InstanceOf S (Ind e) (Ind e)
  instance-ind e = inst_ind

  pub instance-con : (e k : ℕ) → InstanceOf S (Con e k) (Con e k)
  instance-con e k = inst_con

  pub instance-match : (e : ℕ) (r r' c c' : Tree) (bs bs' : Arms) → InstanceOf S r r' → InstanceOf S c c' → InstanceArms S bs bs' → InstanceOf S (Match e r c bs) (Match e r' c' bs')
  instance-match e r r' c c' bs bs' h k l = inst_match h k l

  -- a metavariable without a body
  pub instance-open : (n : ℕ) (s s' : Trees) → None ≡ body_of (S.at n) → InstanceAll S s s' → InstanceOf S (Meta n s) (Meta n s')
  instance-open n s s' e h = inst_open (body-is (S.at n) ∙ sym e) h

  -- an assigned one
  pub instance-assigned : (n : ℕ) (s s' : Trees) (b b' : Tree) → Some b ≡ body_of (S.at n) → InstanceOf S b b' → InstanceAll S s s' → InstanceOf S (Meta n s) (under s' b')
  instance-assigned n s s' b b' e h k = inst_assigned (body-is (S.at n) ∙ sym e) h k

  pub instance-end : InstanceAll S End End
  instance-end = inst_end

  pub instance-item : (t t' : Tree) (s s' : Trees) → InstanceOf S t t' → InstanceAll S s s' → InstanceAll S (Item t s) (Item t' s')
  instance-item t t' s s' h k = inst_item h k

  pub instance-no_arm : InstanceArms S NoArm NoArm
  instance-no_arm = inst_no_arm

  pub instance-arm : (xs : List Bytes) (b b' : Tree) (bs bs' : Arms) → InstanceOf S b b' → InstanceArms S bs bs' → InstanceArms S (Arm xs b bs) (Arm xs b' bs')
  instance-arm xs b b' bs bs' h k = inst_arm h k

pub ruleset instance_rules = (kept, store-kept, store-below, instance-var, instance-sort, instance-prod, instance-lam, instance-app, instance-const, instance-ind, instance-con, instance-match, instance-open, instance-assigned, instance-end, instance-item, instance-no_arm, instance-arm)

-- an instance in a pool that has grown since, as the earlier pool says the store and the term
moved : (ms : List HeldMeta) (p q r s : List Tree) (t u : TermId) → StoreBelow (length p) ms → t.at < length p → Kept p q → u.at < length r → Kept r s
    → InstanceOf (store_in q ms) (tree_at q t) (tree_at r u) → InstanceOf (store_in p ms) (tree_at p t) (tree_at s u)
moved ms p q r s t u b l k m n i =
    let here : InstanceOf (store_in p ms) (tree_at q t) (tree_at r u) = subst (λ (S : Store). InstanceOf S (tree_at q t) (tree_at r u)) (store-kept p q ms k b) i in
    let before : InstanceOf (store_in p ms) (tree_at p t) (tree_at r u) = subst (λ (v : Tree). InstanceOf (store_in p ms) v (tree_at r u)) (tree-kept p q t k l) here in
    subst (λ (v : Tree). InstanceOf (store_in p ms) (tree_at p t) v) (sym (tree-kept r s u n m)) before

-- what is put into a pool at last
put_at_last : {X : Type 0} (S : Store) (s : List Tree) (t v : Tree) (o : Result TermId X) → InstanceOf S t v → IfOk o (λ u. Denotes s u v) → IfOk o (λ u. InstanceOf S t (tree_at s u))
put_at_last S s t v (Ok u) i h = subst (λ (w : Tree). InstanceOf S t w) (sym h.1) i
put_at_last S s t v (Err x) i h = tt

-- a match, of whose parts each was made in a pool of its own
pub match-made : {X : Type 0} (ms : List HeldMeta) (p q1 q2 q3 q4 : List Tree) (e : ℕ) (R c R' c' : TermId) (bs bs' : List (List Bytes × TermId)) (o : Result TermId X)
    → StoreBelow (length p) ms → Kept p q1 → Kept q1 q2 → Kept q2 q3 → R.at < length p → c.at < length p → ArmsBelow (length p) bs → R'.at < length q1 → c'.at < length q2
    → InstanceOf (store_in p ms) (tree_at p R) (tree_at q1 R') → InstanceOf (store_in q1 ms) (tree_at q1 c) (tree_at q2 c') → InstanceArms (store_in q2 ms) (arms_at q2 bs) (arms_at q3 bs')
    → IfOk o (λ u. Denotes q4 u (Match e (tree_at q3 R') (tree_at q3 c') (arms_at q3 bs')))
    → IfOk o (λ u. InstanceOf (store_in p ms) (Match e (tree_at p R) (tree_at p c) (arms_at p bs)) (tree_at q4 u))
match-made ms p q1 q2 q3 q4 e R c R' c' bs bs' o b k1 k2 k3 lR lc lbs mR mc iR ic ia made =
    let onto : Kept p q2 = kept-then p q1 q2 k1 k2 in
    let function = moved ms p p q1 q3 R R' b lR (kept-same p) mR (kept-then q1 q2 q3 k2 k3) iR in
    let matched = moved ms p q1 q2 q3 c c' b lc k1 mc k3 ic in
    let here : InstanceArms (store_in p ms) (arms_at q2 bs) (arms_at q3 bs') = subst (λ (S : Store). InstanceArms S (arms_at q2 bs) (arms_at q3 bs')) (store-kept p q2 ms onto b) ia in
    let branches : InstanceArms (store_in p ms) (arms_at p bs) (arms_at q3 bs') = subst (λ (v : Arms). InstanceArms (store_in p ms) v (arms_at q3 bs')) (arms-kept p q2 bs onto lbs) here in
    put_at_last (store_in p ms) q4 _ _ o (inst_match function matched branches) made

-- an assigned metavariable: its terms, then its body, each in a pool of its own
pub assigned-made : {X : Type 0} (ms : List HeldMeta) (p q r s : List Tree) (n : ℕ) (ks ls js : List TermId) (b b' : TermId) (o : Result TermId X)
    → StoreBelow (length p) ms → Kept p q → Kept q r → AllBelow (length q) ls → Some (tree_at q b) ≡ body_of ((store_in q ms).at n)
    → InstanceAll (store_in p ms) (trees_at p ks) (trees_at q ls) → InstanceOf (store_in q ms) (tree_at q b) (tree_at r b') → js ≡ ls
    → IfOk o (λ u. Denotes s u (under (trees_at r js) (tree_at r b')))
    → IfOk o (λ u. InstanceOf (store_in p ms) (Meta n (trees_at p ks)) (tree_at s u))
assigned-made ms p q r s n ks ls js b b' o h k l m e all one same made =
    let S : store_in q ms ≡ store_in p ms = store-kept p q ms k h in
    let there : InstanceAll (store_in q ms) (trees_at p ks) (trees_at q ls) = subst (λ (T : Store). InstanceAll T (trees_at p ks) (trees_at q ls)) (sym S) all in
    let later : InstanceAll (store_in q ms) (trees_at p ks) (trees_at r ls) = subst (λ (v : Trees). InstanceAll (store_in q ms) (trees_at p ks) v) (sym (trees-kept q r ls l m)) there in
    let terms : InstanceAll (store_in q ms) (trees_at p ks) (trees_at r js) = subst (λ (v : List TermId). InstanceAll (store_in q ms) (trees_at p ks) (trees_at r v)) (sym same) later in
    let whole : InstanceOf (store_in q ms) (Meta n (trees_at p ks)) (under (trees_at r js) (tree_at r b')) = instance-assigned (store_in q ms) n (trees_at p ks) (trees_at r js) (tree_at q b) (tree_at r b') e one terms in
    put_at_last (store_in p ms) s _ _ o (subst (λ (T : Store). InstanceOf T (Meta n (trees_at p ks)) (under (trees_at r js) (tree_at r b'))) S whole) made
