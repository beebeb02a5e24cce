-- The normal form of a match whose branches have none, in a pool that has grown since.
use Rattle.std.proofs.Common.{ℕ, ◌<◌, ◌≡◌, List, length, Err, ap, sym, subst, ◌∙◌, arith}
use Rattle.mt_term.specs.Trees.{Bytes, Tree, Arms, Match}
use Rattle.mt_term.specs.Declarations.{Environment}
use Rattle.mt_rules.specs.Charges.{Outcome, Done}
use Rattle.mt_term.specs.Stores.{Store}
use Rattle.mt_rules.specs.WeakHead.{normal, normal_arms, normal_parts}
use Rattle.mt_term.specs.ReasonOf.{reason_of}
use Rattle.mt_term.specs.declared.refusals.Stop.{Stop}
use Rattle.mt_term.specs.declared.refusals.Stop.TheVariants.{Refused as StopRefused, Spent as StopSpent, OutOfMemory}
use Rattle.mt_rules_laws.proofs.NormalRules.{normal_match-arms_spent, normal_match-arms_refused, normal_match-arms_within}
use Rattle.mt_pool.specs.declared.nodes.TermId.{TermId}
use Rattle.mt_pool.specs.Region.{arms_at, tree_at, ArmsBelow, Kept}
use Rattle.mt_pool.proofs.Region.{arms-kept, kept-then, tree-kept}
use Rattle.mt_env.specs.Environments.{HeldEnvironment}
use Rattle.mt_store.specs.declared.metavariables.HeldMeta.{HeldMeta}
use Rattle.mt_store.specs.Held.{store_in, StoreBelow}
use Rattle.mt_store.proofs.HeldLaws.{store-kept}
use Rattle.mt_layers.specs.Environments.{environment_in, EnvBelow}
use Rattle.mt_rules.specs.Answers.{Answers}
use Rattle.mt_layers.proofs.Kept.{env-kept}

-- after the motive and the matched term
match_stopped : {X Y : Type 0} (E : Environment) (S : Store) (e : ℕ) (r c : Tree) (bs : Arms) (r' c' : Tree) (v : X → Arms) (w : Y → Tree) (n l m left : ℕ) (s : Stop)
    → normal E S r n ≡ Done r' l → normal E S c l ≡ Done c' m → Answers v (normal_arms E S bs m) left (Err s) → Answers w (normal_parts E S (Match e r c bs) n) left (Err s)
match_stopped E S e r c bs r' c' v w n l m left (StopRefused q) first second h = normal_match-arms_refused E S e r c bs r' c' (reason_of q) n l m left first second h
match_stopped E S e r c bs r' c' v w n l m left StopSpent first second h = (normal_match-arms_spent E S e r c bs r' c' n l m first second h.0, h.1)
match_stopped E S e r c bs r' c' v w n l m left OutOfMemory first second h = omega (arith, normal_match-arms_within E S e r c bs r' c' n l m first second, h)

-- each part in a pool of its own
module _ (p q s : List Tree) (v0 v1 v2 : HeldEnvironment) (m0 m1 m2 : List HeldMeta) (a1 : v1 ≡ v0) (a2 : v2 ≡ v1) (b1 : m1 ≡ m0) (b2 : m2 ≡ m1)
    (k : Kept p q) (l : Kept q s) (held : EnvBelow (length p) v0) (metas : StoreBelow (length p) m0) where
  abbrev onto : Kept p s
  onto = kept-then p q s k l

  env_one : environment_in q v1 ≡ environment_in p v0
  env_one = ap (environment_in q) a1 ∙ env-kept p q v0 k held

  env_two : environment_in s v2 ≡ environment_in p v0
  env_two = ap (environment_in s) (a2 ∙ a1) ∙ env-kept p s v0 onto held

  store_one : store_in q m1 ≡ store_in p m0
  store_one = ap (store_in q) b1 ∙ store-kept p q m0 k metas

  store_two : store_in s m2 ≡ store_in p m0
  store_two = ap (store_in s) (b2 ∙ b1) ∙ store-kept p s m0 onto metas

  pub branches_stopped : {X Y : Type 0} (e : ℕ) (r c r' c' : TermId) (bs : List (List Bytes × TermId)) (v : X → Arms) (w : Y → Tree) (n i j left : ℕ) (t : Stop)
      → c.at < length p → ArmsBelow (length p) bs
      → normal (environment_in p v0) (store_in p m0) (tree_at p r) n ≡ Done (tree_at q r') i
      → normal (environment_in q v1) (store_in q m1) (tree_at q c) i ≡ Done (tree_at s c') j
      → Answers v (normal_arms (environment_in s v2) (store_in s m2) (arms_at s bs) j) left (Err t)
      → Answers w (normal_parts (environment_in p v0) (store_in p m0) (Match e (tree_at p r) (tree_at p c) (arms_at p bs)) n) left (Err t)
  branches_stopped e r c r' c' bs v w n i j left t lc lbs first second third =
      let matched : normal (environment_in p v0) (store_in p m0) (tree_at p c) i ≡ Done (tree_at s c') j = sym (λ x. normal (env_one x) (store_one x) (tree-kept p q c k lc x) i) ∙ second in
      let stopped : Answers v (normal_arms (environment_in p v0) (store_in p m0) (arms_at p bs) j) left (Err t) =
      subst (λ (o : Outcome Arms). Answers v o left (Err t)) (λ x. normal_arms (env_two x) (store_two x) (arms-kept p s bs onto lbs x) j) third in
      match_stopped (environment_in p v0) (store_in p m0) e (tree_at p r) (tree_at p c) (arms_at p bs) (tree_at q r') (tree_at s c') v w n i j left t first matched stopped
