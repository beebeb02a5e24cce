-- The inference of a metavariable, term by term.
use Rattle.std.proofs.Common.{subst, ℕ, ◌≡◌, ◌-◌, ◌<◌, ◌≤◌, ◌++◌, List, [], ◌∷◌, length, Option, Some, None, option_map, refl, sym, ap, ◌∙◌, arith}
use Rattle.std.proofs.lemmas.Option.{slice_get_past}
use Rattle.mt_term.specs.Trees.{Tree, Trees, Meta, End, Item}
use Rattle.mt_term.specs.declared.modes.Mode.TheVariants.{AtMost}
use Rattle.mt_term.specs.Substitution.{beyond, fill, join, then_as, under}
use Rattle.mt_term.specs.Declarations.{Hypothesis, Environment}
use Rattle.mt_term.specs.Reasons.{Reason, Unbound}
use Rattle.mt_rules.specs.Charges.{Charged, Done, Refused, Spent, and_then, rest}
use Rattle.mt_rules.specs.Inference.{agreement, infer, infer_terms, oldest}
use Rattle.mt_term.specs.Stores.{Declared, Store, types_onto, types_of}
use Rattle.mt_rules_laws.proofs.Charged.{then-rest, then-then}
use Rattle.mt_rules_laws.proofs.InferenceLaws.{infer-rest}
use Rattle.mt_rules_laws.proofs.InferenceRules.{infer-out, infer_terms-rest, infer_terms-end, infer_terms-fewer, infer_terms-further, infer-meta-meta_none, infer-meta-terms_spent, infer-meta-terms_refused, infer-meta-terms_within, infer-meta-done}
use Rattle.mt_pool.specs.declared.contexts.HeldHyp.{HeldHyp}
use Rattle.mt_pool.specs.declared.nodes.TermId.{TermId}
use Rattle.mt_pool.specs.HeldOf.{hypotheses_in, ContextBelow}
use Rattle.mt_pool.specs.Region.{tree_at, trees_at, AllBelow, Kept}
use Rattle.mt_pool.proofs.Region.{tree-kept, trees-kept}
use Rattle.mt_env.specs.Environments.{HeldEnvironment}
use Rattle.mt_layers.specs.Environments.{environment_in, EnvBelow}
use Rattle.mt_layers.proofs.Kept.{env-kept}
use Rattle.mt_store.specs.declared.metavariables.HeldMeta.{HeldMeta}
use Rattle.mt_store.specs.Held.{context_of, store_in, type_of, StoreBelow}
use Rattle.mt_store.proofs.HeldLaws.{store_none, store-kept}
use Rattle.mt_infer.specs.declared.scopes.Scope.{Scope}
use Rattle.mt_infer.specs.Scopes.{scope_in, ScopeBelow}
use Rattle.mt_infer.proofs.Held.{scope-kept}
use Rattle.mt_infer.specs.Fitting.{fits}
use Rattle.mt_infer.specs.Metavariables.{terms_fit, types_in}
use Rattle.mt_store.specs.Search.{types_held}
use Rattle.mt_infer.proofs.Branching.{fits_rest}
use Rattle.mt_infer.proofs.Inferring.{infer_charged}

-- types as the pool grows
pub types_in-kept : (p q : List Tree) (ks : List TermId) → Kept p q → AllBelow (length p) ks → types_in q ks ≡ types_in p ks
types_in-kept p q [] k b = refl
types_in-kept p q (j ∷ ks) k b = λ i. tree-kept p q j k b.0 i ∷ types_in-kept p q ks k b.1 i

pub types_held-below : (n : ℕ) (hs : List HeldHyp) → ContextBelow n hs → AllBelow n (types_held hs)
types_held-below n [] b = tt
types_held-below n (h ∷ hs) b = (b.0, types_held-below n hs b.1)

-- one term more
pub trees-then : (p : List Tree) (ks : List TermId) (k : TermId) → trees_at p (ks ++ k ∷ []) ≡ join (trees_at p ks) (Item (tree_at p k) End)
trees-then p [] k = refl
trees-then p (j ∷ ks) k = ap (Item (tree_at p j)) (trees-then p ks k)

pub all-then : (n : ℕ) (ks : List TermId) (k : TermId) → AllBelow n ks → k.at < n → AllBelow n (ks ++ k ∷ [])
all-then n [] k b l = (l, tt)
all-then n (j ∷ ks) k b l = (b.0, all-then n ks k b.1 l)

fill-then : (s : Trees) (t : Tree) (σ : ℕ → Tree) → fill (join s (Item t End)) σ ≡ then_as t (fill s σ)
fill-then End t σ = refl
fill-then (Item u s) t σ = fill-then s t (then_as u σ)

-- the terms, one by one
module _ (E : Environment) (S : Store) (Γ : List Hypothesis) where
  pub terms_rest : (s : Trees) (more : List Tree) (earlier : Trees) (n : ℕ) → rest (terms_fit E S Γ s more earlier n) ≤ n
  unfolding terms_fit
  terms_rest s more earlier n = infer_terms-rest E S Γ s more (fill earlier beyond) n

  pub terms_end : (earlier : Trees) (n : ℕ) → terms_fit E S Γ End [] earlier n ≡ Done tt n
  unfolding terms_fit
  terms_end earlier n = infer_terms-end E S Γ (fill earlier beyond) n

  pub terms_fewer : (a : Tree) (more : List Tree) (earlier : Trees) (n : ℕ) → terms_fit E S Γ End (a ∷ more) earlier n ≡ Refused (Unbound []) n
  unfolding terms_fit
  terms_fewer a more earlier n = infer_terms-fewer E S Γ a more (fill earlier beyond) n

  pub terms_further : (t : Tree) (s earlier : Trees) (n : ℕ) → terms_fit E S Γ (Item t s) [] earlier n ≡ Refused (Unbound []) n
  unfolding terms_fit
  terms_further t s earlier n = infer_terms-further E S Γ t s (fill earlier beyond) n

  module _ (t : Tree) (s : Trees) (a : Tree) (more : List Tree) (earlier : Trees) (n : ℕ) where
    abbrev next : Unit {0} → Charged (Unit {0})
    next z = infer_terms E S Γ s more (then_as t (fill earlier beyond))

    by_term : terms_fit E S Γ (Item t s) (a ∷ more) earlier n ≡ and_then (fits E S Γ t (under earlier a) n) next
    unfolding terms_fit fits infer_terms infer agreement
    by_term = sym (then-then (infer E S Γ t n) (λ u. agreement E S Γ AtMost u (under earlier a)) next)

    pub term_spent : fits E S Γ t (under earlier a) n ≡ Spent → terms_fit E S Γ (Item t s) (a ∷ more) earlier n ≡ Spent
    term_spent e = by_term ∙ ap (λ q. and_then q next) e

    pub term_refused : (q : Reason) (l : ℕ) → fits E S Γ t (under earlier a) n ≡ Refused q l → terms_fit E S Γ (Item t s) (a ∷ more) earlier n ≡ Refused q l
    term_refused q l e = by_term ∙ ap (λ q. and_then q next) e

    pub term_done : (z : Unit {0}) (l : ℕ) → fits E S Γ t (under earlier a) n ≡ Done z l → terms_fit E S Γ (Item t s) (a ∷ more) earlier n ≡ terms_fit E S Γ s more (join earlier (Item t End)) l
    unfolding terms_fit
    term_done z l e = by_term ∙ ap (λ q. and_then q next) e ∙ ap (λ (σ : ℕ → Tree). infer_terms E S Γ s more σ l) (sym (fill-then earlier t beyond))

    -- nothing more is charged at once
    pub term_left : (z : Unit {0}) (l : ℕ) → fits E S Γ t (under earlier a) n ≡ Done z l → rest (terms_fit E S Γ (Item t s) (a ∷ more) earlier n) ≤ l
    term_left z l e = let d = term_done z l e in omega (arith, ap rest d, terms_rest s more (join earlier (Item t End)) l)

    pub term_within : rest (terms_fit E S Γ (Item t s) (a ∷ more) earlier n) ≤ rest (fits E S Γ t (under earlier a) n)
    term_within = rw by_term (then-rest (fits E S Γ t (under earlier a) n) next (λ z l. infer_terms-rest E S Γ s more (then_as t (fill earlier beyond)) l))

pub ruleset term_rules = (fits_rest)

pub ruleset terms_rules = (types_in-kept, terms_rest, fits_rest, terms_end, terms_fewer, terms_further, term_spent, term_refused, term_done, term_within, term_left)

-- a context of a metavariable, the types oldest first
oldest_onto : (p : List Tree) (hs : List HeldHyp) (Γ : List Tree) → oldest (types_onto (hypotheses_in p hs) Γ) [] ≡ oldest Γ (types_in p (types_held hs))
oldest_onto p [] Γ = refl
oldest_onto p (h ∷ hs) Γ = oldest_onto p hs (tree_at p h.ty ∷ Γ)

oldest_types : (p : List Tree) (hs : List HeldHyp) → oldest (types_of (hypotheses_in p hs)) [] ≡ types_in p (types_held hs)
oldest_types p hs = oldest_onto p hs []

-- a metavariable by its parts
there : (o : Option Declared) (Γ : List Tree) (T : Tree) → option_map context_of o ≡ Some Γ → option_map type_of o ≡ Some T → (d : Declared) × (o ≡ Some d) × (d.context ≡ Γ) × (d.ty ≡ T)
there None Γ T c t = absurd cc
there (Some d) Γ T c t = let c' : d.context ≡ Γ = cc in let t' : d.ty ≡ T = cc in (d, refl, c', t')

pub absent : (p : List Tree) (ms : List HeldMeta) (m : ℕ) → length ms ≤ m → (store_in p ms).at m ≡ None
absent p ms m l = store_none p ms m (slice_get_past ms m l)

module _ (E : Environment) (S : Store) (Γ : List Hypothesis) (m : ℕ) (s : Trees) (p : List Tree) (hs : List HeldHyp) (T : Tree) (n : ℕ) (h : 0 < n)
    (c : option_map context_of (S.at m) ≡ Some (types_of (hypotheses_in p hs))) (t : option_map type_of (S.at m) ≡ Some T) where
  abbrev d : Declared
  d = (there _ _ _ c t).0

  is_there : S.at m ≡ Some d
  is_there = (there _ _ _ c t).1

  same : (k : ℕ) → infer_terms E S Γ s (oldest d.context []) beyond k ≡ terms_fit E S Γ s (types_in p (types_held hs)) End k
  unfolding terms_fit
  same k = ap (λ (ts : List Tree). infer_terms E S Γ s ts beyond k) (ap (λ (Δ : List Tree). oldest Δ []) (there _ _ _ c t).2 ∙ oldest_types p hs)

  pub meta_spent : terms_fit E S Γ s (types_in p (types_held hs)) End (n - 1) ≡ Spent → infer E S Γ (Meta m s) n ≡ Spent
  meta_spent e = infer-meta-terms_spent E S Γ m s d n h is_there (same (n - 1) ∙ e)

  pub meta_refused : (q : Reason) (k : ℕ) → terms_fit E S Γ s (types_in p (types_held hs)) End (n - 1) ≡ Refused q k → infer E S Γ (Meta m s) n ≡ Refused q k
  meta_refused q k e = infer-meta-terms_refused E S Γ m s d q n k h is_there (same (n - 1) ∙ e)

  pub meta_done : (z : Unit {0}) (k : ℕ) → terms_fit E S Γ s (types_in p (types_held hs)) End (n - 1) ≡ Done z k → infer E S Γ (Meta m s) n ≡ Done (under s T) k
  meta_done z k e = infer-meta-done E S Γ m s d n k h is_there (same (n - 1) ∙ e) ∙ ap (λ (u : Tree). Done (under s u) k) (there _ _ _ c t).3

  pub meta_within : rest (infer E S Γ (Meta m s) n) ≤ rest (terms_fit E S Γ s (types_in p (types_held hs)) End (n - 1))
  meta_within = let w = infer-meta-terms_within E S Γ m s d n h is_there in rw (sym (same (n - 1))) w

  -- nothing more is charged after the terms
  pub meta_left : (z : Unit {0}) (k : ℕ) → terms_fit E S Γ s (types_in p (types_held hs)) End (n - 1) ≡ Done z k → rest (infer E S Γ (Meta m s) n) ≤ k
  meta_left z k e = let q = meta_done z k e in omega (arith, ap rest q)

pub ruleset meta_rules = (infer-rest, infer-out, infer_charged, terms_rest, types_held-below, absent, infer-meta-meta_none, meta_spent, meta_refused, meta_done, meta_within, meta_left)

-- one term and then the others, in a pool that has grown
pub terms_made : (p q : List Tree) (v0 v1 : HeldEnvironment) (m0 m1 : List HeldMeta) (sc : Scope) (t ty : TermId) (ks ls js is es fs ds : List TermId) (n l : ℕ) (z : Unit {0})
    → v1 ≡ v0 → m1 ≡ m0 → Kept p q → EnvBelow (length p) v0 → StoreBelow (length p) m0 → ScopeBelow (length p) sc → t.at < length p → AllBelow (length p) ks → AllBelow (length p) js → AllBelow (length p) es
    → ls ≡ ks → is ≡ js → ds ≡ es → trees_at q fs ≡ join (trees_at q es) (Item (tree_at q t) End)
    → fits (environment_in p v0) (store_in p m0) (scope_in p sc) (tree_at p t) (under (trees_at p ds) (tree_at p ty)) n ≡ Done z l
    → terms_fit (environment_in p v0) (store_in p m0) (scope_in p sc) (trees_at p (t ∷ ks)) (types_in p (ty ∷ js)) (trees_at p es) n
    ≡ terms_fit (environment_in q v1) (store_in q m1) (scope_in q sc) (trees_at q ls) (types_in q is) (trees_at q fs) l
terms_made p q v0 v1 m0 m1 sc t ty ks ls js is es fs ds n l z av am k hv hm hs lt bk bj be ek ej ed joined fit =
    let here : fits (environment_in p v0) (store_in p m0) (scope_in p sc) (tree_at p t) (under (trees_at p es) (tree_at p ty)) n ≡ Done z l =
    subst (λ (xs : List TermId). fits (environment_in p v0) (store_in p m0) (scope_in p sc) (tree_at p t) (under (trees_at p xs) (tree_at p ty)) n ≡ Done z l) ed fit in
    let envs : environment_in q v1 ≡ environment_in p v0 = ap (environment_in q) av ∙ env-kept p q v0 k hv in
    let stores : store_in q m1 ≡ store_in p m0 = ap (store_in q) am ∙ store-kept p q m0 k hm in
    let terms : trees_at q ls ≡ trees_at p ks = ap (trees_at q) ek ∙ trees-kept p q ks k bk in
    let types : types_in q is ≡ types_in p js = ap (types_in q) ej ∙ types_in-kept p q js k bj in
    let last : trees_at q fs ≡ join (trees_at p es) (Item (tree_at p t) End) = joined ∙ (λ i. join (trees-kept p q es k be i) (Item (tree-kept p q t k lt i) End)) in
    term_done (environment_in p v0) (store_in p m0) (scope_in p sc) (tree_at p t) (trees_at p ks) (tree_at p ty) (types_in p js) (trees_at p es) n z l here
    ∙ sym (λ i. terms_fit (envs i) (stores i) (scope-kept p q sc k hs i) (terms i) (types i) (last i) l)

-- the type of a metavariable, after its terms, in a pool that has grown
pub meta_made : (o p q s : List Tree) (v0 v1 : HeldEnvironment) (m0 m1 : List HeldMeta) (sc : Scope) (m : ℕ) (ks js ls es : List TermId) (hs : List HeldHyp) (ty u : TermId) (n l k : ℕ) (z : Unit {0})
    → p ≡ o → v1 ≡ v0 → m1 ≡ m0 → 0 < n → l ≡ n - 1
    → option_map context_of ((store_in p m1).at m) ≡ Some (types_of (hypotheses_in p hs)) → option_map type_of ((store_in p m1).at m) ≡ Some (tree_at p ty)
    → ((i : ℕ) → StoreBelow i m1 → ty.at < i) → StoreBelow (length o) m0 → AllBelow (length o) ks → Kept p q → js ≡ ks → ls ≡ types_held hs → es ≡ []
    → terms_fit (environment_in p v1) (store_in p m1) (scope_in p sc) (trees_at p ks) (types_in p ls) (trees_at p es) l ≡ Done z k
    → tree_at s u ≡ under (trees_at q js) (tree_at q ty)
    → infer (environment_in o v0) (store_in o m0) (scope_in o sc) (Meta m (trees_at o ks)) n ≡ Done (tree_at s u) k
meta_made o p q s v0 v1 m0 m1 sc m ks js ls es hs ty u n l k z po pv pm h el c t below hm bk kept ej es_is ee fit made =
    let there : StoreBelow (length p) m1 = subst (λ (xs : List HeldMeta). StoreBelow (length p) xs) (sym pm) (subst (λ (xs : List Tree). StoreBelow (length xs) m0) (sym po) hm) in
    let held : AllBelow (length p) ks = subst (λ (xs : List Tree). AllBelow (length xs) ks) (sym po) bk in
    let fitted : terms_fit (environment_in p v1) (store_in p m1) (scope_in p sc) (trees_at p ks) (types_in p (types_held hs)) End (n - 1) ≡ Done z k =
    sym (λ i. terms_fit (environment_in p v1) (store_in p m1) (scope_in p sc) (trees_at p ks) (types_in p (es_is i)) (trees_at p (ee i)) (el i)) ∙ fit in
    let whole = meta_done (environment_in p v1) (store_in p m1) (scope_in p sc) m (trees_at p ks) p hs (tree_at p ty) n h c t z k fitted in
    let terms : trees_at q js ≡ trees_at p ks = ap (trees_at q) ej ∙ trees-kept p q ks kept held in
    let answer : tree_at s u ≡ under (trees_at p ks) (tree_at p ty) = made ∙ (λ i. under (terms i) (tree-kept p q ty kept (below (length p) there) i)) in
    sym (λ i. infer (environment_in (po i) (pv i)) (store_in (po i) (pm i)) (scope_in (po i) sc) (Meta m (trees_at (po i) ks)) n) ∙ whole ∙ ap (λ (v : Tree). Done v k) (sym answer)
