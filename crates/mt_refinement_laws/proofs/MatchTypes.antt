-- The types that the parts of a match are to have: what elimination says of a motive, and the types of branch bodies.
use Rattle.std.specs.Prelude.{◌≡◌, ◌+◌, refl, ℕ, zero, suc, List, [], ◌∷◌, Bool, true, false, Some, slice_get}
use Rattle.std.proofs.Common.{sym, ap, ◌∙◌, subst, subst₂, arith}
use Rattle.mt_term.specs.Trees.{Bytes, Tree, Trees, Var, Sort, Prod, App, Ind, Meta, End, Item}
use Rattle.mt_term.specs.Substitution.{up_ren, ren, ren_all, tr_all, sub, apps, join, count, products}
use Rattle.mt_term.specs.Declarations.{Hypothesis, Constructor, Inductive, Environment}
use Rattle.mt_term.specs.declared.universes.Sort.{Sort as AnySort}
use Rattle.mt_term.specs.declared.modes.Mode.TheVariants.{Equal}
use Rattle.mt_rules.specs.Charges.{Done, ◌>>=◌}
use Rattle.mt_term.specs.Stores.{Store, Owned}
use Rattle.mt_calculus.specs.Conversion.{Conv, chain, prods, conv}
use Rattle.mt_calculus.specs.Typing.{here, IsContext, IsType, Has, Instantiated, at_none, MotiveType, m_end, m_more, Allowed, Holds, c_cons, t_var, t_app, t_ind, t_sub, k_sort, k_of, k_dom}
use Rattle.mt_calculus.specs.SoundEnvironment.{SoundEnvironment}
use Rattle.mt_calculus.specs.SoundStore.{SoundStore}
use Rattle.mt_rules.specs.WeakHead.{whd}
use Rattle.mt_rules.specs.Comparison.{convert}
use Rattle.mt_rules.specs.Inference.{Family, a_sort, a_product, checked, agreed, may_eliminate, agrees, eliminated, infer, elimination, context_types}
use Rattle.mt_rules_laws.specs.ReductionLaws.{ReachedFrom}
use Rattle.mt_term.proofs.Subst.{tr_apps, meta_steady, ren_sub, ren_sub_all}
use Rattle.mt_calculus_laws.proofs.TransformedParts.{instantiated_tr, motive_tr}
use Rattle.mt_calculus_laws.proofs.Steps.{ClosedEnv}
use Rattle.mt_calculus_laws.proofs.Laws.{weakening}
use Rattle.mt_calculus_laws.proofs.Matching.{inductive_of, own_var, count_join, apps_join, BranchGoal, goal_here, goal_under, motive_type, spine_has, motive_apply}
use Rattle.mt_rules_laws.proofs.InferenceParts.{allowed_is, FamilyIs}
use Rattle.mt_calculus_laws.proofs.EnvironmentLaws.{closed_environment}
use Rattle.mt_rules_laws.proofs.ReductionTheorems.{weak_head_law, comparison_law, inference_law}
use Rattle.mt_rules_laws.proofs.Yields.{Yields, gives, refuses, then_yields, so_yields}
use Rattle.mt_unification_laws.proofs.Later.{reached_conv}

-- the parts that only look
pub sort_yields : (t : Tree) → Yields (a_sort t) (λ s. t ≡ Sort s)
sort_yields (Sort s) = gives (λ r. Sort s ≡ Sort r) s refl
sort_yields t = refuses (λ r. t ≡ Sort r) _

pub product_yields : (t : Tree) → Yields (a_product t) (λ p. t ≡ Prod p.name p.dom p.cod)
product_yields (Prod x a b) = gives (λ p. Prod x a b ≡ Prod p.name p.dom p.cod) _ refl
product_yields t = refuses (λ p. t ≡ Prod p.name p.dom p.cod) _

pub checked_yields : (b : Bool) → Yields (checked b) (λ z. b ≡ true)
checked_yields true = gives (λ z. true ≡ true) tt refl
checked_yields false = refuses (λ z. false ≡ true) _

pub head_yields : (E : Environment) (S : Store) (t : Tree) → Yields (whd E S t) (ReachedFrom E S t)
head_yields E S t n u l e = weak_head_law E S t u n l e

-- ---- elimination

module _ (E : Environment) (S : Store) where
  product_head : (t : Tree) → Yields (whd E S t >>= a_product) (λ p. Conv E S t (Prod p.name p.dom p.cod))
  product_head t =
      then_yields (ReachedFrom E S t) (λ p. Conv E S t (Prod p.name p.dom p.cod)) (whd E S t) a_product (head_yields E S t) (λ u r.
      so_yields (λ p. u ≡ Prod p.name p.dom p.cod) (λ p. Conv E S t (Prod p.name p.dom p.cod)) (a_product u) (λ p e. subst (Conv E S t) e (reached_conv E S r)) (product_yields u))

  sort_head : (t : Tree) → Yields (whd E S t >>= a_sort) (λ s. Conv E S t (Sort s))
  sort_head t =
      then_yields (ReachedFrom E S t) (λ s. Conv E S t (Sort s)) (whd E S t) a_sort (head_yields E S t) (λ u r.
      so_yields (λ s. u ≡ Sort s) (λ s. Conv E S t (Sort s)) (a_sort u) (λ s e. subst (Conv E S t) e (reached_conv E S r)) (sort_yields u))

  equal_yields : (Γ : List Hypothesis) (t u : Tree) → Yields (agrees E S Γ Equal t u) (λ z. Conv E S t u)
  equal_yields Γ t u = then_yields (λ b. b ≡ true → Conv E S t u) (λ z. Conv E S t u) (convert E S Equal t u) (agreed Γ t u) (λ n b l e g. comparison_law E S Equal t u n l (e ∙ ap (λ c. Done c l) g)) go
    where
      go : (b : Bool) → (b ≡ true → Conv E S t u) → Yields (agreed Γ t u b) (λ z. Conv E S t u)
      go true h = gives (λ z. Conv E S t u) tt (h refl)
      go false h = refuses (λ z. Conv E S t u) _

  -- a motive's type t fits the arity u of the type h
  abbrev Eliminates : Bool → Tree → Tree → Tree → AnySort → Type 0
  Eliminates large u h t s = (r : AnySort) × (M : Tree) × MotiveType s u h r M × Conv E S t M × Allowed r s large

  eliminated_yields : (Γ : List Hypothesis) (large : Bool) (u h t : Tree) → Yields (eliminated E S Γ large u h t) (Eliminates large u h t)
  eliminated_yields Γ large (Prod x a b) h t =
      then_yields (λ p. Conv E S t (Prod p.name p.dom p.cod)) (Eliminates large (Prod x a b) h t) (whd E S t >>= a_product) _ (product_head t) (λ p f.
      then_yields (λ z. Conv E S p.dom a) (Eliminates large (Prod x a b) h t) (agrees E S Γ Equal p.dom a) _ (equal_yields Γ p.dom a) (λ z g.
      let Δ = record { name = p.name; ty = p.dom } ∷ Γ in
      let h' = App (ren suc h) (Var zero) in
      so_yields (Eliminates large b h' p.cod) (Eliminates large (Prod x a b) h t) (eliminated E S Δ large b h' p.cod) (λ s i. (i.0, Prod x a i.1, m_more i.2, chain f (prods g i.3), i.4)) (eliminated_yields Δ large b h' p.cod)))
  eliminated_yields Γ large (Sort r) h t =
      then_yields (λ p. Conv E S t (Prod p.name p.dom p.cod)) (Eliminates large (Sort r) h t) (whd E S t >>= a_product) _ (product_head t) (λ p f.
      then_yields (λ z. Conv E S p.dom h) (Eliminates large (Sort r) h t) (agrees E S Γ Equal p.dom h) _ (equal_yields Γ p.dom h) (λ z g.
      then_yields (λ s. Conv E S p.cod (Sort s)) (Eliminates large (Sort r) h t) (whd E S p.cod >>= a_sort) _ (sort_head p.cod) (λ s k.
      then_yields (λ z. may_eliminate large r s ≡ true) (Eliminates large (Sort r) h t) (checked (may_eliminate large r s)) _ (checked_yields (may_eliminate large r s)) (λ z l.
      gives (Eliminates large (Sort r) h t) s (r, Prod [] h (Sort s), m_end, chain f (prods g k), allowed_is large r s l)))))
  eliminated_yields Γ large u h t = refuses (Eliminates large u h t) _

-- what elimination gives: the type of the motive
pub record Motive (E : Environment) (S : Store) (Γ : List Hypothesis) (f : Family) (R : Tree) (s : AnySort) : Type 0 where
  pub r : AnySort
  pub M : Tree
  pub is : MotiveType s f.arity (apps (Ind f.number) f.params) r M
  pub return : Holds E true S (context_types Γ) (Has R M)
  pub allowed : Allowed r s f.large

module _ (E : Environment) (env : SoundEnvironment E) (S : Store) (z : SoundStore E S) where
  closed : ClosedEnv E
  closed = closed_environment E env

  pub elimination_yields : (Γ : List Hypothesis) (f : Family) (R t : Tree) → FamilyIs E t f → Holds E true S (context_types Γ) IsContext → Holds E true S (context_types Γ) (IsType (apps (Ind f.number) (join f.params f.indices))) → Yields (elimination E S Γ f R) (Motive E S Γ f R)
  unfolding elimination
  elimination_yields Γ f R t q c ty =
      then_yields (λ u. Holds E true S (context_types Γ) (Has R u)) (Motive E S Γ f R) (infer E S Γ R) _ (λ n u l e. inference_law E env S z Γ R u n l c e) (λ u hr.
      so_yields (Eliminates E S f.large f.arity (apps (Ind f.number) f.params) u) (Motive E S Γ f R) (eliminated E S Γ f.large f.arity (apps (Ind f.number) f.params) u)
      (λ s el.
      let hs = spine_has E true closed S z.owned f.number q.name q.co f.large q.p q.ty f.constructors q.entry (context_types Γ) End f.params f.indices q.at at_none q.full ty (t_ind c (inductive_of q.entry)) in
      record { r = el.0; M = el.1; is = el.2; return = t_sub hr (conv el.3) (motive_type E true closed S z.owned (context_types Γ) el.2 c hs); allowed = el.4 })
      (eliminated_yields E S Γ f.large f.arity (apps (Ind f.number) f.params) u))

-- ---- branch bodies

motive_ren : {s r : AnySort} {U h M : Tree} (ξ : ℕ → ℕ) → MotiveType s U h r M → MotiveType s (ren ξ U) (ren ξ h) r (ren ξ M)
motive_ren {s = s} {r = r} {U = U} {h = h} {M = M} ξ m = subst₂ (λ a b. MotiveType s a b r (ren ξ M)) (ren_sub ξ U) (ren_sub ξ h) (subst (MotiveType s (sub (λ i. Var (ξ i)) U) (sub (λ i. Var (ξ i)) h) r) (ren_sub ξ M) (motive_tr Meta meta_steady (λ i. Var (ξ i)) m))

motive_full : {s r : AnySort} {U h M : Tree} (ξ : ℕ → ℕ) → MotiveType s U h r M → products (ren ξ U) ≡ products U
motive_full ξ m_end = refl
motive_full ξ (m_more m) = ap suc (motive_full (up_ren ξ) m)

module _ (E : Environment) (closed : ClosedEnv E) (S : Store) (own : Owned S) where
  under_variable : (Γ : List Tree) (x : Bytes) (A B h : Tree) → Holds E true S Γ IsContext → Holds E true S Γ (Has h (Prod x A B)) → Holds E true S (A ∷ Γ) (Has (App (ren suc h) (Var zero)) B)
  under_variable Γ x A B h c d =
      let a : Holds E true S Γ (IsType A) = k_dom (k_of d) in
      subst (λ V. Holds E true S (A ∷ Γ) (Has (App (ren suc h) (Var zero)) V)) (own_var B) (t_app (weakening E true closed S Γ A (Has h (Prod x A B)) own c a d) (t_var (c_cons c a) here))

  module _ (e : ℕ) (name : Bytes) (co large : Bool) (params : ℕ) (N : Tree) (cons : List Constructor) (g : slice_get (E.entries) e ≡ Some (Inductive name co params N cons large)) where
    inst_ren : (ξ : ℕ → ℕ) {T U : Tree} {ps : Trees} → Instantiated T ps U → Instantiated (ren ξ T) (ren_all ξ ps) (ren ξ U)
    inst_ren ξ {T = T} {U = U} {ps = ps} i = subst₂ (λ a b. Instantiated a b (ren ξ U)) (ren_sub ξ T) (ren_sub_all ξ ps) (subst (Instantiated (sub (λ j. Var (ξ j)) T) (tr_all Meta (λ j. Var (ξ j)) ps)) (ren_sub ξ U) (instantiated_tr Meta meta_steady (λ j. Var (ξ j)) i))

    type_ren : (ξ : ℕ → ℕ) → ren ξ N ≡ N
    type_ren ξ = sym (ren_sub ξ N) ∙ closed.types e (Inductive name co params N cons large) g Meta (λ i. Var (ξ i))

    head_ren : (ξ : ℕ → ℕ) (ps : Trees) → ren ξ (apps (Ind e) ps) ≡ apps (Ind e) (ren_all ξ ps)
    head_ren ξ ps = sym (ren_sub ξ (apps (Ind e) ps)) ∙ tr_apps Meta (λ i. Var (ξ i)) (Ind e) ps ∙ ap (apps (Ind e)) (ren_sub_all ξ ps)

    count_ren : (ξ : ℕ → ℕ) (ps : Trees) → count (ren_all ξ ps) ≡ count ps
    count_ren ξ End = refl
    count_ren ξ (Item t ps) = ap suc (count_ren ξ ps)

    -- the type that a branch body is to have is a type
    pub goal_type : {s r : AnySort} (p : ℕ) {q : ℕ} {xs : List Bytes} {U : Tree} {Γ : List Tree} {R c : Tree} (UT M : Tree) {V : Tree} {Δ : List Tree} {ps : Trees} → BranchGoal e q ps Γ R c U xs Δ V → count ps ≡ p → products UT ≡ q → p + q ≡ products N → Holds E true S Γ IsContext → Holds E true S Γ (Has R M) → Holds E true S Γ (Has c U)
        → Instantiated N ps UT → MotiveType s UT (apps (Ind e) ps) r M → Holds E true S Δ (IsType V)
    goal_type p UT M (goal_here {ps = ps} {Γ = Γ} {R = R} {c = c} us nq) np full whole cx hR hc i m =
        let hc' = subst (λ t. Holds E true S Γ (Has c t)) (sym (apps_join (Ind e) ps us)) hc in
        let all : count (join ps us) ≡ products N = count_join ps us ∙ omega (arith, np, nq, whole) in
        k_sort (motive_apply E true closed S own e name co large params N cons g Γ ps us R c m refl (full ∙ sym nq) i all (k_of hc') hc' hR)
    goal_type {s = s} {r = r} p UT M (goal_under {ps = ps} {Γ = Γ} {R = R} {c = c} {A = A} {B = B} {y = y} goal) np full whole cx hR hc i m =
        let a : Holds E true S Γ (IsType A) = k_dom (k_of hc) in
        let m' = subst (λ t. MotiveType s (ren suc UT) t r (ren suc M)) (head_ren suc ps) (motive_ren suc m) in
        let i' = subst (λ t. Instantiated t (ren_all suc ps) (ren suc UT)) (type_ren suc) (inst_ren suc i) in
        goal_type p (ren suc UT) (ren suc M) goal (count_ren suc ps ∙ np) (motive_full suc m ∙ full) whole (c_cons cx a) (weakening E true closed S Γ A (Has R M) own cx a hR) (under_variable Γ y A B c cx hc) i' m'
