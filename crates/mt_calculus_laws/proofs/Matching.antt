-- What a match owes: the motive's type, the parameters and the branches.
use Rattle.std.proofs.Common.{max, Bool, ◌≡◌, ℕ, zero, suc, List, [], ◌∷◌, Some, refl, sym, ap, ◌∙◌, subst, subst₂, ◌+◌, arith, slice_get}
use mathlib.Core.Path.{fun_ext}
use Rattle.mt_term.proofs.Subst.{tr_apps, meta_steady, tr_ren, sub_id, ren_sub, ren_sub_all, one_shift}
use Rattle.mt_calculus_laws.proofs.TransformedParts.{instantiated_tr, motive_tr}
use Rattle.mt_calculus_laws.proofs.Steps.{ClosedEnv, conv_tr}
use Rattle.mt_calculus_laws.proofs.Follow.{meta_tracks}
use Rattle.mt_calculus_laws.proofs.Laws.{weakening}
use Rattle.mt_term.specs.Trees.{Tree, Trees, Bytes, Var, Sort, Prod, App, Ind, Con, Meta, End, Item}
use Rattle.mt_term.specs.declared.universes.UnivExpr.{UnivExpr}
use Rattle.mt_term.specs.declared.universes.Sort.TheVariants.{Prop, Typ}
use Rattle.mt_term.specs.Substitution.{up_ren, ren, ren_all, up, tr_all, sub, one, apps, all_but, join, count, products}
use Rattle.mt_term.specs.Declarations.{Constructor, Inductive, Environment}
use Rattle.mt_term.specs.Universes.{Valuation, value_of_atoms}
use Rattle.mt_term.specs.UniverseForms.{raised_atoms}
use Rattle.mt_term.specs.Stores.{Store, Owned}
use Rattle.mt_calculus.specs.Contraction.{InductiveOf}
use Rattle.mt_calculus.specs.Conversion.{Conv, AtMost, conv}
use Rattle.mt_calculus.specs.Typing.{here, IsContext, IsType, Has, Body, Raised, Instantiated, at_none, at_more, MotiveType, m_end, m_more, Holds, c_cons, t_var, t_prop, t_typ, t_app, b_more, b_done, t_sub, k_sort, k_of, k_prod, k_dom, k_param}
use Rattle.mt_term.specs.declared.universes.Atom.{Atom}
use Rattle.mt_term.specs.declared.universes.Sort.{Sort as AnySort}

-- lists of terms
abbrev pub snoc : Trees → Tree → Trees
snoc s a = join s (Item a End)

pub apps_snoc : (t : Tree) (s : Trees) (a : Tree) → apps t (snoc s a) ≡ App (apps t s) a
apps_snoc t End a = refl
apps_snoc t (Item b s) a = apps_snoc (App t b) s a

pub join_snoc : (s : Trees) (a : Tree) (r : Trees) → join (snoc s a) r ≡ join s (Item a r)
join_snoc End a r = refl
join_snoc (Item b s) a r = ap (Item b) (join_snoc s a r)

pub join_end : (s : Trees) → join s End ≡ s
join_end End = refl
join_end (Item b s) = ap (Item b) (join_end s)

pub apps_join : (t : Tree) (s r : Trees) → apps t (join s r) ≡ apps (apps t s) r
apps_join t End r = refl
apps_join t (Item a s) r = apps_join (App t a) s r

pub all_but_join : (p : ℕ) (s r : Trees) → count s ≡ p → all_but p (join s r) ≡ r
all_but_join zero End r h = refl
all_but_join zero (Item a s) r h = absurd (omega arith)
all_but_join (suc p) End r h = absurd (omega arith)
all_but_join (suc p) (Item a s) r h = all_but_join p s r (omega arith)

pub inst_snoc : {T : Tree} {s : Trees} {U : Tree} → Instantiated T s U → (x : Bytes) (A B a : Tree) → U ≡ Prod x A B → Instantiated T (snoc s a) (sub (one a) B)
inst_snoc (at_none {T = T}) x A B a e = subst (λ V. Instantiated V (Item a End) (sub (one a) B)) (sym e) (at_more at_none)
inst_snoc (at_more i) x A B a e = at_more (inst_snoc i x A B a e)

-- B under A, at its own variable
pub own_var : (B : Tree) → sub (one (Var zero)) (ren (up_ren suc) B) ≡ B
own_var B = tr_ren Meta (one (Var zero)) (up_ren suc) B ∙ ap (λ τ. sub τ B) (fun_ext go) ∙ sub_id B
  where
    go : (i : ℕ) → one (Var zero) (up_ren suc i) ≡ Var i
    go zero = refl
    go (suc i) = refl

-- the result of a constructor's type at the parameters ps, with q indices
pub data ConResult (e q : ℕ) : Trees → Tree → Type 0 where
  r_end : {ps : Trees} (us : Trees) → count us ≡ q → ConResult e q ps (apps (apps (Ind e) ps) us)
  r_more : {ps : Trees} {y : Bytes} {A B : Tree} → ConResult e q (ren_all suc ps) B → ConResult e q ps (Prod y A B)

-- A branch goes in, argument by argument: from the parameters, a context, a motive and the constructor on what is bound so far, by the rest of its type and the names, to the context of its body and the type that it is to have; the constructor's result has q indices.
pub data BranchGoal (e q : ℕ) : Trees → List Tree → Tree → Tree → Tree → List Bytes → List Tree → Tree → Type 0 where
  goal_here : {ps : Trees} {Γ : List Tree} {R c : Tree} (us : Trees) → count us ≡ q → BranchGoal e q ps Γ R c (apps (apps (Ind e) ps) us) [] Γ (App (apps R us) c)
  goal_under : {ps : Trees} {Γ Δ : List Tree} {R c A B V : Tree} {x y : Bytes} {xs : List Bytes} → BranchGoal e q (ren_all suc ps) (A ∷ Γ) (ren suc R) (App (ren suc c) (Var zero)) B xs Δ V → BranchGoal e q ps Γ R c (Prod y A B) (x ∷ xs) Δ V

motive_products : {s : AnySort} {U h : Tree} {r : AnySort} {M : Tree} → MotiveType s U h r M → (σ : ℕ → Tree) → products (sub σ U) ≡ products U
motive_products m_end σ = refl
motive_products (m_more m) σ = ap suc (motive_products m (up σ))

motive_ren : {s r : AnySort} {U h M : Tree} (ξ : ℕ → ℕ) → MotiveType s U h r M → MotiveType s (ren ξ U) (ren ξ h) r (ren ξ M)
motive_ren {s = s} {r = r} {U = U} {h = h} {M = M} ξ m = subst₂ (λ a b. MotiveType s a b r (ren ξ M)) (ren_sub ξ U) (ren_sub ξ h) (subst (MotiveType s (sub (λ i. Var (ξ i)) U) (sub (λ i. Var (ξ i)) h) r) (ren_sub ξ M) (motive_tr Meta meta_steady (λ i. Var (ξ i)) m))

-- the expression of the values one higher
raised_value : (v : Valuation) (a : Atom) (rest : List Atom) → value_of_atoms v (raised_atoms (a ∷ rest)) ≡ suc (value_of_atoms v (a ∷ rest))
raised_value v a [] = omega arith
raised_value v a (b ∷ rest) = let ih = raised_value v b rest in omega (arith, ih)

pub raised_is : (U : UnivExpr) → Raised U (record { base = U.base + 1; atoms = raised_atoms (U.atoms) })
raised_is U v = go (U.atoms)
  where
    go : (rest : List Atom) → max (U.base + 1) (value_of_atoms v (raised_atoms rest)) ≡ suc (max (U.base) (value_of_atoms v rest))
    go [] = omega arith
    go (a ∷ rest) = let e = raised_value v a rest in omega (arith, e)

pub count_join : (s r : Trees) → count (join s r) ≡ count s + count r
count_join End r = omega arith
count_join (Item t s) r = ap suc (count_join s r) ∙ omega arith

-- an inductive type by its entry
abbrev pub inductive_of : {E : Environment} {e : ℕ} {x : Bytes} {co l : Bool} {p : ℕ} {T : Tree} {cs : List Constructor} → slice_get (E.entries) e ≡ Some (Inductive x co p T cs l) → InductiveOf E e
inductive_of {x = x} {co = co} {l = l} {p = p} {T = T} {cs = cs} g = record { name = x; co = co; params = p; ty = T; cons = cs; large = l; entry = g }

module _ (E : Environment) (free : Bool) (closed : ClosedEnv E) (S : Store) (own : Owned S) where
  -- a term on arguments that a type of its head takes
  under_var : (Γ : List Tree) (x : Bytes) (A B h : Tree) → Holds E free S Γ IsContext → Holds E free S Γ (Has h (Prod x A B)) → Holds E free S (A ∷ Γ) (Has (App (ren suc h) (Var zero)) B)
  under_var Γ x A B h c d =
      let a : Holds E free S Γ (IsType A) = k_dom (k_of d) in
      subst (λ V. Holds E free S (A ∷ Γ) (Has (App (ren suc h) (Var zero)) V)) (own_var B) (t_app (weakening E free closed S Γ A (Has h (Prod x A B)) own c a d) (t_var (c_cons c a) here))

  -- the motive's type is a type
  pub motive_type : {s : AnySort} (Γ : List Tree) {U h : Tree} {r : AnySort} {M : Tree} → MotiveType s U h r M → Holds E free S Γ IsContext → Holds E free S Γ (Has h U) → Holds E free S Γ (IsType M)
  motive_type {s = s} Γ (m_end {h = h}) c d = k_prod (k_sort d) (sort_type (h ∷ Γ) s (c_cons c (k_sort d)))
    where
      sort_type : (Δ : List Tree) (s : AnySort) → Holds E free S Δ IsContext → Holds E free S Δ (IsType (Sort s))
      sort_type Δ Prop c = k_sort (t_prop c)
      sort_type Δ (Typ U) c = k_sort (t_typ c (raised_is U))
  motive_type Γ (m_more {x = x} {A = A} {B = B} {h = h} m) c d = k_prod (k_dom (k_of d)) (motive_type (A ∷ Γ) m (c_cons c (k_dom (k_of d))) (under_var Γ x A B h c d))

  module _ (e : ℕ) (name : Bytes) (co large : Bool) (params : ℕ) (N : Tree) (cons : List Constructor) (g : slice_get (E.entries) e ≡ Some (Inductive name co params N cons large)) where
    -- e on arguments has its type at them
    pub spine_has : (Γ : List Tree) (s r is : Trees) {U V : Tree} → Instantiated U r V → Instantiated N s U → count (join s (join r is)) ≡ products N → Holds E free S Γ (IsType (apps (Ind e) (join s (join r is)))) → Holds E free S Γ (Has (apps (Ind e) s) U) → Holds E free S Γ (Has (apps (Ind e) (join s r)) V)
    spine_has Γ s r is (at_none {T = T}) i full d h = subst (λ q. Holds E free S Γ (Has (apps (Ind e) q) T)) (sym (join_end s)) h
    spine_has Γ s r is (at_more {x = x} {A = A} {B = B} {a = a} {T = V} {s = r'} j) i full d h =
        let ha : Holds E free S Γ (Has a A) = k_param e (join r' is) d (inductive_of g) full i in
        let h' = subst (λ t. Holds E free S Γ (Has t (sub (one a) B))) (sym (apps_snoc (Ind e) s a)) (t_app h ha) in
        let d' = subst (λ q. Holds E free S Γ (IsType (apps (Ind e) q))) (sym (join_snoc s a (join r' is))) d in
        subst (λ q. Holds E free S Γ (Has (apps (Ind e) q) V)) (join_snoc s a r') (spine_has Γ (snoc s a) r' is j (inst_snoc i x A B a refl) (ap count (join_snoc s a (join r' is)) ∙ full) d' h')

    -- a motive on indices and a term of e on them
    pub motive_apply : {s : AnySort} (Γ : List Tree) (s0 us : Trees) {U h : Tree} {r : AnySort} {M : Tree} (R c : Tree) → MotiveType s U h r M → h ≡ apps (Ind e) s0 → products U ≡ count us → Instantiated N s0 U → count (join s0 us) ≡ products N → Holds E free S Γ (IsType (apps (Ind e) (join s0 us))) → Holds E free S Γ (Has c (apps (Ind e) (join s0 us))) → Holds E free S Γ (Has R M) → Holds E free S Γ (Has (App (apps R us) c) (Sort s))
    motive_apply Γ s0 End R c m_end eh n i full d hc hR = t_app hR (subst (λ t. Holds E free S Γ (Has c t)) (ap (apps (Ind e)) (join_end s0) ∙ sym eh) hc)
    motive_apply Γ s0 End R c (m_more m) eh n i full d hc hR = absurd (omega arith)
    motive_apply Γ s0 (Item a us) R c m_end eh n i full d hc hR = absurd (omega arith)
    motive_apply {s = s} Γ s0 (Item a us) R c (m_more {x = x} {A = A} {B = B} {h = h} {M = M} {r = r} m) eh n' i full d hc hR =
        let ha : Holds E free S Γ (Has a A) = k_param e us d (inductive_of g) full i in
        let m' = subst (λ t. MotiveType s (sub (one a) B) t r (sub (one a) M)) (ap (λ t. App t a) (one_shift a h)) (motive_tr Meta meta_steady (one a) m) in
        let q : products (sub (one a) B) ≡ count us = motive_products m (one a) ∙ omega arith in
        let eq : App h a ≡ apps (Ind e) (snoc s0 a) = ap (λ t. App t a) eh ∙ sym (apps_snoc (Ind e) s0 a) in
        motive_apply Γ (snoc s0 a) us (App R a) c m' eq q (inst_snoc i x A B a refl) (ap count (join_snoc s0 a us) ∙ full)
        (subst (λ t. Holds E free S Γ (IsType (apps (Ind e) t))) (sym (join_snoc s0 a us)) d) (subst (λ t. Holds E free S Γ (Has c (apps (Ind e) t))) (sym (join_snoc s0 a us)) hc) (t_app hR ha)

    inst_ren : (ξ : ℕ → ℕ) {T U : Tree} {ps : Trees} → Instantiated T ps U → Instantiated (ren ξ T) (ren_all ξ ps) (ren ξ U)
    inst_ren ξ {T = T} {U = U} {ps = ps} i = subst₂ (λ a b. Instantiated a b (ren ξ U)) (ren_sub ξ T) (ren_sub_all ξ ps) (subst (Instantiated (sub (λ j. Var (ξ j)) T) (tr_all Meta (λ j. Var (ξ j)) ps)) (ren_sub ξ U) (instantiated_tr Meta meta_steady (λ j. Var (ξ j)) i))

    type_ren : (ξ : ℕ → ℕ) → ren ξ N ≡ N
    type_ren ξ = sym (ren_sub ξ N) ∙ closed.types e (Inductive name co params N cons large) g Meta (λ i. Var (ξ i))

    head_ren : (ξ : ℕ → ℕ) (ps : Trees) → ren ξ (apps (Ind e) ps) ≡ apps (Ind e) (ren_all ξ ps)
    head_ren ξ ps = sym (ren_sub ξ (apps (Ind e) ps)) ∙ tr_apps Meta (λ i. Var (ξ i)) (Ind e) ps ∙ ap (apps (Ind e)) (ren_sub_all ξ ps)

    motive_full : {s : AnySort} {U h : Tree} {r : AnySort} {M : Tree} (ξ : ℕ → ℕ) → MotiveType s U h r M → products (ren ξ U) ≡ products U
    motive_full {U = U} ξ m = ap products (sym (ren_sub ξ U)) ∙ motive_products m (λ i. Var (ξ i))

    count_ren : (ξ : ℕ → ℕ) (ps : Trees) → count (ren_all ξ ps) ≡ count ps
    count_ren ξ End = refl
    count_ren ξ (Item t ps) = ap suc (count_ren ξ ps)

    -- a branch
    pub body_holds : {s r : AnySort} (p : ℕ) {q : ℕ} {xs : List Bytes} {U : Tree} {Γ : List Tree} {R c : Tree} (UT M : Tree) {V : Tree} (b T : Tree) {Δ : List Tree} {ps : Trees} → BranchGoal e q ps Γ R c U xs Δ V → count ps ≡ p → products UT ≡ q → p + q ≡ products N → Holds E free S Γ IsContext → Holds E free S Γ (Has R M) → Holds E free S Γ (Has c U) → Instantiated N ps UT → MotiveType s UT (apps (Ind e) ps) r M
        → (Holds E free S Δ IsContext → Holds E free S Δ (Has b T)) → AtMost E S T V → Holds E free S Γ (Body e p R c U xs b)
    body_holds {s = s} p UT M b T (goal_here {ps = ps} {Γ = Γ} {R = R} {c = c} us nq) np full whole cx hR hc i m ih le =
        let hc' = subst (λ t. Holds E free S Γ (Has c t)) (sym (apps_join (Ind e) ps us)) hc in
        let all : count (join ps us) ≡ products N = count_join ps us ∙ omega (arith, np, nq, whole) in
        let hV = motive_apply Γ ps us R c m refl (full ∙ sym nq) i all (k_of hc') hc' hR in
        b_done ps us np (t_sub (ih cx) le (k_sort hV))
    body_holds {s = s} {r = r} p UT M b T (goal_under {ps = ps} {Γ = Γ} {R = R} {c = c} {A = A} {B = B} {y = y} goal) np full whole cx hR hc i m ih le =
        let a : Holds E free S Γ (IsType A) = k_dom (k_of hc) in
        let m' = subst (λ t. MotiveType s (ren suc UT) t r (ren suc M)) (head_ren suc ps) (motive_ren suc m) in
        let i' = subst (λ t. Instantiated t (ren_all suc ps) (ren suc UT)) (type_ren suc) (inst_ren suc i) in
        b_more a (body_holds p (ren suc UT) (ren suc M) b T goal (count_ren suc ps ∙ np) (motive_full suc m ∙ full) whole (c_cons cx a) (weakening E free closed S Γ A (Has R M) own cx a hR) (under_var Γ y A B c cx hc) i' m' ih le)

-- the first p products of two types have convertible domains
pub data SamePrefix (E : Environment) (S : Store) : ℕ → Tree → Tree → Type 0 where
  sp_zero : {T C : Tree} → SamePrefix E S zero T C
  sp_suc : {p : ℕ} {x y : Bytes} {A A' B D : Tree} → Conv E S A A' → SamePrefix E S p B D → SamePrefix E S (suc p) (Prod x A B) (Prod y A' D)

module _ (E : Environment) (free : Bool) (closed : ClosedEnv E) (S : Store) where
  sp_sub : (σ : ℕ → Tree) {p : ℕ} {T C : Tree} → SamePrefix E S p T C → SamePrefix E S p (sub σ T) (sub σ C)
  sp_sub σ sp_zero = sp_zero
  sp_sub σ (sp_suc c h) = sp_suc (conv_tr E closed S Meta S (meta_tracks E S) c σ) (sp_sub (up σ) h)

  module _ (e : ℕ) (name : Bytes) (co large : Bool) (params : ℕ) (N : Tree) (cons : List Constructor) (g : slice_get (E.entries) e ≡ Some (Inductive name co params N cons large)) where
    -- a constructor on parameters has its type at them
    pub con_has : (k : ℕ) (Γ : List Tree) (s is : Trees) {r : Trees} {U V Z W : Tree} → Instantiated U r V → Instantiated Z r W → SamePrefix E S (count r) U Z → Instantiated N s U → count (join s (join r is)) ≡ products N → Holds E free S Γ (IsType (apps (Ind e) (join s (join r is)))) → Holds E free S Γ (Has (apps (Con e k) s) Z) → Holds E free S Γ (Has (apps (Con e k) (join s r)) W)
    con_has k Γ s is at_none (at_none {T = W}) sp i full d h = subst (λ q. Holds E free S Γ (Has (apps (Con e k) q) W)) (sym (join_end s)) h
    con_has k Γ s is (at_more {x = x} {A = A} {B = B} {a = a} {s = r'} j) (at_more {A = C} {B = D} {T = W} j') (sp_suc c sp) i full d h =
        let ha : Holds E free S Γ (Has a A) = k_param e (join r' is) d (inductive_of g) full i in
        let hd : Holds E free S Γ (Has a C) = t_sub ha (conv c) (k_dom (k_of h)) in
        let h' = subst (λ t. Holds E free S Γ (Has t (sub (one a) D))) (sym (apps_snoc (Con e k) s a)) (t_app h hd) in
        let d' = subst (λ q. Holds E free S Γ (IsType (apps (Ind e) q))) (sym (join_snoc s a (join r' is))) d in
        subst (λ q. Holds E free S Γ (Has (apps (Con e k) q) W)) (join_snoc s a r') (con_has k Γ (snoc s a) is j j' (sp_sub (one a) sp) (inst_snoc i x A B a refl) (ap count (join_snoc s a (join r' is)) ∙ full) d' h')
