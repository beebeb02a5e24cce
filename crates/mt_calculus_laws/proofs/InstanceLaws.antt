-- The instance of a term is what the images of the assigned metavariables make of it; so a sound store is sound by instances, and each judgement over it holds, as instance, over its instance.
use Rattle.std.proofs.Common.{Bool, true, false, true≢false, ◌≡◌, ◌<◌, ◌⊎◌, inl, inr, ℕ, zero, suc, List, [], ◌∷◌, Option, Some, None, refl, sym, ap, ap₂, ◌∙◌, subst, arith}
use Rattle.mt_term.specs.Trees.{Tree, Trees, Arms, Var, Sort, Prod, Lam, App, Const, Ind, Con, Match, Meta, End, Item, NoArm, Arm}
use Rattle.mt_term.specs.Substitution.{tr, tr_all, tr_arms, under}
use Rattle.mt_term.specs.Stores.{Declared, Store, AllMetas, AllMetasIn, AllMetasArms, Owned, body_of}
use Rattle.mt_calculus_laws.specs.Laws.{tr_context}
use Rattle.mt_term.specs.Instances.{InstanceOf, inst_var, inst_sort, inst_prod, inst_lam, inst_app, inst_const, inst_ind, inst_con, inst_match, inst_open, inst_assigned, InstanceAll, inst_end, inst_item, InstanceArms, inst_no_arm, inst_arm, InstanceContext, inst_empty, inst_hypothesis, OpenInstance, InstanceOfStore}
use Rattle.mt_term.proofs.Subst.{up_id, ups_id}
use Rattle.mt_term.proofs.ReachLaws.{weaker, RankedAll}
use Rattle.mt_calculus_laws.proofs.Images.{act_on, act, decl_tr}
use Rattle.mt_term.proofs.Options.{none_some, some_inj}
use Rattle.mt_calculus_laws.proofs.Instance.{Ranked, Shut, inst, inst_store, inst_open as open_is, inst_absent, inst_value, image_absent, inst_inv}

-- each metavariable is in the set of all
mutual
  any_metas : (t : Tree) → AllMetas (λ n. Unit {0}) t
  any_metas (Var i) = tt
  any_metas (Sort s) = tt
  any_metas (Prod x A B) = (any_metas A, any_metas B)
  any_metas (Lam x A b) = (any_metas A, any_metas b)
  any_metas (App f a) = (any_metas f, any_metas a)
  any_metas (Const c) = tt
  any_metas (Ind e) = tt
  any_metas (Con e k) = tt
  any_metas (Match e R c bs) = (any_metas R, any_metas c, any_metas_arms bs)
  any_metas (Meta n s) = (tt, any_metas_all s)

  any_metas_all : (s : Trees) → AllMetasIn (λ n. Unit {0}) s
  any_metas_all End = tt
  any_metas_all (Item t s) = (any_metas t, any_metas_all s)

  any_metas_arms : (bs : Arms) → AllMetasArms (λ n. Unit {0}) bs
  any_metas_arms NoArm = tt
  any_metas_arms (Arm xs b bs) = (any_metas b, any_metas_arms bs)

-- none is kept as it is
abbrev pub none_kept : ℕ → Bool
none_kept n = false

module _ (S : Store) (r : ℕ → ℕ) (own : Owned S) (all : RankedAll S r) where
  pub none_shut : Shut S none_kept
  none_shut n d p e = absurd (true≢false (sym p))

  falls : Ranked S r
  falls n d b e h = (all n d e).body b h

  abbrev pub image : ℕ → Trees → Tree
  image = act (inst S r none_kept)

  abbrev pub instance_store : Store
  instance_store = inst_store S r none_kept

  open_image : (n : ℕ) (s : Trees) → body_of (S.at n) ≡ None → image n s ≡ Meta n s
  open_image n s h = go (S.at n) refl h
    where
      go : (o : Option Declared) → S.at n ≡ o → body_of o ≡ None → image n s ≡ Meta n s
      go None e h = ap (λ i. act_on i s) (image_absent S r none_kept falls own none_shut n e)
      go (Some d) e h = ap (λ i. act_on i s) (open_is S r none_kept n d e h).0

  value_image : (n : ℕ) (s : Trees) (b : Tree) → body_of (S.at n) ≡ Some b → image n s ≡ under s (tr image Var b)
  value_image n s b h = go (S.at n) refl h
    where
      go : (o : Option Declared) → S.at n ≡ o → body_of o ≡ Some b → image n s ≡ under s (tr image Var b)
      go None e h = absurd (none_some h)
      go (Some d) e h = ap (λ i. act_on i s) (inst_value S r none_kept falls own none_shut n d b e h refl)

  -- the instance is what the images make
  mutual
    pub instance_is : {t u : Tree} → InstanceOf S t u → tr image Var t ≡ u
    instance_is inst_var = refl
    instance_is inst_sort = refl
    instance_is (inst_prod {x = x} {B = B} a b) = ap₂ (Prod x) (instance_is a) (ap (λ σ. tr image σ B) up_id ∙ instance_is b)
    instance_is (inst_lam {x = x} {b = B} a b) = ap₂ (Lam x) (instance_is a) (ap (λ σ. tr image σ B) up_id ∙ instance_is b)
    instance_is (inst_app f a) = ap₂ App (instance_is f) (instance_is a)
    instance_is inst_const = refl
    instance_is inst_ind = refl
    instance_is inst_con = refl
    instance_is (inst_match {e = e} p c bs) = λ i. Match e (instance_is p i) (instance_is c i) (instance_arms_is bs i)
    instance_is (inst_open {n = n} {s = s} h a) = open_image n (tr_all image Var s) h ∙ ap (Meta n) (instance_all_is a)
    instance_is (inst_assigned {n = n} {s = s} {b = b} h v a) = value_image n (tr_all image Var s) b h ∙ ap₂ under (instance_all_is a) (instance_is v)

    pub instance_all_is : {t u : Trees} → InstanceAll S t u → tr_all image Var t ≡ u
    instance_all_is inst_end = refl
    instance_all_is (inst_item a s) = ap₂ Item (instance_is a) (instance_all_is s)

    pub instance_arms_is : {t u : Arms} → InstanceArms S t u → tr_arms image Var t ≡ u
    instance_arms_is inst_no_arm = refl
    instance_arms_is (inst_arm {xs = xs} {b = b} a s) = ap₂ (Arm xs) (ap (λ σ. tr image σ b) (ups_id xs) ∙ instance_is a) (instance_arms_is s)

  pub instance_context_is : {Γ Δ : List Tree} → InstanceContext S Γ Δ → tr_context image Γ ≡ Δ
  instance_context_is inst_empty = refl
  instance_context_is (inst_hypothesis c a) = ap₂ ◌∷◌ (instance_is a) (instance_context_is c)

  -- and each term has one, where the bodies of what stands in it have one
  abbrev Valued : (ℕ → Type 0) → Type 0
  Valued P = (n : ℕ) → P n → (b : Tree) → body_of (S.at n) ≡ Some b → InstanceOf S b (tr image Var b)

  module _ (P : ℕ → Type 0) (h : Valued P) where
    meta_has : (n : ℕ) (s : Trees) → ((b : Tree) → body_of (S.at n) ≡ Some b → InstanceOf S b (tr image Var b)) → InstanceAll S s (tr_all image Var s) → (o : Option Tree) → body_of (S.at n) ≡ o → InstanceOf S (Meta n s) (image n (tr_all image Var s))
    meta_has n s v a None e = subst (InstanceOf S (Meta n s)) (sym (open_image n (tr_all image Var s) e)) (inst_open e a)
    meta_has n s v a (Some b) e = subst (InstanceOf S (Meta n s)) (sym (value_image n (tr_all image Var s) b e)) (inst_assigned e (v b e) a)

    mutual
      term_has : (t : Tree) → AllMetas P t → InstanceOf S t (tr image Var t)
      term_has (Var i) a = inst_var
      term_has (Sort s) a = inst_sort
      term_has (Prod x A B) a = inst_prod (term_has A a.0) (subst (λ σ. InstanceOf S B (tr image σ B)) (sym up_id) (term_has B a.1))
      term_has (Lam x A b) a = inst_lam (term_has A a.0) (subst (λ σ. InstanceOf S b (tr image σ b)) (sym up_id) (term_has b a.1))
      term_has (App f u) a = inst_app (term_has f a.0) (term_has u a.1)
      term_has (Const c) a = inst_const
      term_has (Ind e) a = inst_ind
      term_has (Con e k) a = inst_con
      term_has (Match e R c bs) a = inst_match (term_has R a.0) (term_has c a.1) (arms_have bs a.2)
      term_has (Meta n s) a = meta_has n s (h n a.0) (terms_have s a.1) (body_of (S.at n)) refl

      terms_have : (s : Trees) → AllMetasIn P s → InstanceAll S s (tr_all image Var s)
      terms_have End a = inst_end
      terms_have (Item t s) a = inst_item (term_has t a.0) (terms_have s a.1)

      arms_have : (bs : Arms) → AllMetasArms P bs → InstanceArms S bs (tr_arms image Var bs)
      arms_have NoArm a = inst_no_arm
      arms_have (Arm xs b bs) a = inst_arm (subst (λ σ. InstanceOf S b (tr image σ b)) (sym (ups_id xs)) (term_has b a.0)) (arms_have bs a.1)

  low_valued : (k : ℕ) → Valued (λ n. r n < k)
  low_valued zero n l b e = absurd (omega (arith, l))
  low_valued (suc k) n l b e = go (S.at n) refl e (λ a. term_has (λ m. r m < k) (low_valued k) b a)
    where
      go : (o : Option Declared) → S.at n ≡ o → body_of o ≡ Some b → (AllMetas (λ m. r m < k) b → InstanceOf S b (tr image Var b)) → InstanceOf S b (tr image Var b)
      go None g h ih = absurd (none_some h)
      go (Some d) g h ih = ih (weaker (λ m. r m < r n) (λ m. r m < k) (λ m q. omega (arith, q, l)) b ((all n d g).body b h))

  valued : Valued (λ n. Unit {0})
  valued n u b e = low_valued (suc (r n)) n (omega arith) b e

  pub has_instance : (t : Tree) → InstanceOf S t (tr image Var t)
  has_instance t = term_has (λ n. Unit {0}) valued t (any_metas t)

  pub context_has_instance : (Γ : List Tree) → InstanceContext S Γ (tr_context image Γ)
  context_has_instance [] = inst_empty
  context_has_instance (A ∷ Γ) = inst_hypothesis (context_has_instance Γ) (has_instance A)

  -- the store of the instances
  pub is_instance : InstanceOfStore S instance_store
  is_instance = record { absent = λ n e. inst_absent S r none_kept n e; assigned = gone; opened = kept }
    where
      gone : (n : ℕ) (d : Declared) (b : Tree) → S.at n ≡ Some d → d.body ≡ Some b → (instance_store).at n ≡ None
      gone n d b e h = go ((instance_store).at n) refl
        where
          go : (o : Option Declared) → (instance_store).at n ≡ o → (instance_store).at n ≡ None
          go None q = q
          go (Some c) q =
              let z = inst_inv S r none_kept falls own none_shut n c q in
              absurd (no_open z.0 z.1 z.3)
            where
              no_open : (a : Declared) → S.at n ≡ Some a → (false ≡ true) ⊎ (a.body ≡ None) → ⊥
              no_open a g (inl p) = true≢false (sym p)
              no_open a g (inr p) = none_some (sym p ∙ ap (λ (c : Declared). c.body) (some_inj (sym g ∙ e)) ∙ h)

      kept : (n : ℕ) (d : Declared) → S.at n ≡ Some d → d.body ≡ None → (c : Declared) × ((instance_store).at n ≡ Some c) × OpenInstance S d c
      kept n d e h = (decl_tr image d, (open_is S r none_kept n d e h).1, record { opened = ap (body_image) h; context = context_has_instance (d.context); ty = has_instance (d.ty) })
        where
          body_image : Option Tree → Option Tree
          body_image None = None
          body_image (Some b) = Some (tr image Var b)

  -- any other store of the instances has the same metavariables
  pub same_instance : (T : Store) → InstanceOfStore S T → (n : ℕ) (c : Declared) → (instance_store).at n ≡ Some c → T.at n ≡ Some c
  same_instance T i n c e = go (S.at n) refl
    where
      found : (d : Declared) → S.at n ≡ Some d → (o : Option Tree) → d.body ≡ o → T.at n ≡ Some c
      found d g (Some b) h = absurd (none_some (sym (is_instance.assigned n d b g h) ∙ e))
      found d g None h =
          let z = i.opened n d g h in
          let same : c ≡ decl_tr image d = some_inj (sym e ∙ (open_is S r none_kept n d g h).1) in
          let cs : tr_context image (d.context) ≡ (z.0).context = instance_context_is (z.2.context) in
          let ts : tr image Var (d.ty) ≡ (z.0).ty = instance_is (z.2.ty) in
          let bs : c.body ≡ (z.0).body = ap (λ (a : Declared). a.body) same ∙ ap body_image h ∙ sym (z.2.opened) in
          z.1 ∙ ap Some (sym (λ j. record { context = (ap (λ (a : Declared). a.context) same ∙ cs) j; ty = (ap (λ (a : Declared). a.ty) same ∙ ts) j; body = bs j }))
        where
          body_image : Option Tree → Option Tree
          body_image None = None
          body_image (Some b) = Some (tr image Var b)

      go : (o : Option Declared) → S.at n ≡ o → T.at n ≡ Some c
      go None g = absurd (none_some (sym (is_instance.absent n g) ∙ e))
      go (Some d) g = found d g (d.body) refl
