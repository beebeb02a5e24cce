-- The instance of a store with bodies, and its trace.
use Rattle.std.proofs.Common.{Bool, false, true, ◌≡◌, ℕ, zero, suc, List, Option, Some, None, refl, sym, ap, ap₂, ◌∙◌, subst, subst₂, ◌≤◌, ◌<◌, arith, ◌⊎◌, inl, inr}
use Rattle.mt_calculus_laws.proofs.Agree.{both_metas, tr_agree, tr_metas, context_metas}
use Rattle.mt_calculus_laws.proofs.Images.{some_of, is_some_at, under_metas, Image, Num, Put, act_on, act, decl_tr, Wrap, lets_metas}
use Rattle.mt_term.proofs.Options.{none_some, some_inj}
use Rattle.mt_calculus_laws.proofs.Renames.{body_inv}
use Rattle.mt_calculus_laws.proofs.Exchange.{NotPut, steps_tr, red_under}
use Rattle.mt_calculus_laws.proofs.Follow.{act_terms, lets_done}
use Rattle.mt_calculus_laws.proofs.Steps.{ClosedEnv, Reduces, done, also}
use Rattle.mt_term.specs.Trees.{Tree, Trees, Var, Meta}
use Rattle.mt_term.specs.Substitution.{tr, under, count}
use Rattle.mt_term.specs.Declarations.{Environment}
use Rattle.mt_term.specs.Stores.{Declared, Store, AllMetas, AllMetasIn, AllMetasHeld, InStore, Owned}
use Rattle.mt_calculus.specs.Contraction.{ContractsIn}
use Rattle.mt_calculus_laws.specs.Laws.{tr_context}

-- a number that falls from a metavariable to those of its body: so none is below itself
abbrev pub Ranked : Store → (ℕ → ℕ) → Type 0
Ranked S r = (n : ℕ) (d : Declared) (b : Tree) → S.at n ≡ Some d → d.body ≡ Some b → AllMetas (λ m. r m < r n) b

abbrev pub choose : {A : Type 0} → Bool → A → A → A
choose true x y = x
choose false x y = y

-- a set that holds what the declarations of its members mention
abbrev pub Shut : Store → (ℕ → Bool) → Type 0
Shut S P = (n : ℕ) (d : Declared) → P n ≡ true → S.at n ≡ Some d → AllMetasHeld (λ m. P m ≡ true) d

-- P: the ones that are kept as they are
module _ (S : Store) (r : ℕ → ℕ) (P : ℕ → Bool) where
  abbrev inst_body : (ℕ → Trees → Tree) → ℕ → Option Tree → Image
  inst_body g n None = Num n
  inst_body g n (Some b) = choose (P n) (Num n) (Put (tr g Var b))

  abbrev inst_decl : (ℕ → Trees → Tree) → ℕ → Option Declared → Image
  inst_decl g n None = Num n
  inst_decl g n (Some d) = inst_body g n (d.body)

  abbrev inst_to : ℕ → ℕ → Image
  inst_to zero n = Num n
  inst_to (suc k) n = inst_decl (act (inst_to k)) n (S.at n)

  -- an open n is itself, an assigned one the instance of its body
  abbrev pub inst : ℕ → Image
  inst n = inst_to (suc (r n)) n

  abbrev open_body : Bool → Declared → Option Tree → Option Declared
  open_body p d None = Some (decl_tr (act inst) d)
  open_body p d (Some b) = choose p (Some (decl_tr (act inst) d)) None

  abbrev open_of : Bool → Option Declared → Option Declared
  open_of p None = None
  open_of p (Some d) = open_body p d (d.body)

  inst_none : (n : ℕ) → S.bound ≤ n → open_of (P n) (S.at n) ≡ None
  inst_none n h = ap (open_of (P n)) (S.none n h)

  -- the open ones, with the instances of their contexts and types
  pub inst_store : Store
  inst_store = record { at = λ n. open_of (P n) (S.at n); bound = S.bound; none = inst_none }

  pub inst_at : (n : ℕ) → inst_store.at n ≡ open_of (P n) (S.at n)
  unfolding inst_store
  inst_at n = refl

  pub inst_open : (n : ℕ) (d : Declared) → S.at n ≡ Some d → d.body ≡ None → (inst n ≡ Num n) × (inst_store.at n ≡ Some (decl_tr (act inst) d))
  inst_open n d e h = (ap (inst_decl (act (inst_to (r n))) n) e ∙ ap (inst_body (act (inst_to (r n))) n) h, inst_at n ∙ ap (open_of (P n)) e ∙ ap (open_body (P n) d) h)

  pub inst_absent : (n : ℕ) → S.at n ≡ None → inst_store.at n ≡ None
  inst_absent n e = inst_at n ∙ ap (open_of (P n)) e

  -- a kept one
  pub inst_kept : (n : ℕ) (d : Declared) → S.at n ≡ Some d → P n ≡ true → inst_store.at n ≡ Some (decl_tr (act inst) d)
  inst_kept n d e p = inst_at n ∙ ap₂ open_of p e ∙ go (d.body)
    where
      go : (b : Option Tree) → open_body true d b ≡ Some (decl_tr (act inst) d)
      go None = refl
      go (Some b) = refl

  pub kept_num : (n : ℕ) → P n ≡ true → inst n ≡ Num n
  kept_num n p = go (S.at n)
    where
      g : ℕ → Trees → Tree
      g = act (inst_to (r n))

      go_body : (b : Option Tree) → inst_body g n b ≡ Num n
      go_body None = refl
      go_body (Some b) = ap (λ q. choose q (Num n) (Put (tr g Var b))) p

      go : (o : Option Declared) → inst_decl g n o ≡ Num n
      go None = refl
      go (Some d) = go_body (d.body)

  pub not_kept : (n : ℕ) (d : Declared) (b : Tree) → S.at n ≡ Some d → d.body ≡ Some b → P n ≡ false → (inst n ≡ Put (tr (act (inst_to (r n))) Var b)) × (inst_store.at n ≡ None)
  not_kept n d b e h p =
      let g : ℕ → Trees → Tree = act (inst_to (r n)) in
      (ap (inst_decl g n) e ∙ ap (inst_body g n) h ∙ ap (λ q. choose q (Num n) (Put (tr g Var b))) p, inst_at n ∙ ap₂ open_of p e ∙ ap (open_body false d) h)

  module _ (ranked : Ranked S r) (own : Owned S) (shut : Shut S P) where
    stable : (k j n : ℕ) → r n < k → r n < j → inst_to k n ≡ inst_to j n
    stable zero j n h g = absurd (omega arith)
    stable (suc k) zero n h g = absurd (omega arith)
    stable (suc k) (suc j) n h g = go (λ m a b. stable k j m a b) (S.at n) refl
      where
        go_body : ((m : ℕ) → r m < k → r m < j → inst_to k m ≡ inst_to j m) → (d : Declared) → S.at n ≡ Some d → (b : Option Tree) → d.body ≡ b → inst_body (act (inst_to k)) n b ≡ inst_body (act (inst_to j)) n b
        go_body ih d e None q = refl
        go_body ih d e (Some b) q = ap (λ v. choose (P n) (Num n) (Put v)) (tr_agree (λ m. r m < r n) (act (inst_to k)) (act (inst_to j)) (λ m s l. ap (λ i. act_on i s) (ih m (omega arith) (omega arith))) Var b (ranked n d b e q))

        go : ((m : ℕ) → r m < k → r m < j → inst_to k m ≡ inst_to j m) → (o : Option Declared) → S.at n ≡ o → inst_decl (act (inst_to k)) n o ≡ inst_decl (act (inst_to j)) n o
        go ih None e = refl
        go ih (Some d) e = go_body ih d e (d.body) refl

    pub inst_value : (n : ℕ) (d : Declared) (b : Tree) → S.at n ≡ Some d → d.body ≡ Some b → P n ≡ false → inst n ≡ Put (tr (act inst) Var b)
    inst_value n d b e h p =
        let g : ℕ → Trees → Tree = act (inst_to (r n)) in
        (not_kept n d b e h p).0 ∙ ap Put (tr_agree (λ m. r m < r n) g (act inst) (λ m s l. ap (λ i. act_on i s) (stable (r n) (suc (r m)) m l (omega arith))) Var b (ranked n d b e h))

    cases : (b : Bool) → (b ≡ true) ⊎ (b ≡ false)
    cases true = inl refl
    cases false = inr refl

    -- what stands in an instance
    metas_to : (k n : ℕ) (s : Trees) → r n < k → InStore S n → AllMetasIn (InStore inst_store) s → AllMetas (InStore inst_store) (act (inst_to k) n s)
    metas_to zero n s l p q = absurd (omega arith)
    metas_to (suc k) n s l p q = let z = some_of (S.at n) p in subst (λ o. AllMetas (InStore inst_store) (act_on (inst_decl (act (inst_to k)) n o) s)) (sym z.1) (go (λ m t l a b. metas_to k m t l a b) z.0 z.1 (z.0.body) refl)
      where
        in_value : ((m : ℕ) (t : Trees) → r m < k → InStore S m → AllMetasIn (InStore inst_store) t → AllMetas (InStore inst_store) (act (inst_to k) m t)) → (d : Declared) → S.at n ≡ Some d → (b : Tree) → d.body ≡ Some b → (P n ≡ true) ⊎ (P n ≡ false) → AllMetas (InStore inst_store) (act_on (inst_body (act (inst_to k)) n (Some b)) s)
        in_value ih d e b h (inl x) = subst (λ i. AllMetas (InStore inst_store) (act_on i s)) (sym (ap (λ y. choose y (Num n) (Put (tr (act (inst_to k)) Var b))) x)) (is_some_at (inst_kept n d e x), q)
        in_value ih d e b h (inr x) =
            let w = own n d e in
            let a : AllMetas (λ m. InStore S m × r m < k) b = both_metas (InStore S) (λ m. r m < r n) (λ m. InStore S m × r m < k) (λ m x y. (x, omega arith)) b (w.body b h) (ranked n d b e h) in
            subst (λ i. AllMetas (InStore inst_store) (act_on i s)) (sym (ap (λ y. choose y (Num n) (Put (tr (act (inst_to k)) Var b))) x))
            (under_metas (InStore inst_store) s (tr (act (inst_to k)) Var b) q (tr_metas (λ m. InStore S m × r m < k) (InStore inst_store) (act (inst_to k)) (λ m t x y. ih m t x.1 x.0 y) Var (λ i. tt) b a))

        go : ((m : ℕ) (t : Trees) → r m < k → InStore S m → AllMetasIn (InStore inst_store) t → AllMetas (InStore inst_store) (act (inst_to k) m t)) → (d : Declared) → S.at n ≡ Some d → (b : Option Tree) → d.body ≡ b → AllMetas (InStore inst_store) (act_on (inst_body (act (inst_to k)) n b) s)
        go ih d e None h = (is_some_at (inst_open n d e h).1, q)
        go ih d e (Some b) h = in_value ih d e b h (cases (P n))

    pub inst_metas : (n : ℕ) (s : Trees) → InStore S n → AllMetasIn (InStore inst_store) s → AllMetas (InStore inst_store) (act inst n s)
    inst_metas n s p q = metas_to (suc (r n)) n s (omega arith) p q

    decl_metas : (n : ℕ) (d : Declared) → S.at n ≡ Some d → AllMetasHeld (InStore inst_store) (decl_tr (act inst) d)
    decl_metas n d e = record { context = context_metas (InStore S) (InStore inst_store) (act inst) inst_metas (d.context) a.context; ty = tr_metas (InStore S) (InStore inst_store) (act inst) inst_metas Var (λ i. tt) (d.ty) a.ty; body = λ c k. let z = body_inv (act inst) (d.body) c k in subst (AllMetas (InStore inst_store)) z.2 (tr_metas (InStore S) (InStore inst_store) (act inst) inst_metas Var (λ i. tt) z.0 (a.body z.0 z.1)) }
      where
        a : AllMetasHeld (InStore S) d
        a = own n d e

    pub inst_inv : (n : ℕ) (c : Declared) → inst_store.at n ≡ Some c → (d : Declared) × (S.at n ≡ Some d) × (c ≡ decl_tr (act inst) d) × ((P n ≡ true) ⊎ (d.body ≡ None))
    inst_inv n c e = go (P n) (S.at n) refl refl (sym (inst_at n) ∙ e)
      where
        go_body : (p : Bool) → P n ≡ p → (d : Declared) → S.at n ≡ Some d → (b : Option Tree) → d.body ≡ b → open_body p d b ≡ Some c → (d : Declared) × (S.at n ≡ Some d) × (c ≡ decl_tr (act inst) d) × ((P n ≡ true) ⊎ (d.body ≡ None))
        go_body p x d g None h q = (d, g, sym (some_inj q), inr h)
        go_body true x d g (Some b) h q = (d, g, sym (some_inj q), inl x)
        go_body false x d g (Some b) h q = absurd (none_some q)

        go : (p : Bool) (o : Option Declared) → P n ≡ p → S.at n ≡ o → open_of p o ≡ Some c → (d : Declared) × (S.at n ≡ Some d) × (c ≡ decl_tr (act inst) d) × ((P n ≡ true) ⊎ (d.body ≡ None))
        go p None x g q = absurd (none_some q)
        go p (Some d) x g q = go_body p x d g (d.body) refl q

    pub inst_owned : Owned inst_store
    inst_owned n c e = let z = inst_inv n c e in subst (AllMetasHeld (InStore inst_store)) (sym z.2) (decl_metas n z.0 z.1)

    pub image_absent : (n : ℕ) → S.at n ≡ None → inst n ≡ Num n
    image_absent n e = ap (inst_decl (act (inst_to (r n))) n) e

    -- The trace: an assigned n is its body behind an abstraction over each term.
    abbrev trace_body : (ℕ → Trees → Tree) → ℕ → Declared → Option Tree → Image
    trace_body g n d None = Num n
    trace_body g n d (Some b) = choose (P n) (Num n) (Wrap (tr_context (act inst) (d.context)) (tr g Var b))

    abbrev trace_decl : (ℕ → Trees → Tree) → ℕ → Option Declared → Image
    trace_decl g n None = Num n
    trace_decl g n (Some d) = trace_body g n d (d.body)

    abbrev trace_to : ℕ → ℕ → Image
    trace_to zero n = inst n
    trace_to (suc k) n = trace_decl (act (trace_to k)) n (S.at n)

    abbrev pub trace : ℕ → Image
    trace n = trace_to (suc (r n)) n

    trace_stable : (k j n : ℕ) → r n < k → r n < j → trace_to k n ≡ trace_to j n
    trace_stable zero j n h g = absurd (omega arith)
    trace_stable (suc k) zero n h g = absurd (omega arith)
    trace_stable (suc k) (suc j) n h g = go (λ m a b. trace_stable k j m a b) (S.at n) refl
      where
        go_body : ((m : ℕ) → r m < k → r m < j → trace_to k m ≡ trace_to j m) → (d : Declared) → S.at n ≡ Some d → (b : Option Tree) → d.body ≡ b → trace_body (act (trace_to k)) n d b ≡ trace_body (act (trace_to j)) n d b
        go_body ih d e None q = refl
        go_body ih d e (Some b) q = ap (λ v. choose (P n) (Num n) (Wrap (tr_context (act inst) (d.context)) v)) (tr_agree (λ m. r m < r n) (act (trace_to k)) (act (trace_to j)) (λ m s l. ap (λ i. act_on i s) (ih m (omega arith) (omega arith))) Var b (ranked n d b e q))

        go : ((m : ℕ) → r m < k → r m < j → trace_to k m ≡ trace_to j m) → (o : Option Declared) → S.at n ≡ o → trace_decl (act (trace_to k)) n o ≡ trace_decl (act (trace_to j)) n o
        go ih None e = refl
        go ih (Some d) e = go_body ih d e (d.body) refl

    pub trace_open : (n : ℕ) (d : Declared) → S.at n ≡ Some d → d.body ≡ None → trace n ≡ Num n
    trace_open n d e h = ap (trace_decl (act (trace_to (r n))) n) e ∙ ap (trace_body (act (trace_to (r n))) n d) h

    pub trace_value : (n : ℕ) (d : Declared) (b : Tree) → S.at n ≡ Some d → d.body ≡ Some b → P n ≡ false → trace n ≡ Wrap (tr_context (act inst) (d.context)) (tr (act trace) Var b)
    trace_value n d b e h p =
        let g : ℕ → Trees → Tree = act (trace_to (r n)) in
        ap (trace_decl g n) e ∙ ap (trace_body g n d) h ∙ ap (λ q. choose q (Num n) (Wrap (tr_context (act inst) (d.context)) (tr g Var b))) p ∙ ap (Wrap (tr_context (act inst) (d.context))) (tr_agree (λ m. r m < r n) g (act trace) (λ m s l. ap (λ i. act_on i s) (trace_stable (r n) (suc (r m)) m l (omega arith))) Var b (ranked n d b e h))

    pub trace_kept : (n : ℕ) → P n ≡ true → trace n ≡ Num n
    trace_kept n p = go (S.at n)
      where
        g : ℕ → Trees → Tree
        g = act (trace_to (r n))

        go_body : (d : Declared) (b : Option Tree) → trace_body g n d b ≡ Num n
        go_body d None = refl
        go_body d (Some b) = ap (λ q. choose q (Num n) (Wrap (tr_context (act inst) (d.context)) (tr g Var b))) p

        go : (o : Option Declared) → trace_decl g n o ≡ Num n
        go None = refl
        go (Some d) = go_body d (d.body)

    trace_metas_to : (k n : ℕ) (s : Trees) → r n < k → InStore S n → AllMetasIn (InStore inst_store) s → AllMetas (InStore inst_store) (act (trace_to k) n s)
    trace_metas_to zero n s l p q = absurd (omega arith)
    trace_metas_to (suc k) n s l p q = let z = some_of (S.at n) p in subst (λ o. AllMetas (InStore inst_store) (act_on (trace_decl (act (trace_to k)) n o) s)) (sym z.1) (go (λ m t l a b. trace_metas_to k m t l a b) z.0 z.1 (z.0.body) refl)
      where
        in_value : ((m : ℕ) (t : Trees) → r m < k → InStore S m → AllMetasIn (InStore inst_store) t → AllMetas (InStore inst_store) (act (trace_to k) m t)) → (d : Declared) → S.at n ≡ Some d → (b : Tree) → d.body ≡ Some b → (P n ≡ true) ⊎ (P n ≡ false) → AllMetas (InStore inst_store) (act_on (trace_body (act (trace_to k)) n d (Some b)) s)
        in_value ih d e b h (inl x) = subst (λ i. AllMetas (InStore inst_store) (act_on i s)) (sym (ap (λ y. choose y (Num n) (Wrap (tr_context (act inst) (d.context)) (tr (act (trace_to k)) Var b))) x)) (is_some_at (inst_kept n d e x), q)
        in_value ih d e b h (inr x) =
            let w = own n d e in
            subst (λ i. AllMetas (InStore inst_store) (act_on i s)) (sym (ap (λ y. choose y (Num n) (Wrap (tr_context (act inst) (d.context)) (tr (act (trace_to k)) Var b))) x))
            (let a : AllMetas (λ m. InStore S m × r m < k) b = both_metas (InStore S) (λ m. r m < r n) (λ m. InStore S m × r m < k) (λ m x y. (x, omega arith)) b (w.body b h) (ranked n d b e h) in
            lets_metas (InStore inst_store) (count s) s (tr_context (act inst) (d.context)) (under s (tr (act (trace_to k)) Var b)) q (context_metas (InStore S) (InStore inst_store) (act inst) inst_metas (d.context) w.context)
            (under_metas (InStore inst_store) s (tr (act (trace_to k)) Var b) q (tr_metas (λ m. InStore S m × r m < k) (InStore inst_store) (act (trace_to k)) (λ m t x y. ih m t x.1 x.0 y) Var (λ i. tt) b a)))

        go : ((m : ℕ) (t : Trees) → r m < k → InStore S m → AllMetasIn (InStore inst_store) t → AllMetas (InStore inst_store) (act (trace_to k) m t)) → (d : Declared) → S.at n ≡ Some d → (b : Option Tree) → d.body ≡ b → AllMetas (InStore inst_store) (act_on (trace_body (act (trace_to k)) n d b) s)
        go ih d e None h = (is_some_at (inst_open n d e h).1, q)
        go ih d e (Some b) h = in_value ih d e b h (cases (P n))

    pub trace_metas : (n : ℕ) (s : Trees) → InStore S n → AllMetasIn (InStore inst_store) s → AllMetas (InStore inst_store) (act trace n s)
    trace_metas n s p q = trace_metas_to (suc (r n)) n s (omega arith) p q

    module _ (E : Environment) (free : Bool) (closed : ClosedEnv E) where
      pub kept : (n : ℕ) (s t : Trees) → ContractsIn E inst_store s t → Reduces E inst_store (act inst n s) (act inst n t)
      kept n s t c = act_terms E closed inst_store (inst n) s t c

      toward_to : (k n : ℕ) (s : Trees) → Reduces E inst_store (act (trace_to k) n s) (act inst n s)
      toward_to zero n s = done
      toward_to (suc k) n s = go (λ m t. toward_to k m t) (S.at n) refl
        where
          g : ℕ → Trees → Tree
          g = act (trace_to k)

          go_value : ((m : ℕ) (t : Trees) → Reduces E inst_store (act (trace_to k) m t) (act inst m t)) → (d : Declared) → S.at n ≡ Some d → (b : Tree) → d.body ≡ Some b → (P n ≡ true) ⊎ (P n ≡ false) → Reduces E inst_store (act_on (trace_body g n d (Some b)) s) (act inst n s)
          go_value ih d e b h (inl x) = subst₂ (λ i j. Reduces E inst_store (act_on i s) (act_on j s)) (sym (ap (λ y. choose y (Num n) (Wrap (tr_context (act inst) (d.context)) (tr g Var b))) x)) (sym (kept_num n x)) done
          go_value ih d e b h (inr x) =
              (subst (λ i. Reduces E inst_store (act_on i s) (act inst n s)) (sym (ap (λ y. choose y (Num n) (Wrap (tr_context (act inst) (d.context)) (tr g Var b))) x))
              (let Δ : List Tree = tr_context (act inst) (d.context) in
              subst (λ i. Reduces E inst_store (act_on (Wrap Δ (tr g Var b)) s) (act_on i s)) (sym (inst_value n d b e h x))
              (also (lets_done E closed inst_store (count s) s Δ (under s (tr g Var b))) (red_under E free closed inst_store s (steps_tr E free closed inst_store g (act inst) ih kept Var b)))))

          go_body : ((m : ℕ) (t : Trees) → Reduces E inst_store (act (trace_to k) m t) (act inst m t)) → (d : Declared) → S.at n ≡ Some d → (b : Option Tree) → d.body ≡ b → Reduces E inst_store (act_on (trace_body g n d b) s) (act inst n s)
          go_body ih d e None h = subst (λ i. Reduces E inst_store (Meta n s) (act_on i s)) (sym (inst_open n d e h).0) done
          go_body ih d e (Some b) h = go_value ih d e b h (cases (P n))

          go : ((m : ℕ) (t : Trees) → Reduces E inst_store (act (trace_to k) m t) (act inst m t)) → (o : Option Declared) → S.at n ≡ o → Reduces E inst_store (act_on (trace_decl g n o) s) (act inst n s)
          go ih None e = subst (λ i. Reduces E inst_store (Meta n s) (act_on i s)) (sym (image_absent n e)) done
          go ih (Some d) e = go_body ih d e (d.body) refl

      pub toward : (n : ℕ) (s : Trees) → Reduces E inst_store (act trace n s) (act inst n s)
      toward n s = toward_to (suc (r n)) n s

      pub trace_whole : (n : ℕ) → NotPut E free closed (trace n)
      trace_whole n = go (S.at n)
        where
          g : ℕ → Trees → Tree
          g = act (trace_to (r n))

          go_value : (d : Declared) (b : Tree) → (P n ≡ true) ⊎ (P n ≡ false) → NotPut E free closed (trace_body g n d (Some b))
          go_value d b (inl x) = subst (NotPut E free closed) (sym (ap (λ y. choose y (Num n) (Wrap (tr_context (act inst) (d.context)) (tr g Var b))) x)) tt
          go_value d b (inr x) = subst (NotPut E free closed) (sym (ap (λ y. choose y (Num n) (Wrap (tr_context (act inst) (d.context)) (tr g Var b))) x)) tt

          go_body : (d : Declared) (b : Option Tree) → NotPut E free closed (trace_body g n d b)
          go_body d None = tt
          go_body d (Some b) = go_value d b (cases (P n))

          go : (o : Option Declared) → NotPut E free closed (trace_decl g n o)
          go None = tt
          go (Some d) = go_body d (d.body)
