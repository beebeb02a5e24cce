-- A judgement speaks of its context's variables alone.
use Rattle.std.proofs.Common.{◌≡◌, ℕ, zero, suc, List, [], ◌∷◌, length, true, false, refl, ap, ap₂, subst, ◌<◌, arith, Bool}
use Rattle.mt_term.proofs.Subst.{Fills, no_more, one_more, fills_of}
use Rattle.mt_calculus_laws.proofs.Steps.{ClosedEnv, Fixed}
use Rattle.mt_calculus_laws.proofs.Exchange.{look_ty, place_of}
use Rattle.mt_term.specs.Trees.{Tree, Trees, Arms, Bytes, Var, Sort, Prod, Lam, App, Const, Ind, Con, Match, Meta, End, Item, NoArm, Arm}
use Rattle.mt_term.specs.Substitution.{up_ren, up_rens, ren, ren_all, ren_arms, then_as, up, ups, tr_all, tr_arms, sub, one, fill, beyond, under, apps, all_but, join, count}
use Rattle.mt_term.specs.Declarations.{Environment, declared_type}
use Rattle.mt_term.specs.Stores.{Store}
use Rattle.mt_calculus.specs.Contraction.{ArmAt, arm_here, arm_later, Contracts, beta, delta, assigned, iota, unfold_rec, unfold_co, in_dom, in_cod, in_type, in_body, in_fun, in_arg, in_return, in_matched, in_arms, in_terms, ContractsIn, in_first, in_rest, ContractsArms, in_arm, in_later}
use Rattle.mt_calculus.specs.Typing.{Look, here, there, ins, Insert, put, keep, Judgement, IsContext, IsType, Has, Stands, Fitting, Body, ren_judgement, Instantiated, at_none, at_more, In, first, later, Holds, c_empty, c_cons, t_var, t_prop, t_typ, t_prod, t_lam, t_app, t_const, t_ind, t_con, t_match, f_none, f_arm, b_more, b_done, t_meta, t_sub, k_sort, k_of, k_type_reduct, k_reduct, k_prod, k_dom, k_cod, k_cod_at, k_param, k_stands, k_type_stands, k_fun, k_arg, k_terms, k_return, k_matched, k_prod_type, k_lam_dom, k_lam_body, k_lam_at, k_drop, k_metas}
use Rattle.mt_calculus.specs.Scopes.{past_names}

-- each free variable is below a number
abbrev mutual
  pub Scoped : ℕ → Tree → Type 0
  Scoped n (Var i) = i < n
  Scoped n (Sort s) = Unit {0}
  Scoped n (Prod x A B) = Scoped n A × Scoped (suc n) B
  Scoped n (Lam x A b) = Scoped n A × Scoped (suc n) b
  Scoped n (App f a) = Scoped n f × Scoped n a
  Scoped n (Const c) = Unit {0}
  Scoped n (Ind e) = Unit {0}
  Scoped n (Con e k) = Unit {0}
  Scoped n (Match e R c bs) = Scoped n R × Scoped n c × ScopedArms n bs
  Scoped n (Meta m s) = ScopedAll n s

  pub ScopedAll : ℕ → Trees → Type 0
  ScopedAll n End = Unit {0}
  ScopedAll n (Item t s) = Scoped n t × ScopedAll n s

  pub ScopedArms : ℕ → Arms → Type 0
  ScopedArms n NoArm = Unit {0}
  ScopedArms n (Arm xs b bs) = Scoped (past_names xs n) b × ScopedArms n bs

up_same : (n : ℕ) (σ τ : ℕ → Tree) → ((i : ℕ) → i < n → σ i ≡ τ i) → (i : ℕ) → i < suc n → up σ i ≡ up τ i
up_same n σ τ h zero l = refl
up_same n σ τ h (suc i) l = ap (ren suc) (h i (omega arith))

ups_agree : (xs : List Bytes) (n : ℕ) (σ τ : ℕ → Tree) → ((i : ℕ) → i < n → σ i ≡ τ i) → (i : ℕ) → i < past_names xs n → ups xs σ i ≡ ups xs τ i
ups_agree [] n σ τ h = h
ups_agree (x ∷ xs) n σ τ h = ups_agree xs (suc n) (up σ) (up τ) (up_same n σ τ h)

mutual
  pub scoped_same : (n : ℕ) (σ τ : ℕ → Tree) → ((i : ℕ) → i < n → σ i ≡ τ i) → (t : Tree) → Scoped n t → sub σ t ≡ sub τ t
  scoped_same n σ τ h (Var i) p = h i p
  scoped_same n σ τ h (Sort s) p = refl
  scoped_same n σ τ h (Prod x A B) p = ap₂ (Prod x) (scoped_same n σ τ h A p.0) (scoped_same (suc n) (up σ) (up τ) (up_same n σ τ h) B p.1)
  scoped_same n σ τ h (Lam x A B) p = ap₂ (Lam x) (scoped_same n σ τ h A p.0) (scoped_same (suc n) (up σ) (up τ) (up_same n σ τ h) B p.1)
  scoped_same n σ τ h (App A B) p = ap₂ App (scoped_same n σ τ h A p.0) (scoped_same n σ τ h B p.1)
  scoped_same n σ τ h (Const c) p = refl
  scoped_same n σ τ h (Ind c) p = refl
  scoped_same n σ τ h (Con c k) p = refl
  scoped_same n σ τ h (Match e R c bs) p = λ i. Match e (scoped_same n σ τ h R p.0 i) (scoped_same n σ τ h c p.1 i) (scoped_same_arms n σ τ h bs p.2 i)
  scoped_same n σ τ h (Meta m s) p = ap (Meta m) (scoped_same_all n σ τ h s p)

  pub scoped_same_all : (n : ℕ) (σ τ : ℕ → Tree) → ((i : ℕ) → i < n → σ i ≡ τ i) → (s : Trees) → ScopedAll n s → tr_all Meta σ s ≡ tr_all Meta τ s
  scoped_same_all n σ τ h End p = refl
  scoped_same_all n σ τ h (Item t s) p = ap₂ Item (scoped_same n σ τ h t p.0) (scoped_same_all n σ τ h s p.1)

  pub scoped_same_arms : (n : ℕ) (σ τ : ℕ → Tree) → ((i : ℕ) → i < n → σ i ≡ τ i) → (s : Arms) → ScopedArms n s → tr_arms Meta σ s ≡ tr_arms Meta τ s
  scoped_same_arms n σ τ h NoArm p = refl
  scoped_same_arms n σ τ h (Arm xs b s) p = ap₂ (Arm xs) (scoped_same (past_names xs n) (ups xs σ) (ups xs τ) (ups_agree xs n σ τ h) b p.0) (scoped_same_arms n σ τ h s p.1)

-- renaming
abbrev pub RenBelow : ℕ → ℕ → (ℕ → ℕ) → Type 0
RenBelow n m ξ = (i : ℕ) → i < n → ξ i < m

up_ren_below : (n m : ℕ) (ξ : ℕ → ℕ) → RenBelow n m ξ → RenBelow (suc n) (suc m) (up_ren ξ)
up_ren_below n m ξ h zero l = omega arith
up_ren_below n m ξ h (suc i) l = let k : ξ i < m = h i (omega arith) in omega arith

ups_ren_below : (xs : List Bytes) (n m : ℕ) (ξ : ℕ → ℕ) → RenBelow n m ξ → RenBelow (past_names xs n) (past_names xs m) (up_rens xs ξ)
ups_ren_below [] n m ξ h = h
ups_ren_below (x ∷ xs) n m ξ h = ups_ren_below xs (suc n) (suc m) (up_ren ξ) (up_ren_below n m ξ h)

mutual
  pub scoped_ren : (n m : ℕ) (ξ : ℕ → ℕ) → RenBelow n m ξ → (t : Tree) → Scoped n t → Scoped m (ren ξ t)
  scoped_ren n m ξ h (Var i) p = h i p
  scoped_ren n m ξ h (Sort s) p = tt
  scoped_ren n m ξ h (Prod x A B) p = (scoped_ren n m ξ h A p.0, scoped_ren (suc n) (suc m) (up_ren ξ) (up_ren_below n m ξ h) B p.1)
  scoped_ren n m ξ h (Lam x A b) p = (scoped_ren n m ξ h A p.0, scoped_ren (suc n) (suc m) (up_ren ξ) (up_ren_below n m ξ h) b p.1)
  scoped_ren n m ξ h (App f a) p = (scoped_ren n m ξ h f p.0, scoped_ren n m ξ h a p.1)
  scoped_ren n m ξ h (Const c) p = tt
  scoped_ren n m ξ h (Ind e) p = tt
  scoped_ren n m ξ h (Con e k) p = tt
  scoped_ren n m ξ h (Match e R c bs) p = (scoped_ren n m ξ h R p.0, scoped_ren n m ξ h c p.1, scoped_ren_arms n m ξ h bs p.2)
  scoped_ren n m ξ h (Meta k s) p = scoped_ren_all n m ξ h s p

  pub scoped_ren_all : (n m : ℕ) (ξ : ℕ → ℕ) → RenBelow n m ξ → (s : Trees) → ScopedAll n s → ScopedAll m (ren_all ξ s)
  scoped_ren_all n m ξ h End p = tt
  scoped_ren_all n m ξ h (Item t s) p = (scoped_ren n m ξ h t p.0, scoped_ren_all n m ξ h s p.1)

  pub scoped_ren_arms : (n m : ℕ) (ξ : ℕ → ℕ) → RenBelow n m ξ → (bs : Arms) → ScopedArms n bs → ScopedArms m (ren_arms ξ bs)
  scoped_ren_arms n m ξ h NoArm p = tt
  scoped_ren_arms n m ξ h (Arm xs b bs) p = (scoped_ren (past_names xs n) (past_names xs m) (up_rens xs ξ) (ups_ren_below xs n m ξ h) b p.0, scoped_ren_arms n m ξ h bs p.1)

-- substitution
abbrev pub SubBelow : ℕ → ℕ → (ℕ → Tree) → Type 0
SubBelow n m σ = (i : ℕ) → i < n → Scoped m (σ i)

up_below : (n m : ℕ) (σ : ℕ → Tree) → SubBelow n m σ → SubBelow (suc n) (suc m) (up σ)
up_below n m σ h zero l = omega arith
up_below n m σ h (suc i) l = scoped_ren m (suc m) suc (λ j k. omega arith) (σ i) (h i (omega arith))

ups_below : (xs : List Bytes) (n m : ℕ) (σ : ℕ → Tree) → SubBelow n m σ → SubBelow (past_names xs n) (past_names xs m) (ups xs σ)
ups_below [] n m σ h = h
ups_below (x ∷ xs) n m σ h = ups_below xs (suc n) (suc m) (up σ) (up_below n m σ h)

mutual
  pub scoped_sub : (n m : ℕ) (σ : ℕ → Tree) → SubBelow n m σ → (t : Tree) → Scoped n t → Scoped m (sub σ t)
  scoped_sub n m σ h (Var i) p = h i p
  scoped_sub n m σ h (Sort s) p = tt
  scoped_sub n m σ h (Prod x A B) p = (scoped_sub n m σ h A p.0, scoped_sub (suc n) (suc m) (up σ) (up_below n m σ h) B p.1)
  scoped_sub n m σ h (Lam x A b) p = (scoped_sub n m σ h A p.0, scoped_sub (suc n) (suc m) (up σ) (up_below n m σ h) b p.1)
  scoped_sub n m σ h (App f a) p = (scoped_sub n m σ h f p.0, scoped_sub n m σ h a p.1)
  scoped_sub n m σ h (Const c) p = tt
  scoped_sub n m σ h (Ind e) p = tt
  scoped_sub n m σ h (Con e k) p = tt
  scoped_sub n m σ h (Match e R c bs) p = (scoped_sub n m σ h R p.0, scoped_sub n m σ h c p.1, scoped_sub_arms n m σ h bs p.2)
  scoped_sub n m σ h (Meta k s) p = scoped_sub_all n m σ h s p

  pub scoped_sub_all : (n m : ℕ) (σ : ℕ → Tree) → SubBelow n m σ → (s : Trees) → ScopedAll n s → ScopedAll m (tr_all Meta σ s)
  scoped_sub_all n m σ h End p = tt
  scoped_sub_all n m σ h (Item t s) p = (scoped_sub n m σ h t p.0, scoped_sub_all n m σ h s p.1)

  pub scoped_sub_arms : (n m : ℕ) (σ : ℕ → Tree) → SubBelow n m σ → (bs : Arms) → ScopedArms n bs → ScopedArms m (tr_arms Meta σ bs)
  scoped_sub_arms n m σ h NoArm p = tt
  scoped_sub_arms n m σ h (Arm xs b bs) p = (scoped_sub (past_names xs n) (past_names xs m) (ups xs σ) (ups_below xs n m σ h) b p.0, scoped_sub_arms n m σ h bs p.1)

scoped_one : (n : ℕ) (a b : Tree) → Scoped n a → Scoped (suc n) b → Scoped n (sub (one a) b)
scoped_one n a b p q = scoped_sub (suc n) n (one a) go b q
  where
    go : (i : ℕ) → i < suc n → Scoped n (one a i)
    go zero l = p
    go (suc i) l = omega arith

scoped_apps : (n : ℕ) (t : Tree) (s : Trees) → Scoped n t → ScopedAll n s → Scoped n (apps t s)
scoped_apps n t End p q = p
scoped_apps n t (Item a s) p q = scoped_apps n (App t a) s (p, q.0) q.1

scoped_parts : (n : ℕ) (t : Tree) (s : Trees) → Scoped n (apps t s) → Scoped n t × ScopedAll n s
scoped_parts n t End p = (p, tt)
scoped_parts n t (Item a s) p = let r = scoped_parts n (App t a) s p in (r.0.0, (r.0.1, r.1))

scoped_rest : (n p : ℕ) (s : Trees) → ScopedAll n s → ScopedAll n (all_but p s)
scoped_rest n zero s h = h
scoped_rest n (suc p) End h = tt
scoped_rest n (suc p) (Item t s) h = scoped_rest n p s h.1

scoped_split : (n : ℕ) (s r : Trees) → ScopedAll n (join s r) → ScopedAll n s × ScopedAll n r
scoped_split n End r h = (tt, h)
scoped_split n (Item t s) r h = let q = scoped_split n s r h.1 in ((h.0, q.0), q.1)

scoped_arm : (n : ℕ) {bs : Arms} {k : ℕ} {xs : List Bytes} {b : Tree} → ArmAt bs k xs b → ScopedArms n bs → Scoped (past_names xs n) b
scoped_arm n arm_here h = h.0
scoped_arm n (arm_later a) h = scoped_arm n a h.1

scoped_fill : (n k : ℕ) {xs : List Bytes} {s : Trees} → Fills xs s → (τ : ℕ → Tree) → SubBelow k n τ → ScopedAll n s → SubBelow (past_names xs k) n (fill s τ)
scoped_fill n k no_more τ h p = h
scoped_fill n k (one_more {t = t} {s = s} f) τ h p = scoped_fill n (suc k) f (then_as t τ) (go h) p.1
  where
    go : SubBelow k n τ → SubBelow (suc k) n (then_as t τ)
    go h zero l = p.0
    go h (suc i) l = h i (omega arith)

scoped_inst : (n : ℕ) {T U : Tree} {s : Trees} → Instantiated T s U → Scoped n T → ScopedAll n s → Scoped n U
scoped_inst n at_none p q = p
scoped_inst n (at_more {B = B} {a = a} i) p q = scoped_inst n i (scoped_one n a B q.0 p.1) q.1

-- what is substituted everywhere
ups_all : (xs : List Bytes) (m : ℕ) (σ : ℕ → Tree) → ((i : ℕ) → Scoped m (σ i)) → (i : ℕ) → Scoped (past_names xs m) (ups xs σ i)
ups_all [] m σ h = h
ups_all (x ∷ xs) m σ h = ups_all xs (suc m) (up σ) (up_all m σ h)
  where
    up_all : (m : ℕ) (σ : ℕ → Tree) → ((i : ℕ) → Scoped m (σ i)) → (i : ℕ) → Scoped (suc m) (up σ i)
    up_all m σ h zero = omega arith
    up_all m σ h (suc i) = scoped_ren m (suc m) suc (λ j l. omega arith) (σ i) (h i)

mutual
  pub filled_scoped : (m : ℕ) (σ : ℕ → Tree) → ((i : ℕ) → Scoped m (σ i)) → (t : Tree) → Scoped m (sub σ t)
  filled_scoped m σ h (Var i) = h i
  filled_scoped m σ h (Sort s) = tt
  filled_scoped m σ h (Prod x A B) = (filled_scoped m σ h A, filled_scoped (suc m) (up σ) (ups_all ([] ∷ []) m σ h) B)
  filled_scoped m σ h (Lam x A B) = (filled_scoped m σ h A, filled_scoped (suc m) (up σ) (ups_all ([] ∷ []) m σ h) B)
  filled_scoped m σ h (App A B) = (filled_scoped m σ h A, filled_scoped m σ h B)
  filled_scoped m σ h (Const c) = tt
  filled_scoped m σ h (Ind c) = tt
  filled_scoped m σ h (Con c k) = tt
  filled_scoped m σ h (Match e R c bs) = (filled_scoped m σ h R, filled_scoped m σ h c, filled_scoped_arms m σ h bs)
  filled_scoped m σ h (Meta n s) = filled_scoped_all m σ h s

  filled_scoped_all : (m : ℕ) (σ : ℕ → Tree) → ((i : ℕ) → Scoped m (σ i)) → (s : Trees) → ScopedAll m (tr_all Meta σ s)
  filled_scoped_all m σ h End = tt
  filled_scoped_all m σ h (Item t s) = (filled_scoped m σ h t, filled_scoped_all m σ h s)

  filled_scoped_arms : (m : ℕ) (σ : ℕ → Tree) → ((i : ℕ) → Scoped m (σ i)) → (s : Arms) → ScopedArms m (tr_arms Meta σ s)
  filled_scoped_arms m σ h NoArm = tt
  filled_scoped_arms m σ h (Arm xs b s) = (filled_scoped (past_names xs m) (ups xs σ) (ups_all xs m σ h) b, filled_scoped_arms m σ h s)

scoped_fills : (m : ℕ) (s : Trees) (σ : ℕ → Tree) → ScopedAll m s → ((i : ℕ) → Scoped m (σ i)) → (i : ℕ) → Scoped m (fill s σ i)
scoped_fills m End σ p h = h
scoped_fills m (Item t s) σ p h = scoped_fills m s (then_as t σ) p.1 go
  where
    go : (i : ℕ) → Scoped m (then_as t σ i)
    go zero = p.0
    go (suc i) = h i

scoped_under : (m : ℕ) (s : Trees) (t : Tree) → ScopedAll m s → Scoped m (under s t)
scoped_under m s t p = filled_scoped m (fill s beyond) (scoped_fills m s beyond p (λ i. tt)) t

-- back from a renaming
abbrev RenBack : ℕ → ℕ → (ℕ → ℕ) → Type 0
RenBack n m ξ = (i : ℕ) → ξ i < m → i < n

up_back_below : (n m : ℕ) (ξ : ℕ → ℕ) → RenBack n m ξ → RenBack (suc n) (suc m) (up_ren ξ)
up_back_below n m ξ h zero l = omega arith
up_back_below n m ξ h (suc i) l = let k : i < n = h i (omega (arith, l)) in omega arith

ups_back_below : (xs : List Bytes) (n m : ℕ) (ξ : ℕ → ℕ) → RenBack n m ξ → RenBack (past_names xs n) (past_names xs m) (up_rens xs ξ)
ups_back_below [] n m ξ h = h
ups_back_below (x ∷ xs) n m ξ h = ups_back_below xs (suc n) (suc m) (up_ren ξ) (up_back_below n m ξ h)

mutual
  scoped_unren : (n m : ℕ) (ξ : ℕ → ℕ) → RenBack n m ξ → (t : Tree) → Scoped m (ren ξ t) → Scoped n t
  scoped_unren n m ξ h (Var i) p = h i p
  scoped_unren n m ξ h (Sort s) p = tt
  scoped_unren n m ξ h (Prod x A B) p = (scoped_unren n m ξ h A p.0, scoped_unren (suc n) (suc m) (up_ren ξ) (up_back_below n m ξ h) B p.1)
  scoped_unren n m ξ h (Lam x A B) p = (scoped_unren n m ξ h A p.0, scoped_unren (suc n) (suc m) (up_ren ξ) (up_back_below n m ξ h) B p.1)
  scoped_unren n m ξ h (App A B) p = (scoped_unren n m ξ h A p.0, scoped_unren n m ξ h B p.1)
  scoped_unren n m ξ h (Const c) p = tt
  scoped_unren n m ξ h (Ind c) p = tt
  scoped_unren n m ξ h (Con c k) p = tt
  scoped_unren n m ξ h (Match e R c bs) p = (scoped_unren n m ξ h R p.0, scoped_unren n m ξ h c p.1, scoped_unren_arms n m ξ h bs p.2)
  scoped_unren n m ξ h (Meta k s) p = scoped_unren_all n m ξ h s p

  scoped_unren_all : (n m : ℕ) (ξ : ℕ → ℕ) → RenBack n m ξ → (s : Trees) → ScopedAll m (ren_all ξ s) → ScopedAll n s
  scoped_unren_all n m ξ h End p = tt
  scoped_unren_all n m ξ h (Item t s) p = (scoped_unren n m ξ h t p.0, scoped_unren_all n m ξ h s p.1)

  scoped_unren_arms : (n m : ℕ) (ξ : ℕ → ℕ) → RenBack n m ξ → (s : Arms) → ScopedArms m (ren_arms ξ s) → ScopedArms n s
  scoped_unren_arms n m ξ h NoArm p = tt
  scoped_unren_arms n m ξ h (Arm xs b s) p = (scoped_unren (past_names xs n) (past_names xs m) (up_rens xs ξ) (ups_back_below xs n m ξ h) b p.0, scoped_unren_arms n m ξ h s p.1)

module _ (E : Environment) (closed : ClosedEnv E) where
  closed_more : (n : ℕ) (t : Tree) → Fixed t → Scoped n t
  closed_more n t p = subst (Scoped n) (p Meta beyond) (filled_scoped n beyond (λ i. tt) t)

  mutual
    pub contracts_scoped : {S : Store} → (n : ℕ) {t u : Tree} → Contracts E S t u → Scoped n t → Scoped n u
    contracts_scoped n (beta {b = b} {a = a}) p = scoped_one n a b p.1 p.0.1
    contracts_scoped n (delta {c = c} {x = x} {T = T} {b = b} h) p = closed_more n b (closed.values c x T b h)
    contracts_scoped n (assigned {s = s} {b = b} e g) p = scoped_under n s b p
    contracts_scoped n (iota {e = e} {k = k} {b = b} s {xs = xs} o m a len) p =
        let q = scoped_parts n (Con e k) s p.1 in
        scoped_sub (past_names xs n) n (fill (all_but o.params s) Var) (scoped_fill n n (fills_of xs (all_but o.params s) len) Var (λ i l. l) (scoped_rest n o.params s q.1)) b (scoped_arm n a p.2)
    contracts_scoped n (unfold_rec c {n = k} {r = r} {x = x} {made = made} {T = T} {b = b} {s = s} us h i o m) p = scoped_apps n b s (closed_more n b (closed.bodies c k r x false made T b h)) (scoped_parts n (Const c) s p).1
    contracts_scoped n (unfold_co c {n = k} {r = r} {x = x} {made = made} {T = T} {b = b} s h) p = (p.0, scoped_apps n b s (closed_more n b (closed.bodies c k r x true made T b h)) (scoped_parts n (Const c) s p.1).1, p.2)
    contracts_scoped n (in_dom c) p = (contracts_scoped n c p.0, p.1)
    contracts_scoped n (in_cod c) p = (p.0, contracts_scoped (suc n) c p.1)
    contracts_scoped n (in_type c) p = (contracts_scoped n c p.0, p.1)
    contracts_scoped n (in_body c) p = (p.0, contracts_scoped (suc n) c p.1)
    contracts_scoped n (in_fun c) p = (contracts_scoped n c p.0, p.1)
    contracts_scoped n (in_arg c) p = (p.0, contracts_scoped n c p.1)
    contracts_scoped n (in_return c) p = (contracts_scoped n c p.0, p.1, p.2)
    contracts_scoped n (in_matched c) p = (p.0, contracts_scoped n c p.1, p.2)
    contracts_scoped n (in_arms c) p = (p.0, p.1, contracts_scoped_arms n c p.2)
    contracts_scoped n (in_terms c) p = contracts_scoped_all n c p

    pub contracts_scoped_all : {S : Store} → (n : ℕ) {t u : Trees} → ContractsIn E S t u → ScopedAll n t → ScopedAll n u
    contracts_scoped_all n (in_first c) p = (contracts_scoped n c p.0, p.1)
    contracts_scoped_all n (in_rest c) p = (p.0, contracts_scoped_all n c p.1)

    pub contracts_scoped_arms : {S : Store} → (n : ℕ) {t u : Arms} → ContractsArms E S t u → ScopedArms n t → ScopedArms n u
    contracts_scoped_arms n (in_arm {xs = xs} c) p = (contracts_scoped (past_names xs n) c p.0, p.1)
    contracts_scoped_arms n (in_later c) p = (p.0, contracts_scoped_arms n c p.1)

  abbrev pub ScopedContext : List Tree → Type 0
  ScopedContext [] = Unit {0}
  ScopedContext (A ∷ Γ) = Scoped (length Γ) A × ScopedContext Γ

  abbrev pub ScopedJudgement : List Tree → Judgement → Type 0
  ScopedJudgement Γ IsContext = ScopedContext Γ
  ScopedJudgement Γ (IsType T) = Scoped (length Γ) T
  ScopedJudgement Γ (Has t T) = Scoped (length Γ) t × Scoped (length Γ) T
  ScopedJudgement Γ (Stands t) = Scoped (length Γ) t
  ScopedJudgement Γ (Fitting e R ps k bs) = ScopedArms (length Γ) bs
  ScopedJudgement Γ (Body e p R c T xs b) = Scoped (past_names xs (length Γ)) b

  pub scoped_look : (Γ : List Tree) (i : ℕ) (T : Tree) → Look Γ i T → ScopedContext Γ → (i < length Γ) × Scoped (length Γ) T
  scoped_look [] i T l p = elim l [ ]
  scoped_look (A ∷ Γ) i T here p = (omega arith, scoped_ren (length Γ) (suc (length Γ)) suc (λ j l. omega arith) A p.0)
  scoped_look (A ∷ Γ) i T (there {i = j} {T = U} l) p = let r = scoped_look Γ j U l p.1 in (omega (arith, r.0), scoped_ren (length Γ) (suc (length Γ)) suc (λ j l. omega arith) U r.1)

  in_scoped : (n : ℕ) {t : Tree} {s : Trees} → In t s → ScopedAll n s → Scoped n t
  in_scoped n first p = p.0
  in_scoped n (later i) p = in_scoped n i p.1

  scoped_in : (n : ℕ) (s : Trees) → ((t : Tree) → In t s → Scoped n t) → ScopedAll n s
  scoped_in n End h = tt
  scoped_in n (Item t s) h = (h t first, scoped_in n s (λ u i. h u (later i)))

  scoped_terms : (n : ℕ) (Γ : List Tree) (s : Trees) → count s ≡ length Γ → ((i : ℕ) (T : Tree) → Look Γ i T → Scoped n (fill s beyond i)) → ScopedAll n s
  scoped_terms n Γ s len h = scoped_in n s go
    where
      go : (t : Tree) → In t s → Scoped n t
      go t i = let r = place_of E true closed s beyond t i in subst (Scoped n) r.2 (h r.0 _ (look_ty E true closed Γ r.0 (omega (arith, r.1, len))))

  inserted : {A : Tree} {Δ : List Tree} {k : ℕ} {Γ Γ' : List Tree} → Insert A Δ k Γ Γ' → (length Γ' ≡ suc (length Γ)) × RenBack (length Γ) (length Γ') (ins k)
  inserted put = (refl, λ i l. omega (arith, l))
  inserted (keep {k = k} {Γ = Γ} {Γ' = Γ'} i) = let r = inserted i in (ap suc r.0, up_back_below (length Γ) (length Γ') (ins k) r.1)

  uninserted : {A : Tree} {Δ : List Tree} {k : ℕ} {Γ Γ' : List Tree} → Insert A Δ k Γ Γ' → ScopedContext Γ' → ScopedContext Γ
  uninserted put p = p.1
  uninserted (keep {k = k} {B = B} {Γ = Γ} {Γ' = Γ'} i) p = (scoped_unren (length Γ) (length Γ') (ins k) (inserted i).1 B p.0, uninserted i p.1)

  same_judgement : (Γ : List Tree) (J : Judgement) → ScopedJudgement Γ J → ScopedJudgement Γ J
  same_judgement Γ J p = p

  unren_judgement : (Γ Γ' : List Tree) (ξ : ℕ → ℕ) → RenBack (length Γ) (length Γ') ξ → (J : Judgement) → (ScopedContext Γ' → ScopedContext Γ) → ScopedJudgement Γ' (ren_judgement ξ J) → ScopedJudgement Γ J
  unren_judgement Γ Γ' ξ h IsContext c p = c p
  unren_judgement Γ Γ' ξ h (IsType T) c p = scoped_unren (length Γ) (length Γ') ξ h T p
  unren_judgement Γ Γ' ξ h (Has t T) c p = (scoped_unren (length Γ) (length Γ') ξ h t p.0, scoped_unren (length Γ) (length Γ') ξ h T p.1)
  unren_judgement Γ Γ' ξ h (Stands t) c p = scoped_unren (length Γ) (length Γ') ξ h t p
  unren_judgement Γ Γ' ξ h (Fitting e R ps k bs) c p = scoped_unren_arms (length Γ) (length Γ') ξ h bs p
  unren_judgement Γ Γ' ξ h (Body e p0 R d T xs b) c p = scoped_unren (past_names xs (length Γ)) (past_names xs (length Γ')) (up_rens xs ξ) (ups_back_below xs (length Γ) (length Γ') ξ h) b p

  pub scoped : (w : Bool) {S : Store} {Γ : List Tree} {J : Judgement} → Holds E w S Γ J → ScopedJudgement Γ J
  scoped w c_empty = tt
  scoped w (c_cons c a) = (scoped w a, scoped w c)
  scoped w (t_var {Γ = Γ} {i = i} {T = T} c l) = let r = scoped_look Γ i T l (scoped w c) in (r.0, r.1)
  scoped w (t_prop c) = (tt, tt)
  scoped w (t_typ c up) = (tt, tt)
  scoped w (t_prod a b ps) = (((scoped w a).0, (scoped w b).0), tt)
  scoped w (t_lam a b) = let q = scoped w b in ((scoped w a, q.0), (scoped w a, q.1))
  scoped w (t_app {Γ = Γ} {a = a} {B = B} f x) = let q = scoped w f in let r = scoped w x in ((q.0, r.0), scoped_one (length Γ) a B r.0 q.1.1)
  scoped w (t_const {Γ = Γ} {c = c} {e = e} h g i) = (tt, closed_more (length Γ) (declared_type e) (closed.types c e g))
  scoped w (t_ind {Γ = Γ} {e = e} h o) = (tt, closed_more (length Γ) o.ty (closed.types e _ o.entry))
  scoped w (t_con {Γ = Γ} {e = e} {k = k} {C = C} h o) = (tt, closed_more (length Γ) C (closed.cons e k C o))
  scoped w (t_match {Γ = Γ} {e = e} {R = R} {c = c} {ps = ps} is g n z dc i mt dr al df) =
      let q = scoped w dc in
      let r = scoped w dr in
      ((r.0, q.0, scoped w df), (scoped_apps (length Γ) R is r.0 (scoped_parts (length Γ) (apps (Ind e) ps) is q.1).1, q.0))
  scoped w (f_none c g n) = tt
  scoped w (f_arm o i b h) = (scoped w b, scoped w h)
  scoped w (b_more a d) = scoped w d
  scoped w (b_done ps is n d) = (scoped w d).0
  scoped w (t_meta {Γ = Γ} {s = s} {d = d} c e dc dt len ts) = let a = scoped_terms (length Γ) (d.context) s len (λ i T l. (scoped w (ts i T l)).0) in (a, scoped_under (length Γ) s (d.ty) a)
  scoped w (t_sub d le u) = ((scoped w d).0, scoped w u)
  scoped w (k_sort d) = (scoped w d).0
  scoped w (k_of d) = (scoped w d).1
  scoped w (k_type_reduct {Γ = Γ} d c) = contracts_scoped (length Γ) c (scoped w d)
  scoped w (k_reduct {Γ = Γ} d c) = contracts_scoped (length Γ) c (scoped w d)
  scoped w (k_prod a b) = (scoped w a, scoped w b)
  scoped w (k_dom d) = (scoped w d).0
  scoped w (k_cod d) = (scoped w d).1
  scoped w (k_param {Γ = Γ} e {a = a} {s = s} r d o n i) =
      let q = scoped_split (length Γ) s (Item a r) (scoped_parts (length Γ) (Ind e) (join s (Item a r)) (scoped w d)).1 in
      (q.1.0, (scoped_inst (length Γ) i (closed_more (length Γ) o.ty (closed.types e _ o.entry)) q.0).0)
  scoped w (k_cod_at {Γ = Γ} {B = B} {a = a} d x) = scoped_one (length Γ) a B (scoped w x).0 (scoped w d).1
  scoped w (k_return d) = (scoped w d).0
  scoped w (k_matched d) = (scoped w d).1
  scoped w (k_stands d) = (scoped w d).0
  scoped w (k_type_stands d) = scoped w d
  scoped w (k_fun d) = (scoped w d).0
  scoped w (k_arg d) = (scoped w d).1
  scoped w (k_terms {Γ = Γ} d i) = in_scoped (length Γ) i (scoped w d)
  scoped w (k_prod_type d) = scoped w d
  scoped w (k_lam_dom d) = (scoped w d).0
  scoped w (k_lam_body d) = (scoped w d).1
  scoped w (k_lam_at {Γ = Γ} {b = b} {a = a} d x) = scoped_one (length Γ) a b (scoped w x).0 (scoped w d).1
  scoped w (k_drop {Γ = Γ} {Γ' = Γ'} {k = k} {J = J} e i a c d) = unren_judgement Γ Γ' (ins k) (inserted i).1 J (uninserted i) (scoped w d)
  scoped w (k_metas {Γ = Γ} {J = J} e g o cl d) = same_judgement Γ J (scoped w d)
