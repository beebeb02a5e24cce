-- Strict judgements speak of their context's variables alone, and of no metavariable.
use Rattle.std.proofs.Common.{Bool, true, false, true≢false, ◌≡◌, ℕ, zero, suc, List, [], ◌∷◌, length, Some, None, refl, sym, ap, ap₂, ◌∙◌, subst, ◌≤◌, ◌<◌, arith, slice_get}
use Rattle.mt_term.proofs.Subst.{sub_id, Fills, no_more, one_more, fills_of}
use Rattle.mt_calculus_laws.proofs.Steps.{ClosedEnv}
use Rattle.mt_term.proofs.Options.{none_some}
use Rattle.mt_term.specs.Trees.{Tree, Trees, Arms, Bytes, Var, Sort, Prod, Lam, App, Const, Ind, Con, Match, Meta, End, Item, NoArm, Arm}
use Rattle.mt_term.specs.Substitution.{up_ren, up_rens, ren, ren_arms, then_as, up, ups, tr, tr_arms, sub, one, fill, apps, all_but, join}
use Rattle.mt_term.specs.Declarations.{Declaration, Definition, Recursive, Environment, declared_type}
use Rattle.mt_term.specs.Stores.{Store}
use Rattle.mt_calculus.specs.Contraction.{ArmAt, arm_here, arm_later, ItemAt, item_here, item_later, ConstructorOf, Contracts, beta, delta, assigned, iota, unfold_rec, unfold_co, in_dom, in_cod, in_type, in_body, in_fun, in_arg, in_return, in_matched, in_arms, in_terms, ContractsArms, in_arm, in_later}
use Rattle.mt_calculus.specs.Typing.{Look, here, there, Judgement, Instantiated, at_none, at_more, Holds, c_empty, c_cons, t_var, t_prop, t_typ, t_prod, t_lam, t_app, t_const, t_ind, t_con, t_match, f_none, f_arm, b_more, b_done, t_meta, t_sub, k_sort, k_of, k_type_reduct, k_reduct, k_prod, k_dom, k_cod, k_cod_at, k_param, k_stands, k_type_stands, k_fun, k_arg, k_terms, k_return, k_matched, k_prod_type, k_lam_dom, k_lam_body, k_lam_at, k_drop, k_metas}
use Rattle.mt_calculus.specs.Scopes.{past_names, Plain, PlainAll, PlainArms, PlainContext, PlainJudgement}

-- it is fixed by what fixes its variables
abbrev pub FixesBelow : ℕ → (ℕ → Tree) → Type 0
FixesBelow n σ = (i : ℕ) → i < n → σ i ≡ Var i

up_fixes : (n : ℕ) (σ : ℕ → Tree) → FixesBelow n σ → FixesBelow (suc n) (up σ)
up_fixes n σ h zero l = refl
up_fixes n σ h (suc i) l = ap (ren suc) (h i (omega arith))

ups_fixes : (xs : List Bytes) (n : ℕ) (σ : ℕ → Tree) → FixesBelow n σ → FixesBelow (past_names xs n) (ups xs σ)
ups_fixes [] n σ h = h
ups_fixes (x ∷ xs) n σ h = ups_fixes xs (suc n) (up σ) (up_fixes n σ h)

module _ (f : ℕ → Trees → Tree) where
  mutual
    pub plain_fixed : (n : ℕ) (σ : ℕ → Tree) → FixesBelow n σ → (t : Tree) → Plain n t → tr f σ t ≡ t
    plain_fixed n σ h (Var i) p = h i p
    plain_fixed n σ h (Sort s) p = refl
    plain_fixed n σ h (Prod x A B) p = ap₂ (Prod x) (plain_fixed n σ h A p.0) (plain_fixed (suc n) (up σ) (up_fixes n σ h) B p.1)
    plain_fixed n σ h (Lam x A b) p = ap₂ (Lam x) (plain_fixed n σ h A p.0) (plain_fixed (suc n) (up σ) (up_fixes n σ h) b p.1)
    plain_fixed n σ h (App g a) p = ap₂ App (plain_fixed n σ h g p.0) (plain_fixed n σ h a p.1)
    plain_fixed n σ h (Const c) p = refl
    plain_fixed n σ h (Ind e) p = refl
    plain_fixed n σ h (Con e k) p = refl
    plain_fixed n σ h (Match e R c bs) p = λ i. Match e (plain_fixed n σ h R p.0 i) (plain_fixed n σ h c p.1 i) (plain_fixed_arms n σ h bs p.2 i)
    plain_fixed n σ h (Meta m s) p = absurd p

    pub plain_fixed_arms : (n : ℕ) (σ : ℕ → Tree) → FixesBelow n σ → (bs : Arms) → PlainArms n bs → tr_arms f σ bs ≡ bs
    plain_fixed_arms n σ h NoArm p = refl
    plain_fixed_arms n σ h (Arm xs b bs) p = ap₂ (Arm xs) (plain_fixed (past_names xs n) (ups xs σ) (ups_fixes xs n σ h) b p.0) (plain_fixed_arms n σ h bs p.1)

-- renaming
abbrev pub RenBelow : ℕ → ℕ → (ℕ → ℕ) → Type 0
RenBelow n m ξ = (i : ℕ) → i < n → ξ i < m

up_ren_below : (n m : ℕ) (ξ : ℕ → ℕ) → RenBelow n m ξ → RenBelow (suc n) (suc m) (up_ren ξ)
up_ren_below n m ξ h zero l = omega arith
up_ren_below n m ξ h (suc i) l = let k : ξ i < m = h i (omega arith) in omega arith

ups_ren_below : (xs : List Bytes) (n m : ℕ) (ξ : ℕ → ℕ) → RenBelow n m ξ → RenBelow (past_names xs n) (past_names xs m) (up_rens xs ξ)
ups_ren_below [] n m ξ h = h
ups_ren_below (x ∷ xs) n m ξ h = ups_ren_below xs (suc n) (suc m) (up_ren ξ) (up_ren_below n m ξ h)

mutual
  pub plain_ren : (n m : ℕ) (ξ : ℕ → ℕ) → RenBelow n m ξ → (t : Tree) → Plain n t → Plain m (ren ξ t)
  plain_ren n m ξ h (Var i) p = h i p
  plain_ren n m ξ h (Sort s) p = tt
  plain_ren n m ξ h (Prod x A B) p = (plain_ren n m ξ h A p.0, plain_ren (suc n) (suc m) (up_ren ξ) (up_ren_below n m ξ h) B p.1)
  plain_ren n m ξ h (Lam x A b) p = (plain_ren n m ξ h A p.0, plain_ren (suc n) (suc m) (up_ren ξ) (up_ren_below n m ξ h) b p.1)
  plain_ren n m ξ h (App f a) p = (plain_ren n m ξ h f p.0, plain_ren n m ξ h a p.1)
  plain_ren n m ξ h (Const c) p = tt
  plain_ren n m ξ h (Ind e) p = tt
  plain_ren n m ξ h (Con e k) p = tt
  plain_ren n m ξ h (Match e R c bs) p = (plain_ren n m ξ h R p.0, plain_ren n m ξ h c p.1, plain_ren_arms n m ξ h bs p.2)
  plain_ren n m ξ h (Meta k s) p = absurd p

  pub plain_ren_arms : (n m : ℕ) (ξ : ℕ → ℕ) → RenBelow n m ξ → (bs : Arms) → PlainArms n bs → PlainArms m (ren_arms ξ bs)
  plain_ren_arms n m ξ h NoArm p = tt
  plain_ren_arms n m ξ h (Arm xs b bs) p = (plain_ren (past_names xs n) (past_names xs m) (up_rens xs ξ) (ups_ren_below xs n m ξ h) b p.0, plain_ren_arms n m ξ h bs p.1)

-- substitution
abbrev pub SubBelow : ℕ → ℕ → (ℕ → Tree) → Type 0
SubBelow n m σ = (i : ℕ) → i < n → Plain m (σ i)

up_below : (n m : ℕ) (σ : ℕ → Tree) → SubBelow n m σ → SubBelow (suc n) (suc m) (up σ)
up_below n m σ h zero l = omega arith
up_below n m σ h (suc i) l = plain_ren m (suc m) suc (λ j k. omega arith) (σ i) (h i (omega arith))

ups_below : (xs : List Bytes) (n m : ℕ) (σ : ℕ → Tree) → SubBelow n m σ → SubBelow (past_names xs n) (past_names xs m) (ups xs σ)
ups_below [] n m σ h = h
ups_below (x ∷ xs) n m σ h = ups_below xs (suc n) (suc m) (up σ) (up_below n m σ h)

mutual
  pub plain_sub : (n m : ℕ) (σ : ℕ → Tree) → SubBelow n m σ → (t : Tree) → Plain n t → Plain m (sub σ t)
  plain_sub n m σ h (Var i) p = h i p
  plain_sub n m σ h (Sort s) p = tt
  plain_sub n m σ h (Prod x A B) p = (plain_sub n m σ h A p.0, plain_sub (suc n) (suc m) (up σ) (up_below n m σ h) B p.1)
  plain_sub n m σ h (Lam x A b) p = (plain_sub n m σ h A p.0, plain_sub (suc n) (suc m) (up σ) (up_below n m σ h) b p.1)
  plain_sub n m σ h (App f a) p = (plain_sub n m σ h f p.0, plain_sub n m σ h a p.1)
  plain_sub n m σ h (Const c) p = tt
  plain_sub n m σ h (Ind e) p = tt
  plain_sub n m σ h (Con e k) p = tt
  plain_sub n m σ h (Match e R c bs) p = (plain_sub n m σ h R p.0, plain_sub n m σ h c p.1, plain_sub_arms n m σ h bs p.2)
  plain_sub n m σ h (Meta k s) p = absurd p

  pub plain_sub_arms : (n m : ℕ) (σ : ℕ → Tree) → SubBelow n m σ → (bs : Arms) → PlainArms n bs → PlainArms m (tr_arms Meta σ bs)
  plain_sub_arms n m σ h NoArm p = tt
  plain_sub_arms n m σ h (Arm xs b bs) p = (plain_sub (past_names xs n) (past_names xs m) (ups xs σ) (ups_below xs n m σ h) b p.0, plain_sub_arms n m σ h bs p.1)

pub plain_more : (n m : ℕ) (t : Tree) → n ≤ m → Plain n t → Plain m t
plain_more n m t le p = subst (Plain m) (sub_id t) (plain_sub n m Var (λ i l. omega arith) t p)

plain_one : (n : ℕ) (a b : Tree) → Plain n a → Plain (suc n) b → Plain n (sub (one a) b)
plain_one n a b p q = plain_sub (suc n) n (one a) go b q
  where
    go : (i : ℕ) → i < suc n → Plain n (one a i)
    go zero l = p
    go (suc i) l = omega arith

plain_apps : (n : ℕ) (t : Tree) (s : Trees) → Plain n t → PlainAll n s → Plain n (apps t s)
plain_apps n t End p q = p
plain_apps n t (Item a s) p q = plain_apps n (App t a) s (p, q.0) q.1

plain_parts : (n : ℕ) (t : Tree) (s : Trees) → Plain n (apps t s) → Plain n t × PlainAll n s
plain_parts n t End p = (p, tt)
plain_parts n t (Item a s) p = let r = plain_parts n (App t a) s p in (r.0.0, (r.0.1, r.1))

plain_rest : (n p : ℕ) (s : Trees) → PlainAll n s → PlainAll n (all_but p s)
plain_rest n zero s h = h
plain_rest n (suc p) End h = tt
plain_rest n (suc p) (Item t s) h = plain_rest n p s h.1

plain_split : (n : ℕ) (s r : Trees) → PlainAll n (join s r) → PlainAll n s × PlainAll n r
plain_split n End r h = (tt, h)
plain_split n (Item t s) r h = let q = plain_split n s r h.1 in ((h.0, q.0), q.1)

plain_arm : (n : ℕ) {bs : Arms} {k : ℕ} {xs : List Bytes} {b : Tree} → ArmAt bs k xs b → PlainArms n bs → Plain (past_names xs n) b
plain_arm n arm_here h = h.0
plain_arm n (arm_later a) h = plain_arm n a h.1

plain_fill : (n k : ℕ) {xs : List Bytes} {s : Trees} → Fills xs s → (τ : ℕ → Tree) → SubBelow k n τ → PlainAll n s → SubBelow (past_names xs k) n (fill s τ)
plain_fill n k no_more τ h p = h
plain_fill n k (one_more {t = t} {s = s} f) τ h p = plain_fill n (suc k) f (then_as t τ) (go h) p.1
  where
    go : SubBelow k n τ → SubBelow (suc k) n (then_as t τ)
    go h zero l = p.0
    go h (suc i) l = h i (omega arith)

plain_item : (n : ℕ) {a : Tree} {s : Trees} {r : ℕ} → ItemAt a s r → PlainAll n s → Plain n a
plain_item n item_here p = p.0
plain_item n (item_later i) p = plain_item n i p.1

plain_inst : (n : ℕ) {T U : Tree} {s : Trees} → Instantiated T s U → Plain n T → PlainAll n s → Plain n U
plain_inst n at_none p q = p
plain_inst n (at_more {B = B} {a = a} i) p q = plain_inst n i (plain_one n a B q.0 p.1) q.1

-- what the environment declares is closed and without metavariables
pub record PlainEntries (E : Environment) : Type 0 where
  pub types : (c : ℕ) (e : Declaration) → slice_get (E.entries) c ≡ Some e → Plain zero (declared_type e)
  pub cons : (e k : ℕ) (C : Tree) → ConstructorOf E e k C → Plain zero C
  pub bodies : (c n r : ℕ) (x : Bytes) (co made : Bool) (T b : Tree) → slice_get (E.entries) c ≡ Some (Recursive x co n r T b made) → Plain zero b
  pub values : (c : ℕ) (x : Bytes) (T b : Tree) → slice_get (E.entries) c ≡ Some (Definition x T b) → Plain zero b

none_below : (σ : ℕ → Tree) → FixesBelow zero σ
none_below σ i l = absurd (omega arith)

-- which is what the laws ask
pub plain_closed : (E : Environment) → PlainEntries E → ClosedEnv E
plain_closed E p = record { types = λ c e h f σ. plain_fixed f zero σ (none_below σ) (declared_type e) (p.types c e h); cons = λ e k C o f σ. plain_fixed f zero σ (none_below σ) C (p.cons e k C o); bodies = λ c n r x co made T b h f σ. plain_fixed f zero σ (none_below σ) b (p.bodies c n r x co made T b h); values = λ c x T b h f σ. plain_fixed f zero σ (none_below σ) b (p.values c x T b h) }

module _ (E : Environment) (env : PlainEntries E) where
  closed_more : (n : ℕ) (t : Tree) → Plain zero t → Plain n t
  closed_more n t p = plain_more zero n t (omega arith) p

  abbrev pub Void : Store → Type 0
  Void S = (n : ℕ) → S.at n ≡ None

  mutual
    pub contracts_plain : {S : Store} → Void S → (n : ℕ) {t u : Tree} → Contracts E S t u → Plain n t → Plain n u
    contracts_plain void n (beta {b = b} {a = a}) p = plain_one n a b p.1 p.0.1
    contracts_plain void n (delta {c = c} {x = x} {T = T} {b = b} h) p = closed_more n b (env.values c x T b h)
    contracts_plain void n (assigned {n = m} e g) p = absurd (none_some (sym (void m) ∙ e))
    contracts_plain void n (iota {e = e} {k = k} {b = b} s {xs = xs} o m a len) p =
        let q = plain_parts n (Con e k) s p.1 in
        plain_sub (past_names xs n) n (fill (all_but o.params s) Var) (plain_fill n n (fills_of xs (all_but o.params s) len) Var (λ i l. l) (plain_rest n o.params s q.1)) b (plain_arm n a p.2)
    contracts_plain void n (unfold_rec c {n = k} {r = r} {x = x} {made = made} {T = T} {b = b} {s = s} us h i o m) p = plain_apps n b s (closed_more n b (env.bodies c k r x false made T b h)) (plain_parts n (Const c) s p).1
    contracts_plain void n (unfold_co c {n = k} {r = r} {x = x} {made = made} {T = T} {b = b} s h) p = (p.0, plain_apps n b s (closed_more n b (env.bodies c k r x true made T b h)) (plain_parts n (Const c) s p.1).1, p.2)
    contracts_plain void n (in_dom c) p = (contracts_plain void n c p.0, p.1)
    contracts_plain void n (in_cod c) p = (p.0, contracts_plain void (suc n) c p.1)
    contracts_plain void n (in_type c) p = (contracts_plain void n c p.0, p.1)
    contracts_plain void n (in_body c) p = (p.0, contracts_plain void (suc n) c p.1)
    contracts_plain void n (in_fun c) p = (contracts_plain void n c p.0, p.1)
    contracts_plain void n (in_arg c) p = (p.0, contracts_plain void n c p.1)
    contracts_plain void n (in_return c) p = (contracts_plain void n c p.0, p.1, p.2)
    contracts_plain void n (in_matched c) p = (p.0, contracts_plain void n c p.1, p.2)
    contracts_plain void n (in_arms c) p = (p.0, p.1, contracts_plain_arms void n c p.2)
    contracts_plain void n (in_terms c) p = absurd p

    pub contracts_plain_arms : {S : Store} → Void S → (n : ℕ) {t u : Arms} → ContractsArms E S t u → PlainArms n t → PlainArms n u
    contracts_plain_arms void n (in_arm {xs = xs} c) p = (contracts_plain void (past_names xs n) c p.0, p.1)
    contracts_plain_arms void n (in_later c) p = (p.0, contracts_plain_arms void n c p.1)

  plain_look : (Γ : List Tree) (i : ℕ) (T : Tree) → Look Γ i T → PlainContext Γ → (i < length Γ) × Plain (length Γ) T
  plain_look [] i T l p = elim l [ ]
  plain_look (A ∷ Γ) i T here p = (omega arith, plain_ren (length Γ) (suc (length Γ)) suc (λ j l. omega arith) A p.0)
  plain_look (A ∷ Γ) i T (there {i = j} {T = U} l) p = let r = plain_look Γ j U l p.1 in (omega (arith, r.0), plain_ren (length Γ) (suc (length Γ)) suc (λ j l. omega arith) U r.1)

  no_way : {X : Type 0} → false ≡ true → X
  no_way e = absurd (true≢false (sym e))

  pub plain : {S : Store} → Void S → {Γ : List Tree} {J : Judgement} → Holds E false S Γ J → PlainJudgement Γ J
  plain void c_empty = tt
  plain void (c_cons c a) = (plain void a, plain void c)
  plain void (t_var {Γ = Γ} {i = i} {T = T} c l) = let r = plain_look Γ i T l (plain void c) in (r.0, r.1)
  plain void (t_prop c) = (tt, tt)
  plain void (t_typ c up) = (tt, tt)
  plain void (t_prod a b ps) = (((plain void a).0, (plain void b).0), tt)
  plain void (t_lam a b) = let q = plain void b in ((plain void a, q.0), (plain void a, q.1))
  plain void (t_app {Γ = Γ} {a = a} {B = B} f x) = let q = plain void f in let r = plain void x in ((q.0, r.0), plain_one (length Γ) a B r.0 q.1.1)
  plain void (t_const {Γ = Γ} {c = c} {e = e} h g i) = (tt, closed_more (length Γ) (declared_type e) (env.types c e g))
  plain void (t_ind {Γ = Γ} {e = e} h o) = (tt, closed_more (length Γ) o.ty (env.types e _ o.entry))
  plain void (t_con {Γ = Γ} {e = e} {k = k} {C = C} h o) = (tt, closed_more (length Γ) C (env.cons e k C o))
  plain void (t_match {Γ = Γ} {e = e} {R = R} {c = c} {ps = ps} is g n z dc i mt dr al df) =
      let q = plain void dc in
      let r = plain void dr in
      ((r.0, q.0, plain void df), (plain_apps (length Γ) R is r.0 (plain_parts (length Γ) (apps (Ind e) ps) is q.1).1, q.0))
  plain void (f_none c g n) = tt
  plain void (f_arm o i b h) = (plain void b, plain void h)
  plain void (b_more a d) = plain void d
  plain void (b_done ps is n d) = (plain void d).0
  plain void (t_meta {n = n} c e dc dt len ts) = absurd (none_some (sym (void n) ∙ e))
  plain void (t_sub d le u) = ((plain void d).0, plain void u)
  plain void (k_sort d) = (plain void d).0
  plain void (k_of d) = (plain void d).1
  plain void (k_type_reduct {Γ = Γ} d c) = contracts_plain void (length Γ) c (plain void d)
  plain void (k_reduct {Γ = Γ} d c) = contracts_plain void (length Γ) c (plain void d)
  plain void (k_prod a b) = (plain void a, plain void b)
  plain void (k_dom d) = (plain void d).0
  plain void (k_cod d) = (plain void d).1
  plain void (k_param {Γ = Γ} e {a = a} {s = s} r d o n i) =
      let q = plain_split (length Γ) s (Item a r) (plain_parts (length Γ) (Ind e) (join s (Item a r)) (plain void d)).1 in
      (q.1.0, (plain_inst (length Γ) i (closed_more (length Γ) o.ty (env.types e _ o.entry)) q.0).0)
  plain void (k_cod_at {Γ = Γ} {B = B} {a = a} d x) = plain_one (length Γ) a B (plain void x).0 (plain void d).1
  plain void (k_return d) = (plain void d).0
  plain void (k_matched d) = (plain void d).1
  plain void (k_stands d) = (plain void d).0
  plain void (k_type_stands d) = plain void d
  plain void (k_fun d) = (plain void d).0
  plain void (k_arg d) = (plain void d).1
  plain void (k_terms d i) = absurd (plain void d)
  plain void (k_prod_type d) = plain void d
  plain void (k_lam_dom d) = (plain void d).0
  plain void (k_lam_body d) = (plain void d).1
  plain void (k_lam_at {Γ = Γ} {b = b} {a = a} d x) = plain_one (length Γ) a b (plain void x).0 (plain void d).1
  plain void (k_drop e i a c d) = no_way e
  plain void (k_metas e w o cl d) = no_way e
