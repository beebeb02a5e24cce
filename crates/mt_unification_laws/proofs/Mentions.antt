-- A judgement over a store that owns its metavariables mentions these alone.
use Rattle.std.proofs.Common.{◌≡◌, ℕ, List, length, true, false, Bool, sym, ◌∙◌, subst, arith}
use Rattle.mt_term.specs.Trees.{Tree, Trees, Arms, Bytes, Var, Sort, Prod, Lam, App, Const, Ind, Con, Match, Meta, End, Item, NoArm, Arm}
use Rattle.mt_term.specs.Substitution.{up_ren, up_rens, ren, ren_all, ren_arms, sub, fill, beyond, apps, all_but, join, count}
use Rattle.mt_term.specs.declared.universes.Sort.TheVariants.{Prop}
use Rattle.mt_term.specs.Declarations.{Environment, declared_type}
use Rattle.mt_term.specs.Stores.{Store, Owned, InStore, AllMetas, AllMetasIn, AllMetasArms, AllMetasOf}
use Rattle.mt_calculus.specs.Contraction.{ArmAt, arm_here, arm_later, Contracts, beta, delta, assigned, iota, unfold_rec, unfold_co, in_dom, in_cod, in_type, in_body, in_fun, in_arg, in_return, in_matched, in_arms, in_terms, ContractsIn, in_first, in_rest, ContractsArms, in_arm, in_later}
use Rattle.mt_calculus.specs.Typing.{Look, ins, Insert, put, keep, Judgement, IsContext, IsType, Has, Stands, Fitting, Body, ren_judgement, JudgementMetas, In, first, later, Holds, c_empty, c_cons, t_var, t_prop, t_typ, t_prod, t_lam, t_app, t_const, t_ind, t_con, t_match, f_none, f_arm, b_more, b_done, t_meta, t_sub, k_sort, k_of, k_type_reduct, k_reduct, k_prod, k_dom, k_cod, k_cod_at, k_param, k_stands, k_type_stands, k_fun, k_arg, k_terms, k_return, k_matched, k_prod_type, k_lam_dom, k_lam_body, k_lam_at, k_drop, k_metas}
use Rattle.mt_calculus_laws.proofs.Steps.{ClosedEnv, Fixed}
use Rattle.mt_calculus_laws.proofs.Agree.{tr_metas, both_metas, both_metas_arms, both_of}
use Rattle.mt_calculus_laws.proofs.Images.{is_some_at, under_metas, widens_owned}
use Rattle.mt_calculus_laws.proofs.MetaLaws.{any_metas, fill_var_metas, sub_metas, one_metas, apps_metas, head_metas, all_but_metas, unjoin_metas, inst_metas}
use Rattle.mt_rules_laws.proofs.InferenceParts.{look_metas}
use Rattle.mt_calculus_laws.proofs.Exchange.{look_ty, place_of}

-- what a judgement mentions for certain (of a branch the body alone)
abbrev pub JudgementMentions : (ℕ → Type 0) → Judgement → Type 0
JudgementMentions P IsContext = Unit {0}
JudgementMentions P (IsType T) = AllMetas P T
JudgementMentions P (Has t T) = AllMetas P t × AllMetas P T
JudgementMentions P (Stands t) = AllMetas P t
JudgementMentions P (Fitting e R ps k bs) = AllMetasArms P bs
JudgementMentions P (Body e p R c T xs b) = AllMetas P b

module _ (P : ℕ → Type 0) where
  mutual
    unren : (ξ : ℕ → ℕ) (t : Tree) → AllMetas P (ren ξ t) → AllMetas P t
    unren ξ (Var i) a = tt
    unren ξ (Sort s) a = tt
    unren ξ (Prod x A B) a = (unren ξ A a.0, unren (up_ren ξ) B a.1)
    unren ξ (Lam x A B) a = (unren ξ A a.0, unren (up_ren ξ) B a.1)
    unren ξ (App A B) a = (unren ξ A a.0, unren ξ B a.1)
    unren ξ (Const c) a = tt
    unren ξ (Ind c) a = tt
    unren ξ (Con c k) a = tt
    unren ξ (Match e R c bs) a = (unren ξ R a.0, unren ξ c a.1, unren_arms ξ bs a.2)
    unren ξ (Meta n s) a = (a.0, unren_all ξ s a.1)

    unren_all : (ξ : ℕ → ℕ) (s : Trees) → AllMetasIn P (ren_all ξ s) → AllMetasIn P s
    unren_all ξ End a = tt
    unren_all ξ (Item t s) a = (unren ξ t a.0, unren_all ξ s a.1)

    unren_arms : (ξ : ℕ → ℕ) (bs : Arms) → AllMetasArms P (ren_arms ξ bs) → AllMetasArms P bs
    unren_arms ξ NoArm a = tt
    unren_arms ξ (Arm xs b bs) a = (unren (up_rens xs ξ) b a.0, unren_arms ξ bs a.1)

  unren_judgement : (ξ : ℕ → ℕ) (J : Judgement) → JudgementMentions P (ren_judgement ξ J) → JudgementMentions P J
  unren_judgement ξ IsContext a = tt
  unren_judgement ξ (IsType T) a = unren ξ T a
  unren_judgement ξ (Has t T) a = (unren ξ t a.0, unren ξ T a.1)
  unren_judgement ξ (Stands t) a = unren ξ t a
  unren_judgement ξ (Fitting e R ps k bs) a = unren_arms ξ bs a
  unren_judgement ξ (Body e p R c T xs b) a = unren (up_rens xs ξ) b a

  uninsert : {A : Tree} {Δ : List Tree} {k : ℕ} {Γ Γ' : List Tree} → Insert A Δ k Γ Γ' → AllMetasOf P Γ' → AllMetasOf P Γ
  uninsert put a = a.1
  uninsert (keep {k = k} {B = B} i) a = (unren (ins k) B a.0, uninsert i a.1)

  pub in_metas : {t : Tree} {s : Trees} → In t s → AllMetasIn P s → AllMetas P t
  in_metas first a = a.0
  in_metas (later i) a = in_metas i a.1

  metas_in : (s : Trees) → ((t : Tree) → In t s → AllMetas P t) → AllMetasIn P s
  metas_in End h = tt
  metas_in (Item t s) h = (h t first, metas_in s (λ u i. h u (later i)))

  pub fill_sub : (s : Trees) (b : Tree) → AllMetasIn P s → AllMetas P b → AllMetas P (sub (fill s Var) b)
  fill_sub s b p q = sub_metas P (fill s Var) (fill_var_metas P s Var p (λ i. tt)) b q

  pub arm_metas : {bs : Arms} {k : ℕ} {xs : List Bytes} {b : Tree} → ArmAt bs k xs b → AllMetasArms P bs → AllMetas P b
  arm_metas arm_here a = a.0
  arm_metas (arm_later h) a = arm_metas h a.1

fixed_metas : (P : ℕ → Type 0) (t : Tree) → Fixed t → AllMetas P t
fixed_metas P t h = subst (AllMetas P) (h (λ n s. Sort Prop) Var) (tr_metas (λ n. Unit {0}) P (λ n s. Sort Prop) (λ n s p q. tt) Var (λ i. tt) t (any_metas (λ n. Unit {0}) (λ n. tt) t))

module _ (E : Environment) (closed : ClosedEnv E) where
  module _ (S : Store) (own : Owned S) where
    abbrev I : ℕ → Type 0
    I = InStore S

    mutual
      contracts_metas : {t u : Tree} → Contracts E S t u → AllMetas I t → AllMetas I u
      contracts_metas (beta {b = b} {a = a}) m = one_metas I a b m.1 m.0.1
      contracts_metas (delta {c = c} {x = x} {T = T} {b = b} e) m = fixed_metas I b (closed.values c x T b e)
      contracts_metas (assigned {n = n} {s = s} {d = d} {b = b} e g) m = under_metas I s b m.1 ((own n d e).body b g)
      contracts_metas (in_dom c) m = (contracts_metas c m.0, m.1)
      contracts_metas (in_cod c) m = (m.0, contracts_metas c m.1)
      contracts_metas (in_type c) m = (contracts_metas c m.0, m.1)
      contracts_metas (in_body c) m = (m.0, contracts_metas c m.1)
      contracts_metas (in_fun c) m = (contracts_metas c m.0, m.1)
      contracts_metas (in_arg c) m = (m.0, contracts_metas c m.1)
      contracts_metas (iota {e = e} {k = k} {b = b} s o n a l) m = fill_sub I (all_but o.params s) b (all_but_metas I o.params s (head_metas I (Con e k) s m.1).1) (arm_metas I a m.2)
      contracts_metas (unfold_rec c {n = k} {r = r} {x = x} {made = made} {T = T} {b = b} {s = s} us h i o n) m = apps_metas I b s (fixed_metas I b (closed.bodies c k r x false made T b h)) (head_metas I (Const c) s m).1
      contracts_metas (unfold_co c {n = k} {r = r} {x = x} {made = made} {T = T} {b = b} s h) m = (m.0, apps_metas I b s (fixed_metas I b (closed.bodies c k r x true made T b h)) (head_metas I (Const c) s m.1).1, m.2)
      contracts_metas (in_return c) m = (contracts_metas c m.0, m.1, m.2)
      contracts_metas (in_matched c) m = (m.0, contracts_metas c m.1, m.2)
      contracts_metas (in_arms c) m = (m.0, m.1, contracts_arms c m.2)
      contracts_metas (in_terms c) m = (m.0, contracts_in c m.1)

      contracts_in : {t u : Trees} → ContractsIn E S t u → AllMetasIn I t → AllMetasIn I u
      contracts_in (in_first c) m = (contracts_metas c m.0, m.1)
      contracts_in (in_rest c) m = (m.0, contracts_in c m.1)

      contracts_arms : {t u : Arms} → ContractsArms E S t u → AllMetasArms I t → AllMetasArms I u
      contracts_arms (in_arm c) m = (contracts_metas c m.0, m.1)
      contracts_arms (in_later c) m = (m.0, contracts_arms c m.1)

  -- the terms of a metavariable
  terms_metas : (P : ℕ → Type 0) (Γ : List Tree) (s : Trees) → count s ≡ length Γ → ((i : ℕ) (T : Tree) → Look Γ i T → AllMetas P (fill s beyond i)) → AllMetasIn P s
  terms_metas P Γ s len h = metas_in P s go
    where
      go : (t : Tree) → In t s → AllMetas P t
      go t i = let r = place_of E true closed s beyond t i in subst (AllMetas P) r.2 (h r.0 _ (look_ty E true closed Γ r.0 (omega (arith, r.1, len))))

  narrowed : (S S' : Store) (n : ℕ) → InStore S' n → S.at n ≡ S'.at n → InStore S n
  narrowed S S' n p e q = p (sym e ∙ q)

  narrow_judgement : (S S' : Store) (J : Judgement) → JudgementMentions (InStore S') J → JudgementMetas (λ n. S.at n ≡ S'.at n) J → JudgementMentions (InStore S) J
  narrow_judgement S S' IsContext m c = tt
  narrow_judgement S S' (IsType T) m c = both_metas (InStore S') (λ n. S.at n ≡ S'.at n) (InStore S) (narrowed S S') T m c
  narrow_judgement S S' (Has t T) m c = (both_metas (InStore S') (λ n. S.at n ≡ S'.at n) (InStore S) (narrowed S S') t m.0 c.0, both_metas (InStore S') (λ n. S.at n ≡ S'.at n) (InStore S) (narrowed S S') T m.1 c.1)
  narrow_judgement S S' (Stands T) m c = both_metas (InStore S') (λ n. S.at n ≡ S'.at n) (InStore S) (narrowed S S') T m c
  narrow_judgement S S' (Fitting e R ps k bs) m c = both_metas_arms (InStore S') (λ n. S.at n ≡ S'.at n) (InStore S) (narrowed S S') bs m c.2
  narrow_judgement S S' (Body e p R d T xs b) m c = both_metas (InStore S') (λ n. S.at n ≡ S'.at n) (InStore S) (narrowed S S') b m c.3

  pub mentions : (w : Bool) {S : Store} {Γ : List Tree} {J : Judgement} → Owned S → Holds E w S Γ J → AllMetasOf (InStore S) Γ × JudgementMentions (InStore S) J
  mentions w own c_empty = (tt, tt)
  mentions w own (c_cons c a) = let p = mentions w own a in ((p.1, p.0), tt)
  mentions w {S = S} own (t_var c l) = let p = mentions w own c in (p.0, (tt, look_metas (InStore S) l p.0))
  mentions w own (t_prop c) = ((mentions w own c).0, (tt, tt))
  mentions w own (t_typ c up) = ((mentions w own c).0, (tt, tt))
  mentions w own (t_prod a b ps) = let p = mentions w own a in let q = mentions w own b in (p.0, ((p.1.0, q.1.0), tt))
  mentions w own (t_lam a b) = let p = mentions w own a in let q = mentions w own b in (p.0, ((p.1, q.1.0), (p.1, q.1.1)))
  mentions w {S = S} own (t_app {a = a} {B = B} d e) = let p = mentions w own d in let q = mentions w own e in (p.0, ((p.1.0, q.1.0), one_metas (InStore S) a B q.1.0 p.1.1.1))
  mentions w {S = S} own (t_const {c = c} {e = e} d h i) = ((mentions w own d).0, (tt, fixed_metas (InStore S) (declared_type e) (closed.types c e h)))
  mentions w {S = S} own (t_ind {e = e} d o) = ((mentions w own d).0, (tt, fixed_metas (InStore S) o.ty (closed.types e _ o.entry)))
  mentions w {S = S} own (t_con {e = e} {k = k} {C = C} d o) = ((mentions w own d).0, (tt, fixed_metas (InStore S) C (closed.cons e k C o)))
  mentions w {S = S} own (t_match {e = e} {R = R} {ps = ps} is g n z dc i mt dr al df) =
      let p = mentions w own dc in
      let q = mentions w own dr in
      let r = mentions w own df in
      let u = head_metas (InStore S) (apps (Ind e) ps) is p.1.1 in
      (p.0, ((q.1.0, p.1.0, r.1), (apps_metas (InStore S) R is q.1.0 u.1, p.1.0)))
  mentions w own (f_none c g n) = ((mentions w own c).0, tt)
  mentions w own (f_arm o i b h) = let p = mentions w own b in let q = mentions w own h in (p.0, (p.1, q.1))
  mentions w own (b_more a b) = ((mentions w own a).0, (mentions w own b).1)
  mentions w own (b_done ps is n d) = let p = mentions w own d in (p.0, p.1.0)
  mentions w {S = S} own (k_param e {a = a} {s = s} r d o n i) =
      let p = mentions w own d in
      let u = (head_metas (InStore S) (Ind e) (join s (Item a r)) p.1).1 in
      let j = unjoin_metas (InStore S) s (Item a r) u in
      let t = inst_metas (InStore S) i (fixed_metas (InStore S) o.ty (closed.types e _ o.entry)) j.0 in
      (p.0, (j.1.0, t.0))
  mentions w own (k_return d) = let p = mentions w own d in (p.0, p.1.0)
  mentions w own (k_matched d) = let p = mentions w own d in (p.0, p.1.1)
  mentions w {S = S} own (t_meta {n = n} {s = s} {d = d} c e dc dt len ts) =
      let a : AllMetasIn (InStore S) s = terms_metas (InStore S) (d.context) s len (λ i T l. (mentions w own (ts i T l)).1.0) in
      ((mentions w own c).0, ((is_some_at e, a), under_metas (InStore S) s (d.ty) a (own n d e).ty))
  mentions w own (t_sub h le u) = let p = mentions w own h in (p.0, (p.1.0, (mentions w own u).1))
  mentions w own (k_sort h) = let p = mentions w own h in (p.0, p.1.0)
  mentions w own (k_of h) = let p = mentions w own h in (p.0, p.1.1)
  mentions w {S = S} own (k_type_reduct h c) = let p = mentions w own h in (p.0, contracts_metas S own c p.1)
  mentions w {S = S} own (k_reduct h c) = let p = mentions w own h in (p.0, contracts_metas S own c p.1)
  mentions w own (k_prod a b) = let p = mentions w own a in (p.0, (p.1, (mentions w own b).1))
  mentions w own (k_dom h) = let p = mentions w own h in (p.0, p.1.0)
  mentions w own (k_cod h) = let p = mentions w own h in ((p.1.0, p.0), p.1.1)
  mentions w own (k_stands h) = let p = mentions w own h in (p.0, p.1.0)
  mentions w own (k_type_stands h) = mentions w own h
  mentions w own (k_fun h) = let p = mentions w own h in (p.0, p.1.0)
  mentions w own (k_arg h) = let p = mentions w own h in (p.0, p.1.1)
  mentions w {S = S} own (k_terms h i) = let p = mentions w own h in (p.0, in_metas (InStore S) i p.1.1)
  mentions w own (k_prod_type h) = mentions w own h
  mentions w own (k_lam_dom h) = let p = mentions w own h in (p.0, p.1.0)
  mentions w own (k_lam_body h) = let p = mentions w own h in ((p.1.0, p.0), p.1.1)
  mentions w {S = S} own (k_lam_at {b = b} {a = a} h g) = let p = mentions w own h in (p.0, one_metas (InStore S) a b (mentions w own g).1.0 p.1.1)
  mentions w {S = S} own (k_cod_at {B = B} {a = a} h g) = let p = mentions w own h in (p.0, one_metas (InStore S) a B (mentions w own g).1.0 p.1.1)
  mentions w {S = S} own (k_drop {k = k} {J = J} e i a c d) = let p = mentions w own d in (uninsert (InStore S) i p.0, unren_judgement (InStore S) (ins k) J p.1)
  mentions w own (k_metas {S = S} {S' = S'} {Γ = Γ} {J = J} e h o j d) =
      let p = mentions w (widens_owned S S' h own) d in
      (both_of (InStore S') (λ n. S.at n ≡ S'.at n) (InStore S) (narrowed S S') Γ p.0 o, narrow_judgement S S' J p.1 j)
