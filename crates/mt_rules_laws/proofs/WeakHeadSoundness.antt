-- What the weak head answers is reached by contractions.
use Rattle.std.specs.Prelude.{ℕ, zero, suc, ◌≡◌, refl, List, [], ◌∷◌, length, nat_eq, if◌then◌else◌, Bool, true, false, Option, Some, None, is_some, slice_get}
use Rattle.std.proofs.Common.{sym, ◌∙◌, ap, subst, eqb-true}
use Rattle.mt_term.specs.Trees.{Bytes, Tree, Trees, Arms, Var, Sort, Prod, Lam, App, Const, Ind, Con, Match, Meta, End, Item, NoArm, Arm}
use Rattle.mt_term.specs.Substitution.{sub, one, fill, under, apps, all_but, count, products}
use Rattle.mt_term.specs.Declarations.{Constructor, Declaration, Axiom, Definition, Inductive, Recursive, Environment, constructor_in, constructor_at}
use Rattle.mt_rules.specs.Charges.{Charged, give, ◌>>=◌}
use Rattle.mt_term.specs.Spines.{as_con, as_const, on_args, with_first}
use Rattle.mt_term.specs.Stores.{Declared, Store, AllMetas, AllMetasIn, AllMetasArms, AllMetasHeld, body_of}
use Rattle.mt_calculus.specs.Contraction.{ArmAt, arm_here, arm_later, ItemAt, item_here, item_later, ConstructorOf, Contracts, beta as by_beta, delta, assigned, iota, unfold_rec, unfold_co, in_dom, in_cod, in_type, in_body, in_fun, in_arg, in_return, in_matched, in_terms, in_first}
use Rattle.mt_rules.specs.WeakHead.{Arg, plain, takes, if_full, full_con, params_of, branch_at, branch_under, taken, corecursive_body, unrolled, branch_or_match, matched, body_under, opened, on_opened, unfolded, follow, look_by, whd_by, whd, look, paid, step as one_step, follow_or, parts_by, all_by, arms_by, normal_by, normal}
use Rattle.mt_calculus_laws.proofs.Steps.{Reduces, done, step, within, also, ReducesIn, done_all, more_all, ReducesArms, done_arms, more_arms, within_item, within_all, within_rest, within_arm, within_later, within_match}
use Rattle.mt_calculus_laws.proofs.Images.{under_metas}
use Rattle.mt_calculus_laws.proofs.Plain.{PlainEntries}
use Rattle.mt_calculus_laws.proofs.MetaLaws.{plain_metas, any_metas, one_metas, sub_metas, fill_var_metas, apps_metas, head_metas, all_but_metas}
use Rattle.mt_rules_laws.proofs.Yields.{Yields, gives, charges, then_yields, so_yields, fixed_yields, some_is, nothing}

-- a term on arguments that is a constructor, or a constant, on arguments
pub as_con_is : (t : Tree) (s : Trees) (k : ℕ × ℕ × Trees) → as_con t s ≡ Some k → apps t s ≡ apps (Con k.0 k.1) k.2
as_con_is (Con e j) s k h = ap (λ (q : ℕ × ℕ × Trees). apps (Con q.0 q.1) q.2) (some_is h)
as_con_is (App f a) s k h = as_con_is f (Item a s) k h
as_con_is _ s k h = nothing h

pub as_const_is : (t : Tree) (s : Trees) (k : ℕ × Trees) → as_const t s ≡ Some k → apps t s ≡ apps (Const k.0) k.1
as_const_is (Const c) s k h = ap (λ (q : ℕ × Trees). apps (Const q.0) q.1) (some_is h)
as_const_is (App f a) s k h = as_const_is f (Item a s) k h
as_const_is _ s k h = nothing h

-- a branch by its number
pub branch_at_is : (bs : Arms) (k : ℕ) (b : List Bytes × Tree) → branch_at bs k ≡ Some b → ArmAt bs k b.0 b.1
branch_at_is NoArm k b h = nothing h
branch_at_is (Arm xs t bs) zero b h = subst (λ (q : List Bytes × Tree). ArmAt (Arm xs t bs) zero q.0 q.1) (some_is h) arm_here
branch_at_is (Arm xs t bs) (suc k) b h = arm_later (branch_at_is bs k b h)

pub arm_metas : (P : ℕ → Type 0) {bs : Arms} {k : ℕ} {xs : List Bytes} {b : Tree} → ArmAt bs k xs b → AllMetasArms P bs → AllMetas P b
arm_metas P arm_here a = a.0
arm_metas P (arm_later h) a = arm_metas P h a.1

if_inv : {A : Type 0} (b : Bool) (t u : A) → (if b then Some t else None) ≡ Some u → (b ≡ true) × (t ≡ u)
if_inv true t u h = (refl, some_is h)
if_inv false t u h = nothing h

-- a constructor of an entry
pub constructor_of : (E : Environment) (e k : ℕ) (o : Option Declaration) (c : Constructor) → slice_get E.entries e ≡ o → constructor_in o k ≡ Some c → ConstructorOf E e k (c.ty)
constructor_of E e k (Some (Inductive x co p t cs l)) c g h = record { name = x; co = co; params = p; ty = t; cons = cs; large = l; con_name = c.name; entry = g; con = h }
constructor_of E e k (Some (Axiom x t)) c g h = nothing h
constructor_of E e k (Some (Definition x t b)) c g h = nothing h
constructor_of E e k (Some (Recursive x co n r t b made)) c g h = nothing h
constructor_of E e k None c g h = nothing h

-- a term is a constructor with all its arguments
pub record Full (E : Environment) (d : Tree) (k : ℕ × ℕ × Trees) : Type 0 where
  pub is : d ≡ apps (Con k.0 k.1) k.2
  pub ty : Tree
  pub con : ConstructorOf E k.0 k.1 ty
  pub all : count k.2 ≡ products ty

pub full_is : (E : Environment) (d : Tree) (k : ℕ × ℕ × Trees) → full_con E.entries d ≡ Some k → Full E d k
full_is E d k h = go (as_con d End) refl h
  where
    last : (j : ℕ × ℕ × Trees) → as_con d End ≡ Some j → (o : Option Constructor) → constructor_at E.entries j.0 j.1 ≡ o → (if takes o (count j.2) then Some j else None) ≡ Some k → Full E d k
    last j a None c g = nothing g
    last j a (Some c) b g =
        let q = if_inv (nat_eq (count j.2) (products c.ty)) j k g in
        let f : Full E d j = record { is = as_con_is d End j a; ty = c.ty; con = constructor_of E j.0 j.1 (slice_get E.entries j.0) c refl b; all = eqb-true (count j.2) (products c.ty) q.0 } in
        subst (Full E d) q.1 f

    go : (o : Option (ℕ × ℕ × Trees)) → as_con d End ≡ o → if_full E.entries o ≡ Some k → Full E d k
    go None a g = nothing g
    go (Some j) a g = last j a (constructor_at E.entries j.0 j.1) refl g

also_all : {E : Environment} {T : Store} {s t u : Trees} → ReducesIn E T s t → ReducesIn E T t u → ReducesIn E T s u
also_all done_all q = q
also_all (more_all c p) q = more_all c (also_all p q)

also_arms : {E : Environment} {T : Store} {s t u : Arms} → ReducesArms E T s t → ReducesArms E T t u → ReducesArms E T s u
also_arms done_arms q = q
also_arms (more_arms c p) q = more_arms c (also_arms p q)

-- the bodies of an environment have metavariables that are P
pub record BodyMetas (E : Environment) (P : ℕ → Type 0) : Type 0 where
  pub bodies : (c n r : ℕ) (x : Bytes) (co made : Bool) (t b : Tree) → slice_get (E.entries) c ≡ Some (Recursive x co n r t b made) → AllMetas P b
  pub values : (c : ℕ) (x : Bytes) (t b : Tree) → slice_get (E.entries) c ≡ Some (Definition x t b) → AllMetas P b

pub plain_bodies : (E : Environment) (P : ℕ → Type 0) → PlainEntries E → BodyMetas E P
plain_bodies E P env = record { bodies = λ c n r x co made t b h. plain_metas P zero b (env.bodies c n r x co made t b h); values = λ c x t b h. plain_metas P zero b (env.values c x t b h) }

pub any_bodies : (E : Environment) (P : ℕ → Type 0) → ((n : ℕ) → P n) → BodyMetas E P
any_bodies E P all = record { bodies = λ c n r x co made t b h. any_metas P all b; values = λ c x t b h. any_metas P all b }

module _ (E : Environment) (S T : Store) (P : ℕ → Type 0) (env : BodyMetas E P)
    (agree : (n : ℕ) → P n → S.at n ≡ T.at n) (held : (n : ℕ) (d : Declared) → P n → S.at n ≡ Some d → AllMetasHeld P d) where
  -- what is reached by contractions, in the second store, and has metavariables that are P
  abbrev pub Reached : Tree → Tree → Type 0
  Reached t u = Reduces E T t u × AllMetas P u

  within_apps : (t u : Tree) (s : Trees) → Reduces E T t u → Reduces E T (apps t s) (apps u s)
  within_apps t u End r = r
  within_apps t u (Item a s) r = within_apps (App t a) (App u a) s (within (λ v. App v a) (λ x y. in_fun) r)

  abbrev Step : Tree → Option Tree → Type 0
  Step t None = Unit {0}
  Step t (Some u) = Reached t u

  -- arguments that have metavariables that are P, with weak heads that are reached
  data GoodArgs : List Arg → Type 0 where
    no_args : GoodArgs []
    more_args : {a : Tree} {m : Charged Tree} {vs : List Arg} → AllMetas P a → Yields m (Reached a) → GoodArgs vs → GoodArgs ((a, m) ∷ vs)

  plain_args : {vs : List Arg} → GoodArgs vs → AllMetasIn P (plain vs)
  plain_args no_args = tt
  plain_args (more_args p y g) = (p, plain_args g)

  -- the arguments after the one at a place was taken to its weak head, a constructor with all its arguments
  record Opening (r : ℕ) (vs : List Arg) (s : Trees) : Type 0 where
    steps : (t : Tree) → Reduces E T (apps t (plain vs)) (apps t s)
    metas : AllMetasIn P s
    k : ℕ × ℕ × Trees
    at : ItemAt (apps (Con k.0 k.1) k.2) s r
    ty : Tree
    con : ConstructorOf E k.0 k.1 ty
    all : count k.2 ≡ products ty

  abbrev OpeningOr : ℕ → List Arg → Option Trees → Type 0
  OpeningOr r vs None = Unit {0}
  OpeningOr r vs (Some s) = Opening r vs s

  open_here : (a d : Tree) (vs : List Arg) (m : Charged Tree) → GoodArgs vs → Reached a d → (o : Option (ℕ × ℕ × Trees)) → full_con E.entries d ≡ o → OpeningOr zero ((a, m) ∷ vs) (if is_some o then Some (Item d (plain vs)) else None)
  open_here a d vs m g r None h = tt
  open_here a d vs m g r (Some k) h =
      let f = full_is E d k h in
      record { steps = λ t. within_apps (App t a) (App t d) (plain vs) (within (λ v. App t v) (λ x y. in_arg) r.0); metas = (r.1, plain_args g); k = k; at = subst (λ v. ItemAt v (Item d (plain vs)) zero) f.is item_here; ty = f.ty; con = f.con; all = f.all }

  open_later : (a : Tree) (m : Charged Tree) (r : ℕ) (vs : List Arg) → AllMetas P a → (o : Option Trees) → OpeningOr r vs o → OpeningOr (suc r) ((a, m) ∷ vs) (with_first a o)
  open_later a m r vs p None h = tt
  open_later a m r vs p (Some s) h =
      record { steps = λ t. h.steps (App t a); metas = (p, h.metas); k = h.k; at = item_later h.at; ty = h.ty; con = h.con; all = h.all }

  opened_yields : (r : ℕ) (vs : List Arg) → GoodArgs vs → Yields (opened E.entries r vs) (OpeningOr r vs)
  opened_yields r _ no_args = gives (OpeningOr r []) None tt
  opened_yields zero _ (more_args {a = a} {m = m} {vs = vs} p y g) =
      then_yields (Reached a) (OpeningOr zero ((a, m) ∷ vs)) m _ y (λ d r. gives (OpeningOr zero ((a, m) ∷ vs)) _ (open_here a d vs m g r (full_con E.entries d) refl))
  opened_yields (suc r) _ (more_args {a = a} {m = m} {vs = vs} p y g) =
      then_yields (OpeningOr r vs) (OpeningOr (suc r) ((a, m) ∷ vs)) (opened E.entries r vs) _ (opened_yields r vs g) (λ o h. gives (OpeningOr (suc r) ((a, m) ∷ vs)) _ (open_later a m r vs p o h))

  -- constants
  recursive_step : (c : ℕ) (vs : List Arg) (x : Bytes) (n r : ℕ) (t b : Tree) (made : Bool) → slice_get E.entries c ≡ Some (Recursive x false n r t b made) → (o : Option Trees) → OpeningOr r vs o → Step (apps (Const c) (plain vs)) (on_opened b o)
  recursive_step c vs x n r t b made h None f = tt
  recursive_step c vs x n r t b made h (Some s) f =
      (also (f.steps (Const c)) (step (unfold_rec c f.k.2 h f.at f.con f.all)), apps_metas P b s ((env.bodies c n r x false made t b h)) f.metas)

  unfolded_yields : (c : ℕ) (vs : List Arg) → GoodArgs vs → (o : Option Declaration) → slice_get E.entries c ≡ o → Yields (unfolded E.entries o vs) (Step (apps (Const c) (plain vs)))
  unfolded_yields c vs g (Some (Definition x t b)) h =
      gives (Step (apps (Const c) (plain vs))) _ (within_apps (Const c) b (plain vs) (step (delta h)), apps_metas P b (plain vs) ((env.values c x t b h)) (plain_args g))
  unfolded_yields c vs g (Some (Recursive x false n r t b made)) h =
      then_yields (OpeningOr r vs) (Step (apps (Const c) (plain vs))) (opened E.entries r vs) _ (opened_yields r vs g) (λ o f. gives (Step (apps (Const c) (plain vs))) _ (recursive_step c vs x n r t b made h o f))
  unfolded_yields c vs g (Some (Recursive x true n r t b made)) h = gives (Step (apps (Const c) (plain vs))) None tt
  unfolded_yields c vs g (Some (Axiom x t)) h = gives (Step (apps (Const c) (plain vs))) None tt
  unfolded_yields c vs g (Some (Inductive x co p t cs l)) h = gives (Step (apps (Const c) (plain vs))) None tt
  unfolded_yields c vs g None h = gives (Step (apps (Const c) (plain vs))) None tt

  -- matches
  taken_step : (e : ℕ) (r d : Tree) (bs : Arms) → AllMetas P d → AllMetasArms P bs → (o : Option (ℕ × ℕ × Trees)) → full_con E.entries d ≡ o → (t : Tree) → taken E.entries e o bs ≡ Some t → Reached (Match e r d bs) t
  taken_step e r d bs pd pb None f t h = nothing h
  taken_step e r d bs pd pb (Some k) f t h = go (full_is E d k f) (nat_eq k.0 e) refl (branch_at bs k.1) refl h
    where
      at_type : (w : Full E d k) → k.0 ≡ e → (b : List Bytes × Tree) → branch_at bs k.1 ≡ Some b → (length b.0 ≡ count (all_but (params_of (slice_get E.entries e)) k.2)) → Reached (Match e r d bs) (sub (fill (all_but (params_of (slice_get E.entries e)) k.2) Var) b.1)
      at_type w i b a len =
          let o : ConstructorOf E e k.1 w.ty = subst (λ j. ConstructorOf E j k.1 w.ty) i w.con in
          let q : params_of (slice_get E.entries e) ≡ o.params = ap params_of o.entry in
          let arm = branch_at_is bs k.1 b a in
          let c : Contracts E T (Match e r (apps (Con e k.1) k.2) bs) (sub (fill (all_but (o.params) k.2) Var) b.1) = iota k.2 o w.all arm (subst (λ p. length b.0 ≡ count (all_but p k.2)) q len) in
          let c' : Contracts E T (Match e r d bs) (sub (fill (all_but (o.params) k.2) Var) b.1) = subst (λ v. Contracts E T (Match e r v bs) (sub (fill (all_but (o.params) k.2) Var) b.1)) (sym (w.is ∙ ap (λ j. apps (Con j k.1) k.2) i)) c in
          let args : AllMetasIn P k.2 = (head_metas P (Con k.0 k.1) k.2 (subst (AllMetas P) w.is pd)).1 in (
            step (subst (λ p. Contracts E T (Match e r d bs) (sub (fill (all_but p k.2) Var) b.1)) (sym q) c'),
            sub_metas P (fill (all_but (params_of (slice_get E.entries e)) k.2) Var) (fill_var_metas P (all_but (params_of (slice_get E.entries e)) k.2) Var (all_but_metas P (params_of (slice_get E.entries e)) k.2 args) (λ i. tt)) b.1 (arm_metas P arm pb),
          )

      go : Full E d k → (i : Bool) → nat_eq k.0 e ≡ i → (b : Option (List Bytes × Tree)) → branch_at bs k.1 ≡ b → (if i then branch_under b (all_but (params_of (slice_get E.entries e)) k.2) else None) ≡ Some t → Reached (Match e r d bs) t
      go w true i (Some b) a g =
          let q = if_inv (nat_eq (length b.0) (count (all_but (params_of (slice_get E.entries e)) k.2))) _ t g in
          subst (Reached (Match e r d bs)) q.1 (at_type w (eqb-true k.0 e i) b a (eqb-true (length b.0) (count (all_but (params_of (slice_get E.entries e)) k.2)) q.0))
      go w true i None a g = nothing g
      go w false i b a g = nothing g

  unrolled_step : (e : ℕ) (r d : Tree) (bs : Arms) → AllMetas P r → AllMetas P d → AllMetasArms P bs → (o : Option (ℕ × Trees)) → as_const d End ≡ o → (t : Tree) → unrolled E.entries o ≡ Some t → Reached (Match e r d bs) (Match e r t bs)
  unrolled_step e r d bs pr pd pb None f t h = nothing h
  unrolled_step e r d bs pr pd pb (Some c) f t h = go (slice_get E.entries c.0) refl h
    where
      is : d ≡ apps (Const c.0) c.1
      is = as_const_is d End c f

      args : AllMetasIn P c.1
      args = (head_metas P (Const c.0) c.1 (subst (AllMetas P) is pd)).1

      go : (o : Option Declaration) → slice_get E.entries c.0 ≡ o → on_args (corecursive_body o) c.1 ≡ Some t → Reached (Match e r d bs) (Match e r t bs)
      go (Some (Recursive x true n p ty b made)) g i =
          let s : Contracts E T (Match e r d bs) (Match e r (apps b c.1) bs) = subst (λ v. Contracts E T (Match e r v bs) (Match e r (apps b c.1) bs)) (sym is) (unfold_co c.0 c.1 g) in
          subst (λ v. Reached (Match e r d bs) (Match e r v bs)) (some_is i) (step s, (pr, apps_metas P b c.1 ((env.bodies c.0 n p x true made ty b g)) args, pb))
      go (Some (Recursive x false n p ty b made)) g i = nothing i
      go (Some (Axiom x ty)) g i = nothing i
      go (Some (Definition x ty b)) g i = nothing i
      go (Some (Inductive x co p ty cs l)) g i = nothing i
      go None g i = nothing i

  match_step : (e : ℕ) (r c d : Tree) (bs : Arms) (s : Trees) → AllMetas P r → AllMetasArms P bs → AllMetasIn P s → Reached c d → Step (apps (Match e r c bs) s) (on_args (matched E.entries e r bs d) s)
  match_step e r c d bs s pr pb ps rd = go (taken E.entries e (full_con E.entries d) bs) refl (unrolled E.entries (as_const d End)) refl
    where
      to_d : Reduces E T (Match e r c bs) (Match e r d bs)
      to_d = within (λ v. Match e r v bs) (λ x y. in_matched) rd.0

      go : (o : Option Tree) → taken E.entries e (full_con E.entries d) bs ≡ o → (q : Option Tree) → unrolled E.entries (as_const d End) ≡ q → Step (apps (Match e r c bs) s) (on_args (branch_or_match e r bs o q) s)
      go (Some t) f q g =
          let z = taken_step e r d bs rd.1 pb (full_con E.entries d) refl t f in
          (within_apps (Match e r c bs) t s (also to_d z.0), apps_metas P t s z.1 ps)
      go None f (Some t) g =
          let z = unrolled_step e r d bs pr rd.1 pb (as_const d End) refl t g in
          (within_apps (Match e r c bs) (Match e r t bs) s (also to_d z.0), apps_metas P (Match e r t bs) s z.1 ps)
      go None f None g = tt

  -- metavariables
  meta_step : (n : ℕ) (t s : Trees) → P n → AllMetasIn P t → AllMetasIn P s → (o : Option Declared) → S.at n ≡ o → Step (apps (Meta n t) s) (on_args (body_under (body_of o) t) s)
  meta_step n t s p pt ps None h = tt
  meta_step n t s p pt ps (Some d) h = go (d.body) refl
    where
      go : (b : Option Tree) → d.body ≡ b → Step (apps (Meta n t) s) (on_args (body_under b t) s)
      go None f = tt
      go (Some b) f = (
        within_apps (Meta n t) (under t b) s (step (assigned (sym (agree n p) ∙ h) f)),
        apps_metas P (under t b) s (under_metas P t b pt ((held n d p h).body b f)) ps,
      )

  module _ (again : Tree → Charged Tree) (ih : (t : Tree) → Yields (again t) (λ u. AllMetas P t → Reached t u)) where
    follow_yields : (t : Tree) → AllMetas P t → (o : Option Tree) → Step t o → Yields (follow again t o) (Reached t)
    follow_yields t p None s = gives (Reached t) t (done, p)
    follow_yields t p (Some u) s =
        charges (Reached t) (again u) (so_yields (λ v. AllMetas P u → Reached u v) (Reached t) (again u) (λ v f. let r = f s.1 in (also s.0 r.0, r.1)) (ih u))

    look_yields : (t : Tree) (vs : List Arg) → AllMetas P t → GoodArgs vs → Yields (look_by E S again t vs) (Step (apps t (plain vs)))
    look_yields (Lam x a b) _ p no_args = gives (Step (Lam x a b)) None tt
    look_yields (Lam x a b) _ p (more_args {a = u} {vs = vs} pu y g) =
        gives (Step (apps (App (Lam x a b) u) (plain vs))) _ (within_apps (App (Lam x a b) u) (sub (one u) b) (plain vs) (step by_beta), apps_metas P (sub (one u) b) (plain vs) (one_metas P u b pu p.1) (plain_args g))
    look_yields (App f a) vs p g =
        look_yields f _ p.0 (more_args p.1 (then_yields (Step a) (Reached a) (look_by E S again a []) (follow again a) (look_yields a [] p.1 no_args) (follow_yields a p.1)) g)
    look_yields (Const c) vs p g = unfolded_yields c vs g (slice_get E.entries c) refl
    look_yields (Match e r c bs) vs p g =
        then_yields (Reached c) (Step (apps (Match e r c bs) (plain vs))) (look_by E S again c [] >>= follow again c) _
        (then_yields (Step c) (Reached c) (look_by E S again c []) (follow again c) (look_yields c [] p.1 no_args) (follow_yields c p.1))
        (λ d z. gives (Step (apps (Match e r c bs) (plain vs))) _ (match_step e r c d bs (plain vs) p.0 p.2 (plain_args g) z))
    look_yields (Meta n t) vs p g = gives (Step (apps (Meta n t) (plain vs))) _ (meta_step n t (plain vs) p.0 p.1 (plain_args g) (S.at n) refl)
    look_yields (Var i) vs p g = gives (Step (apps (Var i) (plain vs))) None tt
    look_yields (Sort s) vs p g = gives (Step (apps (Sort s) (plain vs))) None tt
    look_yields (Prod x a b) vs p g = gives (Step (apps (Prod x a b) (plain vs))) None tt
    look_yields (Ind e) vs p g = gives (Step (apps (Ind e) (plain vs))) None tt
    look_yields (Con e k) vs p g = gives (Step (apps (Con e k) (plain vs))) None tt

    whd_by_yields : (t : Tree) → AllMetas P t → Yields (whd_by E S again t) (Reached t)
    whd_by_yields t p = then_yields (Step t) (Reached t) (look_by E S again t []) (follow again t) (look_yields t [] p no_args) (follow_yields t p)

  -- the weak head
  pub whd_yields : (t : Tree) → AllMetas P t → Yields (whd E S t) (Reached t)
  unfolding whd
  whd_yields t p n a r e =
      fixed_yields Tree (λ t. Tree) (whd_by E S) (λ t u. AllMetas P t → Reached t u) (λ again ih t n a r e p. whd_by_yields again ih t p n a r e) t n a r e p

  -- one step, and the normal form
  look_none : (t : Tree) → AllMetas P t → Yields (look E S t End) (Step t)
  unfolding look
  look_none t p = look_yields (whd E S) (λ u n a r e q. whd_yields u q n a r e) t [] p no_args

  paid_yields : (t : Tree) (o : Option Tree) → Step t o → Yields (paid o) (Step t)
  paid_yields t None h = gives (Step t) None tt
  paid_yields t (Some u) h = charges (Step t) (give (Some u)) (gives (Step t) (Some u) h)

  pub step_yields : (t : Tree) → AllMetas P t → Yields (one_step E S t) (Step t)
  unfolding one_step
  step_yields t p = then_yields (Step t) (Step t) (look E S t End) paid (look_none t p) (paid_yields t)

  abbrev ReachedAll : Trees → Trees → Type 0
  ReachedAll s r = ReducesIn E T s r × AllMetasIn P r

  abbrev ReachedArms : Arms → Arms → Type 0
  ReachedArms bs cs = ReducesArms E T bs cs × AllMetasArms P cs

  module _ (again : Tree → Charged Tree) (ih : (t : Tree) → Yields (again t) (λ u. AllMetas P t → Reached t u)) where
    part_yields : (t : Tree) → AllMetas P t → (m : Charged Tree) → Yields m (Reached t) → Yields (look E S t End >>= follow_or m again) (Reached t)
    part_yields t p m y = then_yields (Step t) (Reached t) (look E S t End) (follow_or m again) (look_none t p) go
      where
        go : (o : Option Tree) → Step t o → Yields (follow_or m again o) (Reached t)
        go None s = y
        go (Some u) s = charges (Reached t) (again u) (so_yields (λ v. AllMetas P u → Reached u v) (Reached t) (again u) (λ v f. let r = f s.1 in (also s.0 r.0, r.1)) (ih u))

    mutual
      parts_yield : (t : Tree) → AllMetas P t → Yields (parts_by E S again t) (Reached t)
      parts_yield (Prod x a b) p =
          let Q = Reached (Prod x a b) in
          then_yields (Reached a) Q (look E S a End >>= follow_or (parts_by E S again a) again) _ (part_yields a p.0 (parts_by E S again a) (parts_yield a p.0)) (λ c f.
          then_yields (Reached b) Q (look E S b End >>= follow_or (parts_by E S again b) again) _ (part_yields b p.1 (parts_by E S again b) (parts_yield b p.1)) (λ d g.
          gives Q (Prod x c d) (also (within (λ v. Prod x v b) (λ y z. in_dom) f.0) (within (λ v. Prod x c v) (λ y z. in_cod) g.0), (f.1, g.1))))
      parts_yield (Lam x a b) p =
          let Q = Reached (Lam x a b) in
          then_yields (Reached a) Q (look E S a End >>= follow_or (parts_by E S again a) again) _ (part_yields a p.0 (parts_by E S again a) (parts_yield a p.0)) (λ c f.
          then_yields (Reached b) Q (look E S b End >>= follow_or (parts_by E S again b) again) _ (part_yields b p.1 (parts_by E S again b) (parts_yield b p.1)) (λ d g.
          gives Q (Lam x c d) (also (within (λ v. Lam x v b) (λ y z. in_type) f.0) (within (λ v. Lam x c v) (λ y z. in_body) g.0), (f.1, g.1))))
      parts_yield (App a b) p =
          let Q = Reached (App a b) in
          then_yields (Reached a) Q (look E S a End >>= follow_or (parts_by E S again a) again) _ (part_yields a p.0 (parts_by E S again a) (parts_yield a p.0)) (λ c f.
          then_yields (Reached b) Q (look E S b End >>= follow_or (parts_by E S again b) again) _ (part_yields b p.1 (parts_by E S again b) (parts_yield b p.1)) (λ d g.
          gives Q (App c d) (also (within (λ v. App v b) (λ y z. in_fun) f.0) (within (λ v. App c v) (λ y z. in_arg) g.0), (f.1, g.1))))
      parts_yield (Match e r c bs) p =
          let Q = Reached (Match e r c bs) in
          then_yields (Reached r) Q (look E S r End >>= follow_or (parts_by E S again r) again) _ (part_yields r p.0 (parts_by E S again r) (parts_yield r p.0)) (λ k f.
          then_yields (Reached c) Q (look E S c End >>= follow_or (parts_by E S again c) again) _ (part_yields c p.1 (parts_by E S again c) (parts_yield c p.1)) (λ d g.
          then_yields (ReachedArms bs) Q (arms_by E S again bs) _ (arms_yield bs p.2) (λ ds h.
          gives Q (Match e k d ds) (also (within (λ v. Match e v c bs) (λ y z. in_return) f.0) (also (within (λ v. Match e k v bs) (λ y z. in_matched) g.0) (within_match e k d h.0)), (f.1, g.1, h.1)))))
      parts_yield (Meta n s) p =
          let Q = Reached (Meta n s) in
          then_yields (ReachedAll s) Q (all_by E S again s) _ (all_yield s p.1) (λ r f. gives Q (Meta n r) (within_all (Meta n) (λ y z c. step (in_terms c)) f.0, (p.0, f.1)))
      parts_yield (Var i) p = gives (Reached (Var i)) (Var i) (done, tt)
      parts_yield (Sort s) p = gives (Reached (Sort s)) (Sort s) (done, tt)
      parts_yield (Const c) p = gives (Reached (Const c)) (Const c) (done, tt)
      parts_yield (Ind e) p = gives (Reached (Ind e)) (Ind e) (done, tt)
      parts_yield (Con e k) p = gives (Reached (Con e k)) (Con e k) (done, tt)

      all_yield : (s : Trees) → AllMetasIn P s → Yields (all_by E S again s) (ReachedAll s)
      all_yield End p = gives (ReachedAll End) End (done_all, tt)
      all_yield (Item t s) p =
          let Q = ReachedAll (Item t s) in
          then_yields (Reached t) Q (look E S t End >>= follow_or (parts_by E S again t) again) _ (part_yields t p.0 (parts_by E S again t) (parts_yield t p.0)) (λ u f.
          then_yields (ReachedAll s) Q (all_by E S again s) _ (all_yield s p.1) (λ r g.
          gives Q (Item u r) (also_all (within_item (λ v. Item v s) (λ y z. in_first) f.0) (within_rest u g.0), (f.1, g.1))))

      arms_yield : (bs : Arms) → AllMetasArms P bs → Yields (arms_by E S again bs) (ReachedArms bs)
      arms_yield NoArm p = gives (ReachedArms NoArm) NoArm (done_arms, tt)
      arms_yield (Arm xs b bs) p =
          let Q = ReachedArms (Arm xs b bs) in
          then_yields (Reached b) Q (look E S b End >>= follow_or (parts_by E S again b) again) _ (part_yields b p.0 (parts_by E S again b) (parts_yield b p.0)) (λ c f.
          then_yields (ReachedArms bs) Q (arms_by E S again bs) _ (arms_yield bs p.1) (λ cs g.
          gives Q (Arm xs c cs) (also_arms (within_arm xs bs f.0) (within_later xs c g.0), (f.1, g.1))))

  pub normal_yields : (t : Tree) → AllMetas P t → Yields (normal E S t) (Reached t)
  unfolding normal
  normal_yields t p n a r e =
      fixed_yields Tree (λ t. Tree) (normal_by E S) (λ t u. AllMetas P t → Reached t u) (λ again ih t n a r e p. part_yields again ih t p (parts_by E S again t) (parts_yield again ih t p) n a r e) t n a r e p
