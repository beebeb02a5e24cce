-- Branches against constructors and types, as the code goes down their lists.
use Rattle.std.proofs.Common.{ℕ, zero, suc, ◌≡◌, ◌≢◌, ◌+◌, ◌≤◌, List, [], ◌∷◌, length, Option, Some, None, Bool, true, false, ◌&&◌, nat_eq, inl, inr, drop, slice_get, refl, ap, ◌∙◌, sym, add-one, arith}
use Rattle.std.proofs.lemmas.Bool.{eq-eqb}
use Rattle.std.proofs.lemmas.Bool.Decides.{eqb_tells}
use Rattle.mt_term.specs.Trees.{Bytes, Tree, Trees, Arms, Var, Sort, Prod, Lam, App, Const, Ind, Con, Match, Meta, End, NoArm, Arm}
use Rattle.mt_term.specs.declared.universes.Sort.{Sort as AnySort}
use Rattle.mt_term.specs.declared.modes.Mode.TheVariants.{AtMost}
use Rattle.mt_term.specs.Substitution.{apps, count, products}
use Rattle.mt_term.specs.Lifting.{lift}
use Rattle.mt_term.specs.Declarations.{Constructor, Hypothesis, Environment}
use Rattle.mt_term.specs.Reasons.{Reason, BadElimination}
use Rattle.mt_rules.specs.Charges.{Outcome, Charged, Done, Refused, Spent, and_then, rest}
use Rattle.mt_term.specs.Spines.{as_ind, at_args}
use Rattle.mt_term.specs.Stores.{no_store}
use Rattle.mt_rules.specs.Inference.{Family, eliminable, infer, agreement, infer_arms, branches_fit, branch_context, branch_type, return_at}
use Rattle.mt_rules_laws.proofs.Charged.{then-rest, then-then}
use Rattle.mt_rules_laws.proofs.InferenceLaws.{infer-rest}
use Rattle.mt_rules_laws.proofs.InferenceRules.{agreement-rest, infer_arms-rest, infer_arms-none, infer_arms-end, infer_arms-arm-own_none, infer_arms-arm-goal_none}
use Rattle.mt_kernel.specs.Fitting.{Goal, branch_fits, branch_goal, fits, goal_at, goal_fits, has_branches, with_type}
use Rattle.mt_kernel.proofs.Lists.{drop_at, drop_none, raise_one}

abbrev pub goal : Tree → Tree → Goal
goal u v = record { own = u; ty = v }

abbrev constructor : Bytes → Tree → Constructor
constructor y T = record { name = y; ty = T }

unlike : (a b : ℕ) → a ≢ b → nat_eq a b ≡ false
unlike a b h = elim (eqb_tells a b) [ inl e ↦ absurd (h e.1) | inr e ↦ e.0 ]

-- as many branches as constructors from a place on
module _ (p : ℕ) (cs : List Constructor) (k : ℕ) where
  pub fit_past_end : slice_get cs k ≡ None → branches_fit p (drop k cs) NoArm ≡ true
  fit_past_end e = ap (λ q. branches_fit p q NoArm) (drop_none cs k e)

  pub fit_past_arm : (xs : List Bytes) (b : Tree) (bs : Arms) → slice_get cs k ≡ None → branches_fit p (drop k cs) (Arm xs b bs) ≡ false
  fit_past_arm xs b bs e = ap (λ q. branches_fit p q (Arm xs b bs)) (drop_none cs k e)

  module _ (y : Bytes) (T : Tree) (e : slice_get cs k ≡ Some (constructor y T)) where
    pub fit_at_end : branches_fit p (drop k cs) NoArm ≡ false
    fit_at_end = ap (λ q. branches_fit p q NoArm) (drop_at cs k _ e)

    fit_at : (xs : List Bytes) (b : Tree) (bs : Arms) → branches_fit p (drop k cs) (Arm xs b bs) ≡ (nat_eq (length xs + p) (products T) && branches_fit p (drop (k + 1) cs) bs)
    fit_at xs b bs = ap (λ q. branches_fit p q (Arm xs b bs)) (drop_at cs k _ e)

    pub fit_same : (xs : List Bytes) (b : Tree) (bs : Arms) → length xs + p ≡ products T → branches_fit p (drop k cs) (Arm xs b bs) ≡ branches_fit p (drop (k + 1) cs) bs
    fit_same xs b bs h = fit_at xs b bs ∙ ap (λ (q : Bool). q && branches_fit p (drop (k + 1) cs) bs) (eq-eqb (length xs + p) (products T) h)

    pub fit_other : (xs : List Bytes) (b : Tree) (bs : Arms) → length xs + p ≢ products T → branches_fit p (drop k cs) (Arm xs b bs) ≡ false
    fit_other xs b bs h = fit_at xs b bs ∙ ap (λ (q : Bool). q && branches_fit p (drop (k + 1) cs) bs) (unlike (length xs + p) (products T) h)

-- the type of a branch's body under the names from a place on
module _ (p : ℕ) (r c : Tree) where
  type_end : (u : Tree) → branch_type p r c u [] ≡ return_at p r c (as_ind u End)
  type_end (Var i) = refl
  type_end (Sort s) = refl
  type_end (Prod y a b) = refl
  type_end (Lam y a b) = refl
  type_end (App f a) = refl
  type_end (Const n) = refl
  type_end (Ind e) = refl
  type_end (Con e k) = refl
  type_end (Match e q d bs) = refl
  type_end (Meta m s) = refl

  pub type_done : (u : Tree) (xs : List Bytes) (i : ℕ) → slice_get xs i ≡ None → branch_type p r c u (drop i xs) ≡ return_at p r c (as_ind u End)
  type_done u xs i e = ap (branch_type p r c u) (drop_none xs i e) ∙ type_end u

  module _ (xs : List Bytes) (i : ℕ) (x : Bytes) (e : slice_get xs i ≡ Some x) where
    pub type_more : (y : Bytes) (a b : Tree) → branch_type p r c (Prod y a b) (drop i xs) ≡ branch_type p (lift 1 0 r) (App (lift 1 0 c) (Var 0)) b (drop (i + 1) xs)
    type_more y a b = ap (branch_type p r c (Prod y a b)) (drop_at xs i x e) ∙ (λ j. branch_type p (raise_one r j) (App (raise_one c j) (Var 0)) b (drop (i + 1) xs))

    pub type_var : (j : ℕ) → branch_type p r c (Var j) (drop i xs) ≡ None
    type_var j = ap (branch_type p r c (Var j)) (drop_at xs i x e)

    pub type_sort : (s : AnySort) → branch_type p r c (Sort s) (drop i xs) ≡ None
    type_sort s = ap (branch_type p r c (Sort s)) (drop_at xs i x e)

    pub type_lam : (y : Bytes) (a b : Tree) → branch_type p r c (Lam y a b) (drop i xs) ≡ None
    type_lam y a b = ap (branch_type p r c (Lam y a b)) (drop_at xs i x e)

    pub type_app : (f a : Tree) → branch_type p r c (App f a) (drop i xs) ≡ None
    type_app f a = ap (branch_type p r c (App f a)) (drop_at xs i x e)

    pub type_const : (n : ℕ) → branch_type p r c (Const n) (drop i xs) ≡ None
    type_const n = ap (branch_type p r c (Const n)) (drop_at xs i x e)

    pub type_ind : (n : ℕ) → branch_type p r c (Ind n) (drop i xs) ≡ None
    type_ind n = ap (branch_type p r c (Ind n)) (drop_at xs i x e)

    pub type_con : (n k : ℕ) → branch_type p r c (Con n k) (drop i xs) ≡ None
    type_con n k = ap (branch_type p r c (Con n k)) (drop_at xs i x e)

    pub type_match : (n : ℕ) (q d : Tree) (bs : Arms) → branch_type p r c (Match n q d bs) (drop i xs) ≡ None
    type_match n q d bs = ap (branch_type p r c (Match n q d bs)) (drop_at xs i x e)

    pub type_meta : (n : ℕ) (s : Trees) → branch_type p r c (Meta n s) (drop i xs) ≡ None
    type_meta n s = ap (branch_type p r c (Meta n s)) (drop_at xs i x e)

pub ruleset list_rules = (fit_past_end, fit_past_arm, fit_at_end, fit_same, fit_other, type_done, type_more, type_var, type_sort, type_lam, type_app, type_const, type_ind, type_con, type_match, type_meta)

-- the goal of a branch
module _ (e : ℕ) (ps : Trees) (k : ℕ) (T r : Tree) (xs : List Bytes) where
  pub goal_out : at_args T ps ≡ None → branch_goal e ps k T r xs ≡ None
  unfolding branch_goal
  goal_out o = ap (goal_at e ps k r xs) o

  pub goal_untyped : (u : Tree) → at_args T ps ≡ Some u → branch_type (count ps) r (apps (Con e k) ps) u xs ≡ None → branch_goal e ps k T r xs ≡ None
  unfolding branch_goal
  goal_untyped u o g = ap (goal_at e ps k r xs) o ∙ ap (with_type u) g

  pub goal_typed : (u v : Tree) → at_args T ps ≡ Some u → branch_type (count ps) r (apps (Con e k) ps) u xs ≡ Some v → branch_goal e ps k T r xs ≡ Some (goal u v)
  unfolding branch_goal
  goal_typed u v o g = ap (goal_at e ps k r xs) o ∙ ap (with_type u) g

pub ruleset goal_rules = (goal_out, goal_untyped, goal_typed)

pub has_branches_is : (ps : Trees) (cs : List Constructor) (bs : Arms) → has_branches ps cs bs ≡ branches_fit (count ps) cs bs
unfolding has_branches
has_branches_is ps cs bs = refl

-- a body against its type
module _ (E : Environment) (Γ : List Hypothesis) (t v : Tree) (n : ℕ) where
  pub fits_spent : infer E no_store Γ t n ≡ Spent → fits E Γ t v n ≡ Spent
  unfolding fits
  fits_spent e = ap (λ o. and_then o (λ u. agreement E no_store Γ AtMost u v)) e

  pub fits_refused : (q : Reason) (l : ℕ) → infer E no_store Γ t n ≡ Refused q l → fits E Γ t v n ≡ Refused q l
  unfolding fits
  fits_refused q l e = ap (λ o. and_then o (λ u. agreement E no_store Γ AtMost u v)) e

  pub fits_done : (u : Tree) (l : ℕ) → infer E no_store Γ t n ≡ Done u l → fits E Γ t v n ≡ agreement E no_store Γ AtMost u v l
  unfolding fits
  fits_done u l e = ap (λ o. and_then o (λ u. agreement E no_store Γ AtMost u v)) e

  pub fits_within : rest (fits E Γ t v n) ≤ rest (infer E no_store Γ t n)
  unfolding fits
  fits_within = then-rest (infer E no_store Γ t n) _ (λ u l. agreement-rest E no_store Γ AtMost u v l)

  pub fits_rest : rest (fits E Γ t v n) ≤ n
  fits_rest = omega (arith, fits_within, infer-rest E no_store Γ t n)

  -- in the context of a branch under the names from a place on
  context_end : (u : Tree) → branch_context Γ u [] ≡ Γ
  context_end (Var i) = refl
  context_end (Sort s) = refl
  context_end (Prod y a b) = refl
  context_end (Lam y a b) = refl
  context_end (App f a) = refl
  context_end (Const n) = refl
  context_end (Ind e) = refl
  context_end (Con e k) = refl
  context_end (Match e q d bs) = refl
  context_end (Meta m s) = refl

  pub fits_end : (u : Tree) (xs : List Bytes) (i : ℕ) → slice_get xs i ≡ None → fits E (branch_context Γ u (drop i xs)) t v n ≡ fits E Γ t v n
  fits_end u xs i e = ap (λ q. fits E (branch_context Γ u q) t v n) (drop_none xs i e) ∙ ap (λ q. fits E q t v n) (context_end u)

  pub fits_more : (xs : List Bytes) (i : ℕ) (x : Bytes) (y : Bytes) (a b : Tree) → slice_get xs i ≡ Some x → fits E (branch_context Γ (Prod y a b) (drop i xs)) t v n ≡ fits E (branch_context (record { name = x; ty = a } ∷ Γ) b (drop (i + 1) xs)) t v n
  fits_more xs i x y a b e = ap (λ q. fits E (branch_context Γ (Prod y a b) q) t v n) (drop_at xs i x e)

  pub fits_var : (i : ℕ) (xs : List Bytes) → fits E (branch_context Γ (Var i) xs) t v n ≡ fits E Γ t v n
  fits_var i xs = refl

  pub fits_sort : (s : AnySort) (xs : List Bytes) → fits E (branch_context Γ (Sort s) xs) t v n ≡ fits E Γ t v n
  fits_sort s xs = refl

  pub fits_lam : (y : Bytes) (a b : Tree) (xs : List Bytes) → fits E (branch_context Γ (Lam y a b) xs) t v n ≡ fits E Γ t v n
  fits_lam y a b xs = refl

  pub fits_app : (f a : Tree) (xs : List Bytes) → fits E (branch_context Γ (App f a) xs) t v n ≡ fits E Γ t v n
  fits_app f a xs = refl

  pub fits_const : (c : ℕ) (xs : List Bytes) → fits E (branch_context Γ (Const c) xs) t v n ≡ fits E Γ t v n
  fits_const c xs = refl

  pub fits_ind : (e : ℕ) (xs : List Bytes) → fits E (branch_context Γ (Ind e) xs) t v n ≡ fits E Γ t v n
  fits_ind e xs = refl

  pub fits_con : (e k : ℕ) (xs : List Bytes) → fits E (branch_context Γ (Con e k) xs) t v n ≡ fits E Γ t v n
  fits_con e k xs = refl

  pub fits_match : (e : ℕ) (q d : Tree) (bs : Arms) (xs : List Bytes) → fits E (branch_context Γ (Match e q d bs) xs) t v n ≡ fits E Γ t v n
  fits_match e q d bs xs = refl

  pub fits_meta : (m : ℕ) (s : Trees) (xs : List Bytes) → fits E (branch_context Γ (Meta m s) xs) t v n ≡ fits E Γ t v n
  fits_meta m s xs = refl

pub ruleset fits_rules = (infer-rest, agreement-rest, fits_rest, fits_spent, fits_refused, fits_done, fits_within)

pub ruleset branch_rules = (fits_rest, fits_end, fits_more, fits_var, fits_sort, fits_lam, fits_app, fits_const, fits_ind, fits_con, fits_match, fits_meta)

-- a branch by its goal
module _ (E : Environment) (Γ : List Hypothesis) (e : ℕ) (ps : Trees) (r : Tree) (k : ℕ) (T : Tree) (xs : List Bytes) (b : Tree) (n : ℕ) where
  pub goalless : branch_goal e ps k T r xs ≡ None → branch_fits E Γ e ps r k T xs b n ≡ Refused BadElimination n
  unfolding branch_fits
  goalless g = ap (λ o. goal_fits E Γ xs b o n) g

  pub by_goal : (u v : Tree) → branch_goal e ps k T r xs ≡ Some (goal u v) → branch_fits E Γ e ps r k T xs b n ≡ fits E (branch_context Γ u xs) b v n
  unfolding branch_fits
  by_goal u v g = ap (λ o. goal_fits E Γ xs b o n) g

  goal_rest : (o : Option Goal) → rest (goal_fits E Γ xs b o n) ≤ n
  goal_rest None = omega arith
  goal_rest (Some g) = fits_rest E (branch_context Γ g.own xs) b g.ty n

  pub branch_fits_rest : rest (branch_fits E Γ e ps r k T xs b n) ≤ n
  unfolding branch_fits
  branch_fits_rest = goal_rest (branch_goal e ps k T r xs)

pub ruleset one_branch_rules = (fits_rest, branch_fits_rest, goalless, by_goal)

on_done : {A B : Type 0} (o : Outcome A) (f : A → Charged B) {a : A} {l : ℕ} {r : Outcome B} → o ≡ Done a l → f a l ≡ r → and_then o f ≡ r
on_done o f e g = ap (λ o. and_then o f) e ∙ g

-- the branches from a place on, each by its body
module _ (E : Environment) (Γ : List Hypothesis) (e : ℕ) (ps is : Trees) (a : Tree) (cs : List Constructor) (large : Bool) (r : Tree) (j : ℕ) (bs : Arms) (n : ℕ) where
  abbrev family : Family
  family = record { number = e; params = ps; indices = is; arity = a; constructors = cs; large = large }

  pub arms_past : slice_get cs j ≡ None → infer_arms E no_store Γ family r j (drop j cs) bs n ≡ Done tt n
  arms_past h = ap (λ q. infer_arms E no_store Γ family r j q bs n) (drop_none cs j h) ∙ infer_arms-none E no_store Γ family r j bs n

  module _ (y : Bytes) (T : Tree) (xs : List Bytes) (b : Tree) (h : slice_get cs j ≡ Some (constructor y T)) where
    at : infer_arms E no_store Γ family r j (drop j cs) (Arm xs b bs) n ≡ infer_arms E no_store Γ family r j (constructor y T ∷ drop (j + 1) cs) (Arm xs b bs) n
    at = ap (λ q. infer_arms E no_store Γ family r j q (Arm xs b bs) n) (drop_at cs j _ h)

    module _ (u : Tree) (o : at_args T ps ≡ Some u) where
      module _ (v : Tree) (g : branch_type (count ps) r (apps (Con e j) ps) u xs ≡ Some v) where
        fitted : infer_arms E no_store Γ family r j (constructor y T ∷ drop (j + 1) cs) (Arm xs b bs) n ≡ and_then (fits E (branch_context Γ u xs) b v n) (λ z. infer_arms E no_store Γ family r (suc j) (drop (j + 1) cs) bs)
        unfolding infer_arms infer agreement fits
        fitted =
            on_done _ _ (ap (λ q. eliminable q n) o) (on_done _ _ (ap (λ q. eliminable q n) g)
            (sym (then-then (infer E no_store (branch_context Γ u xs) b n) (λ u'. agreement E no_store (branch_context Γ u xs) AtMost u' v) (λ z. infer_arms E no_store Γ family r (suc j) (drop (j + 1) cs) bs))))

        by_fit : infer_arms E no_store Γ family r j (drop j cs) (Arm xs b bs) n ≡ and_then (fits E (branch_context Γ u xs) b v n) (λ z. infer_arms E no_store Γ family r (suc j) (drop (j + 1) cs) bs)
        by_fit = at ∙ fitted

    abbrev fit : Outcome (Unit {0})
    fit = branch_fits E Γ e ps r j T xs b n

    abbrev onward : Unit {0} → Charged (Unit {0})
    onward z = infer_arms E no_store Γ family r (suc j) (drop (j + 1) cs) bs

    from_type : (t : Tree) → at_args T ps ≡ Some t → (w : Option Tree) → branch_type (count ps) r (apps (Con e j) ps) t xs ≡ w → infer_arms E no_store Γ family r j (drop j cs) (Arm xs b bs) n ≡ and_then (goal_fits E Γ xs b (with_type t w) n) onward
    from_type t o None p = at ∙ infer_arms-arm-goal_none E no_store Γ family r j (constructor y T) (drop (j + 1) cs) xs b bs t n o p
    from_type t o (Some w) p = by_fit t o w p

    from_args : (o : Option Tree) → at_args T ps ≡ o → infer_arms E no_store Γ family r j (drop j cs) (Arm xs b bs) n ≡ and_then (goal_fits E Γ xs b (goal_at e ps j r xs o) n) onward
    from_args None p = at ∙ infer_arms-arm-own_none E no_store Γ family r j (constructor y T) (drop (j + 1) cs) xs b bs n p
    from_args (Some t) p = from_type t p (branch_type (count ps) r (apps (Con e j) ps) t xs) refl

    by_branch : infer_arms E no_store Γ family r j (drop j cs) (Arm xs b bs) n ≡ and_then fit onward
    unfolding branch_fits branch_goal
    by_branch = from_args (at_args T ps) refl

    pub arm_spent : fit ≡ Spent → infer_arms E no_store Γ family r j (drop j cs) (Arm xs b bs) n ≡ Spent
    arm_spent f = by_branch ∙ ap (λ q. and_then q onward) f

    pub arm_refused : (q : Reason) (l : ℕ) → fit ≡ Refused q l → infer_arms E no_store Γ family r j (drop j cs) (Arm xs b bs) n ≡ Refused q l
    arm_refused q l f = by_branch ∙ ap (λ q. and_then q onward) f

    pub arm_done : (z : Unit {0}) (l : ℕ) → fit ≡ Done z l → infer_arms E no_store Γ family r j (drop j cs) (Arm xs b bs) n ≡ infer_arms E no_store Γ family r (j + 1) (drop (j + 1) cs) bs l
    arm_done z l f = by_branch ∙ ap (λ q. and_then q onward) f ∙ ap (λ k. infer_arms E no_store Γ family r k (drop (j + 1) cs) bs l) (sym (add-one j))

    pub arm_within : rest (infer_arms E no_store Γ family r j (drop j cs) (Arm xs b bs) n) ≤ rest fit
    arm_within = rw by_branch (then-rest fit onward (λ z l. infer_arms-rest E no_store Γ family r (suc j) (drop (j + 1) cs) bs l))

pub ruleset arms_rules = (infer_arms-rest, branch_fits_rest, infer_arms-end, arms_past, arm_spent, arm_refused, arm_done, arm_within)
