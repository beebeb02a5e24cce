-- Branches against constructors and types, as the code goes down their lists.
use Rattle.std.proofs.Common.{ℕ, suc, ◌≡◌, ◌+◌, ◌≤◌, List, [], ◌∷◌, length, Option, Some, None, Bool, true, false, ◌&&◌, nat_eq, drop, slice_get, refl, ap, ◌∙◌, sym, add-one, arith}
use Rattle.mt_term.specs.Trees.{Bytes, Tree, Trees, Arms, Var, Sort, Prod, Lam, App, Const, Ind, Con, Match, Meta, End, NoArm, Arm}
use Rattle.mt_term.specs.declared.universes.Sort.{Sort as AnySort}
use Rattle.mt_term.specs.declared.modes.Mode.TheVariants.{AtMost}
use Rattle.mt_term.specs.Substitution.{apps, count, products}
use Rattle.mt_term.specs.Lifting.{lift}
use Rattle.mt_term.specs.Declarations.{Constructor, Hypothesis, Environment}
use Rattle.mt_term.specs.Reasons.{Reason, BadElimination}
use Rattle.mt_rules.specs.Charges.{Outcome, Charged, Done, Refused, Spent, and_then, rest}
use Rattle.mt_term.specs.Spines.{as_ind, at_args}
use Rattle.mt_term.specs.Stores.{Store}
use Rattle.mt_rules.specs.Inference.{Family, constructor_type, eliminable, infer, agreement, infer_arms, branches_fit, branch_context, branch_type, return_at}
use Rattle.mt_rules_laws.proofs.Charged.{then-rest, then-then}
use Rattle.mt_rules_laws.proofs.InferenceLaws.{infer-rest}
use Rattle.mt_rules_laws.proofs.InferenceRules.{agreement-rest, infer_arms-rest, infer_arms-none, infer_arms-end, infer_arms-arm-own_none, infer_arms-arm-goal_none}
use Rattle.mt_pool.specs.Region.{trees_at, ids_of, AllBelow}
use Rattle.mt_infer.specs.declared.families.Family.{Family as HeldFamily}
use Rattle.mt_infer.specs.Families.{family_held, FamilyBelow}
use Rattle.mt_infer.specs.Fitting.{Goal, arms_from, branch_fits, branch_goal, declared, fits, goal_at, goal_fits, on_newest, with_type}
use Rattle.mt_infer.proofs.Lists.{drop_at, drop_none, raise_one}

abbrev pub goal : Tree → Tree → Goal
goal u v = record { own = u; ty = v }

abbrev constructor : Bytes → Tree → Constructor
constructor y T = record { name = y; ty = T }

-- a constructor that has a type, and none
named : (o : Option Constructor) (T : Tree) → constructor_type o ≡ Some T → (y : Bytes) × (o ≡ Some (constructor y T))
named None T e = absurd cc
named (Some c) T e = let same : c.ty ≡ T = cc in (c.name, λ i. Some (constructor c.name (same i)))

unnamed : (o : Option Constructor) → constructor_type o ≡ None → o ≡ None
unnamed None e = refl
unnamed (Some c) e = absurd cc

-- as many branches as constructors from a place on
module _ (p : ℕ) (cs : List Constructor) (k : ℕ) where
  pub fit_past_end : constructor_type (slice_get cs k) ≡ None → branches_fit p (drop k cs) NoArm ≡ true
  fit_past_end e = ap (λ q. branches_fit p q NoArm) (drop_none cs k (unnamed _ e))

  pub fit_past_arm : (xs : List Bytes) (b : Tree) (bs : Arms) → constructor_type (slice_get cs k) ≡ None → branches_fit p (drop k cs) (Arm xs b bs) ≡ false
  fit_past_arm xs b bs e = ap (λ q. branches_fit p q (Arm xs b bs)) (drop_none cs k (unnamed _ e))

  module _ (T : Tree) (e : constructor_type (slice_get cs k) ≡ Some T) where
    pub fit_at_end : branches_fit p (drop k cs) NoArm ≡ false
    fit_at_end = ap (λ q. branches_fit p q NoArm) (drop_at cs k _ (named _ T e).1)

    fit_at : (xs : List Bytes) (b : Tree) (bs : Arms) → branches_fit p (drop k cs) (Arm xs b bs) ≡ (nat_eq (length xs + p) (products T) && branches_fit p (drop (k + 1) cs) bs)
    fit_at xs b bs = ap (λ q. branches_fit p q (Arm xs b bs)) (drop_at cs k _ (named _ T e).1)

    pub fit_same : (xs : List Bytes) (b : Tree) (bs : Arms) → nat_eq (length xs + p) (products T) ≡ true → branches_fit p (drop k cs) (Arm xs b bs) ≡ branches_fit p (drop (k + 1) cs) bs
    fit_same xs b bs h = fit_at xs b bs ∙ ap (λ (q : Bool). q && branches_fit p (drop (k + 1) cs) bs) h

    pub fit_other : (xs : List Bytes) (b : Tree) (bs : Arms) → nat_eq (length xs + p) (products T) ≡ false → branches_fit p (drop k cs) (Arm xs b bs) ≡ false
    fit_other xs b bs h = fit_at xs b bs ∙ ap (λ (q : Bool). q && branches_fit p (drop (k + 1) cs) bs) h

-- the type of a branch's body under the names from a place on
module _ (p : ℕ) (r c : Tree) where
  type_end : (u : Tree) → branch_type p r c u [] ≡ return_at p r c (as_ind u End)
  type_end (Var i) = refl
  type_end (Sort s) = refl
  type_end (Prod y a b) = refl
  type_end (Lam y a b) = refl
  type_end (App f a) = refl
  type_end (Const n) = refl
  type_end (Ind e) = refl
  type_end (Con e k) = refl
  type_end (Match e q d bs) = refl
  type_end (Meta m s) = refl

  pub type_done : (u : Tree) (xs : List Bytes) (i : ℕ) → slice_get xs i ≡ None → branch_type p r c u (drop i xs) ≡ return_at p r c (as_ind u End)
  type_done u xs i e = ap (branch_type p r c u) (drop_none xs i e) ∙ type_end u

  module _ (xs : List Bytes) (i : ℕ) (x : Bytes) (e : slice_get xs i ≡ Some x) where
    pub type_more : (y : Bytes) (a b : Tree) → branch_type p r c (Prod y a b) (drop i xs) ≡ branch_type p (lift 1 0 r) (on_newest c) b (drop (i + 1) xs)
    unfolding on_newest
    type_more y a b = ap (branch_type p r c (Prod y a b)) (drop_at xs i x e) ∙ (λ j. branch_type p (raise_one r j) (App (raise_one c j) (Var 0)) b (drop (i + 1) xs))

    pub type_var : (j : ℕ) → branch_type p r c (Var j) (drop i xs) ≡ None
    type_var j = ap (branch_type p r c (Var j)) (drop_at xs i x e)

    pub type_sort : (s : AnySort) → branch_type p r c (Sort s) (drop i xs) ≡ None
    type_sort s = ap (branch_type p r c (Sort s)) (drop_at xs i x e)

    pub type_lam : (y : Bytes) (a b : Tree) → branch_type p r c (Lam y a b) (drop i xs) ≡ None
    type_lam y a b = ap (branch_type p r c (Lam y a b)) (drop_at xs i x e)

    pub type_app : (f a : Tree) → branch_type p r c (App f a) (drop i xs) ≡ None
    type_app f a = ap (branch_type p r c (App f a)) (drop_at xs i x e)

    pub type_const : (n : ℕ) → branch_type p r c (Const n) (drop i xs) ≡ None
    type_const n = ap (branch_type p r c (Const n)) (drop_at xs i x e)

    pub type_ind : (n : ℕ) → branch_type p r c (Ind n) (drop i xs) ≡ None
    type_ind n = ap (branch_type p r c (Ind n)) (drop_at xs i x e)

    pub type_con : (n k : ℕ) → branch_type p r c (Con n k) (drop i xs) ≡ None
    type_con n k = ap (branch_type p r c (Con n k)) (drop_at xs i x e)

    pub type_match : (n : ℕ) (q d : Tree) (bs : Arms) → branch_type p r c (Match n q d bs) (drop i xs) ≡ None
    type_match n q d bs = ap (branch_type p r c (Match n q d bs)) (drop_at xs i x e)

    pub type_meta : (n : ℕ) (s : Trees) → branch_type p r c (Meta n s) (drop i xs) ≡ None
    type_meta n s = ap (branch_type p r c (Meta n s)) (drop_at xs i x e)

pub ruleset list_rules = (fit_past_end, fit_past_arm, fit_at_end, fit_same, fit_other, type_done, type_more, type_var, type_sort, type_lam, type_app, type_const, type_ind, type_con, type_match, type_meta)

-- the goal of a branch
module _ (p : List Tree) (f : HeldFamily) (k : ℕ) (T r : Tree) (xs : List Bytes) where
  pub goal_out : at_args T (trees_at p (ids_of f.params)) ≡ None → branch_goal (family_held p f) k T r xs ≡ None
  unfolding branch_goal family_held
  goal_out o = ap (goal_at (family_held p f) k r xs) o

  module _ (u : Tree) (o : at_args T (trees_at p (ids_of f.params)) ≡ Some u) where
    pub goal_untyped : branch_type (count (trees_at p (ids_of f.params))) r (apps (Con f.number k) (trees_at p (ids_of f.params))) u xs ≡ None → branch_goal (family_held p f) k T r xs ≡ None
    unfolding branch_goal family_held
    goal_untyped g = ap (goal_at (family_held p f) k r xs) o ∙ ap (with_type u) g

    pub goal_typed : (v : Tree) → branch_type (count (trees_at p (ids_of f.params))) r (apps (Con f.number k) (trees_at p (ids_of f.params))) u xs ≡ Some v → branch_goal (family_held p f) k T r xs ≡ Some (goal u v)
    unfolding branch_goal family_held
    goal_typed v g = ap (goal_at (family_held p f) k r xs) o ∙ ap (with_type u) g

pub params_held : (m : ℕ) (f : HeldFamily) → FamilyBelow m f → AllBelow m (ids_of f.params)
unfolding FamilyBelow
params_held m f h = h.0

pub ruleset goal_rules = (goal_out, goal_untyped, goal_typed, params_held)

-- a body against its type
module _ (E : Environment) (S : Store) (Γ : List Hypothesis) (t v : Tree) (n : ℕ) where
  pub fits_spent : infer E S Γ t n ≡ Spent → fits E S Γ t v n ≡ Spent
  unfolding fits
  fits_spent e = ap (λ o. and_then o (λ u. agreement E S Γ AtMost u v)) e

  pub fits_refused : (q : Reason) (l : ℕ) → infer E S Γ t n ≡ Refused q l → fits E S Γ t v n ≡ Refused q l
  unfolding fits
  fits_refused q l e = ap (λ o. and_then o (λ u. agreement E S Γ AtMost u v)) e

  pub fits_done : (u : Tree) (l : ℕ) → infer E S Γ t n ≡ Done u l → fits E S Γ t v n ≡ agreement E S Γ AtMost u v l
  unfolding fits
  fits_done u l e = ap (λ o. and_then o (λ u. agreement E S Γ AtMost u v)) e

  pub fits_within : rest (fits E S Γ t v n) ≤ rest (infer E S Γ t n)
  unfolding fits
  fits_within = then-rest (infer E S Γ t n) _ (λ u l. agreement-rest E S Γ AtMost u v l)

  pub fits_rest : rest (fits E S Γ t v n) ≤ n
  fits_rest = omega (arith, fits_within, infer-rest E S Γ t n)

  -- in the context of a branch under the names from a place on
  context_end : (u : Tree) → branch_context Γ u [] ≡ Γ
  context_end (Var i) = refl
  context_end (Sort s) = refl
  context_end (Prod y a b) = refl
  context_end (Lam y a b) = refl
  context_end (App f a) = refl
  context_end (Const n) = refl
  context_end (Ind e) = refl
  context_end (Con e k) = refl
  context_end (Match e q d bs) = refl
  context_end (Meta m s) = refl

  pub fits_end : (u : Tree) (xs : List Bytes) (i : ℕ) → slice_get xs i ≡ None → fits E S (branch_context Γ u (drop i xs)) t v n ≡ fits E S Γ t v n
  fits_end u xs i e = ap (λ q. fits E S (branch_context Γ u q) t v n) (drop_none xs i e) ∙ ap (λ q. fits E S q t v n) (context_end u)

  pub fits_more : (xs : List Bytes) (i : ℕ) (x : Bytes) (y : Bytes) (a b : Tree) → slice_get xs i ≡ Some x → fits E S (branch_context Γ (Prod y a b) (drop i xs)) t v n ≡ fits E S (branch_context (record { name = x; ty = a } ∷ Γ) b (drop (i + 1) xs)) t v n
  fits_more xs i x y a b e = ap (λ q. fits E S (branch_context Γ (Prod y a b) q) t v n) (drop_at xs i x e)

  pub fits_var : (i : ℕ) (xs : List Bytes) → fits E S (branch_context Γ (Var i) xs) t v n ≡ fits E S Γ t v n
  fits_var i xs = refl

  pub fits_sort : (s : AnySort) (xs : List Bytes) → fits E S (branch_context Γ (Sort s) xs) t v n ≡ fits E S Γ t v n
  fits_sort s xs = refl

  pub fits_lam : (y : Bytes) (a b : Tree) (xs : List Bytes) → fits E S (branch_context Γ (Lam y a b) xs) t v n ≡ fits E S Γ t v n
  fits_lam y a b xs = refl

  pub fits_app : (f a : Tree) (xs : List Bytes) → fits E S (branch_context Γ (App f a) xs) t v n ≡ fits E S Γ t v n
  fits_app f a xs = refl

  pub fits_const : (c : ℕ) (xs : List Bytes) → fits E S (branch_context Γ (Const c) xs) t v n ≡ fits E S Γ t v n
  fits_const c xs = refl

  pub fits_ind : (e : ℕ) (xs : List Bytes) → fits E S (branch_context Γ (Ind e) xs) t v n ≡ fits E S Γ t v n
  fits_ind e xs = refl

  pub fits_con : (e k : ℕ) (xs : List Bytes) → fits E S (branch_context Γ (Con e k) xs) t v n ≡ fits E S Γ t v n
  fits_con e k xs = refl

  pub fits_match : (e : ℕ) (q d : Tree) (bs : Arms) (xs : List Bytes) → fits E S (branch_context Γ (Match e q d bs) xs) t v n ≡ fits E S Γ t v n
  fits_match e q d bs xs = refl

  pub fits_meta : (m : ℕ) (s : Trees) (xs : List Bytes) → fits E S (branch_context Γ (Meta m s) xs) t v n ≡ fits E S Γ t v n
  fits_meta m s xs = refl

pub ruleset fits_rules = (infer-rest, agreement-rest, fits_rest, fits_spent, fits_refused, fits_done, fits_within)

pub ruleset branch_rules = (fits_rest, fits_end, fits_more, fits_var, fits_sort, fits_lam, fits_app, fits_const, fits_ind, fits_con, fits_match, fits_meta)

-- a branch by its goal
module _ (E : Environment) (S : Store) (Γ : List Hypothesis) (f : Family) (r : Tree) (k : ℕ) (T : Tree) (xs : List Bytes) (b : Tree) (n : ℕ) where
  pub goalless : branch_goal f k T r xs ≡ None → branch_fits E S Γ f r k T xs b n ≡ Refused BadElimination n
  unfolding branch_fits
  goalless g = ap (λ o. goal_fits E S Γ xs b o n) g

  pub by_goal : (u v : Tree) → branch_goal f k T r xs ≡ Some (goal u v) → branch_fits E S Γ f r k T xs b n ≡ fits E S (branch_context Γ u xs) b v n
  unfolding branch_fits
  by_goal u v g = ap (λ o. goal_fits E S Γ xs b o n) g

  goal_rest : (o : Option Goal) → rest (goal_fits E S Γ xs b o n) ≤ n
  goal_rest None = omega arith
  goal_rest (Some g) = fits_rest E S (branch_context Γ g.own xs) b g.ty n

  pub branch_fits_rest : rest (branch_fits E S Γ f r k T xs b n) ≤ n
  unfolding branch_fits
  branch_fits_rest = goal_rest (branch_goal f k T r xs)

pub ruleset one_branch_rules = (fits_rest, branch_fits_rest, goalless, by_goal)

on_done : {A B : Type 0} (o : Outcome A) (f : A → Charged B) {a : A} {l : ℕ} {r : Outcome B} → o ≡ Done a l → f a l ≡ r → and_then o f ≡ r
on_done o f e g = ap (λ o. and_then o f) e ∙ g

-- the branches from a place on, each by its body
module _ (E : Environment) (S : Store) (Γ : List Hypothesis) (f : Family) (r : Tree) (j : ℕ) (bs : Arms) (n : ℕ) where
  abbrev cs : List Constructor
  cs = f.constructors

  pub arms_rest : rest (arms_from E S Γ f r j bs n) ≤ n
  unfolding arms_from
  arms_rest = infer_arms-rest E S Γ f r j (drop j cs) bs n

  pub arms_past : declared f j ≡ None → arms_from E S Γ f r j bs n ≡ Done tt n
  unfolding arms_from declared
  arms_past h = ap (λ q. infer_arms E S Γ f r j q bs n) (drop_none cs j (unnamed _ h)) ∙ infer_arms-none E S Γ f r j bs n

  module _ (T : Tree) (xs : List Bytes) (b : Tree) (known : constructor_type (slice_get cs j) ≡ Some T) where
    abbrev y : Bytes
    y = (named _ T known).0

    at : infer_arms E S Γ f r j (drop j cs) (Arm xs b bs) n ≡ infer_arms E S Γ f r j (constructor y T ∷ drop (j + 1) cs) (Arm xs b bs) n
    at = ap (λ q. infer_arms E S Γ f r j q (Arm xs b bs) n) (drop_at cs j _ (named _ T known).1)

    abbrev onward : Unit {0} → Charged (Unit {0})
    onward z = infer_arms E S Γ f r (suc j) (drop (j + 1) cs) bs

    fitted : (u : Tree) → at_args T f.params ≡ Some u → (v : Tree) → branch_type (count f.params) r (apps (Con f.number j) f.params) u xs ≡ Some v
        → infer_arms E S Γ f r j (constructor y T ∷ drop (j + 1) cs) (Arm xs b bs) n ≡ and_then (fits E S (branch_context Γ u xs) b v n) onward
    unfolding infer_arms infer agreement fits
    fitted u o v g =
        on_done _ _ (ap (λ q. eliminable q n) o) (on_done _ _ (ap (λ q. eliminable q n) g)
        (sym (then-then (infer E S (branch_context Γ u xs) b n) (λ t. agreement E S (branch_context Γ u xs) AtMost t v) onward)))

    from_type : (t : Tree) → at_args T f.params ≡ Some t → (w : Option Tree) → branch_type (count f.params) r (apps (Con f.number j) f.params) t xs ≡ w → infer_arms E S Γ f r j (drop j cs) (Arm xs b bs) n ≡ and_then (goal_fits E S Γ xs b (with_type t w) n) onward
    from_type t o None p = at ∙ infer_arms-arm-goal_none E S Γ f r j (constructor y T) (drop (j + 1) cs) xs b bs t n o p
    from_type t o (Some w) p = at ∙ fitted t o w p

    from_args : (o : Option Tree) → at_args T f.params ≡ o → infer_arms E S Γ f r j (drop j cs) (Arm xs b bs) n ≡ and_then (goal_fits E S Γ xs b (goal_at f j r xs o) n) onward
    from_args None p = at ∙ infer_arms-arm-own_none E S Γ f r j (constructor y T) (drop (j + 1) cs) xs b bs n p
    from_args (Some t) p = from_type t p (branch_type (count f.params) r (apps (Con f.number j) f.params) t xs) refl

    by_branch : infer_arms E S Γ f r j (drop j cs) (Arm xs b bs) n ≡ and_then (branch_fits E S Γ f r j T xs b n) onward
    unfolding branch_fits branch_goal
    by_branch = from_args (at_args T f.params) refl

  module _ (T : Tree) (xs : List Bytes) (b : Tree) (known : declared f j ≡ Some T) where
    abbrev next : Unit {0} → Charged (Unit {0})
    next z = infer_arms E S Γ f r (suc j) (drop (j + 1) cs) bs

    by_arm : arms_from E S Γ f r j (Arm xs b bs) n ≡ and_then (branch_fits E S Γ f r j T xs b n) next
    unfolding arms_from declared
    by_arm = by_branch T xs b known

    pub arm_spent : branch_fits E S Γ f r j T xs b n ≡ Spent → arms_from E S Γ f r j (Arm xs b bs) n ≡ Spent
    arm_spent e = by_arm ∙ ap (λ q. and_then q next) e

    pub arm_refused : (q : Reason) (l : ℕ) → branch_fits E S Γ f r j T xs b n ≡ Refused q l → arms_from E S Γ f r j (Arm xs b bs) n ≡ Refused q l
    arm_refused q l e = by_arm ∙ ap (λ q. and_then q next) e

    pub arm_done : (z : Unit {0}) (l : ℕ) → branch_fits E S Γ f r j T xs b n ≡ Done z l → arms_from E S Γ f r j (Arm xs b bs) n ≡ arms_from E S Γ f r (j + 1) bs l
    unfolding arms_from
    arm_done z l e = by_arm ∙ ap (λ q. and_then q next) e ∙ ap (λ k. infer_arms E S Γ f r k (drop (j + 1) cs) bs l) (sym (add-one j))

    pub arm_within : rest (arms_from E S Γ f r j (Arm xs b bs) n) ≤ rest (branch_fits E S Γ f r j T xs b n)
    arm_within = rw by_arm (then-rest (branch_fits E S Γ f r j T xs b n) next (λ z l. infer_arms-rest E S Γ f r (suc j) (drop (j + 1) cs) bs l))

pub arms_end : (E : Environment) (S : Store) (Γ : List Hypothesis) (f : Family) (r : Tree) (j n : ℕ) → arms_from E S Γ f r j NoArm n ≡ Done tt n
unfolding arms_from
arms_end E S Γ f r j n = infer_arms-end E S Γ f r j (drop j f.constructors) n

pub ruleset arms_rules = (arms_rest, branch_fits_rest, arms_end, arms_past, arm_spent, arm_refused, arm_done, arm_within)
