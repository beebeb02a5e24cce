-- The test of the guard of corecursive functions is the relation.
use Rattle.std.proofs.Common.{Bool, true, ◌&&◌, ◌||◌, ◌≡◌, ◌⊎◌, ◌-◌, ℕ, zero, suc, List, [], ◌∷◌, Option, Some, None, slice_get, refl, sym, ap, ◌∙◌, subst, inl, inr}
use Rattle.std.specs.Bool.{Decides}
use Rattle.std.proofs.lemmas.Bool.Decides.{Decides-eqb, Decides-and}
use Rattle.mt_calculus_laws.proofs.AlikeLaws.{never, both}
use Rattle.mt_term.specs.Trees.{Tree, Trees, Arms, Bytes, Prod, Lam, App, Const, Con, Match, End, Item, NoArm, Arm}
use Rattle.mt_term.specs.Substitution.{apps, products}
use Rattle.mt_term.specs.Declarations.{Constructor, Declaration, Inductive, Environment}
use Rattle.mt_calculus.specs.Positivity.{AvoidsAll, RecursiveArgument}
use Rattle.mt_calculus.specs.Guard.{UnderNoConstructor, absent, under_lam, under_match, under_con, CoinductiveMotive, motive_type, motive_past, ArmsUnderNoConstructor, no_arm_under, arm_under, UnderConstructor, past_types, at_parameter, at_other, at_recursive, at_call, CoinductiveResult, result_here, result_past, GuardedCorecursive}
use Rattle.mt_positivity.specs.Deciding.{avoids, is_recursive}
use Rattle.mt_positivity.proofs.Deciding.{avoids-decides, recursive-decides, and_true}
use Rattle.mt_guard.specs.Corecursive.{is_call, Judged, all_avoid, may_stand, fit, constructor_fits, entry_fits, stands, stand_arms, is_coinductive_motive, is_under, has_coinductive_result, is_co_guarded}
use Rattle.mt_guard.specs.Deciding.{is_on_type}
use Rattle.mt_guard.proofs.Deciding.{or_cases, or_left, or_right, on_type_is, is_on_type_at}

-- the arguments alone
abbrev terms : List Judged → Trees
terms [] = End
terms (v ∷ vs) = Item v.0 (terms vs)

avoid_is : (f : ℕ) (vs : List Judged) → all_avoid f vs ≡ true → AvoidsAll f (terms vs)
avoid_is f [] e = tt
avoid_is f (v ∷ vs) e = let p = both (avoids f v.0) (all_avoid f vs) e in ((avoids-decides f v.0).0 p.0, avoid_is f vs p.1)

-- what a call is
record Call (f : ℕ) (t : Tree) : Type 0 where
  arguments : Trees
  avoiding : AvoidsAll f arguments
  is : t ≡ apps (Const f) arguments

call_is : (f : ℕ) (t : Tree) (s : Trees) → AvoidsAll f s → is_call f t ≡ true → Call f (apps t s)
call_is f (Const c) s h e = record { arguments = s; avoiding = h; is = ap (λ n. apps (Const n) s) ((Decides-eqb c f).0 e) }
call_is f (App g a) s h e = let p = both (is_call f g) (avoids f a) e in call_is f g (Item a s) ((avoids-decides f a).0 p.1, h) p.0
call_is f _ s h e = never e

is_call_apps : (f : ℕ) (t : Tree) (us : Trees) → is_call f t ≡ true → AvoidsAll f us → is_call f (apps t us) ≡ true
is_call_apps f t End e h = e
is_call_apps f t (Item a us) e h = is_call_apps f (App t a) us (and_true e ((avoids-decides f a).1 h.0)) h.1

-- ---- motives

motive_is : (E : Environment) (R : Tree) → is_coinductive_motive E R ≡ true → CoinductiveMotive E R
motive_is E (Lam x A R) e = motive_past (motive_is E R e)
motive_is E R e = motive_type (on_type_is E true R End e)

-- a type on arguments is no abstraction
type_motive : (E : Environment) (R : Tree) → is_on_type E true R ≡ true → is_coinductive_motive E R ≡ true
type_motive E (Lam x A R) e = never e
type_motive E R e = e

is_motive : (E : Environment) {R : Tree} → CoinductiveMotive E R → is_coinductive_motive E R ≡ true
is_motive E (motive_type {T = T} o) = type_motive E T (is_on_type_at E true o)
is_motive E (motive_past m) = is_motive E m

module _ (E : Environment) (f : ℕ) where
  -- each verdict is right
  abbrev AllRight : List Judged → Type 0
  AllRight [] = Unit {0}
  AllRight (v ∷ vs) = (v.1 ≡ true → UnderNoConstructor E f v.0) × AllRight vs

  module _ (e p indices : ℕ) where
    one_stands : (d : ℕ) (y : Bytes) (A C : Tree) (v : Judged) (s : Trees) → (v.1 ≡ true → UnderNoConstructor E f v.0) → may_stand f e p indices d A v ≡ true
        → UnderConstructor E f e p indices zero (suc d) C s → UnderConstructor E f e p indices zero d (Prod y A C) (Item v.0 s)
    one_stands d y A C v s right h u = by (or_cases (avoids f v.0) (is_recursive e p indices d A && (v.1 || is_call f v.0)) h)
      where
        called : RecursiveArgument e p indices d A → Call f v.0 → UnderConstructor E f e p indices zero d (Prod y A C) (Item v.0 s)
        called r c = subst (λ t. UnderConstructor E f e p indices zero d (Prod y A C) (Item t s)) (sym c.is) (at_call c.arguments r c.avoiding u)

        either : RecursiveArgument e p indices d A → (v.1 ≡ true) ⊎ (is_call f v.0 ≡ true) → UnderConstructor E f e p indices zero d (Prod y A C) (Item v.0 s)
        either r (inl g) = at_recursive r (right g) u
        either r (inr g) = called r (call_is f v.0 End tt g)

        by : (avoids f v.0 ≡ true) ⊎ ((is_recursive e p indices d A && (v.1 || is_call f v.0)) ≡ true) → UnderConstructor E f e p indices zero d (Prod y A C) (Item v.0 s)
        by (inl g) = at_other ((avoids-decides f v.0).0 g) u
        by (inr g) =
            let q = both (is_recursive e p indices d A) (v.1 || is_call f v.0) g in
            either ((recursive-decides e p indices d A).0 q.0) (or_cases v.1 (is_call f v.0) q.1)

    fit_is : (l d : ℕ) (C : Tree) (vs : List Judged) → AllRight vs → fit f e p indices l d C vs ≡ true → UnderConstructor E f e p indices l d C (terms vs)
    fit_is l d C [] r h = past_types End tt
    fit_is (suc l) d (Prod y A C) (v ∷ vs) r h =
        let q = both (avoids f v.0) (fit f e p indices l d C vs) h in
        at_parameter ((avoids-decides f v.0).0 q.0) (fit_is l d C vs r.1 q.1)
    fit_is zero d (Prod y A C) (v ∷ vs) r h =
        let q = both (may_stand f e p indices d A v) (fit f e p indices zero (suc d) C vs) h in
        one_stands d y A C v (terms vs) r.0 q.0 (fit_is zero (suc d) C vs r.1 q.1)
    fit_is zero d C (v ∷ vs) r h = past_types (terms (v ∷ vs)) (avoid_is f (v ∷ vs) h)
    fit_is (suc l) d C (v ∷ vs) r h = past_types (terms (v ∷ vs)) (avoid_is f (v ∷ vs) h)

    all_fit : (l d : ℕ) (C : Tree) (vs : List Judged) → all_avoid f vs ≡ true → fit f e p indices l d C vs ≡ true
    all_fit l d C [] h = refl
    all_fit (suc l) d (Prod y A C) (v ∷ vs) h = let q = both (avoids f v.0) (all_avoid f vs) h in and_true q.0 (all_fit l d C vs q.1)
    all_fit zero d (Prod y A C) (v ∷ vs) h =
        let q = both (avoids f v.0) (all_avoid f vs) h in
        and_true (or_left (is_recursive e p indices d A && (v.1 || is_call f v.0)) q.0) (all_fit zero (suc d) C vs q.1)
    all_fit zero d C (v ∷ vs) h = h
    all_fit (suc l) d C (v ∷ vs) h = h

  con_is : (e k : ℕ) (vs : List Judged) → AllRight vs → (x : Bytes) (p : ℕ) (T : Tree) (cs : List Constructor) (l : Bool) → slice_get (E.entries) e ≡ Some (Inductive x true p T cs l)
      → (c : Option Constructor) → slice_get cs k ≡ c → constructor_fits f e p T c vs ≡ true → UnderNoConstructor E f (apps (Con e k) (terms vs))
  con_is e k vs r x p T cs l h None g i = never i
  con_is e k vs r x p T cs l h (Some c) g i = under_con e k {name = c.name} (terms vs) h g (fit_is e p (products T - p) p zero c.ty vs r i)

  entry_is : (e k : ℕ) (vs : List Judged) → AllRight vs → (o : Option Declaration) → slice_get (E.entries) e ≡ o → entry_fits f e k o vs ≡ true → UnderNoConstructor E f (apps (Con e k) (terms vs))
  entry_is e k vs r (Some (Inductive x true p T cs l)) h i = con_is e k vs r x p T cs l h (slice_get cs k) refl i
  entry_is e k vs r _ h i = never i

  under_by : (t : Tree) → (stands E f t [] ≡ true → UnderNoConstructor E f t) → is_under E f t ≡ true → UnderNoConstructor E f t
  under_by t go e = by (or_cases (avoids f t) (stands E f t []) e)
    where
      by : (avoids f t ≡ true) ⊎ (stands E f t [] ≡ true) → UnderNoConstructor E f t
      by (inl h) = absent ((avoids-decides f t).0 h)
      by (inr h) = go h

  mutual
    stands_is : (t : Tree) (vs : List Judged) → AllRight vs → stands E f t vs ≡ true → UnderNoConstructor E f (apps t (terms vs))
    stands_is (Lam x A b) [] r e =
        let p = both (avoids f A) (avoids f b || stands E f b []) e in
        under_lam ((avoids-decides f A).0 p.0) (under_by b (λ h. stands_is b [] tt h) p.1)
    stands_is (Match n R c bs) [] r e =
        let q = both (avoids f R && is_coinductive_motive E R && avoids f c) (stand_arms E f bs) e in
        let p = both (avoids f R && is_coinductive_motive E R) (avoids f c) q.0 in
        let m = both (avoids f R) (is_coinductive_motive E R) p.0 in
        under_match ((avoids-decides f R).0 m.0) (motive_is E R m.1) ((avoids-decides f c).0 p.1) (arms_is bs q.1)
    stands_is (App g a) vs r e = stands_is g ((a, avoids f a || stands E f a []) ∷ vs) ((λ h. under_by a (λ i. stands_is a [] tt i) h), r) e
    stands_is (Con n k) vs r e = entry_is n k vs r (slice_get E.entries n) refl e
    stands_is _ vs r e = never e

    arms_is : (bs : Arms) → stand_arms E f bs ≡ true → ArmsUnderNoConstructor E f bs
    arms_is NoArm e = no_arm_under
    arms_is (Arm xs b bs) e =
        let p = both (avoids f b || stands E f b []) (stand_arms E f bs) e in
        arm_under (under_by b (λ h. stands_is b [] tt h) p.0) (arms_is bs p.1)

  -- arguments with their verdicts, before others
  abbrev judged : Trees → List Judged → List Judged
  judged End vs = vs
  judged (Item a s) vs = (a, is_under E f a) ∷ judged s vs

  stands_apps : (t : Tree) (s : Trees) (vs : List Judged) → stands E f t (judged s vs) ≡ true → stands E f (apps t s) vs ≡ true
  stands_apps t End vs e = e
  stands_apps t (Item a s) vs e = stands_apps (App t a) s vs e

  all_avoid_judged : (s : Trees) → AvoidsAll f s → all_avoid f (judged s []) ≡ true
  all_avoid_judged End h = refl
  all_avoid_judged (Item a s) h = and_true ((avoids-decides f a).1 h.0) (all_avoid_judged s h.1)

  mutual
    is_under_at : {t : Tree} → UnderNoConstructor E f t → is_under E f t ≡ true
    is_under_at (absent {t = t} a) = or_left (stands E f t []) ((avoids-decides f t).1 a)
    is_under_at (under_lam {x = x} {A = A} {b = b} a u) = or_right (avoids f (Lam x A b)) (and_true ((avoids-decides f A).1 a) (is_under_at u))
    is_under_at (under_match {e = n} {R = R} {c = c} {bs = bs} r m a u) =
        or_right (avoids f (Match n R c bs))
        (and_true (and_true (and_true ((avoids-decides f R).1 r) (is_motive E m)) ((avoids-decides f c).1 a)) (stand_arms_at u))
    is_under_at (under_con e k {p = p} {T = T} s h g u) =
        let v : entry_fits f e k (slice_get E.entries e) (judged s []) ≡ true =
        ap (λ o. entry_fits f e k o (judged s [])) h ∙ ap (λ c. constructor_fits f e p T c (judged s [])) g ∙ fit_at u in
        or_right (avoids f (apps (Con e k) s)) (stands_apps (Con e k) s [] v)

    stand_arms_at : {bs : Arms} → ArmsUnderNoConstructor E f bs → stand_arms E f bs ≡ true
    stand_arms_at no_arm_under = refl
    stand_arms_at (arm_under u us) = and_true (is_under_at u) (stand_arms_at us)

    fit_at : {e p indices l d : ℕ} {C : Tree} {s : Trees} → UnderConstructor E f e p indices l d C s → fit f e p indices l d C (judged s []) ≡ true
    fit_at (past_types {e = e} {p = p} {indices = i} {l = l} {d = d} {C = C} s h) = all_fit e p i l d C (judged s []) (all_avoid_judged s h)
    fit_at (at_parameter {a = a} h u) = and_true ((avoids-decides f a).1 h) (fit_at u)
    fit_at (at_other {e = e} {p = p} {indices = i} {d = d} {A = A} {a = a} h u) =
        and_true (or_left (is_recursive e p i d A && (is_under E f a || is_call f a)) ((avoids-decides f a).1 h)) (fit_at u)
    fit_at (at_recursive {e = e} {p = p} {indices = i} {d = d} {A = A} {a = a} r v u) =
        and_true (or_right (avoids f a) (and_true ((recursive-decides e p i d A).1 r) (or_left (is_call f a) (is_under_at v)))) (fit_at u)
    fit_at (at_call {e = e} {p = p} {indices = i} {d = d} {A = A} us r h u) =
        and_true (or_right (avoids f (apps (Const f) us)) (and_true ((recursive-decides e p i d A).1 r)
        (or_right (is_under E f (apps (Const f) us)) (is_call_apps f (Const f) us ((Decides-eqb f f).1 refl) h)))) (fit_at u)

  under-decides : (t : Tree) → Decides (is_under E f t) (UnderNoConstructor E f t)
  under-decides t = (under_by t (λ h. stands_is t [] tt h), is_under_at)

result_is : (E : Environment) (n : ℕ) (T : Tree) → has_coinductive_result E n T ≡ true → CoinductiveResult E n T
result_is E zero T e = result_here (on_type_is E true T End e)
result_is E (suc n) (Prod x A B) e = result_past (result_is E n B e)
result_is E (suc n) _ e = never e

is_result : (E : Environment) {n : ℕ} {T : Tree} → CoinductiveResult E n T → has_coinductive_result E n T ≡ true
is_result E (result_here o) = is_on_type_at E true o
is_result E (result_past r) = is_result E r

-- the test is true exactly where the function is guarded
pub co_guarded-decides : (E : Environment) (f n : ℕ) (T b : Tree) → Decides (is_co_guarded E f n T b) (GuardedCorecursive E f n T b)
co_guarded-decides E f n T b = Decides-and (has_coinductive_result E n T) (is_under E f b) (result_is E n T, is_result E) (under-decides E f b)
