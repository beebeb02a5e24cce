-- What the parts of inference that have no charges give.
use mathlib.Core.Path.{fun_ext}
use Rattle.std.specs.Prelude.{ℕ, zero, suc, ◌≡◌, refl, List, [], ◌∷◌, nat_eq, if◌then◌else◌, Bool, true, false, Option, Some, None, slice_get}
use Rattle.std.proofs.Common.{sym, ◌∙◌, ap, subst, eqb-true, arith}
use Rattle.mt_term.specs.Trees.{Bytes, Tree, Trees, Var, Sort, Prod, Lam, App, Const, Ind, Con, Match, Meta, End, Item}
use Rattle.mt_term.specs.Substitution.{ren, ren_all, sub, one, apps, all_but, join, count, products}
use Rattle.mt_term.specs.Lifting.{raise, lift}
use Rattle.mt_term.specs.declared.universes.Sort.{Sort as AnySort}
use Rattle.mt_term.specs.declared.universes.Sort.TheVariants.{Prop, Typ}
use Rattle.mt_term.specs.declared.universes.UnivExpr.{UnivExpr}
use Rattle.mt_term.specs.UniverseForms.{raised, raised_sort, sort_above, sort_of_product}
use Rattle.mt_term.specs.Declarations.{Hypothesis, Constructor, Declaration, Axiom, Definition, Inductive, Recursive, Environment}
use Rattle.mt_term.specs.Spines.{as_ind, motive_on, motive_on_all, at_args, with_first, first_of}
use Rattle.mt_term.specs.Stores.{Store, AllMetas, AllMetasIn, AllMetasOf}
use Rattle.mt_calculus.specs.Contraction.{beta, in_fun}
use Rattle.mt_calculus.specs.Typing.{Look, here, there, IsContext, IsType, Has, ProductSort, to_prop, from_prop, of_types, Raised, Instantiated, at_none, at_more, Allowed, Holds, c_cons, t_prop, t_typ, k_dom, k_cod}
use Rattle.mt_rules.specs.Inference.{Family, lifted_type, type_at, context_types, family_at, at_some_args, family_of, family_on, as_family, only, may_eliminate, branch_context, return_at, branch_type}
use Rattle.mt_calculus_laws.proofs.Agree.{ren_metas}
use Rattle.mt_term.proofs.Subst.{ren_ren}
use Rattle.mt_calculus_laws.proofs.Steps.{Reduces, done, step, within, also}
use Rattle.mt_calculus_laws.proofs.Matching.{apps_snoc, join_end, all_but_join, ConResult, r_end, r_more, BranchGoal, goal_here, goal_under}
use Rattle.mt_calculus_laws.proofs.MetaLaws.{head_metas, all_but_metas, join_metas, motive_on_all_metas}
use Rattle.mt_term.proofs.UniverseFormLaws.{value_of_maximum, value_of_raised}
use Rattle.mt_rules_laws.proofs.Yields.{some_is, nothing}

-- a variable's type
raise_more : (k : ℕ) (t : Tree) → ren suc (lift k zero t) ≡ lift (suc k) zero t
raise_more k t = ren_ren suc (raise k zero) t ∙ ap (λ ξ. ren ξ t) (fun_ext go)
  where
    go : (i : ℕ) → suc (raise k zero i) ≡ raise (suc k) zero i
    go i = omega arith

raise_one : (t : Tree) → ren suc t ≡ lift 1 zero t
raise_one t = ap (λ ξ. ren ξ t) (fun_ext go)
  where
    go : (i : ℕ) → suc i ≡ raise 1 zero i
    go i = omega arith

look_at : (Γ : List Hypothesis) (i : ℕ) (h : Hypothesis) → slice_get Γ i ≡ Some h → Look (context_types Γ) i (lift (suc i) zero h.ty)
look_at [] i h e = nothing e
look_at (g ∷ Γ) zero h e =
    let p : ren suc g.ty ≡ lift 1 zero h.ty = raise_one g.ty ∙ ap (λ (x : Hypothesis). lift 1 zero x.ty) (some_is e) in
    subst (Look (context_types (g ∷ Γ)) zero) p here
look_at (g ∷ Γ) (suc i) h e = subst (Look (context_types (g ∷ Γ)) (suc i)) (raise_more (suc i) h.ty) (there (look_at Γ i h e))

pub type_look : (Γ : List Hypothesis) (i : ℕ) (t : Tree) → type_at Γ i ≡ Some t → Look (context_types Γ) i t
type_look Γ i t e = go (slice_get Γ i) refl e
  where
    go : (o : Option Hypothesis) → slice_get Γ i ≡ o → lifted_type (suc i) o ≡ Some t → Look (context_types Γ) i t
    go None a b = nothing b
    go (Some h) a b = subst (Look (context_types Γ) i) (some_is b) (look_at Γ i h a)

pub look_metas : (P : ℕ → Type 0) {Γ : List Tree} {i : ℕ} {t : Tree} → Look Γ i t → AllMetasOf P Γ → AllMetas P t
look_metas P (here {A = t}) a = ren_metas P suc t a.0
look_metas P (there {T = t} l) a = ren_metas P suc t (look_metas P l a.1)

-- the sorts of sorts and of products
pub above_has : (E : Environment) (w : Bool) (T : Store) (Γ : List Tree) (s r : AnySort) → Holds E w T Γ IsContext → sort_above s ≡ Some r → Holds E w T Γ (Has (Sort s) (Sort r))
above_has E w T Γ Prop r c e = subst (λ q. Holds E w T Γ (Has (Sort Prop) (Sort q))) (some_is e) (t_prop c)
above_has E w T Γ (Typ u) r c e = go (raised u) refl e
  where
    go : (o : Option UnivExpr) → raised u ≡ o → raised_sort o ≡ Some r → Holds E w T Γ (Has (Sort (Typ u)) (Sort r))
    go None a b = nothing b
    go (Some v) a b =
        let up : Raised u v = λ f. value_of_raised f u v a ∙ omega arith in
        subst (λ q. Holds E w T Γ (Has (Sort (Typ u)) (Sort q))) (some_is b) (t_typ c up)

pub product_sort : (s r : AnySort) → ProductSort s r (sort_of_product s r)
product_sort s Prop = to_prop
product_sort Prop (Typ v) = from_prop
product_sort (Typ u) (Typ v) = of_types (λ f. value_of_maximum f u v)

pub allowed_is : (large : Bool) (r s : AnySort) → may_eliminate large r s ≡ true → Allowed r s large
allowed_is large Prop Prop e = tt
allowed_is large Prop (Typ u) e = e
allowed_is large (Typ v) s e = tt

-- an inductive type on arguments
as_ind_is : (t : Tree) (s : Trees) (k : ℕ × Trees) → as_ind t s ≡ Some k → apps t s ≡ apps (Ind k.0) k.1
as_ind_is (Ind e) s k h = ap (λ (q : ℕ × Trees). apps (Ind q.0) q.1) (some_is h)
as_ind_is (App f a) s k h = as_ind_is f (Item a s) k h
as_ind_is _ s k h = nothing h

as_ind_apps : (t : Tree) (s r : Trees) → as_ind (apps t s) r ≡ as_ind t (join s r)
as_ind_apps t End r = refl
as_ind_apps t (Item a s) r = as_ind_apps (App t a) s r

as_ind_own : (e : ℕ) (ps us : Trees) → as_ind (apps (apps (Ind e) ps) us) End ≡ Some (e, join ps us)
as_ind_own e ps us = as_ind_apps (apps (Ind e) ps) us End ∙ ap (as_ind (apps (Ind e) ps)) (join_end us) ∙ as_ind_apps (Ind e) ps us

first_more : (p : ℕ) (t : Tree) (s ps : Trees) (o : Option Trees) → ((q : Trees) → first_of p s ≡ Some q → (count q ≡ p) × (join q (all_but p s) ≡ s)) → first_of p s ≡ o → with_first t o ≡ Some ps → (count ps ≡ suc p) × (join ps (all_but p s) ≡ Item t s)
first_more p t s ps None ih a b = nothing b
first_more p t s ps (Some q) ih a b =
    let r = ih q a in
    (ap count (sym (some_is b)) ∙ ap suc r.0, ap (λ v. join v (all_but p s)) (sym (some_is b)) ∙ ap (Item t) r.1)

first_is : (p : ℕ) (s ps : Trees) → first_of p s ≡ Some ps → (count ps ≡ p) × (join ps (all_but p s) ≡ s)
first_is zero s ps h = (ap count (sym (some_is h)), ap (λ q. join q s) (sym (some_is h)))
first_is (suc p) End ps h = nothing h
first_is (suc p) (Item t s) ps h = first_more p t s ps (first_of p s) (first_is p s) refl h

pub at_args_is : (t : Tree) (s : Trees) (u : Tree) → at_args t s ≡ Some u → Instantiated t s u
at_args_is t End u h = subst (Instantiated t End) (some_is h) at_none
at_args_is (Prod x a b) (Item v s) u h = at_more (at_args_is (sub (one v) b) s u h)
at_args_is t (Item v s) u h = nothing h

-- a type is an inductive type on all its parameters and indices
pub record FamilyIs (E : Environment) (t : Tree) (f : Family) : Type 0 where
  pub name : Bytes
  pub co : Bool
  pub p : ℕ
  pub ty : Tree
  pub entry : slice_get E.entries f.number ≡ Some (Inductive name co p ty f.constructors f.large)
  pub is : t ≡ apps (Ind f.number) (join f.params f.indices)
  pub enough : count f.params ≡ p
  pub full : count (join f.params f.indices) ≡ products ty
  pub at : Instantiated ty f.params f.arity

pub family_is : (E : Environment) (t : Tree) (f : Family) → as_family E.entries t ≡ Some f → FamilyIs E t f
family_is E t f h = go (as_ind t End) refl h
  where
    last : (e : ℕ) (s : Trees) → t ≡ apps (Ind e) s → (x : Bytes) (co : Bool) (p : ℕ) (ty : Tree) (cs : List Constructor) (l : Bool) → slice_get E.entries e ≡ Some (Inductive x co p ty cs l)
        → count s ≡ products ty → (o : Option Trees) → first_of p s ≡ o → (u : Option Tree) → at_some_args ty o ≡ u → family_at e s cs l p o u ≡ Some f → FamilyIs E t f
    last e s i x co p ty cs l g n (Some ps) a (Some u) b z =
        let q = first_is p s ps a in
        let F : FamilyIs E t (record { number = e; params = ps; indices = all_but p s; arity = u; constructors = cs; large = l }) = record { name = x; co = co; p = p; ty = ty; entry = g; is = i ∙ ap (apps (Ind e)) (sym q.1); enough = q.0; full = ap count q.1 ∙ n; at = at_args_is ty ps u b } in
        subst (FamilyIs E t) (some_is z) F
    last e s i x co p ty cs l g n (Some ps) a None b z = nothing z
    last e s i x co p ty cs l g n None a (Some u) b z = nothing z
    last e s i x co p ty cs l g n None a None b z = nothing z

    counted : (e : ℕ) (s : Trees) → t ≡ apps (Ind e) s → (x : Bytes) (co : Bool) (p : ℕ) (ty : Tree) (cs : List Constructor) (l : Bool) → slice_get E.entries e ≡ Some (Inductive x co p ty cs l)
        → (b : Bool) → nat_eq (count s) (products ty) ≡ b → (if b then family_at e s cs l p (first_of p s) (at_some_args ty (first_of p s)) else None) ≡ Some f → FamilyIs E t f
    counted e s i x co p ty cs l g true b z = last e s i x co p ty cs l g (eqb-true (count s) (products ty) b) (first_of p s) refl (at_some_args ty (first_of p s)) refl z
    counted e s i x co p ty cs l g false b z = nothing z

    entry : (e : ℕ) (s : Trees) → t ≡ apps (Ind e) s → (d : Option Declaration) → slice_get E.entries e ≡ d → family_of e s d ≡ Some f → FamilyIs E t f
    entry e s i (Some (Inductive x co p ty cs l)) g z = counted e s i x co p ty cs l g (nat_eq (count s) (products ty)) refl z
    entry e s i (Some (Axiom x ty)) g z = nothing z
    entry e s i (Some (Definition x ty b)) g z = nothing z
    entry e s i (Some (Recursive x co n r ty b made)) g z = nothing z
    entry e s i None g z = nothing z

    go : (o : Option (ℕ × Trees)) → as_ind t End ≡ o → family_on E.entries o ≡ Some f → FamilyIs E t f
    go None a b = nothing b
    go (Some k) a b = entry k.0 k.1 (as_ind_is t End k a) (slice_get E.entries k.0) refl b

pub only_is : (e : ℕ) (o : Option Family) (f : Family) → only e o ≡ Some f → (o ≡ Some f) × (f.number ≡ e)
only_is e None f h = nothing h
only_is e (Some g) f h = go (nat_eq g.number e) refl h
  where
    go : (b : Bool) → nat_eq g.number e ≡ b → (if b then Some g else None) ≡ Some f → (Some g ≡ Some f) × (f.number ≡ e)
    go true a z = (z, subst (λ (k : Family). k.number ≡ e) (some_is z) (eqb-true g.number e a))
    go false a z = nothing z

-- a motive on arguments steps to its body at them
module _ (E : Environment) (T : Store) where
  motive_on_reduces : (r u : Tree) → Reduces E T (App r u) (motive_on r u)
  motive_on_reduces (Lam x a b) u = step beta
  motive_on_reduces (Var i) u = done
  motive_on_reduces (Sort s) u = done
  motive_on_reduces (Prod x a b) u = done
  motive_on_reduces (App f a) u = done
  motive_on_reduces (Const c) u = done
  motive_on_reduces (Ind e) u = done
  motive_on_reduces (Con e k) u = done
  motive_on_reduces (Match e r c bs) u = done
  motive_on_reduces (Meta n s) u = done

  apps_reduces : (t u : Tree) (s : Trees) → Reduces E T t u → Reduces E T (apps t s) (apps u s)
  apps_reduces t u End r = r
  apps_reduces t u (Item a s) r = apps_reduces (App t a) (App u a) s (within (λ v. App v a) (λ x y. in_fun) r)

  pub motive_on_all_reduces : (r : Tree) (s : Trees) → Reduces E T (apps r s) (motive_on_all r s)
  motive_on_all_reduces r End = done
  motive_on_all_reduces r (Item u s) = also (apps_reduces (App r u) (motive_on r u) s (motive_on_reduces r u)) (motive_on_all_reduces (motive_on r u) s)

  -- on indices and a last term
  pub last_reduces : (r : Tree) (is : Trees) (c : Tree) → Reduces E T (App (apps r is) c) (motive_on_all r (join is (Item c End)))
  last_reduces r is c = subst (λ t. Reduces E T t (motive_on_all r (join is (Item c End)))) (apps_snoc r is c) (motive_on_all_reduces r (join is (Item c End)))

  -- the goal of a branch body
  branch_nil : (p : ℕ) (r c u : Tree) → branch_type p r c u [] ≡ return_at p r c (as_ind u End)
  branch_nil p r c (Prod x a b) = refl
  branch_nil p r c u = refl

  context_nil : (Γ : List Hypothesis) (u : Tree) → branch_context Γ u [] ≡ Γ
  context_nil Γ (Prod x a b) = refl
  context_nil Γ u = refl

  abbrev IsSpine : Tree → Type 0
  IsSpine (App f a) = Unit {0}
  IsSpine (Ind e) = Unit {0}
  IsSpine t = ⊥

  spine_apps : (t : Tree) (s : Trees) → IsSpine t → IsSpine (apps t s)
  spine_apps t End h = h
  spine_apps t (Item a s) h = spine_apps (App t a) s tt

  branch_none : (p : ℕ) (r c u : Tree) (x : Bytes) (xs : List Bytes) → IsSpine u → branch_type p r c u (x ∷ xs) ≡ None
  branch_none p r c (App f a) x xs h = refl
  branch_none p r c (Ind e) x xs h = refl
  branch_none p r c u x xs h = absurd h

  count_ren : (ξ : ℕ → ℕ) (ps : Trees) → count (ren_all ξ ps) ≡ count ps
  count_ren ξ End = refl
  count_ren ξ (Item t ps) = ap suc (count_ren ξ ps)

  pub branch_goal : (e q p : ℕ) {ps : Trees} {u : Tree} → ConResult e q ps u → count ps ≡ p → (Γ : List Hypothesis) (r c : Tree) (xs : List Bytes) (v : Tree) → branch_type p r c u xs ≡ Some v
      → (V : Tree) × BranchGoal e q ps (context_types Γ) r c u xs (context_types (branch_context Γ u xs)) V × Reduces E T V v
  branch_goal e q p (r_end {ps = ps} us nq) np Γ r c [] v h =
      let t = apps (apps (Ind e) ps) us in
      let a : motive_on_all r (join (all_but p (join ps us)) (Item c End)) ≡ v = some_is (ap (return_at p r c) (sym (as_ind_own e ps us)) ∙ sym (branch_nil p r c t) ∙ h) in
      let b : motive_on_all r (join us (Item c End)) ≡ v = ap (λ is. motive_on_all r (join is (Item c End))) (sym (all_but_join p ps us np)) ∙ a in (
        App (apps r us) c,
        subst (λ Δ. BranchGoal e q ps (context_types Γ) r c t [] (context_types Δ) (App (apps r us) c)) (sym (context_nil Γ t)) (goal_here us nq),
        subst (Reduces E T (App (apps r us) c)) b (last_reduces r us c),
      )
  branch_goal e q p (r_end {ps = ps} us nq) np Γ r c (x ∷ xs) v h = nothing (sym (branch_none p r c (apps (apps (Ind e) ps) us) x xs (spine_apps (apps (Ind e) ps) us (spine_apps (Ind e) ps tt))) ∙ h)
  branch_goal e q p (r_more z) np Γ r c [] v h = nothing h
  branch_goal e q p (r_more {ps = ps} {y = y} {A = A} {B = B} z) np Γ r c (x ∷ xs) v h =
      let k = branch_goal e q p z (count_ren suc ps ∙ np) (record { name = x; ty = A } ∷ Γ) (ren suc r) (App (ren suc c) (Var zero)) xs v h in
      (k.0, goal_under k.1, k.2)

-- its context is a context
pub branch_context_holds : (E : Environment) (w : Bool) (T : Store) (Γ : List Hypothesis) (u : Tree) (xs : List Bytes) → Holds E w T (context_types Γ) IsContext → Holds E w T (context_types Γ) (IsType u) → Holds E w T (context_types (branch_context Γ u xs)) IsContext
branch_context_holds E w T Γ (Prod y a b) (x ∷ xs) c h = branch_context_holds E w T (record { name = x; ty = a } ∷ Γ) b xs (c_cons c (k_dom h)) (k_cod h)
branch_context_holds E w T Γ (Prod y a b) [] c h = c
branch_context_holds E w T Γ u xs c h = c

module _ (P : ℕ → Type 0) where
  pub branch_context_metas : (Γ : List Hypothesis) (u : Tree) (xs : List Bytes) → AllMetasOf P (context_types Γ) → AllMetas P u → AllMetasOf P (context_types (branch_context Γ u xs))
  branch_context_metas Γ (Prod y a b) (x ∷ xs) g h = branch_context_metas (record { name = x; ty = a } ∷ Γ) b xs (h.0, g) h.1
  branch_context_metas Γ (Prod y a b) [] g h = g
  branch_context_metas Γ u xs g h = g

  return_metas : (p : ℕ) (r c u v : Tree) → AllMetas P r → AllMetas P c → AllMetas P u → (o : Option (ℕ × Trees)) → as_ind u End ≡ o → return_at p r c o ≡ Some v → AllMetas P v
  return_metas p r c u v a b d None g h = nothing h
  return_metas p r c u v a b d (Some k) g h =
      let s : AllMetasIn P k.1 = (head_metas P (Ind k.0) k.1 (subst (AllMetas P) (as_ind_is u End k g) d)).1 in
      subst (AllMetas P) (some_is h) (motive_on_all_metas P r (join (all_but p k.1) (Item c End)) a (join_metas P (all_but p k.1) (Item c End) (all_but_metas P p k.1 s) (b, tt)))

  pub branch_type_metas : (p : ℕ) (r c u : Tree) (xs : List Bytes) (v : Tree) → AllMetas P r → AllMetas P c → AllMetas P u → branch_type p r c u xs ≡ Some v → AllMetas P v
  branch_type_metas p r c (Prod y a b) (x ∷ xs) v g h d e = branch_type_metas p (ren suc r) (App (ren suc c) (Var zero)) b xs v (ren_metas P suc r g) (ren_metas P suc c h, tt) d.1 e
  branch_type_metas p r c (Prod y a b) [] v g h d e = nothing e
  branch_type_metas p r c u [] v g h d e = return_metas p r c u v g h d (as_ind u End) refl e
  branch_type_metas p r c u (x ∷ xs) v g h d e = nothing e

-- constructors from a number on
pub data After (all : List Constructor) : ℕ → List Constructor → Type 0 where
  from_first : After all zero all
  and_next : {k : ℕ} {c : Constructor} {cs : List Constructor} → After all k (c ∷ cs) → After all (suc k) cs

-- the tail of a list
tail_of : List Constructor → List Constructor
tail_of [] = []
tail_of (c ∷ cs) = cs

past : List Constructor → ℕ → List Constructor
past all zero = all
past all (suc k) = tail_of (past all k)

past_is : {all cs : List Constructor} {k : ℕ} → After all k cs → past all k ≡ cs
unfolding past tail_of
past_is from_first = refl
past_is (and_next a) = ap tail_of (past_is a)

past_later : (c : Constructor) (cs : List Constructor) (k : ℕ) → past (c ∷ cs) (suc k) ≡ past cs k
unfolding past tail_of
past_later c cs zero = refl
past_later c cs (suc k) = ap tail_of (past_later c cs k)

past_none : (k : ℕ) → past [] k ≡ []
unfolding past tail_of
past_none zero = refl
past_none (suc k) = ap tail_of (past_none k)

abbrev first_in : List Constructor → Option Constructor
first_in [] = None
first_in (c ∷ cs) = Some c

get_past : (all : List Constructor) (k : ℕ) → slice_get all k ≡ first_in (past all k)
unfolding past
get_past [] k = ap first_in (sym (past_none k))
get_past (c ∷ cs) zero = refl
get_past (c ∷ cs) (suc k) = get_past cs k ∙ ap first_in (sym (past_later c cs k))

pub after_get : {all cs : List Constructor} {k : ℕ} → After all k cs → slice_get all k ≡ first_in cs
after_get {all = all} {k = k} a = get_past all k ∙ ap first_in (past_is a)
