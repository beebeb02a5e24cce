-- Several contractions, and how a transformation acts on contraction, conversion and subtyping.
use Rattle.std.proofs.Common.{Bool, true, false, length, subst₂, ◌≡◌, ℕ, List, Some, sym, ap, ◌∙◌, subst, slice_get}
use Rattle.mt_term.proofs.Subst.{Steady, tr_one, tr_under, tr_apps, tr_all_but, tr_arm, fills_of, count_tr, ups_same}
use Rattle.mt_calculus_laws.proofs.TransformedParts.{arm_at_tr, item_at_tr}
use Rattle.mt_term.specs.Trees.{Tree, Trees, Arms, Bytes, Var, Prod, Lam, App, Const, Con, Match, Item, Arm}
use Rattle.mt_term.specs.Substitution.{up, ups, tr, tr_all, tr_arms, sub, fill, under, apps, all_but, count}
use Rattle.mt_term.specs.Declarations.{Declaration, Definition, Recursive, Environment, declared_type}
use Rattle.mt_term.specs.Stores.{Declared, Store}
use Rattle.mt_calculus.specs.Contraction.{ItemAt, ConstructorOf, Contracts, beta, delta, assigned, iota, unfold_rec, unfold_co, in_dom, in_cod, in_type, in_body, in_fun, in_arg, in_return, in_matched, in_arms, in_terms, ContractsIn, in_first, in_rest, ContractsArms, in_arm, in_later}
use Rattle.mt_calculus.specs.Conversion.{Conv, same, back, chain, reduct, sorts, prods, lams, app_conv, matches, metas, ConvAll, ends, items, ConvArms, no_arms, arms, AtMost, conv, on, prop, typ, cod}

pub data Reduces (E : Environment) (S : Store) : Tree → Tree → Type 0 where
  done : {t : Tree} → Reduces E S t t
  more : {t u v : Tree} → Contracts E S t u → Reduces E S u v → Reduces E S t v

pub data ReducesIn (E : Environment) (S : Store) : Trees → Trees → Type 0 where
  done_all : {s : Trees} → ReducesIn E S s s
  more_all : {s t u : Trees} → ContractsIn E S s t → ReducesIn E S t u → ReducesIn E S s u

pub data ReducesArms (E : Environment) (S : Store) : Arms → Arms → Type 0 where
  done_arms : {s : Arms} → ReducesArms E S s s
  more_arms : {s t u : Arms} → ContractsArms E S s t → ReducesArms E S t u → ReducesArms E S s u

pub step : {E : Environment} {S : Store} {t u : Tree} → Contracts E S t u → Reduces E S t u
step c = more c done

pub within : {E : Environment} {S S' : Store} {t u : Tree} (g : Tree → Tree) → ((a b : Tree) → Contracts E S a b → Contracts E S' (g a) (g b)) → Reduces E S t u → Reduces E S' (g t) (g u)
within g h done = done
within g h (more {t = a} {u = b} c r) = more (h a b c) (within g h r)

pub within_item : {E : Environment} {S : Store} {t u : Tree} (g : Tree → Trees) → ((a b : Tree) → Contracts E S a b → ContractsIn E S (g a) (g b)) → Reduces E S t u → ReducesIn E S (g t) (g u)
within_item g h done = done_all
within_item g h (more {t = a} {u = b} c r) = more_all (h a b c) (within_item g h r)

pub also : {E : Environment} {S : Store} {t u v : Tree} → Reduces E S t u → Reduces E S u v → Reduces E S t v
also done q = q
also (more c p) q = more c (also p q)

pub within_all : {E : Environment} {S : Store} {s t : Trees} (g : Trees → Tree) → ((a b : Trees) → ContractsIn E S a b → Reduces E S (g a) (g b)) → ReducesIn E S s t → Reduces E S (g s) (g t)
within_all g h done_all = done
within_all g h (more_all {s = a} {t = b} c r) = also (h a b c) (within_all g h r)

pub within_rest : {E : Environment} {S : Store} {s t : Trees} (x : Tree) → ReducesIn E S s t → ReducesIn E S (Item x s) (Item x t)
within_rest x done_all = done_all
within_rest x (more_all c r) = more_all (in_rest c) (within_rest x r)

pub within_arm : {E : Environment} {S : Store} {t u : Tree} (xs : List Bytes) (bs : Arms) → Reduces E S t u → ReducesArms E S (Arm xs t bs) (Arm xs u bs)
within_arm xs bs done = done_arms
within_arm xs bs (more c r) = more_arms (in_arm c) (within_arm xs bs r)

pub within_later : {E : Environment} {S : Store} {s t : Arms} (xs : List Bytes) (b : Tree) → ReducesArms E S s t → ReducesArms E S (Arm xs b s) (Arm xs b t)
within_later xs b done_arms = done_arms
within_later xs b (more_arms c r) = more_arms (in_later c) (within_later xs b r)

pub within_match : {E : Environment} {S : Store} {s t : Arms} (e : ℕ) (R c : Tree) → ReducesArms E S s t → Reduces E S (Match e R c s) (Match e R c t)
within_match e R c done_arms = done
within_match e R c (more_arms h r) = more (in_arms h) (within_match e R c r)

-- f follows the store: what it makes of a metavariable with a body is reached by contractions, and it keeps contraction and conversion of the terms
pub record Tracks (E : Environment) (S : Store) (f : ℕ → Trees → Tree) (S' : Store) : Type 0 where
  pub steady : Steady f
  pub bodies : (n : ℕ) (d : Declared) (b : Tree) → S.at n ≡ Some d → d.body ≡ Some b → (s : Trees) → Reduces E S' (f n s) (under s (tr f Var b))
  pub terms : (n : ℕ) (s t : Trees) → ContractsIn E S' s t → Reduces E S' (f n s) (f n t)
  pub convs : (n : ℕ) (s t : Trees) → ConvAll E S' s t → Conv E S' (f n s) (f n t)

-- no transformation changes the types and bodies of the environment
abbrev pub Fixed : Tree → Type 0
Fixed t = (f : ℕ → Trees → Tree) (σ : ℕ → Tree) → tr f σ t ≡ t

pub record ClosedEnv (E : Environment) : Type 0 where
  pub types : (c : ℕ) (e : Declaration) → slice_get (E.entries) c ≡ Some e → Fixed (declared_type e)
  pub cons : (e k : ℕ) (C : Tree) → ConstructorOf E e k C → Fixed C
  pub bodies : (c n r : ℕ) (x : Bytes) (co made : Bool) (T b : Tree) → slice_get (E.entries) c ≡ Some (Recursive x co n r T b made) → Fixed b
  pub values : (c : ℕ) (x : Bytes) (T b : Tree) → slice_get (E.entries) c ≡ Some (Definition x T b) → Fixed b

module _ (E : Environment) (closed : ClosedEnv E) (S : Store) (f : ℕ → Trees → Tree) (S' : Store) (k : Tracks E S f S') where
  mutual
    pub contracts_tr : {t u : Tree} → Contracts E S t u → (σ : ℕ → Tree) → Reduces E S' (tr f σ t) (tr f σ u)
    contracts_tr (beta {x = x} {A = A} {b = b} {a = a}) σ = subst (λ v. Reduces E S' (App (Lam x (tr f σ A) (tr f (up σ) b)) (tr f σ a)) v) (sym (tr_one f k.steady σ a b)) (step beta)
    contracts_tr (delta {c = c} {x = x} {T = T} {b = b} e) σ = subst (λ v. Reduces E S' (Const c) v) (sym (closed.values c x T b e f σ)) (step (delta e))
    contracts_tr (assigned {n = n} {s = s} {d = d} {b = b} e g) σ = subst (λ v. Reduces E S' (f n (tr_all f σ s)) v) (sym (tr_under f k.steady σ s b)) (k.bodies n d b e g (tr_all f σ s))
    contracts_tr (in_dom {x = x} {B = B} c) σ = within (λ v. Prod x v (tr f (up σ) B)) (λ a b. in_dom) (contracts_tr c σ)
    contracts_tr (in_cod {x = x} {A = A} c) σ = within (λ v. Prod x (tr f σ A) v) (λ a b. in_cod) (contracts_tr c (up σ))
    contracts_tr (in_type {x = x} {b = B} c) σ = within (λ v. Lam x v (tr f (up σ) B)) (λ a b. in_type) (contracts_tr c σ)
    contracts_tr (in_body {x = x} {A = A} c) σ = within (λ v. Lam x (tr f σ A) v) (λ a b. in_body) (contracts_tr c (up σ))
    contracts_tr (in_fun {a = a} c) σ = within (λ v. App v (tr f σ a)) (λ a b. in_fun) (contracts_tr c σ)
    contracts_tr (in_arg {f = g} c) σ = within (λ v. App (tr f σ g) v) (λ a b. in_arg) (contracts_tr c σ)
    contracts_tr (iota {e = e} {k = j} {R = R} {b = b} s {bs = bs} {xs = xs} o n a len) σ =
        let p : ℕ = o.params in
        let s' : Trees = tr_all f σ s in
        let e1 : tr f σ (apps (Con e j) s) ≡ apps (Con e j) s' = tr_apps f σ (Con e j) s in
        let e2 : tr f σ (sub (fill (all_but p s) Var) b) ≡ sub (fill (all_but p s') Var) (tr f (ups xs σ) b) = tr_arm f k.steady σ xs (all_but p s) (fills_of xs (all_but p s) len) b ∙ ap (λ r. sub (fill r Var) (tr f (ups xs σ) b)) (tr_all_but f σ p s) in
        let len' : length xs ≡ count (all_but p s') = len ∙ sym (ap count (sym (tr_all_but f σ p s)) ∙ count_tr f σ (all_but p s)) in
        subst₂ (λ c v. Reduces E S' (Match e (tr f σ R) c (tr_arms f σ bs)) v) (sym e1) (sym e2) (step (iota s' o (count_tr f σ s ∙ n) (arm_at_tr f σ a) len'))
    contracts_tr (unfold_rec c {n = nb} {r = r} {e = e} {k = j} {x = x} {made = made} {T = T} {b = b} {s = s} us h i o n) σ =
        let s' : Trees = tr_all f σ s in
        let e2 : tr f σ (apps b s) ≡ apps b s' = tr_apps f σ b s ∙ ap (λ t. apps t s') (closed.bodies c nb r x false made T b h f σ) in
        let i' = subst (λ t. ItemAt t s' r) (tr_apps f σ (Con e j) us) (item_at_tr f σ i) in
        subst₂ (Reduces E S') (sym (tr_apps f σ (Const c) s)) (sym e2) (step (unfold_rec c (tr_all f σ us) h i' o (count_tr f σ us ∙ n)))
    contracts_tr (unfold_co c {n = nb} {r = r} {e = e} {x = x} {made = made} {T = T} {b = b} {R = R} s {bs = bs} h) σ =
        let s' : Trees = tr_all f σ s in
        let e2 : tr f σ (apps b s) ≡ apps b s' = tr_apps f σ b s ∙ ap (λ t. apps t s') (closed.bodies c nb r x true made T b h f σ) in
        subst₂ (λ a v. Reduces E S' (Match e (tr f σ R) a (tr_arms f σ bs)) (Match e (tr f σ R) v (tr_arms f σ bs))) (sym (tr_apps f σ (Const c) s)) (sym e2) (step (unfold_co c s' h))
    contracts_tr (in_return {e = e} {c = d} {bs = bs} c) σ = within (λ v. Match e v (tr f σ d) (tr_arms f σ bs)) (λ a b. in_return) (contracts_tr c σ)
    contracts_tr (in_matched {e = e} {R = R} {bs = bs} c) σ = within (λ v. Match e (tr f σ R) v (tr_arms f σ bs)) (λ a b. in_matched) (contracts_tr c σ)
    contracts_tr (in_arms {e = e} {R = R} {c = d} c) σ = within_match e (tr f σ R) (tr f σ d) (contracts_tr_arms c σ)
    contracts_tr (in_terms {n = n} c) σ = within_all (f n) (k.terms n) (contracts_tr_all c σ)

    pub contracts_tr_all : {s t : Trees} → ContractsIn E S s t → (σ : ℕ → Tree) → ReducesIn E S' (tr_all f σ s) (tr_all f σ t)
    contracts_tr_all (in_first {s = s} c) σ = within_item (λ v. Item v (tr_all f σ s)) (λ a b. in_first) (contracts_tr c σ)
    contracts_tr_all (in_rest {t = t} c) σ = within_rest (tr f σ t) (contracts_tr_all c σ)

    pub contracts_tr_arms : {s t : Arms} → ContractsArms E S s t → (σ : ℕ → Tree) → ReducesArms E S' (tr_arms f σ s) (tr_arms f σ t)
    contracts_tr_arms (in_arm {xs = xs} {bs = bs} c) σ = within_arm xs (tr_arms f σ bs) (contracts_tr c (ups xs σ))
    contracts_tr_arms (in_later {xs = xs} {b = b} c) σ = within_later xs (tr f (ups xs σ) b) (contracts_tr_arms c σ)

  reduces_conv : {t u : Tree} → Reduces E S' t u → Conv E S' t u
  reduces_conv done = same
  reduces_conv (more c r) = chain (reduct c) (reduces_conv r)

  mutual
    pub conv_tr : {t u : Tree} → Conv E S t u → (σ : ℕ → Tree) → Conv E S' (tr f σ t) (tr f σ u)
    conv_tr same σ = same
    conv_tr (back c) σ = back (conv_tr c σ)
    conv_tr (chain c e) σ = chain (conv_tr c σ) (conv_tr e σ)
    conv_tr (reduct c) σ = reduces_conv (contracts_tr c σ)
    conv_tr (sorts u v) σ = sorts u v
    conv_tr (prods c e) σ = prods (conv_tr c σ) (conv_tr e (up σ))
    conv_tr (lams c e) σ = lams (conv_tr c σ) (conv_tr e (up σ))
    conv_tr (app_conv c e) σ = app_conv (conv_tr c σ) (conv_tr e σ)
    conv_tr (matches c e a) σ = matches (conv_tr c σ) (conv_tr e σ) (conv_tr_arms a σ)
    conv_tr (metas {n = n} {s = s} {s' = t} c) σ = k.convs n (tr_all f σ s) (tr_all f σ t) (conv_tr_all c σ)

    pub conv_tr_all : {s t : Trees} → ConvAll E S s t → (σ : ℕ → Tree) → ConvAll E S' (tr_all f σ s) (tr_all f σ t)
    conv_tr_all ends σ = ends
    conv_tr_all (items c e) σ = items (conv_tr c σ) (conv_tr_all e σ)

    pub conv_tr_arms : {s t : Arms} → ConvArms E S s t → (σ : ℕ → Tree) → ConvArms E S' (tr_arms f σ s) (tr_arms f σ t)
    conv_tr_arms no_arms σ = no_arms
    conv_tr_arms (arms {xs = xs} {ys = ys} {b = b} {b' = d} n c e) σ = arms n (subst (λ τ. Conv E S' (tr f (ups xs σ) b) (tr f τ d)) (ups_same xs ys n σ) (conv_tr c (ups xs σ))) (conv_tr_arms e σ)

  pub at_most_tr : {t u : Tree} → AtMost E S t u → (σ : ℕ → Tree) → AtMost E S' (tr f σ t) (tr f σ u)
  at_most_tr (conv c) σ = conv (conv_tr c σ)
  at_most_tr (on c e) σ = on (at_most_tr c σ) (at_most_tr e σ)
  at_most_tr prop σ = prop
  at_most_tr (typ u) σ = typ u
  at_most_tr (cod c) σ = cod (at_most_tr c (up σ))
