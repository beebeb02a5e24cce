-- What the function of instances gives is the instance, over a store in which no metavariable is below itself.
use Rattle.std.proofs.Common.{◌≡◌, ◌≢◌, ◌∙◌, ◌<◌, ◌≤◌, ◌⊎◌, inl, inr, ℕ, zero, suc, ◌+◌, List, length, refl, sym, ap, subst, arith, eqb, true≢false}
use Rattle.std.specs.Prelude.{Bool, true, false, ◌||◌, if◌then◌else◌, Option, Some, None, option_map, slice_get}
use Rattle.std.proofs.lemmas.Bool.Decides.{Decides-eqb}
use Rattle.mt_term.specs.Trees.{Tree, Trees, Arms, Var, Sort, Prod, Lam, App, Const, Ind, Con, Match, Meta, End, Item, NoArm, Arm}
use Rattle.mt_term.specs.States.{Metavariable}
use Rattle.mt_term.specs.Stores.{Declared, Store, Acyclic, AllMetas, AllMetasIn, AllMetasArms, Below, InStore, Mentions, Owned, at_once, by_body, declared_as, onward, store_of, body_of}
use Rattle.mt_term.specs.Instances.{InstanceOf, InstanceAll, InstanceArms, inst_var, inst_sort, inst_prod, inst_lam, inst_app, inst_const, inst_ind, inst_con, inst_match, inst_open, inst_assigned, inst_end, inst_item, inst_no_arm, inst_arm}
use Rattle.mt_term.specs.Instancing.{assigned_body, body_values, instance, put_values, put_values_all, put_values_arms, valued}
use Rattle.mt_term.proofs.Options.{none_some, some_inj}
use Rattle.mt_term.proofs.ReachLaws.{all_of_term, in_bound, term_of_all}
use Rattle.mt_printer.specs.Laws.{InstanceFunctionLaw}

-- values put in for metavariables give the instance, where they do for each metavariable of a set
module _ (S : Store) (f : ℕ → Option Tree) (Q : ℕ → Type 0) (step : (n : ℕ) → Q n → (s s' : Trees) → InstanceAll S s s' → InstanceOf S (Meta n s) (valued (f n) n s')) where
  mutual
    each : (t : Tree) → AllMetas Q t → InstanceOf S t (put_values f t)
    each (Var i) a = inst_var
    each (Sort s) a = inst_sort
    each (Prod x A B) a = inst_prod (each A a.0) (each B a.1)
    each (Lam x A b) a = inst_lam (each A a.0) (each b a.1)
    each (App g u) a = inst_app (each g a.0) (each u a.1)
    each (Const c) a = inst_const
    each (Ind e) a = inst_ind
    each (Con e k) a = inst_con
    each (Match e R c bs) a = inst_match (each R a.0) (each c a.1) (each_arms bs a.2)
    each (Meta n s) a = step n a.0 s (put_values_all f s) (each_all s a.1)

    each_all : (s : Trees) → AllMetasIn Q s → InstanceAll S s (put_values_all f s)
    each_all End a = inst_end
    each_all (Item t s) a = inst_item (each t a.0) (each_all s a.1)

    each_arms : (bs : Arms) → AllMetasArms Q bs → InstanceArms S bs (put_values_arms f bs)
    each_arms NoArm a = inst_no_arm
    each_arms (Arm xs b bs) a = inst_arm (each b a.0) (each_arms bs a.1)

-- how many numbers below a bound have not been visited
abbrev one_if : Bool → ℕ
one_if true = 0
one_if false = 1

abbrev left : ℕ → (ℕ → Bool) → ℕ
left zero q = 0
left (suc j) q = one_if (q j) + left j q

abbrev visit : ℕ → (ℕ → Bool) → ℕ → Bool
visit n q j = eqb j n || q j

less_one : (a b : Bool) → one_if (a || b) ≤ one_if b
less_one true true = omega arith
less_one true false = omega arith
less_one false b = omega arith

no_more : (N n : ℕ) (q : ℕ → Bool) → left N (visit n q) ≤ left N q
no_more zero n q = omega arith
no_more (suc j) n q = let a = less_one (eqb j n) (q j) in let b = no_more j n q in omega (arith, a, b)

fewer : (N n : ℕ) (q : ℕ → Bool) → n < N → q n ≡ false → left N (visit n q) < left N q
fewer zero n q lt e = absurd (omega arith)
fewer (suc j) n q lt e = go (λ l. fewer j n q l e) (eqb j n) refl
  where
    go : (n < j → left j (visit n q) < left j q) → (b : Bool) → eqb j n ≡ b → one_if (eqb j n || q j) + left j (visit n q) < one_if (q j) + left j q
    go ih true f =
        let same : j ≡ n = (Decides-eqb j n).0 f in
        let new : one_if (eqb j n || q j) ≡ 0 = ap (λ b. one_if (b || q j)) f in
        let old : one_if (q j) ≡ 1 = ap one_if (ap q same ∙ e) in
        let rest = no_more j n q in
        omega (arith, new, old, rest)
    go ih false f =
        let other : j ≢ n = λ g. true≢false (sym ((Decides-eqb j n).1 g) ∙ f) in
        let rest = ih (omega (arith, lt, other)) in
        let a = less_one (eqb j n) (q j) in
        omega (arith, rest, a)

all_left : (N : ℕ) → left N (λ j. false) ≡ N
all_left zero = refl
all_left (suc j) = let h = all_left j in omega (arith, h)

or_cases : (a b : Bool) → (a || b) ≡ true → (a ≡ true) ⊎ (b ≡ true)
or_cases true b e = inl refl
or_cases false b e = inr e

module _ (ms : List Metavariable) (acyclic : Acyclic (store_of ms)) (own : Owned (store_of ms)) where
  abbrev S : Store
  S = store_of ms

  -- a metavariable of the store that is below all that were visited
  abbrev IsBelow : (ℕ → Bool) → ℕ → Type 0
  IsBelow q m = InStore S m × ((v : ℕ) → q v ≡ true → (d : Declared) → S.at v ≡ Some d → Below S d m)

  unvisited : (q : ℕ → Bool) (n : ℕ) (d : Declared) → S.at n ≡ Some d → IsBelow q n → q n ≡ false
  unvisited q n d e p = go (q n) refl
    where
      go : (b : Bool) → q n ≡ b → q n ≡ false
      go true f = absurd (acyclic n d e (p.1 n f d e))
      go false f = f

  there : (q : ℕ → Bool) (n : ℕ) → IsBelow q n → (m : Metavariable) × (slice_get ms n ≡ Some m)
  there q n p = go (slice_get ms n) refl
    where
      go : (o : Option Metavariable) → slice_get ms n ≡ o → (m : Metavariable) × (slice_get ms n ≡ Some m)
      go None e = absurd (p.0 (ap (option_map declared_as) e))
      go (Some m) e = (m, e)

  -- what stands in a body is below its metavariable too
  further : (q : ℕ → Bool) (n : ℕ) (d : Declared) (b : Tree) → S.at n ≡ Some d → d.body ≡ Some b → IsBelow q n → AllMetas (IsBelow (visit n q)) b
  further q n d b e h p =
      all_of_term (IsBelow (visit n q)) b (λ m k. (term_of_all (InStore S) m b ((own n d e).body b h) k, λ v f c g. go m k v c g (or_cases (eqb v n) (q v) f)))
    where
      go : (m : ℕ) → Mentions m b → (v : ℕ) (c : Declared) → S.at v ≡ Some c → (eqb v n ≡ true) ⊎ (q v ≡ true) → Below S c m
      go m k v c g (inl f) =
          let same : c ≡ d = some_inj (sym g ∙ ap S.at ((Decides-eqb v n).0 f) ∙ e) in
          at_once (by_body b (ap (λ (x : Declared). x.body) same ∙ h) k)
      go m k v c g (inr f) = onward (p.1 v f c g) e (by_body b h k)

  -- one body further down
  proceed : (k : ℕ) (q : ℕ → Bool) → left (length ms) q ≤ suc k → (n : ℕ) → IsBelow q n → (s s' : Trees) → InstanceAll S s s'
      → ((q' : ℕ → Bool) → left (length ms) q' ≤ k → (i : ℕ) → IsBelow q' i → (r r' : Trees) → InstanceAll S r r' → InstanceOf S (Meta i r) (valued (body_values ms k i) i r'))
      → (m : Metavariable) → slice_get ms n ≡ Some m → (o : Option Tree) → m.body ≡ o → InstanceOf S (Meta n s) (valued (option_map (put_values (body_values ms k)) o) n s')
  proceed k q le n p s s' a ih m e None h =
      let there_is : S.at n ≡ Some (declared_as m) = ap (option_map declared_as) e in
      inst_open (ap body_of there_is ∙ h) a
  proceed k q le n p s s' a ih m e (Some b) h =
      let there_is : S.at n ≡ Some (declared_as m) = ap (option_map declared_as) e in
      let l = in_bound S n (declared_as m) there_is in
      let f = fewer (length ms) n q l (unvisited q n (declared_as m) there_is p) in
      inst_assigned (ap body_of there_is ∙ h)
      (each S (body_values ms k) (IsBelow (visit n q)) (λ i p' r r' a'. ih (visit n q) (omega (arith, f, le)) i p' r r' a') b (further q n (declared_as m) b there_is h p))
      a

  step_at : (k : ℕ) (q : ℕ → Bool) → left (length ms) q ≤ k → (n : ℕ) → IsBelow q n → (s s' : Trees) → InstanceAll S s s' → InstanceOf S (Meta n s) (valued (body_values ms k n) n s')
  step_at zero q le n p s s' a =
      let m = there q n p in
      let e : S.at n ≡ Some (declared_as m.0) = ap (option_map declared_as) m.1 in
      let l = in_bound S n (declared_as m.0) e in
      let f = fewer (length ms) n q l (unvisited q n (declared_as m.0) e p) in
      absurd (omega (arith, f, le))
  step_at (suc k) q le n p s s' a =
      let m = there q n p in
      let P : Option Metavariable → Type 0 = λ o. InstanceOf S (Meta n s) (valued (option_map (put_values (body_values ms k)) (assigned_body o)) n s') in
      subst P (sym m.1) (proceed k q le n p s s' a (λ q' le' i p' r r' a'. step_at k q' le' i p' r r' a') m.0 m.1 (m.0).body refl)

pub instance_function_law : InstanceFunctionLaw
instance_function_law ms acyclic own t a =
    let none : ℕ → Bool = λ j. false in
    let start = all_left (length ms) in
    each (store_of ms) (body_values ms (length ms)) (IsBelow ms acyclic own none)
    (λ n p s s' b. step_at ms acyclic own (length ms) none (omega (arith, start)) n p s s' b) t
    (all_of_term (IsBelow ms acyclic own none) t (λ m k. (term_of_all (InStore (store_of ms)) m t a k, λ v f. absurd (true≢false (sym f)))))
