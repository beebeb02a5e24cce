-- The test of the guard is the relation.
use Rattle.std.proofs.Common.{Bool, true, false, true≢false, not, ◌&&◌, ◌||◌, ◌≡◌, ◌⊎◌, ◌-◌, ℕ, zero, suc, nat_eq, nat_lt, if◌then◌else◌, List, [], ◌∷◌, Option, Some, None, slice_get, refl, sym, ap, ◌∙◌, subst, inl, inr, arith}
use Rattle.std.specs.Bool.{Decides}
use Rattle.std.proofs.lemmas.Bool.Decides.{Decides-eqb, Decides-not, Decides-and, Decides-ltb}
use Rattle.mt_calculus_laws.proofs.AlikeLaws.{never, both}
use Rattle.mt_term.proofs.Options.{none_some, some_inj}
use Rattle.mt_term.specs.Trees.{Tree, Trees, Arms, Bytes, Var, Sort, Prod, Lam, App, Const, Ind, Con, Match, Meta, End, Item, NoArm, Arm}
use Rattle.mt_term.specs.Substitution.{apps, join, products}
use Rattle.mt_term.specs.Spines.{item_at}
use Rattle.mt_term.specs.Declarations.{Constructor, Declaration, Axiom, Definition, Inductive, Recursive, Environment, constructor_in}
use Rattle.mt_calculus.specs.Contraction.{ItemAt, item_here, item_later}
use Rattle.mt_calculus.specs.Guard.{Mark, Place, Smaller, Other, others, IsSmaller, smaller, IsOpened, at_place, at_smaller, MarkedBy, no_name, past_parameter, recursive_name, other_name, no_argument, BranchMarks, of_constructor, of_none, Guarded, guarded_call, guarded_cases, guarded_match, guarded_var, guarded_sort, guarded_prod, guarded_lam, guarded_app, guarded_const, guarded_ind, guarded_con, guarded_meta, GuardedAll, guarded_end, guarded_item, GuardedArms, guarded_no_arm, guarded_arm, GuardedBranches, guarded_no_branch, guarded_branch, OnType, on_type, GuardedUnder, past_binders, place_binder, other_binder, GuardedRecursive}
use Rattle.mt_calculus.specs.Positivity.{Avoids}
use Rattle.mt_positivity.specs.Deciding.{avoids, is_recursive}
use Rattle.mt_positivity.proofs.Deciding.{avoids-decides, recursive-decides, and_true}
use Rattle.mt_guard.specs.Deciding.{is_smaller_mark, is_place_mark, is_smaller, is_opened, mark_by, marks, constructor_marks, entry_marks, branch_marks, is_smaller_item, guards, guards_all, guards_arms, guards_branches, is_of_kind, is_on_type, guards_under, is_guarded}

-- tests
pub or_cases : (a b : Bool) → (a || b) ≡ true → (a ≡ true) ⊎ (b ≡ true)
or_cases true b e = inl refl
or_cases false b e = inr e

pub or_left : {a : Bool} (b : Bool) → a ≡ true → (a || b) ≡ true
or_left b e = ap (λ (c : Bool). c || b) e

pub or_right : (a : Bool) {b : Bool} → b ≡ true → (a || b) ≡ true
or_right true e = refl
or_right false e = e

not_so : {P : Type 0} (b : Bool) → Decides b P → (P → ⊥) → b ≡ false
not_so true d n = absurd (n (d.0 refl))
not_so false d n = refl

when_true : {A : Type 0} {b : Bool} (x y : A) → b ≡ true → (if b then x else y) ≡ x
when_true x y e = ap (λ (c : Bool). if c then x else y) e

when_false : {A : Type 0} {b : Bool} (x y : A) → b ≡ false → (if b then x else y) ≡ y
when_false x y e = ap (λ (c : Bool). if c then x else y) e

-- ---- smaller variables

smaller_mark_is : (o : Option Mark) → is_smaller_mark o ≡ true → o ≡ Some Smaller
smaller_mark_is (Some Smaller) e = refl
smaller_mark_is _ e = never e

place_mark_is : (o : Option Mark) → is_place_mark o ≡ true → o ≡ Some Place
place_mark_is (Some Place) e = refl
place_mark_is _ e = never e

smaller_on : (ms : List Mark) (t : Tree) (s : Trees) → is_smaller ms t ≡ true → IsSmaller ms (apps t s)
smaller_on ms (Var i) s e = smaller i s (smaller_mark_is (slice_get ms i) e)
smaller_on ms (App f a) s e = smaller_on ms f (Item a s) e
smaller_on ms _ s e = never e

is_smaller_apps : (ms : List Mark) (t : Tree) (us : Trees) → is_smaller ms t ≡ true → is_smaller ms (apps t us) ≡ true
is_smaller_apps ms t End e = e
is_smaller_apps ms t (Item a us) e = is_smaller_apps ms (App t a) us e

is_smaller_at : (ms : List Mark) {t : Tree} → IsSmaller ms t → is_smaller ms t ≡ true
is_smaller_at ms (smaller i us h) = is_smaller_apps ms (Var i) us (ap is_smaller_mark h)

pub smaller-decides : (ms : List Mark) (t : Tree) → Decides (is_smaller ms t) (IsSmaller ms t)
smaller-decides ms t = (smaller_on ms t End, is_smaller_at ms)

opened_is : (ms : List Mark) (t : Tree) → is_opened ms t ≡ true → IsOpened ms t
opened_is ms (Var i) e = by (or_cases (is_place_mark (slice_get ms i)) (is_smaller_mark (slice_get ms i)) e)
  where
    by : (is_place_mark (slice_get ms i) ≡ true) ⊎ (is_smaller_mark (slice_get ms i) ≡ true) → IsOpened ms (Var i)
    by (inl h) = at_place (place_mark_is (slice_get ms i) h)
    by (inr h) = at_smaller (smaller i End (smaller_mark_is (slice_get ms i) h))
opened_is ms t e = at_smaller (smaller_on ms t End e)

opened_smaller : (ms : List Mark) (t : Tree) → is_smaller ms t ≡ true → is_opened ms t ≡ true
opened_smaller ms (Var i) e = or_right (is_place_mark (slice_get ms i)) e
opened_smaller ms _ e = e

is_opened_at : (ms : List Mark) {t : Tree} → IsOpened ms t → is_opened ms t ≡ true
is_opened_at ms (at_place {i = i} h) = or_left (is_smaller_mark (slice_get ms i)) (ap is_place_mark h)
is_opened_at ms (at_smaller {t = t} s) = opened_smaller ms t (is_smaller_at ms s)

pub opened-decides : (ms : List Mark) (t : Tree) → Decides (is_opened ms t) (IsOpened ms t)
opened-decides ms t = (opened_is ms t, is_opened_at ms)

-- ---- the marks of a branch

module _ (e p indices : ℕ) where
  unmarked : (l d : ℕ) (C : Tree) (xs : List Bytes) (ms : List Mark) → products C ≡ zero → MarkedBy e p indices l d C xs ms (others xs ms)
  unmarked l d C [] ms h = no_name
  unmarked l d C (x ∷ xs) ms h = no_argument h (unmarked l d C xs (Other ∷ ms) h)

  -- a recursive argument is smaller, any other is not
  one_name : (d : ℕ) (y x : Bytes) (A C : Tree) (xs : List Bytes) (ms : List Mark) (next : List Mark → List Mark)
      → ((ms' : List Mark) → MarkedBy e p indices zero (suc d) C xs ms' (next ms')) → (b : Bool) → is_recursive e p indices d A ≡ b
      → MarkedBy e p indices zero d (Prod y A C) (x ∷ xs) ms (next (mark_by b ∷ ms))
  one_name d y x A C xs ms next h true i = recursive_name ((recursive-decides e p indices d A).0 i) (h (Smaller ∷ ms))
  one_name d y x A C xs ms next h false i = other_name (λ r. true≢false (sym ((recursive-decides e p indices d A).1 r) ∙ i)) (h (Other ∷ ms))

  marked : (l d : ℕ) (C : Tree) (xs : List Bytes) (ms : List Mark) → MarkedBy e p indices l d C xs ms (marks e p indices l d C xs ms)
  marked l d C [] ms = no_name
  marked (suc l) d (Prod y A C) (x ∷ xs) ms = past_parameter (marked l d C (x ∷ xs) ms)
  marked zero d (Prod y A C) (x ∷ xs) ms =
      one_name d y x A C xs ms (marks e p indices zero (suc d) C xs) (marked zero (suc d) C xs) (is_recursive e p indices d A) refl
  marked zero d C (x ∷ xs) ms = unmarked zero d C (x ∷ xs) ms refl
  marked (suc l) d C (x ∷ xs) ms = unmarked (suc l) d C (x ∷ xs) ms refl

  marks_unmarked : (l d : ℕ) (C : Tree) (xs : List Bytes) (ms : List Mark) → products C ≡ zero → marks e p indices l d C xs ms ≡ others xs ms
  marks_unmarked l d C [] ms h = refl
  marks_unmarked l d (Prod y A C) (x ∷ xs) ms h = absurd (omega (arith, h))
  marks_unmarked zero d C (x ∷ xs) ms h = refl
  marks_unmarked (suc l) d C (x ∷ xs) ms h = refl

  marked_same : {l d : ℕ} {C : Tree} {xs : List Bytes} {ms ms' : List Mark} → MarkedBy e p indices l d C xs ms ms' → ms' ≡ marks e p indices l d C xs ms
  marked_same no_name = refl
  marked_same (past_parameter m) = marked_same m
  marked_same (recursive_name {d = d} {A = A} {C = C} {xs = xs} {ms = ms} r m) =
      marked_same m ∙ ap (λ b. marks e p indices zero (suc d) C xs (mark_by b ∷ ms)) (sym ((recursive-decides e p indices d A).1 r))
  marked_same (other_name {d = d} {A = A} {C = C} {xs = xs} {ms = ms} n m) =
      marked_same m ∙ ap (λ b. marks e p indices zero (suc d) C xs (mark_by b ∷ ms)) (sym (not_so (is_recursive e p indices d A) (recursive-decides e p indices d A) n))
  marked_same (no_argument {l = l} {d = d} {x = x} {C = C} {xs = xs} {ms = ms} h m) =
      marked_same m ∙ marks_unmarked l d C xs (Other ∷ ms) h ∙ sym (marks_unmarked l d C (x ∷ xs) ms h)

constructor_marked : (E : Environment) (e k : ℕ) (xs : List Bytes) (ms : List Mark) (x : Bytes) (co : Bool) (p : ℕ) (T : Tree) (cs : List Constructor) (l : Bool)
    → slice_get (E.entries) e ≡ Some (Inductive x co p T cs l) → (c : Option Constructor) → slice_get cs k ≡ c → BranchMarks E e k xs ms (constructor_marks e p T c xs ms)
constructor_marked E e k xs ms x co p T cs l h None g = of_none (ap (λ o. constructor_in o k) h ∙ g)
constructor_marked E e k xs ms x co p T cs l h (Some c) g =
    of_constructor (record { name = x; co = co; params = p; ty = T; cons = cs; large = l; con_name = c.name; entry = h; con = g }) (marked e p (products T - p) p zero c.ty xs ms)

entry_marked : (E : Environment) (e k : ℕ) (xs : List Bytes) (ms : List Mark) (o : Option Declaration) → slice_get (E.entries) e ≡ o → BranchMarks E e k xs ms (entry_marks e k o xs ms)
entry_marked E e k xs ms None h = of_none (ap (λ o. constructor_in o k) h)
entry_marked E e k xs ms (Some (Axiom x T)) h = of_none (ap (λ o. constructor_in o k) h)
entry_marked E e k xs ms (Some (Definition x T b)) h = of_none (ap (λ o. constructor_in o k) h)
entry_marked E e k xs ms (Some (Inductive x co p T cs l)) h = constructor_marked E e k xs ms x co p T cs l h (slice_get cs k) refl
entry_marked E e k xs ms (Some (Recursive x co n r T b made)) h = of_none (ap (λ o. constructor_in o k) h)

branch_marked : (E : Environment) (e k : ℕ) (xs : List Bytes) (ms : List Mark) → BranchMarks E e k xs ms (branch_marks E e k xs ms)
branch_marked E e k xs ms = entry_marked E e k xs ms (slice_get E.entries e) refl

no_constructor : (e k : ℕ) (xs : List Bytes) (ms : List Mark) (o : Option Declaration) → constructor_in o k ≡ None → others xs ms ≡ entry_marks e k o xs ms
no_constructor e k xs ms None h = refl
no_constructor e k xs ms (Some (Axiom x T)) h = refl
no_constructor e k xs ms (Some (Definition x T b)) h = refl
no_constructor e k xs ms (Some (Inductive x co p T cs l)) h = ap (λ c. constructor_marks e p T c xs ms) (sym h)
no_constructor e k xs ms (Some (Recursive x co n r T b made)) h = refl

branch_same : (E : Environment) (e k : ℕ) (xs : List Bytes) (ms : List Mark) {ms' : List Mark} → BranchMarks E e k xs ms ms' → ms' ≡ branch_marks E e k xs ms
branch_same E e k xs ms (of_constructor o m) =
    marked_same e o.params (products o.ty - o.params) m
    ∙ sym (ap (λ q. entry_marks e k q xs ms) o.entry ∙ ap (λ q. constructor_marks e o.params o.ty q xs ms) o.con)
branch_same E e k xs ms (of_none h) = no_constructor e k xs ms (slice_get E.entries e) h

-- ---- terms

item_is : (s : Trees) (r : ℕ) (a : Tree) → item_at s r ≡ Some a → ItemAt a s r
item_is End r a e = absurd (none_some e)
item_is (Item t s) zero a e = subst (λ x. ItemAt x (Item t s) zero) (some_inj e) item_here
item_is (Item t s) (suc r) a e = item_later (item_is s r a e)

is_item : {a : Tree} {s : Trees} {r : ℕ} → ItemAt a s r → item_at s r ≡ Some a
is_item item_here = refl
is_item (item_later h) = is_item h

smaller_item_join : (ms : List Mark) (s us : Trees) (r : ℕ) → is_smaller_item ms (item_at s r) ≡ true → is_smaller_item ms (item_at (join s us) r) ≡ true
smaller_item_join ms End us r e = never e
smaller_item_join ms (Item t s) us zero e = e
smaller_item_join ms (Item t s) us (suc r) e = smaller_item_join ms s us r e

module _ (E : Environment) (f r : ℕ) where
  guarded_apps : (ms : List Mark) (t : Tree) (s : Trees) → Guarded E f r ms t → GuardedAll E f r ms s → Guarded E f r ms (apps t s)
  guarded_apps ms t End g guarded_end = g
  guarded_apps ms t (Item a s) g (guarded_item b h) = guarded_apps ms (App t a) s (guarded_app g b) h

  call_on : (ms : List Mark) (s : Trees) (o : Option Tree) → item_at s r ≡ o → is_smaller_item ms o ≡ true → GuardedAll E f r ms s → Guarded E f r ms (apps (Const f) s)
  call_on ms s None i e h = never e
  call_on ms s (Some a) i e h = guarded_call s (item_is s r a i) (smaller_on ms a End e) h

  const_on : (ms : List Mark) (c : ℕ) (s : Trees) → (b : Bool) → nat_eq c f ≡ b → (not b || is_smaller_item ms (item_at s r)) ≡ true → GuardedAll E f r ms s → Guarded E f r ms (apps (Const c) s)
  const_on ms c s true i e h = subst (λ n. Guarded E f r ms (apps (Const n) s)) (sym ((Decides-eqb c f).0 i)) (call_on ms s (item_at s r) refl e h)
  const_on ms c s false i e h = guarded_apps ms (Const c) s (guarded_const (λ q. true≢false (sym ((Decides-eqb c f).1 q) ∙ i))) h

  match_on : (ms : List Mark) (e : ℕ) (R c : Tree) (bs : Arms) → Guarded E f r ms R → Guarded E f r ms c → (b : Bool) → is_opened ms c ≡ b
      → (b ≡ true → GuardedBranches E f r e zero ms bs) → (b ≡ false → GuardedArms E f r ms bs) → Guarded E f r ms (Match e R c bs)
  match_on ms e R c bs g h true i x y = guarded_cases ((opened-decides ms c).0 i) g h (x refl)
  match_on ms e R c bs g h false i x y = guarded_match (λ o. true≢false (sym ((opened-decides ms c).1 o) ∙ i)) g h (y refl)

  mutual
    guarded_on : (ms : List Mark) (t : Tree) (s : Trees) → guards E f r ms t s ≡ true → GuardedAll E f r ms s → Guarded E f r ms (apps t s)
    guarded_on ms (Var i) s e h = guarded_apps ms (Var i) s guarded_var h
    guarded_on ms (Sort u) s e h = guarded_apps ms (Sort u) s guarded_sort h
    guarded_on ms (Prod x A B) s e h =
        let p = both (guards E f r ms A End) (guards E f r (Other ∷ ms) B End) e in
        guarded_apps ms (Prod x A B) s (guarded_prod (guarded_on ms A End p.0 guarded_end) (guarded_on (Other ∷ ms) B End p.1 guarded_end)) h
    guarded_on ms (Lam x A b) s e h =
        let p = both (guards E f r ms A End) (guards E f r (Other ∷ ms) b End) e in
        guarded_apps ms (Lam x A b) s (guarded_lam (guarded_on ms A End p.0 guarded_end) (guarded_on (Other ∷ ms) b End p.1 guarded_end)) h
    guarded_on ms (App g a) s e h =
        let p = both (guards E f r ms g (Item a s)) (guards E f r ms a End) e in
        guarded_on ms g (Item a s) p.0 (guarded_item (guarded_on ms a End p.1 guarded_end) h)
    guarded_on ms (Const c) s e h = const_on ms c s (nat_eq c f) refl e h
    guarded_on ms (Ind c) s e h = guarded_apps ms (Ind c) s guarded_ind h
    guarded_on ms (Con c k) s e h = guarded_apps ms (Con c k) s guarded_con h
    guarded_on ms (Match n R c bs) s e h =
        let q = both (guards E f r ms R End && guards E f r ms c End) (if is_opened ms c then guards_branches E f r n zero ms bs else guards_arms E f r ms bs) e in
        let p = both (guards E f r ms R End) (guards E f r ms c End) q.0 in
        guarded_apps ms (Match n R c bs) s
        (match_on ms n R c bs (guarded_on ms R End p.0 guarded_end) (guarded_on ms c End p.1 guarded_end) (is_opened ms c) refl
        (λ o. guarded_branches_on n zero ms bs (sym (when_true (guards_branches E f r n zero ms bs) (guards_arms E f r ms bs) o) ∙ q.1))
        (λ o. guarded_arms_on ms bs (sym (when_false (guards_branches E f r n zero ms bs) (guards_arms E f r ms bs) o) ∙ q.1))) h
    guarded_on ms (Meta n us) s e h = guarded_apps ms (Meta n us) s (guarded_meta (guarded_all_on ms us e)) h

    guarded_all_on : (ms : List Mark) (s : Trees) → guards_all E f r ms s ≡ true → GuardedAll E f r ms s
    guarded_all_on ms End e = guarded_end
    guarded_all_on ms (Item t s) e = let p = both (guards E f r ms t End) (guards_all E f r ms s) e in guarded_item (guarded_on ms t End p.0 guarded_end) (guarded_all_on ms s p.1)

    guarded_arms_on : (ms : List Mark) (bs : Arms) → guards_arms E f r ms bs ≡ true → GuardedArms E f r ms bs
    guarded_arms_on ms NoArm e = guarded_no_arm
    guarded_arms_on ms (Arm xs b bs) e =
        let p = both (guards E f r (others xs ms) b End) (guards_arms E f r ms bs) e in
        guarded_arm (guarded_on (others xs ms) b End p.0 guarded_end) (guarded_arms_on ms bs p.1)

    guarded_branches_on : (n k : ℕ) (ms : List Mark) (bs : Arms) → guards_branches E f r n k ms bs ≡ true → GuardedBranches E f r n k ms bs
    guarded_branches_on n k ms NoArm e = guarded_no_branch
    guarded_branches_on n k ms (Arm xs b bs) e =
        let p = both (guards E f r (branch_marks E n k xs ms) b End) (guards_branches E f r n (suc k) ms bs) e in
        guarded_branch (branch_marked E n k xs ms) (guarded_on (branch_marks E n k xs ms) b End p.0 guarded_end) (guarded_branches_on n (suc k) ms bs p.1)

  guards_join : (ms : List Mark) (t : Tree) (s us : Trees) → guards E f r ms t s ≡ true → guards E f r ms t (join s us) ≡ true
  guards_join ms (App g a) s us e =
      let p = both (guards E f r ms g (Item a s)) (guards E f r ms a End) e in
      and_true (guards_join ms g (Item a s) us p.0) p.1
  guards_join ms (Const c) s us e = by (or_cases (not (nat_eq c f)) (is_smaller_item ms (item_at s r)) e)
    where
      by : (not (nat_eq c f) ≡ true) ⊎ (is_smaller_item ms (item_at s r) ≡ true) → (not (nat_eq c f) || is_smaller_item ms (item_at (join s us) r)) ≡ true
      by (inl h) = or_left (is_smaller_item ms (item_at (join s us) r)) h
      by (inr h) = or_right (not (nat_eq c f)) (smaller_item_join ms s us r h)
  guards_join ms _ s us e = e

  guards_apps : (ms : List Mark) (t : Tree) (s us : Trees) → guards E f r ms t (join s us) ≡ true → guards_all E f r ms s ≡ true → guards E f r ms (apps t s) us ≡ true
  guards_apps ms t End us e h = e
  guards_apps ms t (Item a s) us e h =
      let p = both (guards E f r ms a End) (guards_all E f r ms s) h in
      guards_apps ms (App t a) s us (and_true e p.0) p.1

  mutual
    guards_at : {ms : List Mark} {t : Tree} → Guarded E f r ms t → guards E f r ms t End ≡ true
    guards_at (guarded_call {ms = ms} {a = a} s i z h) =
        let v : is_smaller_item ms (item_at s r) ≡ true = ap (is_smaller_item ms) (is_item i) ∙ is_smaller_at ms z in
        guards_apps ms (Const f) s End (or_right (not (nat_eq f f)) (smaller_item_join ms s End r v)) (guards_all_at h)
    guards_at (guarded_cases {ms = ms} {e = n} {bs = bs} o g c b) =
        and_true (and_true (guards_at g) (guards_at c)) (when_true (guards_branches E f r n zero ms bs) (guards_arms E f r ms bs) (is_opened_at ms o) ∙ guards_branches_at b)
    guards_at (guarded_match {ms = ms} {e = n} {c = t} {bs = bs} o g c b) =
        and_true (and_true (guards_at g) (guards_at c)) (when_false (guards_branches E f r n zero ms bs) (guards_arms E f r ms bs) (not_so (is_opened ms t) (opened-decides ms t) o) ∙ guards_arms_at b)
    guards_at guarded_var = refl
    guards_at guarded_sort = refl
    guards_at (guarded_prod g h) = and_true (guards_at g) (guards_at h)
    guards_at (guarded_lam g h) = and_true (guards_at g) (guards_at h)
    guards_at (guarded_app {ms = ms} {t = t} {a = a} g h) = and_true (guards_join ms t End (Item a End) (guards_at g)) (guards_at h)
    guards_at (guarded_const {ms = ms} {c = c} n) = or_left (is_smaller_item ms (item_at End r)) ((Decides-not (nat_eq c f) (Decides-eqb c f)).1 n)
    guards_at guarded_ind = refl
    guards_at guarded_con = refl
    guards_at (guarded_meta h) = guards_all_at h

    guards_all_at : {ms : List Mark} {s : Trees} → GuardedAll E f r ms s → guards_all E f r ms s ≡ true
    guards_all_at guarded_end = refl
    guards_all_at (guarded_item g h) = and_true (guards_at g) (guards_all_at h)

    guards_arms_at : {ms : List Mark} {bs : Arms} → GuardedArms E f r ms bs → guards_arms E f r ms bs ≡ true
    guards_arms_at guarded_no_arm = refl
    guards_arms_at (guarded_arm g h) = and_true (guards_at g) (guards_arms_at h)

    guards_branches_at : {n k : ℕ} {ms : List Mark} {bs : Arms} → GuardedBranches E f r n k ms bs → guards_branches E f r n k ms bs ≡ true
    guards_branches_at guarded_no_branch = refl
    guards_branches_at (guarded_branch {e = n} {k = k} {ms = ms} {xs = xs} {b = b} m g h) =
        and_true (ap (λ q. guards E f r q b End) (sym (branch_same E n k xs ms m)) ∙ guards_at g) (guards_branches_at h)

  pub guards-decides : (ms : List Mark) (t : Tree) → Decides (guards E f r ms t End) (Guarded E f r ms t)
  guards-decides ms t = ((λ e. guarded_on ms t End e guarded_end), guards_at)

-- ---- the body under its binders

type_on : (E : Environment) (co : Bool) (e : ℕ) (us : Trees) (o : Option Declaration) → slice_get (E.entries) e ≡ o → is_of_kind co o ≡ true → OnType E co (apps (Ind e) us)
type_on E true e us (Some (Inductive x true p T cs l)) h i = on_type e us h
type_on E false e us (Some (Inductive x true p T cs l)) h i = never i
type_on E true e us (Some (Inductive x false p T cs l)) h i = never i
type_on E false e us (Some (Inductive x false p T cs l)) h i = on_type e us h
type_on E co e us _ h i = never i

pub on_type_is : (E : Environment) (co : Bool) (t : Tree) (s : Trees) → is_on_type E co t ≡ true → OnType E co (apps t s)
on_type_is E co (Ind e) s i = type_on E co e s (slice_get E.entries e) refl i
on_type_is E co (App g a) s i = on_type_is E co g (Item a s) i
on_type_is E co _ s i = never i

is_on_type_apps : (E : Environment) (co : Bool) (t : Tree) (us : Trees) → is_on_type E co t ≡ true → is_on_type E co (apps t us) ≡ true
is_on_type_apps E co t End e = e
is_on_type_apps E co t (Item a us) e = is_on_type_apps E co (App t a) us e

of_kind : (x : Bytes) (co : Bool) (p : ℕ) (T : Tree) (cs : List Constructor) (l : Bool) → is_of_kind co (Some (Inductive x co p T cs l)) ≡ true
of_kind x true p T cs l = refl
of_kind x false p T cs l = refl

pub is_on_type_at : (E : Environment) (co : Bool) {t : Tree} → OnType E co t → is_on_type E co t ≡ true
is_on_type_at E co (on_type e {x = x} {p = p} {T = T} {cs = cs} {l = l} us h) = is_on_type_apps E co (Ind e) us (ap (is_of_kind co) h ∙ of_kind x co p T cs l)

module _ (E : Environment) (f r : ℕ) where
  binder_by : (n j : ℕ) (ms : List Mark) (x : Bytes) (A b : Tree) → Avoids f A → (t : Bool) → nat_eq j r ≡ t
      → (if t then is_on_type E false A && guards_under E f r n (suc j) (Place ∷ ms) b else guards_under E f r n (suc j) (Other ∷ ms) b) ≡ true
      → ((m : Mark) → guards_under E f r n (suc j) (m ∷ ms) b ≡ true → GuardedUnder E f r n (suc j) (m ∷ ms) b) → GuardedUnder E f r (suc n) j ms (Lam x A b)
  binder_by n j ms x A b a true i e go =
      let p = both (is_on_type E false A) (guards_under E f r n (suc j) (Place ∷ ms) b) e in
      place_binder ((Decides-eqb j r).0 i) a (on_type_is E false A End p.0) (go Place p.1)
  binder_by n j ms x A b a false i e go = other_binder (λ q. true≢false (sym ((Decides-eqb j r).1 q) ∙ i)) a (go Other e)

  under_is : (n j : ℕ) (ms : List Mark) (b : Tree) → guards_under E f r n j ms b ≡ true → GuardedUnder E f r n j ms b
  under_is zero j ms b e = past_binders ((guards-decides E f r ms b).0 e)
  under_is (suc n) j ms (Lam x A b) e =
      let p = both (avoids f A) (if nat_eq j r then is_on_type E false A && guards_under E f r n (suc j) (Place ∷ ms) b else guards_under E f r n (suc j) (Other ∷ ms) b) e in
      binder_by n j ms x A b ((avoids-decides f A).0 p.0) (nat_eq j r) refl p.1 (λ m. under_is n (suc j) (m ∷ ms) b)
  under_is (suc n) j ms _ e = never e

  is_under : {n j : ℕ} {ms : List Mark} {b : Tree} → GuardedUnder E f r n j ms b → guards_under E f r n j ms b ≡ true
  is_under (past_binders {ms = ms} {b = b} g) = (guards-decides E f r ms b).1 g
  is_under (place_binder {n = n} {j = j} {ms = ms} {A = A} {b = b} h a o u) =
      and_true ((avoids-decides f A).1 a)
      (when_true (is_on_type E false A && guards_under E f r n (suc j) (Place ∷ ms) b) (guards_under E f r n (suc j) (Other ∷ ms) b) ((Decides-eqb j r).1 h)
      ∙ and_true (is_on_type_at E false o) (is_under u))
  is_under (other_binder {n = n} {j = j} {ms = ms} {A = A} {b = b} h a u) =
      and_true ((avoids-decides f A).1 a)
      (when_false (is_on_type E false A && guards_under E f r n (suc j) (Place ∷ ms) b) (guards_under E f r n (suc j) (Other ∷ ms) b) (not_so (nat_eq j r) (Decides-eqb j r) h)
      ∙ is_under u)

-- the test is true exactly where the function is guarded
pub guarded-decides : (E : Environment) (f n r : ℕ) (b : Tree) → Decides (is_guarded E f n r b) (GuardedRecursive E f n r b)
guarded-decides E f n r b = Decides-and (nat_lt r n) (guards_under E f r n zero [] b) (Decides-ltb r n) (under_is E f r n zero [] b, is_under E f r)
