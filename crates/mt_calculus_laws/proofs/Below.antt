-- For a store whose metavariables are sound over the parts of lower numbers: the law of instances, and soundness by instances.
use Rattle.std.proofs.Common.{Bool, false, true≢false, true, ◌≡◌, ℕ, zero, suc, List, Option, Some, None, refl, sym, ap, ◌∙◌, subst, ◌≤◌, ◌<◌, max, arith, ◌⊎◌, inl, inr}
use Rattle.mt_calculus_laws.proofs.Steps.{done, ClosedEnv}
use Rattle.mt_calculus_laws.proofs.Agree.{both_metas, both_of, context_metas, tr_metas}
use Rattle.mt_calculus_laws.proofs.Images.{decl_agree, is_some_at, some_of, loose_number, loose_term, Image, act_on, act, decl_tr, body_tr, Given, number, term, Over}
use Rattle.mt_term.proofs.Options.{none_some, some_inj}
use Rattle.mt_calculus_laws.proofs.Known.{known}
use Rattle.mt_calculus_laws.proofs.Renames.{larger_store}
use Rattle.mt_calculus_laws.proofs.Exchange.{traced_law, steps_tr, context_tr, context_steps}
use Rattle.mt_calculus_laws.proofs.Trace.{Trace, exchange_traced}
use Rattle.mt_calculus_laws.proofs.Instance.{inst, inst_store, inst_open, inst_value, inst_metas, inst_owned, inst_kept, kept_num, Shut, trace, trace_open, trace_kept, trace_value, trace_metas, kept, toward, trace_whole}
use Rattle.mt_term.specs.Trees.{Tree, Var}
use Rattle.mt_term.specs.Substitution.{tr}
use Rattle.mt_term.specs.Declarations.{Environment}
use Rattle.mt_term.specs.Stores.{Declared, Store, AllMetas, AllMetasHeld, InStore, Owned}
use Rattle.mt_calculus.specs.Typing.{Judgement, IsContext, IsType, Has, Holds}
use Rattle.mt_calculus_laws.specs.Laws.{tr_judgement, tr_context}
use Rattle.mt_term.proofs.ReachLaws.{either, RankedAll}

abbrev only_if : {A : Type 0} → Bool → Option A → Option A
only_if true o = o
only_if false o = None

abbrev less : ℕ → ℕ → Bool
less m zero = false
less zero (suc k) = true
less (suc m) (suc k) = less m k

less_is : (m k : ℕ) → less m k ≡ true → m < k
less_is m zero h = absurd (true≢false (sym h))
less_is zero (suc k) h = omega arith
less_is (suc m) (suc k) h = omega (arith, less_is m k h)

is_less : (m k : ℕ) → m < k → less m k ≡ true
is_less m zero h = absurd (omega arith)
is_less zero (suc k) h = refl
is_less (suc m) (suc k) h = is_less m k (omega arith)

pub cases : (b : Bool) → (b ≡ true) ⊎ (b ≡ false)
cases true = inl refl
cases false = inr refl

-- the metavariables of S of a number less than k
module _ (S : Store) (r : ℕ → ℕ) where
  abbrev below_at : ℕ → ℕ → Option Declared
  below_at k m = only_if (less (r m) k) (S.at m)

  below_none : (k m : ℕ) → S.bound ≤ m → below_at k m ≡ None
  below_none k m h = go (less (r m) k)
    where
      go : (b : Bool) → only_if b (S.at m) ≡ None
      go true = S.none m h
      go false = refl

  pub below : ℕ → Store
  below k = record { at = below_at k; bound = S.bound; none = below_none k }

  pub below_is : (k m : ℕ) → (below k).at m ≡ below_at k m
  unfolding below
  below_is k m = refl

  only_inv : (b : Bool) (o : Option Declared) (c : Declared) → only_if b o ≡ Some c → (b ≡ true) × (o ≡ Some c)
  only_inv true o c e = (refl, e)
  only_inv false o c e = absurd (none_some e)

  pub below_inv : (k m : ℕ) (c : Declared) → (below k).at m ≡ Some c → (r m < k) × (S.at m ≡ Some c)
  below_inv k m c e = let q = only_inv (less (r m) k) (S.at m) c (sym (below_is k m) ∙ e) in (less_is (r m) k q.0, q.1)

  pub below_has : (k m : ℕ) (c : Declared) → r m < k → S.at m ≡ Some c → (below k).at m ≡ Some c
  below_has k m c l e = below_is k m ∙ ap (λ b. only_if b (S.at m)) (is_less (r m) k l) ∙ e

-- a metavariable is sound over the part of the store of lower numbers; what it reaches is in that part
pub record SoundBelow (E : Environment) (w : Bool) (S : Store) (r : ℕ → ℕ) (n : ℕ) (d : Declared) : Type 0 where
  pub context : Holds E w (below S r (r n)) (d.context) IsContext
  pub ty : Holds E w (below S r (r n)) (d.context) (IsType (d.ty))
  pub body : (b : Tree) → d.body ≡ Some b → Holds E w (below S r (r n)) (d.context) (Has b (d.ty))

module _ (E : Environment) (w : Bool) (closed : ClosedEnv E) (S : Store) (r : ℕ → ℕ) (own : Owned S) (all : RankedAll S r)
    (sound : (n : ℕ) (d : Declared) → S.at n ≡ Some d → SoundBelow E w S r n d) (P : ℕ → Bool) (shut : Shut S P) where
  ranked : (n : ℕ) (d : Declared) (b : Tree) → S.at n ≡ Some d → d.body ≡ Some b → AllMetas (λ m. r m < r n) b
  ranked n d b e h = (all n d e).body b h

  abbrev μ : ℕ → Image
  μ = inst S r P

  abbrev ν : ℕ → Image
  ν = trace S r P ranked own shut

  abbrev S° : Store
  S° = inst_store S r P

  own° : Owned S°
  own° = inst_owned S r P ranked own shut

  below_owned : (k : ℕ) → Owned (below S r k)
  below_owned k m c e = record { context = both_of (InStore S) (λ j. r j < r m) (InStore (below S r k)) low c.context a.context b.context; ty = both_metas (InStore S) (λ j. r j < r m) (InStore (below S r k)) low c.ty a.ty b.ty; body = λ t h. both_metas (InStore S) (λ j. r j < r m) (InStore (below S r k)) low t (a.body t h) (b.body t h) }
    where
      q : (r m < k) × (S.at m ≡ Some c)
      q = below_inv S r k m c e

      a : AllMetasHeld (InStore S) c
      a = own m c q.1

      b : AllMetasHeld (λ j. r j < r m) c
      b = all m c q.1

      low : (j : ℕ) → InStore S j → r j < r m → InStore (below S r k) j
      low j x l = let z = some_of (S.at j) x in let l' : r j < k = omega (arith, q.0) in is_some_at (below_has S r k j z.0 l' z.1)

  -- the images, typed, as far as k
  abbrev Built : ℕ → Type 0
  Built k = Over E w false (below S r k) μ S° × Over E w true (below S r k) ν S°

  trace_of : (k : ℕ) → Built k → Trace E w closed (below S r k) μ S°
  trace_of k b = record { own = own°; image = ν; over = b.1; whole = trace_whole S r P ranked own shut E w closed; toward = toward S r P ranked own shut E w closed }

  -- n's body over a larger part
  raised : (k n : ℕ) (Γ : List Tree) (J : Judgement) → r n ≤ k → Holds E w (below S r (r n)) Γ J → Holds E w (below S r k) Γ J
  raised k n Γ J l h = larger_store E w closed (below S r (r n)) (below S r k) (below_owned (r n)) (λ m c e. let q = below_inv S r (r n) m c e in let l' : r m < k = omega (arith, q.0) in below_has S r k m c l' q.1) Γ J h

  plain_value : (k : ℕ) → Built k → (n : ℕ) (d : Declared) → r n ≤ k → S.at n ≡ Some d → (b : Tree) → d.body ≡ Some b → (P n ≡ true) ⊎ (P n ≡ false) → Given E w false S° (act μ) d (μ n)
  plain_value k built n d l e b h (inl p) = subst (λ i. Given E w false S° (act μ) d i) (sym (kept_num S r P n p)) (number {c = decl_tr (act μ) d} (inst_kept S r P n d e p) refl refl (λ b g. ap (body_tr (act μ)) g))
  plain_value k built n d l e b h (inr p) =
      let t = exchange_traced E w closed (below S r k) μ S° built.0 (trace_of k built) (d.context) (Has b (d.ty)) (raised k n (d.context) (Has b (d.ty)) l ((sound n d e).body b h)) in
      subst (λ i. Given E w false S° (act μ) d i) (sym (inst_value S r P ranked own shut n d b e h p))
      (term t (λ c g. ap (tr (act μ) Var) (some_inj (sym h ∙ g))) (tr_metas (InStore S) (InStore S°) (act μ) (inst_metas S r P ranked own shut) Var (λ i. tt) b ((own n d e).body b h)))

  plain_given : (k : ℕ) → Built k → (n : ℕ) (d : Declared) → r n ≤ k → S.at n ≡ Some d → (b : Option Tree) → d.body ≡ b → Given E w false S° (act μ) d (μ n)
  plain_given k built n d l e None h = let z = inst_open S r P n d e h in subst (λ i. Given E w false S° (act μ) d i) (sym z.0) (number {c = decl_tr (act μ) d} z.1 refl refl (λ b g. absurd (none_some (sym h ∙ g))))
  plain_given k built n d l e (Some b) h = plain_value k built n d l e b h (cases (P n))

  same_decl : (n : ℕ) (d : Declared) → P n ≡ true → S.at n ≡ Some d → decl_tr (act μ) d ≡ decl_tr (act ν) d
  same_decl n d p e = decl_agree (λ m. P m ≡ true) (act μ) (act ν) (λ m s q. ap (λ i. act_on i s) (kept_num S r P m q ∙ sym (trace_kept S r P ranked own shut m q))) d (shut n d p e)

  traced_value : (k : ℕ) → Built k → (n : ℕ) (d : Declared) → r n ≤ k → S.at n ≡ Some d → (b : Tree) → d.body ≡ Some b → (P n ≡ true) ⊎ (P n ≡ false) → Given E w true S° (act ν) d (ν n)
  traced_value k built n d l e b h (inl p) =
      let same = same_decl n d p e in
      subst (λ i. Given E w true S° (act ν) d i) (sym (trace_kept S r P ranked own shut n p)) (number {c = decl_tr (act μ) d} (inst_kept S r P n d e p) (ap (λ (a : Declared). a.context) same) (ap (λ (a : Declared). a.ty) same) (λ b g. ap (body_tr (act μ)) g ∙ sym (ap (body_tr (act μ)) g) ∙ ap (λ (a : Declared). a.body) same ∙ ap (body_tr (act ν)) g))
  traced_value k built n d l e b h (inr p) =
      let t : Holds E w S° (tr_context (act ν) (d.context)) (Has (tr (act ν) Var b) (tr (act ν) Var (d.ty))) = traced_law E w closed (below S r k) ν S° built.1 (own°, trace_whole S r P ranked own shut E w closed) (d.context) (Has b (d.ty)) (raised k n (d.context) (Has b (d.ty)) l ((sound n d e).body b h)) in
      let c = context_tr E w closed S° (act ν) (act μ) (toward S r P ranked own shut E w closed) (kept S r P ranked own shut E w closed) (d.context) in
      let m = (context_steps E w closed S° own° c (known E w t).1).1 (Has (tr (act ν) Var b) (tr (act ν) Var (d.ty))) t in
      subst (λ i. Given E w true S° (act ν) d i) (sym (trace_value S r P ranked own shut n d b e h p))
      (loose_term {T = tr (act ν) Var (d.ty)} refl c done m (λ a g. ap (tr (act ν) Var) (some_inj (sym h ∙ g))) (context_metas (InStore S) (InStore S°) (act μ) (inst_metas S r P ranked own shut) (d.context) ((own n d e).context)) (tr_metas (InStore S) (InStore S°) (act ν) (trace_metas S r P ranked own shut) Var (λ i. tt) b ((own n d e).body b h)))

  traced_given : (k : ℕ) → Built k → (n : ℕ) (d : Declared) → r n ≤ k → S.at n ≡ Some d → (b : Option Tree) → d.body ≡ b → Given E w true S° (act ν) d (ν n)
  traced_given k built n d l e None h =
      subst (λ i. Given E w true S° (act ν) d i) (sym (trace_open S r P ranked own shut n d e h))
      (loose_number {c = decl_tr (act μ) d} refl (inst_open S r P n d e h).1 (context_tr E w closed S° (act ν) (act μ) (toward S r P ranked own shut E w closed) (kept S r P ranked own shut E w closed) (d.context)) (steps_tr E w closed S° (act ν) (act μ) (toward S r P ranked own shut E w closed) (kept S r P ranked own shut E w closed) Var (d.ty)) h)
  traced_given k built n d l e (Some b) h = traced_value k built n d l e b h (cases (P n))

  build : (k : ℕ) → Built k
  build zero = (record { owned = below_owned zero; images = λ n d e. absurd (omega (arith, (below_inv S r zero n d e).0)) }, record { owned = below_owned zero; images = λ n d e. absurd (omega (arith, (below_inv S r zero n d e).0)) })
  build (suc k) =
      let b : Built k = build k in (
        record { owned = below_owned (suc k); images = λ n d e. let q = below_inv S r (suc k) n d e in plain_given k b n d (omega (arith, q.0)) q.1 (d.body) refl },
        record { owned = below_owned (suc k); images = λ n d e. let q = below_inv S r (suc k) n d e in traced_given k b n d (omega (arith, q.0)) q.1 (d.body) refl },
      )

  abbrev most : ℕ → ℕ
  most zero = suc (r zero)
  most (suc k) = max (suc (r (suc k))) (most k)

  less_most : (k m : ℕ) → m ≤ k → r m < most k
  less_most zero zero h = omega arith
  less_most zero (suc m) h = absurd (omega arith)
  less_most (suc k) m h = go (λ l. less_most k m l) (either m k)
    where
      go : (m ≤ k → r m < most k) → (m ≤ k) ⊎ (k < m) → r m < max (suc (r (suc k))) (most k)
      go ih (inl l) = omega (arith, ih l)
      go ih (inr l) = let e : m ≡ suc k = omega arith in subst (λ i. r i < max (suc (r (suc k))) (most k)) (sym e) (omega arith)

  -- The law of instances: each judgement over the store holds, as instance, over the instance of the store.
  pub unfolding_law : (Γ : List Tree) (J : Judgement) → Holds E w S Γ J → Holds E w S° (tr_context (act μ) Γ) (tr_judgement (act μ) Var J)
  unfolding_law Γ J h =
      let K : ℕ = most (S.bound) in
      exchange_traced E w closed (below S r K) μ S° (build K).0 (trace_of K (build K)) Γ J (larger_store E w closed S (below S r K) own keeps Γ J h)
    where
      keeps : (m : ℕ) (c : Declared) → S.at m ≡ Some c → (below S r (most (S.bound))).at m ≡ Some c
      keeps m c e = below_has S r (most (S.bound)) m c small e
        where
          in_bound : m ≤ S.bound
          in_bound = go (either m (S.bound))
            where
              go : (m ≤ S.bound) ⊎ (S.bound < m) → m ≤ S.bound
              go (inl l) = l
              go (inr l) = absurd (none_some (sym (S.none m (omega arith)) ∙ e))

          small : r m < most (S.bound)
          small = less_most (S.bound) m in_bound

  -- Each metavariable is sound by instances.
  pub by_instances_context : (n : ℕ) (d : Declared) → S.at n ≡ Some d → Holds E w S° (tr_context (act μ) (d.context)) IsContext
  by_instances_context n d e = exchange_traced E w closed (below S r (r n)) μ S° (build (r n)).0 (trace_of (r n) (build (r n))) (d.context) IsContext ((sound n d e).context)

  pub by_instances_ty : (n : ℕ) (d : Declared) → S.at n ≡ Some d → Holds E w S° (tr_context (act μ) (d.context)) (IsType (tr (act μ) Var (d.ty)))
  by_instances_ty n d e = exchange_traced E w closed (below S r (r n)) μ S° (build (r n)).0 (trace_of (r n) (build (r n))) (d.context) (IsType (d.ty)) ((sound n d e).ty)

  pub by_instances_body : (n : ℕ) (d : Declared) (b : Tree) → S.at n ≡ Some d → d.body ≡ Some b → Holds E w S° (tr_context (act μ) (d.context)) (Has (tr (act μ) Var b) (tr (act μ) Var (d.ty)))
  by_instances_body n d b e h = exchange_traced E w closed (below S r (r n)) μ S° (build (r n)).0 (trace_of (r n) (build (r n))) (d.context) (Has b (d.ty)) ((sound n d e).body b h)
