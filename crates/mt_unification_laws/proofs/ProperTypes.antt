-- Reducts and inferred types mention metavariables of the store alone, where terms and contexts do and the environment mentions none.
use Rattle.std.specs.Prelude.{◌≡◌, ℕ, zero, suc, List, [], ◌∷◌, Bool, true, false, Option, Some, None, slice_get}
use Rattle.std.proofs.Common.{subst}
use Rattle.mt_term.specs.Trees.{Bytes, Tree, Trees, Arms, Var, Sort, Prod, Lam, App, Const, Ind, Con, Match, Meta, End, Item}
use Rattle.mt_term.specs.Substitution.{sub, all_but, join, under, one, beyond, count}
use Rattle.mt_term.specs.Declarations.{Hypothesis, Constructor, Declaration, Axiom, Definition, Inductive, Recursive, Environment, declared_type, constructor_in, constructor_at}
use Rattle.mt_term.specs.declared.modes.Mode.TheVariants.{AtMost}
use Rattle.mt_term.specs.declared.universes.Sort.{Sort as AnySort}
use Rattle.mt_term.specs.Stores.{Store, Owned, AllMetas, AllMetasIn, AllMetasArms, AllMetasOf, InStore}
use Rattle.mt_term.proofs.ReachLaws.{weaker}
use Rattle.mt_calculus.specs.Contraction.{Contracts, beta, delta, assigned, iota, unfold_rec, unfold_co, in_dom, in_cod, in_type, in_body, in_fun, in_arg, in_return, in_matched, in_arms, in_terms, ContractsIn, in_first, in_rest, ContractsArms, in_arm, in_later}
use Rattle.mt_calculus_laws.proofs.Images.{under_metas}
use Rattle.mt_calculus_laws.proofs.MetaLaws.{one_metas, apps_metas, head_metas, all_but_metas, join_metas, unjoin_metas, motive_on_all_metas}
use Rattle.mt_rules.specs.Charges.{Charged, ◌>>=◌}
use Rattle.mt_rules.specs.WeakHead.{whd}
use Rattle.mt_term.specs.UniverseForms.{sort_above, sort_of_product}
use Rattle.mt_rules.specs.Inference.{Product, Family, a_product, found, eliminable, in_range, type_at, context_types, constant_type, inductive_type, constructor_type, as_family, only, checked, branches_fit, oldest, sorted, agrees, elim_by, inferred, inferred_terms, inferred_arms, infer}
use Rattle.mt_rules_laws.specs.ReductionLaws.{ReachedFrom, itself, further}
use Rattle.mt_rules_laws.proofs.InferenceParts.{type_look, look_metas, family_is, only_is}
use Rattle.mt_rules_laws.proofs.ReductionTheorems.{weak_head_law}
use Rattle.mt_rules_laws.proofs.Yields.{Yields, gives, refuses, charges, then_yields, so_yields, some_is, nothing}
use Rattle.mt_unification_laws.specs.ProperStores.{MetaFree, MetaFreeConstructors, MetaFreeEntry, MetaFreeEnvironment}
use Rattle.mt_unification_laws.proofs.Mentions.{fill_sub, arm_metas}
use Rattle.mt_unification_laws.proofs.InferredMetas.{found_yields}

-- a term without metavariables mentions such as are in any set
pub free_in : (P : ℕ → Type 0) (t : Tree) → MetaFree t → AllMetas P t
free_in P t h = weaker (λ n. ⊥) P (λ n q. absurd q) t h

module _ (E : Environment) (free : MetaFreeEnvironment E) (P : ℕ → Type 0) where
  pub type_free : (c : ℕ) (d : Declaration) → slice_get E.entries c ≡ Some d → AllMetas P (declared_type d)
  type_free c d e = go d (free c d e)
    where
      go : (d : Declaration) → MetaFreeEntry d → AllMetas P (declared_type d)
      go (Axiom x T) h = free_in P T h
      go (Definition x T b) h = free_in P T h.0
      go (Inductive x co p T cs l) h = free_in P T h.0
      go (Recursive x co n r T b made) h = free_in P T h.0

  pub constructor_free : (e k : ℕ) (c : Constructor) → constructor_at E.entries e k ≡ Some c → AllMetas P c.ty
  constructor_free e k c h = entry (slice_get E.entries e) (λ d. free e d) h
    where
      at : (cs : List Constructor) (k : ℕ) → MetaFreeConstructors cs → slice_get cs k ≡ Some c → AllMetas P c.ty
      at [] k f g = nothing g
      at (b ∷ cs) zero f g = free_in P c.ty (subst (λ (x : Constructor). MetaFree x.ty) (some_is g) f.0)
      at (b ∷ cs) (suc k) f g = at cs k f.1 g

      of : (d : Declaration) → MetaFreeEntry d → constructor_in (Some d) k ≡ Some c → AllMetas P c.ty
      of (Axiom x T) f g = nothing g
      of (Definition x T b) f g = nothing g
      of (Inductive x co p T cs l) f g = at cs k f.1 g
      of (Recursive x co n r T b made) f g = nothing g

      entry : (o : Option Declaration) → ((d : Declaration) → o ≡ Some d → MetaFreeEntry d) → constructor_in o k ≡ Some c → AllMetas P c.ty
      entry None f g = nothing g
      entry (Some d) f g = of d (f d (λ i. Some d)) g

  body_free : (c n r : ℕ) (x : Bytes) (co made : Bool) (T b : Tree) → slice_get E.entries c ≡ Some (Recursive x co n r T b made) → AllMetas P b
  body_free c n r x co made T b e = free_in P b (free c (Recursive x co n r T b made) e).1

  value_free : (c : ℕ) (x : Bytes) (T b : Tree) → slice_get E.entries c ≡ Some (Definition x T b) → AllMetas P b
  value_free c x T b e = free_in P b (free c (Definition x T b) e).1

module _ (E : Environment) (free : MetaFreeEnvironment E) (S : Store) (own : Owned S) where
  abbrev I : ℕ → Type 0
  I = InStore S

  mutual
    pub contracts_own : {t u : Tree} → Contracts E S t u → AllMetas I t → AllMetas I u
    contracts_own (beta {b = b} {a = a}) m = one_metas I a b m.1 m.0.1
    contracts_own (delta {c = c} {x = x} {T = T} {b = b} e) m = value_free E free I c x T b e
    contracts_own (assigned {n = n} {s = s} {d = d} {b = b} e g) m = under_metas I s b m.1 ((own n d e).body b g)
    contracts_own (in_dom c) m = (contracts_own c m.0, m.1)
    contracts_own (in_cod c) m = (m.0, contracts_own c m.1)
    contracts_own (in_type c) m = (contracts_own c m.0, m.1)
    contracts_own (in_body c) m = (m.0, contracts_own c m.1)
    contracts_own (in_fun c) m = (contracts_own c m.0, m.1)
    contracts_own (in_arg c) m = (m.0, contracts_own c m.1)
    contracts_own (iota {e = e} {k = k} {b = b} s o n a l) m = fill_sub I (all_but o.params s) b (all_but_metas I o.params s (head_metas I (Con e k) s m.1).1) (arm_metas I a m.2)
    contracts_own (unfold_rec c {n = k} {r = r} {x = x} {made = made} {T = T} {b = b} {s = s} us h i o n) m = apps_metas I b s (body_free E free I c k r x false made T b h) (head_metas I (Const c) s m).1
    contracts_own (unfold_co c {n = k} {r = r} {x = x} {made = made} {T = T} {b = b} s h) m = (m.0, apps_metas I b s (body_free E free I c k r x true made T b h) (head_metas I (Const c) s m.1).1, m.2)
    contracts_own (in_return c) m = (contracts_own c m.0, m.1, m.2)
    contracts_own (in_matched c) m = (m.0, contracts_own c m.1, m.2)
    contracts_own (in_arms c) m = (m.0, m.1, arms_own c m.2)
    contracts_own (in_terms c) m = (m.0, terms_own c m.1)

    terms_own : {t u : Trees} → ContractsIn E S t u → AllMetasIn I t → AllMetasIn I u
    terms_own (in_first c) m = (contracts_own c m.0, m.1)
    terms_own (in_rest c) m = (m.0, terms_own c m.1)

    arms_own : {t u : Arms} → ContractsArms E S t u → AllMetasArms I t → AllMetasArms I u
    arms_own (in_arm c) m = (contracts_own c m.0, m.1)
    arms_own (in_later c) m = (m.0, arms_own c m.1)

  pub reached_own : {t u : Tree} → ReachedFrom E S t u → AllMetas I t → AllMetas I u
  reached_own itself m = m
  reached_own (further r c) m = contracts_own c (reached_own r m)

  pub head_own : (t : Tree) → AllMetas I t → Yields (whd E S t) (AllMetas I)
  head_own t m n u l e = reached_own (weak_head_law E S t u n l e) m

  -- after a part of which nothing is asked
  past : {A B : Type 0} (Q : B → Type 0) (m : Charged A) (f : A → Charged B) → ((a : A) → Yields (f a) Q) → Yields (m >>= f) Q
  past Q m f y = then_yields (λ a. Unit {0}) Q m f (λ n a r e. tt) (λ a z. y a)

  pub product_own : (u : Tree) → AllMetas I u → Yields (a_product u) (λ p. AllMetas I p.dom × AllMetas I p.cod)
  product_own (Prod x a b) m = gives (λ (p : Product). AllMetas I p.dom × AllMetas I p.cod) (record { name = x; dom = a; cod = b }) m
  product_own u m = refuses (λ (p : Product). AllMetas I p.dom × AllMetas I p.cod) _

  pub range_own : (o : Option AnySort) → Yields (in_range o) (AllMetas I)
  range_own None = refuses (AllMetas I) _
  range_own (Some s) = gives (AllMetas I) (Sort s) tt

  family_own : (e : ℕ) (d : Tree) → AllMetas I d → Yields (eliminable (only e (as_family E.entries d))) (λ f. AllMetasIn I f.indices)
  family_own e d m = go (only e (as_family E.entries d)) (λ i. only e (as_family E.entries d))
    where
      go : (o : Option Family) → only e (as_family E.entries d) ≡ o → Yields (eliminable o) (λ f. AllMetasIn I f.indices)
      go None h = refuses (λ (f : Family). AllMetasIn I f.indices) _
      go (Some f) h =
          let q = family_is E d f (only_is e (as_family E.entries d) f h).0 in
          gives (λ (f : Family). AllMetasIn I f.indices) f (unjoin_metas I f.params f.indices (head_metas I (Ind f.number) (join f.params f.indices) (subst (AllMetas I) q.is m)).1).1

  some_own : (o : Option Tree) → ((t : Tree) → o ≡ Some t → AllMetas I t) → Yields (found o) (AllMetas I)
  some_own o h = so_yields (λ t. o ≡ Some t) (AllMetas I) (found o) h (found_yields o)

  pub constant_own : (c : ℕ) (t : Tree) → constant_type (slice_get E.entries c) ≡ Some t → AllMetas I t
  constant_own c t e = go (slice_get E.entries c) (λ i. slice_get E.entries c) e
    where
      go : (o : Option Declaration) → slice_get E.entries c ≡ o → constant_type o ≡ Some t → AllMetas I t
      go None h g = nothing g
      go (Some (Inductive x co p T cs l)) h g = nothing g
      go (Some (Axiom x T)) h g = subst (AllMetas I) (some_is g) (type_free E free I c (Axiom x T) h)
      go (Some (Definition x T b)) h g = subst (AllMetas I) (some_is g) (type_free E free I c (Definition x T b) h)
      go (Some (Recursive x co n r T b made)) h g = subst (AllMetas I) (some_is g) (type_free E free I c (Recursive x co n r T b made) h)

  pub inductive_own : (c : ℕ) (t : Tree) → inductive_type (slice_get E.entries c) ≡ Some t → AllMetas I t
  inductive_own c t e = go (slice_get E.entries c) (λ i. slice_get E.entries c) e
    where
      go : (o : Option Declaration) → slice_get E.entries c ≡ o → inductive_type o ≡ Some t → AllMetas I t
      go None h g = nothing g
      go (Some (Inductive x co p T cs l)) h g = subst (AllMetas I) (some_is g) (type_free E free I c (Inductive x co p T cs l) h)
      go (Some (Axiom x T)) h g = nothing g
      go (Some (Definition x T b)) h g = nothing g
      go (Some (Recursive x co n r T b made)) h g = nothing g

  pub constructor_own : (e k : ℕ) (t : Tree) → constructor_type (constructor_at E.entries e k) ≡ Some t → AllMetas I t
  constructor_own e k t h = go (constructor_at E.entries e k) (λ i. constructor_at E.entries e k) h
    where
      go : (o : Option Constructor) → constructor_at E.entries e k ≡ o → constructor_type o ≡ Some t → AllMetas I t
      go None g z = nothing z
      go (Some c) g z = subst (AllMetas I) (some_is z) (constructor_free E free I e k c g)

  pub variable_own : (Γ : List Hypothesis) (i : ℕ) (t : Tree) → AllMetasOf I (context_types Γ) → type_at Γ i ≡ Some t → AllMetas I t
  variable_own Γ i t c e = look_metas I (type_look Γ i t e) c

  type_own : (Γ : List Hypothesis) (t : Tree) → AllMetasOf I (context_types Γ) → AllMetas I t → Yields (inferred E S Γ t) (AllMetas I)
  type_own Γ (Var i) c m = charges (AllMetas I) _ (some_own (type_at Γ i) (λ t e. variable_own Γ i t c e))
  type_own Γ (Sort s) c m = charges (AllMetas I) _ (range_own (sort_above s))
  type_own Γ (Prod x a b) c m = charges (AllMetas I) _ (past (AllMetas I) (sorted E S (inferred E S Γ a)) _ (λ s. past (AllMetas I) (sorted E S (inferred E S (record { name = x; ty = a } ∷ Γ) b)) _ (λ r. gives (AllMetas I) (Sort (sort_of_product s r)) tt)))
  type_own Γ (Lam x a b) c m =
      charges (AllMetas I) _ (past (AllMetas I) (sorted E S (inferred E S Γ a)) _ (λ s.
      then_yields (AllMetas I) (AllMetas I) _ _ (type_own (record { name = x; ty = a } ∷ Γ) b (m.0, c) m.1) (λ t g. gives (AllMetas I) (Prod x a t) (m.0, g))))
  type_own Γ (App f a) c m =
      charges (AllMetas I) _
      (then_yields (λ (p : Product). AllMetas I p.dom × AllMetas I p.cod) (AllMetas I) _ _
      (then_yields (AllMetas I) (λ (p : Product). AllMetas I p.dom × AllMetas I p.cod) _ a_product (then_yields (AllMetas I) (AllMetas I) _ (whd E S) (type_own Γ f c m.0) head_own) product_own) (λ p g.
      past (AllMetas I) (inferred E S Γ a) _ (λ t. past (AllMetas I) (agrees E S Γ AtMost t p.dom) _ (λ z. gives (AllMetas I) (sub (one a) p.cod) (one_metas I a p.cod m.1 g.1)))))
  type_own Γ (Const k) c m = charges (AllMetas I) _ (some_own (constant_type (slice_get E.entries k)) (constant_own k))
  type_own Γ (Ind k) c m = charges (AllMetas I) _ (some_own (inductive_type (slice_get E.entries k)) (inductive_own k))
  type_own Γ (Con e k) c m = charges (AllMetas I) _ (some_own (constructor_type (constructor_at E.entries e k)) (constructor_own e k))
  type_own Γ (Match e r d bs) c m =
      charges (AllMetas I) _
      (then_yields (AllMetas I) (AllMetas I) _ _ (then_yields (AllMetas I) (AllMetas I) _ (whd E S) (type_own Γ d c m.1) head_own) (λ u g.
      then_yields (λ (f : Family). AllMetasIn I f.indices) (AllMetas I) _ _ (family_own e u g) (λ f h.
      past (AllMetas I) (elim_by E S Γ f (inferred E S Γ r)) _ (λ s. past (AllMetas I) (checked (branches_fit (count f.params) f.constructors bs)) _ (λ z. past (AllMetas I) (inferred_arms E S Γ f r zero f.constructors bs) _ (λ z.
      gives (AllMetas I) _ (motive_on_all_metas I r (join f.indices (Item d End)) m.0 (join_metas I f.indices (Item d End) h (m.1, tt)))))))))
  type_own Γ (Meta n s) c m =
      charges (AllMetas I) _
      (then_yields (λ d. S.at n ≡ Some d) (AllMetas I) (found (S.at n)) _ (found_yields (S.at n)) (λ d e.
      past (AllMetas I) (inferred_terms E S Γ s (oldest d.context []) beyond) _ (λ z. gives (AllMetas I) (under s d.ty) (under_metas I s d.ty m.1 (own n d e).ty))))

  pub infer_own : (Γ : List Hypothesis) (t : Tree) → AllMetasOf I (context_types Γ) → AllMetas I t → Yields (infer E S Γ t) (AllMetas I)
  unfolding infer
  infer_own Γ t c m = type_own Γ t c m
