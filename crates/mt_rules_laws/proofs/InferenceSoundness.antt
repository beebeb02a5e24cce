-- The type that inference answers is a type of the term: by derivations over a store that agrees with its own on a set of metavariables, which stand in the context and the term.
use Rattle.std.specs.Prelude.{ℕ, zero, suc, ◌≡◌, ◌+◌, refl, List, [], ◌∷◌, length, nat_eq, Bool, true, false, Option, Some, None, slice_get}
use Rattle.std.proofs.Common.{sym, ◌∙◌, ap, subst, arith}
use Rattle.mt_term.specs.Trees.{Bytes, Tree, Trees, Arms, Var, Sort, Prod, Lam, App, Const, Ind, Con, Match, Meta, End, Item, NoArm, Arm}
use Rattle.mt_term.specs.Substitution.{ren, sub, one, then_as, fill, beyond, under, apps, join, count, products}
use Rattle.mt_term.specs.declared.universes.Sort.{Sort as AnySort}
use Rattle.mt_term.specs.declared.modes.Mode.{Mode}
use Rattle.mt_term.specs.declared.modes.Mode.TheVariants.{Equal, AtMost as Below}
use Rattle.mt_term.specs.UniverseForms.{sort_above, sort_of_product}
use Rattle.mt_term.specs.Declarations.{Hypothesis, Constructor, Declaration, Axiom, Definition, Inductive, Recursive, Environment, constructor_at, declared_type}
use Rattle.mt_rules.specs.Charges.{Charged, ◌>>=◌}
use Rattle.mt_term.specs.Spines.{motive_on_all, at_args}
use Rattle.mt_term.specs.Stores.{Declared, Store, Owned, AllMetas, AllMetasIn, AllMetasArms, AllMetasOf, AllMetasHeld}
use Rattle.mt_calculus.specs.Contraction.{ConstructorOf}
use Rattle.mt_calculus.specs.Conversion.{Conv, back, chain, prods, AtMost, conv, on}
use Rattle.mt_calculus.specs.Typing.{Look, here, there, IsContext, IsType, Has, Fitting, Body, Instantiated, at_none, MotiveType, m_end, m_more, Allowed, Holds, c_cons, t_var, t_prod, t_lam, t_app, t_const, t_ind, t_con, t_match, f_none, f_arm, t_meta, t_sub, k_sort, k_of, k_type_reduct, k_dom}
use Rattle.mt_calculus.specs.SoundEnvironment.{SoundEnvironment}
use Rattle.mt_rules.specs.WeakHead.{whd}
use Rattle.mt_rules.specs.Comparison.{convert}
use Rattle.mt_rules.specs.Inference.{Product, Family, a_sort, a_product, found, eliminable, checked, in_range, agreed, type_at, context_types, constant_type, inductive_type, constructor_type, oldest, only, as_family, may_eliminate, branches_fit, branch_context, branch_type, sorted, agrees, eliminated, elim_by, inferred, inferred_terms, inferred_arms, infer}
use Rattle.mt_calculus_laws.proofs.Agree.{ren_metas}
use Rattle.mt_calculus_laws.proofs.Images.{under_metas}
use Rattle.mt_term.proofs.Subst.{tr_ren}
use Rattle.mt_calculus_laws.proofs.Steps.{Reduces, done, more, ClosedEnv}
use Rattle.mt_calculus_laws.proofs.Known.{Inv, known}
use Rattle.mt_calculus_laws.proofs.Laws.{substitution}
use Rattle.mt_calculus_laws.proofs.Plain.{PlainEntries}
use Rattle.mt_calculus_laws.proofs.EnvironmentLaws.{plain_entries, closed_environment, inductive_facts, arity_at, constructor_result, constructor_prefix}
use Rattle.mt_calculus_laws.proofs.Matching.{inductive_of, apps_join, ConResult, SamePrefix, motive_type, spine_has, body_holds, con_has}
use Rattle.mt_calculus_laws.proofs.MetaLaws.{plain_metas, then_as_metas, sub_metas, one_metas, apps_metas, head_metas, join_metas, unjoin_metas, motive_on_all_metas, inst_metas}
use Rattle.mt_rules_laws.proofs.Yields.{Yields, gives, refuses, charges, then_yields, so_yields, some_is, nothing, untrue}
use Rattle.mt_rules_laws.proofs.WeakHeadSoundness.{plain_bodies, whd_yields, constructor_of}
use Rattle.mt_rules_laws.proofs.ComparisonSoundness.{IfYes, Fit, convert_yields, reduces_conv}
use Rattle.mt_calculus_laws.proofs.AlikeLaws.{both}
use Rattle.mt_rules_laws.proofs.InferenceParts.{type_look, look_metas, above_has, product_sort, allowed_is, at_args_is, FamilyIs, family_is, only_is, last_reduces, branch_goal, branch_context_holds, branch_context_metas, branch_type_metas, After, from_first, and_next, after_get}

-- the parts that only look
sort_yields : (t : Tree) → Yields (a_sort t) (λ s. t ≡ Sort s)
sort_yields (Sort s) = gives (λ r. Sort s ≡ Sort r) s refl
sort_yields t = refuses (λ r. t ≡ Sort r) _

product_yields : (t : Tree) → Yields (a_product t) (λ p. t ≡ Prod p.name p.dom p.cod)
product_yields (Prod x a b) = gives (λ p. Prod x a b ≡ Prod p.name p.dom p.cod) _ refl
product_yields t = refuses (λ p. t ≡ Prod p.name p.dom p.cod) _

found_yields : {A : Type 0} (o : Option A) → Yields (found o) (λ a. o ≡ Some a)
found_yields None = refuses (λ a. None ≡ Some a) _
found_yields (Some b) = gives (λ a. Some b ≡ Some a) b refl

eliminable_yields : {A : Type 0} (o : Option A) → Yields (eliminable o) (λ a. o ≡ Some a)
eliminable_yields None = refuses (λ a. None ≡ Some a) _
eliminable_yields (Some b) = gives (λ a. Some b ≡ Some a) b refl

checked_yields : (b : Bool) → Yields (checked b) (λ z. b ≡ true)
checked_yields true = gives (λ z. true ≡ true) tt refl
checked_yields false = refuses (λ z. false ≡ true) _

agreed_yields : (X : Type 0) (Γ : List Hypothesis) (t u : Tree) (b : Bool) → IfYes X b → Yields (agreed Γ t u b) (λ z. X)
agreed_yields X Γ t u true h = gives (λ z. X) tt (h refl)
agreed_yields X Γ t u false h = refuses (λ z. X) _

-- a context, oldest first, onto another
abbrev onto : List Tree → List Tree → List Tree
onto [] Δ = Δ
onto (t ∷ ts) Δ = onto ts (t ∷ Δ)

onto_oldest : (Γ acc : List Tree) → onto (oldest Γ acc) [] ≡ onto acc Γ
onto_oldest [] acc = refl
onto_oldest (t ∷ Γ) acc = onto_oldest Γ (t ∷ acc)

oldest_metas : (P : ℕ → Type 0) (Γ acc : List Tree) → AllMetasOf P Γ → AllMetasOf P acc → AllMetasOf P (oldest Γ acc)
oldest_metas P [] acc a b = b
oldest_metas P (t ∷ Γ) acc a b = oldest_metas P Γ (t ∷ acc) a.1 (a.0, b)

module _ (E : Environment) (sound : SoundEnvironment E) (w : Bool) (S T : Store) (P : ℕ → Type 0)
    (agree : (n : ℕ) → P n → S.at n ≡ T.at n) (held : (n : ℕ) (d : Declared) → P n → S.at n ≡ Some d → AllMetasHeld P d) (own : Owned T)
    (typed : (n : ℕ) (d : Declared) → P n → T.at n ≡ Some d → Holds E w T (d.context) IsContext × Holds E w T (d.context) (IsType (d.ty))) where
  env : PlainEntries E
  env = plain_entries E sound

  closed : ClosedEnv E
  closed = closed_environment E sound

  -- the term has the type, whose metavariables are P
  abbrev pub Is : List Hypothesis → Tree → Tree → Type 0
  Is Γ t u = Holds E w T (context_types Γ) (Has t u) × AllMetas P u

  abbrev Head : Tree → Tree → Type 0
  Head t u = Reduces E T t u × AllMetas P u

  head_yields : (t : Tree) → AllMetas P t → Yields (whd E S t) (Head t)
  head_yields t p = whd_yields E S T P (plain_bodies E P env) agree held t p

  pub fit_yields : (Γ : List Hypothesis) (m : Mode) (t u : Tree) → AllMetas P t → AllMetas P u → Yields (agrees E S Γ m t u) (λ z. Fit E T m t u)
  fit_yields Γ m t u p q = then_yields (IfYes (Fit E T m t u)) (λ z. Fit E T m t u) (convert E S m t u) (agreed Γ t u) (convert_yields E S T P (plain_bodies E P env) agree held m t u p q) (λ b h. agreed_yields (Fit E T m t u) Γ t u b h)

  type_steps : {Γ : List Tree} {t u : Tree} → Reduces E T t u → Holds E w T Γ (IsType t) → Holds E w T Γ (IsType u)
  type_steps done h = h
  type_steps (more c r) h = type_steps r (k_type_reduct h c)

  has_steps : {Γ : List Tree} {t u v : Tree} → Reduces E T u v → Holds E w T Γ (Has t u) → Holds E w T Γ (Has t v)
  has_steps r h = t_sub h (conv (reduces_conv r)) (type_steps r (k_of h))

  -- the weak head of an inferred type
  type_head_yields : (Γ : List Hypothesis) (t : Tree) (m : Charged Tree) → Yields m (Is Γ t) → Yields (m >>= whd E S) (Is Γ t)
  type_head_yields Γ t m y = then_yields (Is Γ t) (Is Γ t) m (whd E S) y (λ u i. so_yields (Head u) (Is Γ t) (whd E S u) (λ v h. (has_steps h.0 i.0, h.1)) (head_yields u i.1))

  pub sorted_yields : (Γ : List Hypothesis) (t : Tree) (m : Charged Tree) → Yields m (Is Γ t) → Yields (sorted E S m) (λ s. Holds E w T (context_types Γ) (Has t (Sort s)))
  sorted_yields Γ t m y =
      then_yields (Is Γ t) (λ s. Holds E w T (context_types Γ) (Has t (Sort s))) (m >>= whd E S) a_sort (type_head_yields Γ t m y)
      (λ u i. so_yields (λ s. u ≡ Sort s) (λ s. Holds E w T (context_types Γ) (Has t (Sort s))) (a_sort u) (λ s e. subst (λ v. Holds E w T (context_types Γ) (Has t v)) e i.0) (sort_yields u))

  abbrev AsProduct : List Hypothesis → Tree → Product → Type 0
  AsProduct Γ t p = Is Γ t (Prod p.name p.dom p.cod)

  producted_yields : (Γ : List Hypothesis) (t : Tree) (m : Charged Tree) → Yields m (Is Γ t) → Yields (m >>= whd E S >>= a_product) (AsProduct Γ t)
  producted_yields Γ t m y =
      then_yields (Is Γ t) (AsProduct Γ t) (m >>= whd E S) a_product (type_head_yields Γ t m y)
      (λ u i. so_yields (λ p. u ≡ Prod p.name p.dom p.cod) (AsProduct Γ t) (a_product u) (λ p e. subst (Is Γ t) e i) (product_yields u))

  -- the type of a motive
  abbrev ProductHead : Tree → Product → Type 0
  ProductHead t p = Conv E T t (Prod p.name p.dom p.cod) × AllMetas P p.dom × AllMetas P p.cod

  product_head_yields : (t : Tree) → AllMetas P t → Yields (whd E S t >>= a_product) (ProductHead t)
  product_head_yields t p =
      then_yields (Head t) (ProductHead t) (whd E S t) a_product (head_yields t p)
      (λ u h. so_yields (λ q. u ≡ Prod q.name q.dom q.cod) (ProductHead t) (a_product u) (λ q e. let a = subst (AllMetas P) e h.1 in (subst (Conv E T t) e (reduces_conv h.0), a.0, a.1)) (product_yields u))

  sort_head_yields : (t : Tree) → AllMetas P t → Yields (whd E S t >>= a_sort) (λ s. Conv E T t (Sort s))
  sort_head_yields t p =
      then_yields (Head t) (λ s. Conv E T t (Sort s)) (whd E S t) a_sort (head_yields t p)
      (λ u h. so_yields (λ s. u ≡ Sort s) (λ s. Conv E T t (Sort s)) (a_sort u) (λ s e. subst (Conv E T t) e (reduces_conv h.0)) (sort_yields u))

  abbrev Eliminates : Bool → Tree → Tree → Tree → AnySort → Type 0
  Eliminates large u h t s = (r : AnySort) × (M : Tree) × MotiveType s u h r M × Conv E T t M × Allowed r s large

  eliminated_yields : (Γ : List Hypothesis) (large : Bool) (u h t : Tree) → AllMetas P u → AllMetas P h → AllMetas P t → Yields (eliminated E S Γ large u h t) (Eliminates large u h t)
  eliminated_yields Γ large (Prod x a b) h t pu ph pt =
      then_yields (ProductHead t) (Eliminates large (Prod x a b) h t) (whd E S t >>= a_product) _ (product_head_yields t pt) (λ p f.
      then_yields (λ z. Conv E T p.dom a) (Eliminates large (Prod x a b) h t) (agrees E S Γ Equal p.dom a) _ (fit_yields Γ Equal p.dom a f.1 pu.0) (λ z g.
      let Δ = record { name = p.name; ty = p.dom } ∷ Γ in
      let h' = App (ren suc h) (Var zero) in
      so_yields (Eliminates large b h' p.cod) (Eliminates large (Prod x a b) h t) (eliminated E S Δ large b h' p.cod) (λ s i. (i.0, Prod x a i.1, m_more i.2, chain f.0 (prods g i.3), i.4))
      (eliminated_yields Δ large b h' p.cod pu.1 (ren_metas P suc h ph, tt) f.2)))
  eliminated_yields Γ large (Sort r) h t pu ph pt =
      then_yields (ProductHead t) (Eliminates large (Sort r) h t) (whd E S t >>= a_product) _ (product_head_yields t pt) (λ p f.
      then_yields (λ z. Conv E T p.dom h) (Eliminates large (Sort r) h t) (agrees E S Γ Equal p.dom h) _ (fit_yields Γ Equal p.dom h f.1 ph) (λ z g.
      then_yields (λ s. Conv E T p.cod (Sort s)) (Eliminates large (Sort r) h t) (whd E S p.cod >>= a_sort) _ (sort_head_yields p.cod f.2) (λ s k.
      then_yields (λ z. may_eliminate large r s ≡ true) (Eliminates large (Sort r) h t) (checked (may_eliminate large r s)) _ (checked_yields (may_eliminate large r s)) (λ z l.
      gives (Eliminates large (Sort r) h t) s (r, Prod [] h (Sort s), m_end, chain f.0 (prods g k), allowed_is large r s l)))))
  eliminated_yields Γ large u h t pu ph pt = refuses (Eliminates large u h t) _

  -- what a match's branches stand on
  record Matched (Γ : List Hypothesis) (f : Family) (R : Tree) : Type 0 where
    t : Tree
    is : FamilyIs E t f
    context : Holds E w T (context_types Γ) IsContext
    ty : Holds E w T (context_types Γ) (IsType (apps (Ind f.number) (join f.params f.indices)))
    r : AnySort
    s : AnySort
    M : Tree
    motive : MotiveType s f.arity (apps (Ind f.number) f.params) r M
    return : Holds E w T (context_types Γ) (Has R M)
    context_metas : AllMetasOf P (context_types Γ)
    params_metas : AllMetasIn P f.params
    return_metas : AllMetas P R

  -- the type of a constructor at the parameters is a type
  constructor_type_at : (Γ : List Hypothesis) (f : Family) (R : Tree) (m : Matched Γ f R) (k : ℕ) (c : Constructor) → slice_get f.constructors k ≡ Some c → (u : Tree) → Instantiated c.ty f.params u → Holds E w T (context_types Γ) (IsType u)
  constructor_type_at Γ f R m k c g u i =
      let q : FamilyIs E m.t f = m.is in
      let o : ConstructorOf E f.number k c.ty = record { name = q.name; co = q.co; params = q.p; ty = q.ty; cons = f.constructors; large = f.large; con_name = c.name; entry = q.entry; con = g } in
      let sp : SamePrefix E T (count f.params) q.ty c.ty = subst (λ p. SamePrefix E T p q.ty c.ty) (sym q.enough) (constructor_prefix E sound T f.number k c.ty o) in
      k_of (con_has E w closed T f.number q.name q.co f.large q.p q.ty f.constructors q.entry k (context_types Γ) End f.indices q.at i sp at_none q.full m.ty (t_con m.context o))

  -- a branch
  arm_holds : (Γ : List Hypothesis) (f : Family) (R : Tree) (m : Matched Γ f R) (k : ℕ) (c : Constructor) → slice_get f.constructors k ≡ Some c → (xs : List Bytes) (b u v t : Tree) → Instantiated c.ty f.params u → branch_type (count f.params) R (apps (Con f.number k) f.params) u xs ≡ Some v
      → Holds E w T (context_types (branch_context Γ u xs)) (Has b t) → AtMost E T t v → (o : ConstructorOf E f.number k c.ty) × Holds E w T (context_types Γ) (Body f.number o.params R (apps (Con f.number k) f.params) u xs b)
  arm_holds Γ f R m k c g xs b u v t i e hb le =
      let q : FamilyIs E m.t f = m.is in
      let o : ConstructorOf E f.number k c.ty = record { name = q.name; co = q.co; params = q.p; ty = q.ty; cons = f.constructors; large = f.large; con_name = c.name; entry = q.entry; con = g } in
      let facts = inductive_facts E sound f.number q.name q.co f.large q.p q.ty f.constructors q.entry in
      let whole : q.p + products f.arity ≡ products q.ty = let a = (arity_at facts.arity q.at).1 in omega (arith, a, q.enough) in
      let sp : SamePrefix E T (count f.params) q.ty c.ty = subst (λ p. SamePrefix E T p q.ty c.ty) (sym q.enough) (constructor_prefix E sound T f.number k c.ty o) in
      let hc : Holds E w T (context_types Γ) (Has (apps (Con f.number k) f.params) u) = con_has E w closed T f.number q.name q.co f.large q.p q.ty f.constructors q.entry k (context_types Γ) End f.indices q.at i sp at_none q.full m.ty (t_con m.context o) in
      let res : ConResult f.number (products f.arity) f.params u = constructor_result E sound f.number k c.ty o f.params u f.arity i q.at q.enough in
      let goal = branch_goal E T f.number (products f.arity) (count f.params) res refl Γ R (apps (Con f.number k) f.params) xs v e in
      let le' : AtMost E T t (goal.0) = on le (conv (back (reduces_conv goal.2))) in
      (o, body_holds E w closed T own f.number q.name q.co f.large q.p q.ty f.constructors q.entry q.p f.arity m.M b t goal.1 q.enough refl whole m.context m.return hc q.at m.motive (λ c'. hb) le')

  -- declared types
  declared_metas : (c : ℕ) (d : Declaration) → slice_get E.entries c ≡ Some d → AllMetas P (declared_type d)
  declared_metas c d g = plain_metas P zero (declared_type d) (env.types c d g)

  constant_has : (Γ : List Hypothesis) (c : ℕ) (u : Tree) → Holds E w T (context_types Γ) IsContext → (o : Option Declaration) → slice_get E.entries c ≡ o → constant_type o ≡ Some u → Is Γ (Const c) u
  constant_has Γ c u x (Some (Axiom n t)) g h = subst (Is Γ (Const c)) (some_is h) (t_const x g tt, declared_metas c _ g)
  constant_has Γ c u x (Some (Definition n t b)) g h = subst (Is Γ (Const c)) (some_is h) (t_const x g tt, declared_metas c _ g)
  constant_has Γ c u x (Some (Recursive n co m r t b made)) g h = subst (Is Γ (Const c)) (some_is h) (t_const x g tt, declared_metas c _ g)
  constant_has Γ c u x (Some (Inductive n co p t cs l)) g h = nothing h
  constant_has Γ c u x None g h = nothing h

  inductive_has : (Γ : List Hypothesis) (e : ℕ) (u : Tree) → Holds E w T (context_types Γ) IsContext → (o : Option Declaration) → slice_get E.entries e ≡ o → inductive_type o ≡ Some u → Is Γ (Ind e) u
  inductive_has Γ e u x (Some (Inductive n co p t cs l)) g h = subst (Is Γ (Ind e)) (some_is h) (t_ind x (inductive_of g), declared_metas e _ g)
  inductive_has Γ e u x (Some (Axiom n t)) g h = nothing h
  inductive_has Γ e u x (Some (Definition n t b)) g h = nothing h
  inductive_has Γ e u x (Some (Recursive n co m r t b made)) g h = nothing h
  inductive_has Γ e u x None g h = nothing h

  constructor_has : (Γ : List Hypothesis) (e k : ℕ) (u : Tree) → Holds E w T (context_types Γ) IsContext → (o : Option Constructor) → constructor_at E.entries e k ≡ o → constructor_type o ≡ Some u → Is Γ (Con e k) u
  constructor_has Γ e k u x (Some c) g h =
      let o = constructor_of E e k (slice_get E.entries e) c refl g in
      subst (Is Γ (Con e k)) (some_is h) (t_con x o, plain_metas P zero c.ty (env.cons e k c.ty o))
  constructor_has Γ e k u x None g h = nothing h

  sort_has : (Γ : List Hypothesis) (s : AnySort) → Holds E w T (context_types Γ) IsContext → (o : Option AnySort) → sort_above s ≡ o → Yields (in_range o) (Is Γ (Sort s))
  sort_has Γ s c None g = refuses (Is Γ (Sort s)) _
  sort_has Γ s c (Some r) g = gives (Is Γ (Sort s)) (Sort r) (above_has E w T (context_types Γ) s r c g, tt)

  -- the terms of a metavariable have the types of its hypotheses
  abbrev FitsBy : List Hypothesis → (ℕ → Tree) → List Tree → Type 0
  FitsBy Γ σ Δ = (i : ℕ) (t : Tree) → Look Δ i t → Holds E w T (context_types Γ) (Has (σ i) (sub σ t))

  next_fits : (Γ : List Hypothesis) (σ : ℕ → Tree) (Δ : List Tree) (t a : Tree) → FitsBy Γ σ Δ → Holds E w T (context_types Γ) (Has t (sub σ a)) → FitsBy Γ (then_as t σ) (a ∷ Δ)
  next_fits Γ σ Δ t a f h i u here = subst (λ v. Holds E w T (context_types Γ) (Has t v)) (sym (tr_ren Meta (then_as t σ) suc a)) h
  next_fits Γ σ Δ t a f h i u (there {i = j} {T = v} l) = subst (λ x. Holds E w T (context_types Γ) (Has (σ j) x)) (sym (tr_ren Meta (then_as t σ) suc v)) (f j v l)

  inv_onto : (ts Δ : List Tree) → Inv E w T (onto ts Δ) → Inv E w T Δ
  inv_onto [] Δ v = v
  inv_onto (t ∷ ts) Δ v = (inv_onto ts (t ∷ Δ) v).2

  abbrev TermsFit : List Hypothesis → Trees → List Tree → List Tree → (ℕ → Tree) → Unit {0} → Type 0
  TermsFit Γ s ts Δ σ z = FitsBy Γ (fill s σ) (onto ts Δ) × (count s + length Δ ≡ length (onto ts Δ))

  abbrev Fits : List Hypothesis → Family → Tree → ℕ → Arms → Unit {0} → Type 0
  Fits Γ f R k bs z = Holds E w T (context_types Γ) (Fitting f.number R f.params k bs)

  -- a match
  match_has : (Γ : List Hypothesis) (e : ℕ) (R c : Tree) (bs : Arms) (f : Family) (m : Matched Γ f R) → f.number ≡ e → Holds E w T (context_types Γ) (Has c (apps (Ind f.number) (join f.params f.indices))) → Allowed m.r m.s f.large
      → Holds E w T (context_types Γ) (Fitting f.number R f.params zero bs) → Holds E w T (context_types Γ) (Has (Match e R c bs) (motive_on_all R (join f.indices (Item c End))))
  match_has Γ e R c bs f m i hc al fit =
      let q : FamilyIs E m.t f = m.is in
      let hc' : Holds E w T (context_types Γ) (Has c (apps (apps (Ind f.number) f.params) f.indices)) = subst (λ t. Holds E w T (context_types Γ) (Has c t)) (apps_join (Ind f.number) f.params f.indices) hc in
      let h : Holds E w T (context_types Γ) (Has (Match f.number R c bs) (App (apps R f.indices) c)) = t_match f.indices (inductive_of q.entry) q.enough q.full hc' q.at m.motive m.return al fit in
      has_steps (last_reduces E T R f.indices c) (subst (λ j. Holds E w T (context_types Γ) (Has (Match j R c bs) (App (apps R f.indices) c))) i h)

  mutual
    inferred_yields : (Γ : List Hypothesis) (t : Tree) → Holds E w T (context_types Γ) IsContext → AllMetasOf P (context_types Γ) → AllMetas P t → Yields (inferred E S Γ t) (Is Γ t)
    inferred_yields Γ (Var i) c g p =
        charges (Is Γ (Var i)) (found (type_at Γ i)) (so_yields (λ u. type_at Γ i ≡ Some u) (Is Γ (Var i)) (found (type_at Γ i)) (λ u e. let l = type_look Γ i u e in (t_var c l, look_metas P l g)) (found_yields (type_at Γ i)))
    inferred_yields Γ (Sort s) c g p = charges (Is Γ (Sort s)) (in_range (sort_above s)) (sort_has Γ s c (sort_above s) refl)
    inferred_yields Γ (Prod x a b) c g p =
        charges (Is Γ (Prod x a b)) _ (
        then_yields (λ s. Holds E w T (context_types Γ) (Has a (Sort s))) (Is Γ (Prod x a b)) (sorted E S (inferred E S Γ a)) _ (sorted_yields Γ a (inferred E S Γ a) (inferred_yields Γ a c g p.0)) (λ s h.
        let Δ = record { name = x; ty = a } ∷ Γ in
        then_yields (λ r. Holds E w T (context_types Δ) (Has b (Sort r))) (Is Γ (Prod x a b)) (sorted E S (inferred E S Δ b)) _ (sorted_yields Δ b (inferred E S Δ b) (inferred_yields Δ b (c_cons c (k_sort h)) (p.0, g) p.1)) (λ r k.
        gives (Is Γ (Prod x a b)) (Sort (sort_of_product s r)) (t_prod h k (product_sort s r), tt))))
    inferred_yields Γ (Lam x a b) c g p =
        charges (Is Γ (Lam x a b)) _ (
        then_yields (λ s. Holds E w T (context_types Γ) (Has a (Sort s))) (Is Γ (Lam x a b)) (sorted E S (inferred E S Γ a)) _ (sorted_yields Γ a (inferred E S Γ a) (inferred_yields Γ a c g p.0)) (λ s h.
        let Δ = record { name = x; ty = a } ∷ Γ in
        then_yields (Is Δ b) (Is Γ (Lam x a b)) (inferred E S Δ b) _ (inferred_yields Δ b (c_cons c (k_sort h)) (p.0, g) p.1) (λ t k.
        gives (Is Γ (Lam x a b)) (Prod x a t) (t_lam (k_sort h) k.0, (p.0, k.1)))))
    inferred_yields Γ (App f a) c g p =
        charges (Is Γ (App f a)) _ (
        then_yields (AsProduct Γ f) (Is Γ (App f a)) (inferred E S Γ f >>= whd E S >>= a_product) _ (producted_yields Γ f (inferred E S Γ f) (inferred_yields Γ f c g p.0)) (λ q h.
        then_yields (Is Γ a) (Is Γ (App f a)) (inferred E S Γ a) _ (inferred_yields Γ a c g p.1) (λ t k.
        then_yields (λ z. AtMost E T t q.dom) (Is Γ (App f a)) (agrees E S Γ Below t q.dom) _ (fit_yields Γ Below t q.dom k.1 h.1.0) (λ z le.
        gives (Is Γ (App f a)) (sub (one a) q.cod) (t_app h.0 (t_sub k.0 le (k_dom (k_of h.0))), one_metas P a q.cod p.1 h.1.1)))))
    inferred_yields Γ (Const d) c g p =
        let o = constant_type (slice_get E.entries d) in
        charges (Is Γ (Const d)) (found o) (so_yields (λ u. o ≡ Some u) (Is Γ (Const d)) (found o) (λ u e. constant_has Γ d u c (slice_get E.entries d) refl e) (found_yields o))
    inferred_yields Γ (Ind d) c g p =
        let o = inductive_type (slice_get E.entries d) in
        charges (Is Γ (Ind d)) (found o) (so_yields (λ u. o ≡ Some u) (Is Γ (Ind d)) (found o) (λ u e. inductive_has Γ d u c (slice_get E.entries d) refl e) (found_yields o))
    inferred_yields Γ (Con d k) c g p =
        let o = constructor_type (constructor_at E.entries d k) in
        charges (Is Γ (Con d k)) (found o) (so_yields (λ u. o ≡ Some u) (Is Γ (Con d k)) (found o) (λ u e. constructor_has Γ d k u c (constructor_at E.entries d k) refl e) (found_yields o))
    inferred_yields Γ (Match e r d bs) c g p =
        let Q = Is Γ (Match e r d bs) in
        charges Q _ (
        then_yields (Is Γ d) Q (inferred E S Γ d >>= whd E S) _ (type_head_yields Γ d (inferred E S Γ d) (inferred_yields Γ d c g p.1)) (λ u hd.
        let o = only e (as_family E.entries u) in
        then_yields (λ f. o ≡ Some f) Q (eliminable o) _ (eliminable_yields o) (λ f ef.
        let i = only_is e (as_family E.entries u) f ef in
        let q = family_is E u f i.0 in
        let hd' : Holds E w T (context_types Γ) (Has d (apps (Ind f.number) (join f.params f.indices))) = subst (λ v. Holds E w T (context_types Γ) (Has d v)) q.is hd.0 in
        let args = unjoin_metas P f.params f.indices (head_metas P (Ind f.number) (join f.params f.indices) (subst (AllMetas P) q.is hd.1)).1 in
        let arity_metas : AllMetas P f.arity = inst_metas P q.at (declared_metas f.number _ q.entry) args.0 in
        let head_of : AllMetas P (apps (Ind f.number) f.params) = apps_metas P (Ind f.number) f.params tt args.0 in
        then_yields (λ s. (M : Tree) × (r' : AnySort) × MotiveType s f.arity (apps (Ind f.number) f.params) r' M × Holds E w T (context_types Γ) (Has r M) × Allowed r' s f.large) Q (elim_by E S Γ f (inferred E S Γ r)) _
        (then_yields (Is Γ r) (λ s. (M : Tree) × (r' : AnySort) × MotiveType s f.arity (apps (Ind f.number) f.params) r' M × Holds E w T (context_types Γ) (Has r M) × Allowed r' s f.large) (inferred E S Γ r) _ (inferred_yields Γ r c g p.0) (λ t hr.
        so_yields (Eliminates f.large f.arity (apps (Ind f.number) f.params) t) (λ s. (M : Tree) × (r' : AnySort) × MotiveType s f.arity (apps (Ind f.number) f.params) r' M × Holds E w T (context_types Γ) (Has r M) × Allowed r' s f.large) (eliminated E S Γ f.large f.arity (apps (Ind f.number) f.params) t)
        (λ s el.
        let hs = spine_has E w closed T own f.number q.name q.co f.large q.p q.ty f.constructors q.entry (context_types Γ) End f.params f.indices q.at at_none q.full (k_of hd') (t_ind c (inductive_of q.entry)) in
        (el.1, el.0, el.2, t_sub hr.0 (conv el.3) (motive_type E w closed T own (context_types Γ) el.2 c hs), el.4))
        (eliminated_yields Γ f.large f.arity (apps (Ind f.number) f.params) t arity_metas head_of hr.1)))
        (λ s el.
        let m : Matched Γ f r = record { t = u; is = q; context = c; ty = k_of hd'; r = el.1; s = s; M = el.0; motive = el.2; return = el.3; context_metas = g; params_metas = args.0; return_metas = p.0 } in
        then_yields (λ z. branches_fit (count f.params) f.constructors bs ≡ true) Q (checked (branches_fit (count f.params) f.constructors bs)) _ (checked_yields (branches_fit (count f.params) f.constructors bs)) (λ z n.
        then_yields (Fits Γ f r zero bs) Q (inferred_arms E S Γ f r zero f.constructors bs) _ (arms_yield Γ f r m zero f.constructors bs from_first n p.2) (λ z fit.
        gives Q (motive_on_all r (join f.indices (Item d End))) (match_has Γ e r d bs f m i.1 hd' el.4 fit, motive_on_all_metas P r (join f.indices (Item d End)) p.0 (join_metas P f.indices (Item d End) args.1 (p.1, tt)))))))))
    inferred_yields Γ (Meta n s) c g p =
        let Q = Is Γ (Meta n s) in
        charges Q _ (
        then_yields (λ d. S.at n ≡ Some d) Q (found (S.at n)) _ (found_yields (S.at n)) (λ d e.
        let e' : T.at n ≡ Some d = sym (agree n p.0) ∙ e in
        let z = typed n d p.0 e' in
        let h = held n d p.0 e in
        let ts = oldest d.context [] in
        let back' : onto ts [] ≡ d.context = onto_oldest d.context [] in
        then_yields (TermsFit Γ s ts [] beyond) Q (inferred_terms E S Γ s ts beyond) _
        (terms_yield Γ c g s ts [] beyond (subst (Inv E w T) (sym back') (known E w z.0).1) (λ i u l. elim l [ ]) p.1 (oldest_metas P d.context [] h.context tt) (λ i. tt)) (λ y r.
        let fits = subst (FitsBy Γ (fill s beyond)) back' r.0 in
        let len : count s ≡ length d.context = omega (arith, r.1 ∙ ap length back') in
        gives Q (under s d.ty) (t_meta c e' z.0 z.1 len fits, under_metas P s d.ty p.1 h.ty))))

    terms_yield : (Γ : List Hypothesis) → Holds E w T (context_types Γ) IsContext → AllMetasOf P (context_types Γ) → (s : Trees) (ts Δ : List Tree) (σ : ℕ → Tree) → Inv E w T (onto ts Δ) → FitsBy Γ σ Δ → AllMetasIn P s → AllMetasOf P ts → ((i : ℕ) → AllMetas P (σ i)) → Yields (inferred_terms E S Γ s ts σ) (TermsFit Γ s ts Δ σ)
    terms_yield Γ c g End [] Δ σ v f p q k = gives (TermsFit Γ End [] Δ σ) tt (f, omega arith)
    terms_yield Γ c g (Item t s) (a ∷ ts) Δ σ v f p q k =
        let Q = TermsFit Γ (Item t s) (a ∷ ts) Δ σ in
        let pa : AllMetas P (sub σ a) = sub_metas P σ k a q.0 in
        then_yields (Is Γ t) Q (inferred E S Γ t) _ (inferred_yields Γ t c g p.0) (λ u h.
        then_yields (λ z. AtMost E T u (sub σ a)) Q (agrees E S Γ Below u (sub σ a)) _ (fit_yields Γ Below u (sub σ a) h.1 pa) (λ z le.
        let ty = (inv_onto ts (a ∷ Δ) v).1 in
        let ht : Holds E w T (context_types Γ) (Has t (sub σ a)) = t_sub h.0 le (substitution E w closed T Δ (context_types Γ) σ (IsType a) own c f ty) in
        so_yields (TermsFit Γ s ts (a ∷ Δ) (then_as t σ)) Q (inferred_terms E S Γ s ts (then_as t σ)) (λ y r. (r.0, omega (arith, r.1)))
        (terms_yield Γ c g s ts (a ∷ Δ) (then_as t σ) v (next_fits Γ σ Δ t a f ht) p.1 q.1 (then_as_metas P t σ p.0 k))))
    terms_yield Γ c g End (a ∷ ts) Δ σ v f p q k = refuses (TermsFit Γ End (a ∷ ts) Δ σ) _
    terms_yield Γ c g (Item t s) [] Δ σ v f p q k = refuses (TermsFit Γ (Item t s) [] Δ σ) _

    arms_yield : (Γ : List Hypothesis) (f : Family) (R : Tree) → Matched Γ f R → (k : ℕ) (cs : List Constructor) (bs : Arms) → After f.constructors k cs → branches_fit (count f.params) cs bs ≡ true → AllMetasArms P bs → Yields (inferred_arms E S Γ f R k cs bs) (Fits Γ f R k bs)
    arms_yield Γ f R m k [] NoArm a n p = gives (Fits Γ f R k NoArm) tt (f_none m.context (inductive_of (m.is.entry)) (after_get a))
    arms_yield Γ f R m k (c ∷ cs) (Arm xs b bs) a n p =
        let Q = Fits Γ f R k (Arm xs b bs) in
        let own_type = at_args c.ty f.params in
        then_yields (λ u. own_type ≡ Some u) Q (eliminable own_type) _ (eliminable_yields own_type) (λ u eu.
        let con = apps (Con f.number k) f.params in
        let goal = branch_type (count f.params) R con u xs in
        then_yields (λ v. goal ≡ Some v) Q (eliminable goal) _ (eliminable_yields goal) (λ v ev.
        let Δ = branch_context Γ u xs in
        let i : Instantiated c.ty f.params u = at_args_is c.ty f.params u eu in
        let at = after_get a in
        let o : ConstructorOf E f.number k c.ty = record { name = m.is.name; co = m.is.co; params = m.is.p; ty = m.is.ty; cons = f.constructors; large = f.large; con_name = c.name; entry = m.is.entry; con = at } in
        let pu : AllMetas P u = inst_metas P i (plain_metas P zero c.ty (env.cons f.number k c.ty o)) m.params_metas in
        let pv : AllMetas P v = branch_type_metas P (count f.params) R con u xs v m.return_metas (apps_metas P (Con f.number k) f.params tt m.params_metas) pu ev in
        let cd = branch_context_holds E w T Γ u xs m.context (constructor_type_at Γ f R m k c at u i) in
        then_yields (Is Δ b) Q (inferred E S Δ b) _ (inferred_yields Δ b cd (branch_context_metas P Γ u xs m.context_metas pu) p.0) (λ t h.
        then_yields (λ z. AtMost E T t v) Q (agrees E S Δ Below t v) _ (fit_yields Δ Below t v h.1 pv) (λ z le.
        so_yields (Fits Γ f R (suc k) bs) Q (inferred_arms E S Γ f R (suc k) cs bs) (λ y later. let body = arm_holds Γ f R m k c at xs b u v t i ev h.0 le in f_arm body.0 i body.1 later)
        (arms_yield Γ f R m (suc k) cs bs (and_next a) (both (nat_eq (length xs + count f.params) (products c.ty)) (branches_fit (count f.params) cs bs) n).1 p.1)))))
    arms_yield Γ f R m k [] (Arm xs b bs) a n p = untrue n
    arms_yield Γ f R m k (c ∷ cs) NoArm a n p = untrue n

  -- inference
  pub infer_yields : (Γ : List Hypothesis) (t : Tree) → Holds E w T (context_types Γ) IsContext → AllMetasOf P (context_types Γ) → AllMetas P t → Yields (infer E S Γ t) (Is Γ t)
  unfolding infer
  infer_yields Γ t c g p n u r e = inferred_yields Γ t c g p n u r e
