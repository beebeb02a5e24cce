-- What a sound environment gives: its entries are closed and without metavariables, and typed; and a constructor's type is, at parameters, products into its type on these and its indices.
use Rattle.std.proofs.Common.{Bool, true, false, ◌≡◌, ◌≤◌, ◌<◌, ◌+◌, ◌-◌, ◌⊎◌, inl, inr, ℕ, zero, suc, List, [], ◌∷◌, ◌++◌, take, Some, slice_get, refl, sym, ap, ap₂, ◌∙◌, subst, subst₂, eq-or-lt_of_le, le_of_suc-le-suc, arith}
use mathlib.Core.Path.{fun_ext}
use Rattle.mt_term.specs.declared.universes.Sort.{Sort as AnySort}
use Rattle.mt_term.specs.Trees.{Tree, Trees, Bytes, Var, Sort, Prod, Ind, Meta, End, Item}
use Rattle.mt_term.specs.Substitution.{ren_all, up, then_as, tr_all, sub, one, apps, join, count, products}
use Rattle.mt_term.specs.Declarations.{Constructor, Declaration, Axiom, Definition, Inductive, Recursive, Environment, declared_type}
use Rattle.mt_term.specs.Stores.{Store}
use Rattle.mt_calculus.specs.Contraction.{ConstructorOf}
use Rattle.mt_calculus.specs.Typing.{Judgement, Has, Instantiated, at_none, at_more, Holds, Strict}
use Rattle.mt_calculus.specs.Scopes.{Plain}
use Rattle.mt_calculus.specs.Positivity.{Positive, PositiveFrom, past_parameters, parameter, PositiveArguments, result, plain_argument, recursive_argument, parameters}
use Rattle.mt_calculus.specs.SoundEnvironment.{before, with_entry, Arity, arity_sort, arity_product, SoundEntry, sound_axiom, sound_definition, sound_inductive, sound_recursive, sound_corecursive, SoundEnvironment}
use Rattle.mt_term.proofs.Subst.{tr_ren, sub_id, sub_tr, spine_tr, count_tr, meta_steady}
use Rattle.mt_calculus_laws.proofs.Steps.{ClosedEnv}
use Rattle.mt_term.proofs.Options.{none_some, some_inj}
use Rattle.mt_calculus_laws.proofs.Grow.{grows}
use Rattle.mt_calculus_laws.proofs.Plain.{PlainEntries, plain_closed, plain}
use Rattle.mt_calculus_laws.proofs.Matching.{snoc, ConResult, r_end, r_more, SamePrefix, sp_zero, sp_suc}
use Rattle.mt_calculus_laws.proofs.AlikeLaws.{alike_conv}

taken_inv : {A : Type 0} (k : ℕ) (es : List A) (c : ℕ) (e : A) → slice_get (take k es) c ≡ Some e → (c < k) × (slice_get es c ≡ Some e)
taken_inv zero es c e h = absurd (none_some h)
taken_inv (suc k) [] c e h = absurd (none_some h)
taken_inv (suc k) (x ∷ es) zero e h = (omega arith, h)
taken_inv (suc k) (x ∷ es) (suc c) e h = let r = taken_inv k es c e h in (omega (arith, r.0), r.1)

pushed_inv : {A : Type 0} (es : List A) (d : A) (c : ℕ) (e : A) → slice_get (es ++ (d ∷ [])) c ≡ Some e → (slice_get es c ≡ Some e) ⊎ (d ≡ e)
pushed_inv [] d zero e h = inr (some_inj h)
pushed_inv [] d (suc c) e h = absurd (none_some h)
pushed_inv (x ∷ es) d zero e h = inl h
pushed_inv (x ∷ es) d (suc c) e h = pushed_inv es d c e h

-- what an entry declares is closed and without metavariables
abbrev EntryPlain : Declaration → Type 0
EntryPlain (Axiom x T) = Plain zero T
EntryPlain (Definition x T b) = Plain zero T × Plain zero b
EntryPlain (Inductive x co p T cs l) = Plain zero T × ((k : ℕ) (c : Constructor) → slice_get cs k ≡ Some c → Plain zero (c.ty))
EntryPlain (Recursive x co n r T b made) = Plain zero T × Plain zero b

type_plain : (e : Declaration) → EntryPlain e → Plain zero (declared_type e)
type_plain (Axiom x T) h = h
type_plain (Definition x T b) h = h.0
type_plain (Inductive x co p T cs l) h = h.0
type_plain (Recursive x co n r T b made) h = h.0

abbrev AllPlain : Environment → Type 0
AllPlain E = (c : ℕ) (e : Declaration) → slice_get (E.entries) c ≡ Some e → EntryPlain e

gathered : (E : Environment) → AllPlain E → PlainEntries E
gathered E h = record { types = λ c e g. type_plain e (h c e g); cons = λ e k C o. (h e _ o.entry).1 k _ o.con; bodies = λ c n r x co made T b g. (h c _ g).1; values = λ c x T b g. (h c _ g).1 }

-- with one more entry
one_more_plain : (E : Environment) (d : Declaration) → AllPlain E → EntryPlain d → AllPlain (with_entry E d)
one_more_plain E d all h c e g = go (pushed_inv (E.entries) d c e g)
  where
    go : (slice_get (E.entries) c ≡ Some e) ⊎ (d ≡ e) → EntryPlain e
    go (inl q) = all c e q
    go (inr q) = subst EntryPlain q h

strict_plain : (E : Environment) → AllPlain E → (t T : Tree) → Strict E [] (Has t T) → Plain zero t
strict_plain E all t T h = (plain E (gathered E all) (λ n. refl) h).0

sound_plain : (E : Environment) → AllPlain E → (n : ℕ) (d : Declaration) → SoundEntry E n d → EntryPlain d
sound_plain E all n (Axiom x T) (sound_axiom {s = s} t) = strict_plain E all T (Sort s) t
sound_plain E all n (Definition x T b) (sound_definition {s = s} t v) = (strict_plain E all T (Sort s) t, strict_plain E all b T v)
sound_plain E all n (Inductive x co p T cs l) (sound_inductive {r = r} t a le con large) =
    let ty : Plain zero T = strict_plain E all T (Sort r) t in
    let known : AllPlain (with_entry E (Inductive x co p T [] true)) = one_more_plain E (Inductive x co p T [] true) all (ty, λ k c g. absurd (none_some g)) in
    (ty, λ k c g. let h = con k c g in strict_plain (with_entry E (Inductive x co p T [] true)) known (c.ty) (Sort (h.sort)) h.typed)
sound_plain E all n (Recursive x false m r T b made) (sound_recursive {s = s} t v g) =
    let ty : Plain zero T = strict_plain E all T (Sort s) t in
    (ty, strict_plain (with_entry E (Axiom x T)) (one_more_plain E (Axiom x T) all ty) b T v)
sound_plain E all n (Recursive x true m r T b made) (sound_corecursive {s = s} t v g) =
    let ty : Plain zero T = strict_plain E all T (Sort s) t in
    (ty, strict_plain (with_entry E (Axiom x T)) (one_more_plain E (Axiom x T) all ty) b T v)

all_below : (E : Environment) → SoundEnvironment E → (k c : ℕ) (e : Declaration) → c < k → slice_get (E.entries) c ≡ Some e → EntryPlain e
all_below E sound zero c e l g = absurd (omega arith)
all_below E sound (suc k) c e l g = go (λ j d l g. all_below E sound k j d l g) (eq-or-lt_of_le (le_of_suc-le-suc l))
  where
    go : ((j : ℕ) (d : Declaration) → j < k → slice_get (E.entries) j ≡ Some d → EntryPlain d) → (c ≡ k) ⊎ (c < k) → EntryPlain e
    go ih (inl q) = sound_plain (before E c) (λ j d h. let r = taken_inv c (E.entries) j d h in ih j d (omega (arith, r.0, q)) r.1) c e (sound.entries c e g)
    go ih (inr l) = ih c e l g

-- what a sound environment declares is closed and without metavariables
pub plain_entries : (E : Environment) → SoundEnvironment E → PlainEntries E
plain_entries E sound = gathered E (λ c e g. all_below E sound (suc c) c e (omega arith) g)

-- which is what the laws ask
pub closed_environment : (E : Environment) → SoundEnvironment E → ClosedEnv E
closed_environment E sound = plain_closed E (plain_entries E sound)

-- a strict judgement over the first entries is one over all
pub from_before : (E : Environment) (c : ℕ) (w : Bool) {Γ : List Tree} {S : Store} {J : Judgement} → Holds (before E c) w S Γ J → Holds E w S Γ J
from_before E c w h = grows (before E c) E (λ j d g. (taken_inv c (E.entries) j d g).1) (λ U V h. h) w w (λ e. e) h

-- each entry's type has a sort
pub entry_typed : (E : Environment) → SoundEnvironment E → (c : ℕ) (d : Declaration) → slice_get (E.entries) c ≡ Some d → (s : AnySort) × Strict E [] (Has (declared_type d) (Sort s))
entry_typed E sound c d g = go d (sound.entries c d g)
  where
    go : (d : Declaration) → SoundEntry (before E c) c d → (s : AnySort) × Strict E [] (Has (declared_type d) (Sort s))
    go (Axiom x T) (sound_axiom {s = s} t) = (s, from_before E c false t)
    go (Definition x T b) (sound_definition {s = s} t v) = (s, from_before E c false t)
    go (Inductive x co p T cs l) (sound_inductive {r = r} t a le con large) = (r, from_before E c false t)
    go (Recursive x false m r T b made) (sound_recursive {s = s} t v h) = (s, from_before E c false t)
    go (Recursive x true m r T b made) (sound_corecursive {s = s} t v h) = (s, from_before E c false t)

-- An inductive entry's parts.
pub record InductiveFacts (n p : ℕ) (T : Tree) (cs : List Constructor) : Type 0 where
  pub sort : AnySort
  pub arity : Arity sort T
  pub enough : p ≤ products T
  pub positive : (k : ℕ) (c : Constructor) → slice_get cs k ≡ Some c → Positive n p T (c.ty)

pub inductive_facts : (E : Environment) → SoundEnvironment E → (n : ℕ) (x : Bytes) (co l : Bool) (p : ℕ) (T : Tree) (cs : List Constructor) → slice_get (E.entries) n ≡ Some (Inductive x co p T cs l) → InductiveFacts n p T cs
inductive_facts E sound n x co l p T cs g = go (sound.entries n (Inductive x co p T cs l) g)
  where
    go : SoundEntry (before E n) n (Inductive x co p T cs l) → InductiveFacts n p T cs
    go (sound_inductive {s = s} t a le con large) = record { sort = s; arity = a; enough = le; positive = λ k c h. (con k c h).positive }

-- an arity at arguments
arity_sub : {s : AnySort} {T : Tree} → Arity s T → (σ : ℕ → Tree) → Arity s (sub σ T) × (products (sub σ T) ≡ products T)
arity_sub arity_sort σ = (arity_sort, refl)
arity_sub (arity_product a) σ = let r = arity_sub a (up σ) in (arity_product r.0, ap suc r.1)

pub arity_at : {s : AnySort} {T U : Tree} {ps : Trees} → Arity s T → Instantiated T ps U → Arity s U × (products T ≡ count ps + products U)
arity_at a at_none = (a, omega arith)
arity_at (arity_product a) (at_more {a = u} {T = U} {s = ps} i) =
    let b = arity_sub a (one u) in
    let r = arity_at b.0 i in
    (r.0, omega (arith, r.1, b.1))

-- the parameters under a substitution
parameters_past : (τ : Tree) (σ : ℕ → Tree) (q d : ℕ) → tr_all Meta (then_as τ σ) (parameters q (suc d)) ≡ tr_all Meta σ (parameters q d)
parameters_past τ σ zero d = refl
parameters_past τ σ (suc q) d = ap₂ Item (ap (then_as τ σ) e) (parameters_past τ σ q d)
  where
    e : suc d + q ≡ suc (d + q)
    e = omega arith

parameters_up : (σ : ℕ → Tree) (q d : ℕ) → tr_all Meta (up σ) (parameters q (suc d)) ≡ ren_all suc (tr_all Meta σ (parameters q d))
parameters_up σ zero d = refl
parameters_up σ (suc q) d = ap₂ Item (ap (up σ) e) (parameters_up σ q d)
  where
    e : suc d + q ≡ suc (d + q)
    e = omega arith

parameters_snoc : (q d : ℕ) → parameters (suc q) d ≡ snoc (parameters q (suc d)) (Var d)
parameters_snoc zero d = ap (λ i. Item (Var i) End) (omega arith)
parameters_snoc (suc q) d = ap₂ Item (ap Var e) (parameters_snoc q d)
  where
    e : d + suc q ≡ suc d + q
    e = omega arith

all_snoc : (σ : ℕ → Tree) (s : Trees) (a : Tree) → tr_all Meta σ (snoc s a) ≡ snoc (tr_all Meta σ s) (sub σ a)
all_snoc σ End a = refl
all_snoc σ (Item t s) a = ap (Item (sub σ t)) (all_snoc σ s a)

-- a constructor's type past the parameters, at what is put for these
results_past : (n q i : ℕ) {d : ℕ} {C : Tree} → PositiveArguments n q i d C → (σ : ℕ → Tree) (ps : Trees) → tr_all Meta σ (parameters q d) ≡ ps → ConResult n i ps (sub σ C)
results_past n q i (result {d = d} us m a) σ ps e =
    subst (ConResult n i ps) (sym (spine_tr Meta σ n (parameters q d) us ∙ ap (λ r. apps (apps (Ind n) r) (tr_all Meta σ us)) e)) (r_end (tr_all Meta σ us) (count_tr Meta σ us ∙ m))
results_past n q i (plain_argument {d = d} a h) σ ps e = r_more (results_past n q i h (up σ) (ren_all suc ps) (parameters_up σ q d ∙ ap (ren_all suc) e))
results_past n q i (recursive_argument {d = d} a h) σ ps e = r_more (results_past n q i h (up σ) (ren_all suc ps) (parameters_up σ q d ∙ ap (ren_all suc) e))

at_all : {T U : Tree} {s : Trees} → Instantiated T s U → count s ≡ zero → T ≡ U
at_all at_none e = refl
at_all (at_more i) e = absurd (omega (arith, e))

no_terms : (s : Trees) → count s ≡ zero → s ≡ End
no_terms End e = refl
no_terms (Item t s) e = absurd (omega (arith, e))

one_after : (a : Tree) (σ : ℕ → Tree) (B : Tree) → sub (one a) (sub (up σ) B) ≡ sub (then_as a σ) B
one_after a σ B = sub_tr Meta meta_steady (one a) (up σ) B ∙ ap (λ τ. sub τ B) (fun_ext go)
  where
    go : (j : ℕ) → sub (one a) (up σ j) ≡ then_as a σ j
    go zero = refl
    go (suc j) = tr_ren Meta (one a) suc (σ j) ∙ sub_id (σ j)

join_snoc_end : (s : Trees) (a : Tree) (r : Trees) → join (snoc s a) r ≡ join s (Item a r)
join_snoc_end End a r = refl
join_snoc_end (Item b s) a r = ap (Item b) (join_snoc_end s a r)

join_none : (s : Trees) → join s End ≡ s
join_none End = refl
join_none (Item b s) = ap (Item b) (join_none s)

-- at parameters of which the first are put already
results_from : (n i : ℕ) {p q : ℕ} {T C : Tree} → PositiveFrom n i p q T C → (σ : ℕ → Tree) (done : Trees) → tr_all Meta σ (parameters q zero) ≡ done → {V U : Tree} {ps : Trees} → Instantiated V ps U → V ≡ sub σ C → count ps ≡ p → ConResult n i (join done ps) U
results_from n i (past_parameters {q = q} h) σ done e {ps = ps} inst v m =
    let same = sym v ∙ at_all inst m in
    let last : join done ps ≡ done = ap (join done) (no_terms ps m) ∙ join_none done in
    subst₂ (ConResult n i) (sym last) same (results_past n q i h σ done e)
results_from n i (parameter {q = q} {y = y} {A' = A'} {D = D} l h) σ done e at_none v m = absurd (omega (arith, m))
results_from n i (parameter {q = q} {y = y} {A' = A'} {D = D} l h) σ done e (at_more {x = x} {A = A} {B = B} {a = a} {T = U} {s = ps} inst) v m =
    let w : B ≡ sub (up σ) D = ap cod_of v in
    let done' : tr_all Meta (then_as a σ) (parameters (suc q) zero) ≡ snoc done a = ap (tr_all Meta (then_as a σ)) (parameters_snoc q zero) ∙ all_snoc (then_as a σ) (parameters q (suc zero)) (Var zero) ∙ ap (λ r. snoc r a) (parameters_past a σ q zero ∙ e) in
    subst (λ r. ConResult n i r U) (join_snoc_end done a ps)
    (results_from n i h (then_as a σ) (snoc done a) done' inst (ap (sub (one a)) w ∙ one_after a σ D) (omega (arith, m)))
  where
    cod_of : Tree → Tree
    cod_of (Prod x A B) = B
    cod_of t = t

same_prefix : (E : Environment) (S : Store) (n i : ℕ) {p q : ℕ} {T C : Tree} → PositiveFrom n i p q T C → SamePrefix E S p T C
same_prefix E S n i (past_parameters h) = sp_zero
same_prefix E S n i (parameter {A = A} {A' = A'} l h) = sp_suc (alike_conv E S A A' l) (same_prefix E S n i h)

-- a constructor's type at parameters ends in its type on these and its indices
pub constructor_result : (E : Environment) → SoundEnvironment E → (e k : ℕ) (C : Tree) (o : ConstructorOf E e k C) (ps : Trees) (U V : Tree) → Instantiated C ps U → Instantiated (o.ty) ps V → count ps ≡ o.params → ConResult e (products V) ps U
constructor_result E sound e k C o ps U V i j m =
    let f = inductive_facts E sound e o.name o.co o.large o.params o.ty o.cons o.entry in
    let a = arity_at f.arity j in
    let q : products o.ty - o.params ≡ products V = omega (arith, a.1, m) in
    subst (λ q. ConResult e q ps U) q (results_from e (products o.ty - o.params) (f.positive k _ o.con) Var End refl i (sym (sub_id C)) m)

-- a constructor's parameters are those of its type
pub constructor_prefix : (E : Environment) → SoundEnvironment E → (S : Store) (e k : ℕ) (C : Tree) (o : ConstructorOf E e k C) → SamePrefix E S (o.params) (o.ty) C
constructor_prefix E sound S e k C o =
    let f = inductive_facts E sound e o.name o.co o.large o.params o.ty o.cons o.entry in
    same_prefix E S e (products o.ty - o.params) (f.positive k _ o.con)
