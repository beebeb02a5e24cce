-- What a store says, number by number, and as its pool grows.
use Rattle.std.proofs.Common.{◌≡◌, ◌≢◌, ◌<◌, ◌≤◌, ◌++◌, Bool, true, false, not, ℕ, zero, suc, List, [], ◌∷◌, length, Option, Some, None, slice_get, slice_set, slice_index_or, option_map, refl, sym, ap, subst, ◌∙◌, arith}
use Rattle.std.specs.Option.{is_some, is_none}
use Rattle.std.proofs.lemmas.List.{length-map}
use Rattle.std.proofs.lemmas.Option.{slice_get-map, slice_get_past, slice_get_within}
use Rattle.mt_term.specs.Trees.{Tree}
use Rattle.mt_term.specs.Declarations.{Hypothesis}
use Rattle.mt_term.specs.Instancing.{assigned_body}
use Rattle.mt_term.specs.States.{Metavariable, meta_context, meta_type, meta_with_body, is_open}
use Rattle.mt_term.specs.StoreChanges.{Puts, with_body}
use Rattle.mt_term.specs.Stores.{Declared, store_of, types_of, body_of}
use Rattle.mt_pool.specs.declared.nodes.TermId.{TermId}
use Rattle.mt_pool.specs.declared.contexts.HeldHyp.{HeldHyp}
use Rattle.mt_pool.specs.HeldOf.{hypotheses_in, ContextBelow}
use Rattle.mt_pool.specs.Region.{tree_at, Kept}
use Rattle.mt_pool.proofs.Region.{tree-kept, length-kept}
use Rattle.mt_store.specs.declared.metavariables.HeldMeta.{HeldMeta}
use Rattle.mt_store.specs.Held.{body_in, metavariable_in, metavariables_in, metas_in, declared_in, store_in, assigned, new_meta, new_in, context_of, type_of, BodyBelow, MetaBelow, MetasBelow, StoreBelow, IsOpen}

-- the metavariable of a number
at_number : (p : List Tree) (ms : List HeldMeta) (n : ℕ) → (store_of (metavariables_in p ms)).at n ≡ option_map (declared_in p) (slice_get ms n)
at_number p [] n = refl
at_number p (m ∷ ms) zero = refl
at_number p (m ∷ ms) (suc n) = at_number p ms n

pub store_at : (p : List Tree) (ms : List HeldMeta) (n : ℕ) → (store_in p ms).at n ≡ option_map (declared_in p) (slice_get ms n)
unfolding store_in
store_at p ms n = at_number p ms n

pub store_some : (p : List Tree) (ms : List HeldMeta) (n : ℕ) (m : HeldMeta) → slice_get ms n ≡ Some m → (store_in p ms).at n ≡ Some (declared_in p m)
store_some p ms n m e = store_at p ms n ∙ ap (option_map (declared_in p)) e

pub store_none : (p : List Tree) (ms : List HeldMeta) (n : ℕ) → slice_get ms n ≡ None → (store_in p ms).at n ≡ None
store_none p ms n e = store_at p ms n ∙ ap (option_map (declared_in p)) e

-- the same of the list of metavariables
metas_at : (p : List Tree) (ms : List HeldMeta) (n : ℕ) → slice_get (metas_in p ms) n ≡ option_map (metavariable_in p) (slice_get ms n)
unfolding metas_in
metas_at p ms n = slice_get-map (metavariable_in p) ms n

pub metas_some : (p : List Tree) (ms : List HeldMeta) (n : ℕ) (m : HeldMeta) → slice_get ms n ≡ Some m → slice_get (metas_in p ms) n ≡ Some (metavariable_in p m)
metas_some p ms n m e = metas_at p ms n ∙ ap (option_map (metavariable_in p)) e

pub metas_none : (p : List Tree) (ms : List HeldMeta) (n : ℕ) → slice_get ms n ≡ None → slice_get (metas_in p ms) n ≡ None
metas_none p ms n e = metas_at p ms n ∙ ap (option_map (metavariable_in p)) e

pub metas_count : (p : List Tree) (ms : List HeldMeta) → length (metas_in p ms) ≡ length ms
unfolding metas_in
metas_count p ms = length-map ms (metavariable_in p)

pub store_is : (p : List Tree) (ms : List HeldMeta) → store_in p ms ≡ store_of (metas_in p ms)
unfolding store_in metas_in
store_is p ms = refl

pub context_meta : (p : List Tree) (ms : List HeldMeta) (n : ℕ) (m : HeldMeta) → slice_get ms n ≡ Some m → option_map meta_context (slice_get (metas_in p ms) n) ≡ Some (hypotheses_in p m.context)
context_meta p ms n m e = ap (option_map meta_context) (metas_some p ms n m e)

pub type_meta : (p : List Tree) (ms : List HeldMeta) (n : ℕ) (m : HeldMeta) → slice_get ms n ≡ Some m → option_map meta_type (slice_get (metas_in p ms) n) ≡ Some (tree_at p m.ty)
type_meta p ms n m e = ap (option_map meta_type) (metas_some p ms n m e)

pub body_meta : (p : List Tree) (ms : List HeldMeta) (n : ℕ) (m : HeldMeta) → slice_get ms n ≡ Some m → body_in p m.body ≡ assigned_body (slice_get (metas_in p ms) n)
body_meta p ms n m e = sym (ap assigned_body (metas_some p ms n m e))

pub no_body_meta : (p : List Tree) (ms : List HeldMeta) (n : ℕ) → slice_get ms n ≡ None → assigned_body (slice_get (metas_in p ms) n) ≡ None
no_body_meta p ms n e = ap assigned_body (metas_none p ms n e)

pub open_meta : (p : List Tree) (ms : List HeldMeta) (n : ℕ) (m : HeldMeta) (b : Bool) → slice_get ms n ≡ Some m → is_some m.body ≡ not b → b ≡ is_open (slice_get (metas_in p ms) n)
open_meta p ms n m b e t = sym (ap is_open (metas_some p ms n m e) ∙ none m.body ∙ ap not t ∙ twice b)
  where
    none : (o : Option TermId) → is_none (body_in p o) ≡ not (is_some o)
    none None = refl
    none (Some x) = refl

    twice : (c : Bool) → not (not c) ≡ c
    twice true = refl
    twice false = refl

pub no_open_meta : (p : List Tree) (ms : List HeldMeta) (n : ℕ) → slice_get ms n ≡ None → false ≡ is_open (slice_get (metas_in p ms) n)
no_open_meta p ms n e = sym (ap is_open (metas_none p ms n e))

-- a metavariable from its parts
pub meta_known : (o : Option Metavariable) (Γ : List Hypothesis) (T : Tree) (b : Option Tree) → option_map meta_context o ≡ Some Γ → option_map meta_type o ≡ Some T → assigned_body o ≡ b → o ≡ Some (record { context = Γ; ty = T; body = b })
meta_known None Γ T b c t e = absurd cc
meta_known (Some m) Γ T b c t e =
    let c' : m.context ≡ Γ = cc in
    let t' : m.ty ≡ T = cc in
    λ i. Some (record { context = c' i; ty = t' i; body = e i })

pub declared_known : (o : Option Declared) (Γ : List Tree) (T : Tree) (b : Option Tree) → option_map context_of o ≡ Some Γ → option_map type_of o ≡ Some T → body_of o ≡ b → o ≡ Some (record { context = Γ; ty = T; body = b })
declared_known None Γ T b c t e = absurd cc
declared_known (Some d) Γ T b c t e =
    let c' : d.context ≡ Γ = cc in
    let t' : d.ty ≡ T = cc in
    λ i. Some (record { context = c' i; ty = t' i; body = e i })

pub context_said : (p : List Tree) (ms : List HeldMeta) (n : ℕ) (m : HeldMeta) → slice_get ms n ≡ Some m → option_map context_of ((store_in p ms).at n) ≡ Some (types_of (hypotheses_in p m.context))
context_said p ms n m e = ap (option_map context_of) (store_some p ms n m e)

pub type_said : (p : List Tree) (ms : List HeldMeta) (n : ℕ) (m : HeldMeta) → slice_get ms n ≡ Some m → option_map type_of ((store_in p ms).at n) ≡ Some (tree_at p m.ty)
type_said p ms n m e = ap (option_map type_of) (store_some p ms n m e)

pub body_said : (p : List Tree) (ms : List HeldMeta) (n : ℕ) (m : HeldMeta) → slice_get ms n ≡ Some m → body_in p m.body ≡ body_of ((store_in p ms).at n)
body_said p ms n m e = sym (ap body_of (store_some p ms n m e))

pub no_body_said : (p : List Tree) (ms : List HeldMeta) (n : ℕ) → slice_get ms n ≡ None → body_of ((store_in p ms).at n) ≡ None
no_body_said p ms n e = ap body_of (store_none p ms n e)

-- what a store holds at a number is held
metas_below : (k : ℕ) (ms : List HeldMeta) (n : ℕ) (m : HeldMeta) → MetasBelow k ms → slice_get ms n ≡ Some m → MetaBelow k m
metas_below k [] n m b e = absurd cc
metas_below k (x ∷ ms) zero m b e = let same : x ≡ m = cc in subst (MetaBelow k) same b.0
metas_below k (x ∷ ms) (suc n) m b e = metas_below k ms n m b.1 e

pub meta_below : (k : ℕ) (ms : List HeldMeta) (n : ℕ) (m : HeldMeta) → StoreBelow k ms → slice_get ms n ≡ Some m → MetaBelow k m
unfolding StoreBelow
meta_below k ms n m b e = metas_below k ms n m b e

pub context_below : (k : ℕ) (ms : List HeldMeta) (n : ℕ) (m : HeldMeta) → StoreBelow k ms → slice_get ms n ≡ Some m → ContextBelow k m.context
context_below k ms n m b e = (meta_below k ms n m b e).0

pub type_below : (k : ℕ) (ms : List HeldMeta) (n : ℕ) (m : HeldMeta) → StoreBelow k ms → slice_get ms n ≡ Some m → m.ty.at < k
type_below k ms n m b e = (meta_below k ms n m b e).1

pub body_below : (k : ℕ) (ms : List HeldMeta) (n : ℕ) (m : HeldMeta) → StoreBelow k ms → slice_get ms n ≡ Some m → BodyBelow k m.body
body_below k ms n m b e = (meta_below k ms n m b e).2

-- an open metavariable
pub open_said : (p : List Tree) (ms : List HeldMeta) (n : ℕ) (m : HeldMeta) → slice_get ms n ≡ Some m → m.body ≡ None → IsOpen (store_in p ms) n
open_said p ms n m e o = record { declared = declared_in p m; there = store_some p ms n m e; no_body = ap (body_in p) o }

open_is : (p : List Tree) (ms : List HeldMeta) (n : ℕ) → IsOpen (store_in p ms) n → (m : HeldMeta) × (slice_get ms n ≡ Some m) × (m.body ≡ None)
open_is p ms n o = by (slice_get ms n) refl
  where
    no_body : (b : Option TermId) → body_in p b ≡ None → b ≡ None
    no_body None e = refl
    no_body (Some t) e = cc

    by : (s : Option HeldMeta) → slice_get ms n ≡ s → (m : HeldMeta) × (slice_get ms n ≡ Some m) × (m.body ≡ None)
    by None e = let no : ⊥ = let f : Some o.declared ≡ None = sym o.there ∙ store_none p ms n e in cc in absurd no
    by (Some m) e =
        let f : Some (declared_in p m) ≡ Some o.declared = sym (store_some p ms n m e) ∙ o.there in
        let g : declared_in p m ≡ o.declared = cc in
        (m, e, no_body m.body (ap (λ (d : Declared). d.body) g ∙ o.no_body))

pub open_there : (p : List Tree) (ms : List HeldMeta) (n : ℕ) → IsOpen (store_in p ms) n → n < length ms
open_there p ms n o = let m = open_is p ms n o in slice_get_within ms n m.0 m.1

-- the test of an open one
pub open_tells : (p : List Tree) (ms : List HeldMeta) (n : ℕ) (m : HeldMeta) (b : Bool) → slice_get ms n ≡ Some m → is_some m.body ≡ not b → b ≡ true → IsOpen (store_in p ms) n
open_tells p ms n m b e t y = open_said p ms n m e (none m.body (t ∙ ap not y))
  where
    none : (o : Option TermId) → is_some o ≡ false → o ≡ None
    none None e = refl
    none (Some x) e = cc

pub open_told : (p : List Tree) (ms : List HeldMeta) (n : ℕ) (m : HeldMeta) (b : Bool) → slice_get ms n ≡ Some m → is_some m.body ≡ not b → IsOpen (store_in p ms) n → b ≡ true
open_told p ms n m b e t o = let h = open_is p ms n o in closed b (sym t ∙ ap (λ (x : HeldMeta). is_some x.body) (same h.0 h.1) ∙ ap is_some h.2)
  where
    closed : (c : Bool) → not c ≡ false → c ≡ true
    closed true e = refl
    closed false e = cc

    same : (x : HeldMeta) → slice_get ms n ≡ Some x → m ≡ x
    same x f = let g : Some m ≡ Some x = sym e ∙ f in cc

pub open_none : (p : List Tree) (ms : List HeldMeta) (n : ℕ) → slice_get ms n ≡ None → IsOpen (store_in p ms) n → ⊥
open_none p ms n e o = let h = open_is p ms n o in let f : Some h.0 ≡ None = sym h.1 ∙ e in cc

pub ruleset lookups = (context_meta, type_meta, body_meta, no_body_meta, open_meta, no_open_meta, context_said, type_said, body_said, no_body_said, context_below, type_below, body_below, open_tells, open_told, open_none)

-- a new metavariable
new_at : (ms : List HeldMeta) (m : HeldMeta) → slice_get (ms ++ m ∷ []) (length ms) ≡ Some m
new_at [] m = refl
new_at (x ∷ ms) m = new_at ms m

new_others : (ms : List HeldMeta) (m : HeldMeta) (n : ℕ) → length ms ≢ n → slice_get (ms ++ m ∷ []) n ≡ slice_get ms n
new_others [] m zero h = absurd (h refl)
new_others [] m (suc n) h = refl
new_others (x ∷ ms) m zero h = refl
new_others (x ∷ ms) m (suc n) h = new_others ms m n (λ e. h (ap suc e))

pub fresh_new : (p : List Tree) (ms : List HeldMeta) (n : ℕ) → n ≡ length ms → (store_in p ms).at n ≡ None
fresh_new p ms n e = store_none p ms n (slice_get_past ms n (omega (arith, e)))

pub puts_new : (p : List Tree) (ms : List HeldMeta) (n : ℕ) (Γ : List HeldHyp) (t : TermId) (new : List HeldMeta) → n ≡ length ms → new ≡ ms ++ new_meta Γ t ∷ [] → Puts (store_in p ms) n (new_in p Γ t) (store_in p new)
puts_new p ms n Γ t new e f = subst (λ (hs : List HeldMeta). Puts (store_in p ms) n (new_in p Γ t) (store_in p hs)) (sym f) (subst (λ i. Puts (store_in p ms) i (new_in p Γ t) (store_in p (ms ++ new_meta Γ t ∷ []))) (sym e) put)
  where
    put : Puts (store_in p ms) (length ms) (new_in p Γ t) (store_in p (ms ++ new_meta Γ t ∷ []))
    put = record {
      new = store_some p (ms ++ new_meta Γ t ∷ []) (length ms) (new_meta Γ t) (new_at ms (new_meta Γ t));
      others = λ k h. store_at p (ms ++ new_meta Γ t ∷ []) k ∙ ap (option_map (declared_in p)) (new_others ms (new_meta Γ t) k h) ∙ sym (store_at p ms k);
    }

pub metas_new : (p : List Tree) (ms : List HeldMeta) (Γ : List HeldHyp) (t : TermId) (new : List HeldMeta) → new ≡ ms ++ new_meta Γ t ∷ [] → metas_in p new ≡ metas_in p ms ++ metavariable_in p (new_meta Γ t) ∷ []
unfolding metas_in
metas_new p ms Γ t new e = ap (metavariables_in p) e ∙ after ms
  where
    after : (hs : List HeldMeta) → metavariables_in p (hs ++ new_meta Γ t ∷ []) ≡ metavariables_in p hs ++ metavariable_in p (new_meta Γ t) ∷ []
    after [] = refl
    after (x ∷ hs) = ap (λ (l : List Metavariable). metavariable_in p x ∷ l) (after hs)

metas_then : (k : ℕ) (ms : List HeldMeta) (m : HeldMeta) → MetasBelow k ms → MetaBelow k m → MetasBelow k (ms ++ m ∷ [])
metas_then k [] m b h = (h, tt)
metas_then k (x ∷ ms) m b h = (b.0, metas_then k ms m b.1 h)

pub below_new : (k : ℕ) (ms : List HeldMeta) (Γ : List HeldHyp) (t : TermId) → StoreBelow k ms → ContextBelow k Γ → t.at < k → StoreBelow k (ms ++ new_meta Γ t ∷ [])
unfolding StoreBelow
below_new k ms Γ t b c l = metas_then k ms (new_meta Γ t) b (c, l, tt)

-- a metavariable with a body
abbrev given_body : TermId → HeldMeta → HeldMeta
given_body t m = record m { body = Some t }

assigned_at : (ms : List HeldMeta) (n : ℕ) (t : TermId) (m : HeldMeta) → slice_get ms n ≡ Some m → slice_get (assigned ms n t) n ≡ Some (given_body t m)
assigned_at [] n t m e = absurd cc
assigned_at (x ∷ ms) zero t m e = let same : x ≡ m = cc in ap (λ y. Some (given_body t y)) same
assigned_at (x ∷ ms) (suc n) t m e = assigned_at ms n t m e

assigned_others : (ms : List HeldMeta) (n : ℕ) (t : TermId) (k : ℕ) → n ≢ k → slice_get (assigned ms n t) k ≡ slice_get ms k
assigned_others [] n t k h = refl
assigned_others (x ∷ ms) zero t zero h = absurd (h refl)
assigned_others (x ∷ ms) zero t (suc k) h = refl
assigned_others (x ∷ ms) (suc n) t zero h = refl
assigned_others (x ∷ ms) (suc n) t (suc k) h = assigned_others ms n t k (λ e. h (ap suc e))

pub puts_assigned : (p : List Tree) (ms : List HeldMeta) (n : ℕ) (t : TermId) (new : List HeldMeta) → IsOpen (store_in p ms) n → new ≡ assigned ms n t → (d : Declared) → (store_in p ms).at n ≡ Some d → Puts (store_in p ms) n (with_body d (tree_at p t)) (store_in p new)
puts_assigned p ms n t new o q d h = subst (λ (hs : List HeldMeta). Puts (store_in p ms) n (with_body d (tree_at p t)) (store_in p hs)) (sym q) put
  where
    m : (m : HeldMeta) × (slice_get ms n ≡ Some m) × (m.body ≡ None)
    m = open_is p ms n o

    same : declared_in p m.0 ≡ d
    same = let f : Some (declared_in p m.0) ≡ Some d = sym (store_some p ms n m.0 m.1) ∙ h in cc

    put : Puts (store_in p ms) n (with_body d (tree_at p t)) (store_in p (assigned ms n t))
    put = record {
      new = store_some p (assigned ms n t) n (given_body t m.0) (assigned_at ms n t m.0 m.1) ∙ ap (λ (c : Declared). Some (with_body c (tree_at p t))) same;
      others = λ k x. store_at p (assigned ms n t) k ∙ ap (option_map (declared_in p)) (assigned_others ms n t k x) ∙ sym (store_at p ms k);
    }

pub metas_given : (p : List Tree) (ms : List HeldMeta) (n : ℕ) (t : TermId) (new : List HeldMeta) → new ≡ assigned ms n t → (m : Metavariable) → slice_get (metas_in p ms) n ≡ Some m → metas_in p new ≡ slice_set (metas_in p ms) n (meta_with_body m (tree_at p t))
unfolding metas_in
metas_given p ms n t new e m h = ap (metavariables_in p) e ∙ by ms n h
  where
    by : (hs : List HeldMeta) (k : ℕ) → slice_get (metavariables_in p hs) k ≡ Some m → metavariables_in p (assigned hs k t) ≡ slice_set (metavariables_in p hs) k (meta_with_body m (tree_at p t))
    by [] k h = absurd cc
    by (x ∷ hs) zero h =
        let same : metavariable_in p x ≡ m = cc in
        ap (λ (y : Metavariable). meta_with_body y (tree_at p t) ∷ metavariables_in p hs) same
    by (x ∷ hs) (suc k) h = ap (λ (l : List Metavariable). metavariable_in p x ∷ l) (by hs k h)

metas_assigned : (k : ℕ) (ms : List HeldMeta) (n : ℕ) (t : TermId) → MetasBelow k ms → t.at < k → MetasBelow k (assigned ms n t)
metas_assigned k [] n t b l = tt
metas_assigned k (x ∷ ms) zero t b l = ((b.0.0, b.0.1, l), b.1)
metas_assigned k (x ∷ ms) (suc n) t b l = (b.0, metas_assigned k ms n t b.1 l)

pub below_assigned : (k : ℕ) (ms : List HeldMeta) (n : ℕ) (t : TermId) → StoreBelow k ms → t.at < k → StoreBelow k (assigned ms n t)
unfolding StoreBelow
below_assigned k ms n t b l = metas_assigned k ms n t b l

-- ids at a place
pub hypothesis_at : (k : ℕ) (Γ : List HeldHyp) (i : ℕ) (d : HeldHyp) → ContextBelow k Γ → i < length Γ → (slice_index_or Γ i d).ty.at < k
hypothesis_at k [] i d h l = absurd (omega arith)
hypothesis_at k (x ∷ Γ) zero d h l = h.0
hypothesis_at k (x ∷ Γ) (suc i) d h l = hypothesis_at k Γ i d h.1 (omega arith)

pub held_at : (k : ℕ) (ms : List HeldMeta) (i : ℕ) (d : HeldMeta) → StoreBelow k ms → i < length ms → MetaBelow k (slice_index_or ms i d)
unfolding StoreBelow
held_at k ms i d h l = go ms i h l
  where
    go : (hs : List HeldMeta) (j : ℕ) → MetasBelow k hs → j < length hs → MetaBelow k (slice_index_or hs j d)
    go [] j h l = absurd (omega arith)
    go (x ∷ hs) zero h l = h.0
    go (x ∷ hs) (suc j) h l = go hs j h.1 (omega arith)

pub ruleset places = (hypothesis_at, held_at)

pub ruleset changes = (fresh_new, metas_new, puts_new, below_new, metas_given, puts_assigned, below_assigned, open_there)

-- a write is an assignment
pub set_assigned : (ms : List HeldMeta) (n : ℕ) (t : TermId) (m : HeldMeta) → n < length ms → m ≡ slice_index_or ms n m → slice_set ms n (given_body t m) ≡ assigned ms n t
set_assigned [] n t m l e = absurd (omega arith)
set_assigned (x ∷ ms) zero t m l e = ap (λ y. given_body t y ∷ ms) e
set_assigned (x ∷ ms) (suc n) t m l e = ap (λ (k : List HeldMeta). x ∷ k) (set_assigned ms n t m (omega arith) e)

-- as the pool grows
context_kept : (p q : List Tree) (Γ : List HeldHyp) → Kept p q → ContextBelow (length p) Γ → hypotheses_in q Γ ≡ hypotheses_in p Γ
context_kept p q [] k b = refl
context_kept p q (x ∷ Γ) k b = λ i. record { name = x.name; ty = tree-kept p q x.ty k b.0 i } ∷ context_kept p q Γ k b.1 i

body_kept : (p q : List Tree) (o : Option TermId) → Kept p q → BodyBelow (length p) o → body_in q o ≡ body_in p o
body_kept p q None k b = refl
body_kept p q (Some t) k b = ap (λ (u : Tree). Some u) (tree-kept p q t k b)

metas_kept : (p q : List Tree) (ms : List HeldMeta) → Kept p q → MetasBelow (length p) ms → metavariables_in q ms ≡ metavariables_in p ms
metas_kept p q [] k b = refl
metas_kept p q (m ∷ ms) k b = λ i. record { context = context_kept p q m.context k b.0.0 i; ty = tree-kept p q m.ty k b.0.1 i; body = body_kept p q m.body k b.0.2 i } ∷ metas_kept p q ms k b.1 i

pub store-kept : (p q : List Tree) (ms : List HeldMeta) → Kept p q → StoreBelow (length p) ms → store_in q ms ≡ store_in p ms
unfolding store_in StoreBelow
store-kept p q ms k b = ap store_of (metas_kept p q ms k b)

pub metas-kept : (p q : List Tree) (ms : List HeldMeta) → Kept p q → StoreBelow (length p) ms → metas_in q ms ≡ metas_in p ms
unfolding metas_in StoreBelow
metas-kept p q ms k b = metas_kept p q ms k b

context_more : (n m : ℕ) (Γ : List HeldHyp) → n ≤ m → ContextBelow n Γ → ContextBelow m Γ
context_more n m [] l b = tt
context_more n m (x ∷ Γ) l b = (omega (arith, b.0), context_more n m Γ l b.1)

body_more : (n m : ℕ) (o : Option TermId) → n ≤ m → BodyBelow n o → BodyBelow m o
body_more n m None l b = tt
body_more n m (Some t) l b = omega (arith, b)

metas_more : (n m : ℕ) (ms : List HeldMeta) → n ≤ m → MetasBelow n ms → MetasBelow m ms
metas_more n m [] l b = tt
metas_more n m (x ∷ ms) l b = ((context_more n m x.context l b.0.0, omega (arith, b.0.1), body_more n m x.body l b.0.2), metas_more n m ms l b.1)

pub store-below : (p q : List Tree) (ms : List HeldMeta) → Kept p q → StoreBelow (length p) ms → StoreBelow (length q) ms
unfolding StoreBelow
store-below p q ms k b = metas_more _ _ ms (length-kept p q k) b

pub none-below : (n : ℕ) (ms : List HeldMeta) → ms ≡ [] → StoreBelow n ms
unfolding StoreBelow
none-below n ms e = subst (MetasBelow n) (sym e) tt

pub ruleset store_rules = (store-kept, metas-kept, store-below, none-below)
