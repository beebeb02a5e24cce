-- A search: what is true of the ids that it has found.
use Rattle.std.proofs.Common.{◌≡◌, ◌<◌, ◌+◌, ℕ, zero, suc, true, false, List, [], ◌∷◌, ◌++◌, length, take, Option, Some, None, slice_get, option_map, refl, sym, ap, subst, ◌∙◌, add-one, true≢false, ◌⊎◌, inl, inr}
use Rattle.std.proofs.lemmas.Bool.{eqb-true, eq-eqb}
use Rattle.mt_term.specs.Trees.{Tree, Bytes}
use Rattle.mt_term.specs.Stores.{Declared, declared_as, types_onto, Reaches, at_once, Mentions}
use Rattle.mt_pool.specs.declared.nodes.TermId.{TermId}
use Rattle.mt_pool.specs.declared.nodes.Node.{Node}
use Rattle.mt_pool.specs.declared.nodes.Node.TheVariants.{Var as VarNode, Sort as SortNode, Prod as ProdNode, Lam as LamNode, App as AppNode, Const as ConstNode, Ind as IndNode, Con as ConNode, Match as MatchNode, Meta as MetaNode}
use Rattle.mt_pool.specs.declared.contexts.HeldHyp.{HeldHyp}
use Rattle.mt_pool.specs.HeldOf.{hypotheses_in, ContextBelow}
use Rattle.mt_pool.specs.Region.{tree_at, trees_at, arms_at, tree_in, ids_of, branches_of, AllBelow, ArmsBelow, Below}
use Rattle.mt_pool.proofs.Region.{node-held}
use Rattle.mt_store.specs.declared.metavariables.HeldMeta.{HeldMeta}
use Rattle.mt_store.specs.Held.{body_in, metavariable_in, declared_in, store_in, MetasBelow, StoreBelow, BodyBelow}
use Rattle.mt_store.specs.Search.{IsFound, Adds, bodies_of, types_held, body_ids, held_ids, some_ids, ids_at, next_ids, is_meta}
use Rattle.mt_store.proofs.HeldLaws.{store_at}
use Rattle.mt_store.proofs.AddLaws.{found_before, found_after, found_either, found_of, still_found, found_by}
use Rattle.mt_store.proofs.ReachLaws.{EachTerm, EachBody, EachType, EachHeld, Spread, IsOther, Expanded, Leads, leads_on, expanded_more, never_reached}

-- a set has the tree of each id
abbrev pub OfIds : List Tree → (Tree → Type 0) → List TermId → Type 0
OfIds p P ks = (k : TermId) → IsFound ks k → P (tree_at p k)

-- a set of trees, each named by one of these ids
abbrev pub Named : List Tree → List TermId → Tree → Type 0
Named p ks t = (k : TermId) × IsFound ks k × (tree_at p k ≡ t)

module _ (p : List Tree) (P : Tree → Type 0) where
  terms_of : (ks : List TermId) → OfIds p P ks → EachTerm P (trees_at p ks)
  terms_of [] h = tt
  terms_of (k ∷ ks) h = (h k (inl refl), terms_of ks (λ j x. h j (inr x)))

  of_terms : (ks : List TermId) → EachTerm P (trees_at p ks) → OfIds p P ks
  of_terms [] h j x = absurd x
  of_terms (k ∷ ks) h j (inl e) = subst (λ (i : TermId). P (tree_at p i)) e h.0
  of_terms (k ∷ ks) h j (inr x) = of_terms ks h.1 j x

  bodies : (bs : List (List Bytes × TermId)) → OfIds p P (bodies_of bs) → EachBody P (arms_at p bs)
  bodies [] h = tt
  bodies (b ∷ bs) h = (h b.1 (inl refl), bodies bs (λ j x. h j (inr x)))

  of_bodies : (bs : List (List Bytes × TermId)) → EachBody P (arms_at p bs) → OfIds p P (bodies_of bs)
  of_bodies [] h j x = absurd x
  of_bodies (b ∷ bs) h j (inl e) = subst (λ (i : TermId). P (tree_at p i)) e h.0
  of_bodies (b ∷ bs) h j (inr x) = of_bodies bs h.1 j x

  -- the types of a context, which stand the other way round
  types : (Γ : List HeldHyp) (Δ : List Tree) → OfIds p P (types_held Γ) → EachType P Δ → EachType P (types_onto (hypotheses_in p Γ) Δ)
  types [] Δ h d = d
  types (x ∷ Γ) Δ h d = types Γ (tree_at p x.ty ∷ Δ) (λ j a. h j (inr a)) (h x.ty (inl refl), d)

  of_types : (Γ : List HeldHyp) (Δ : List Tree) → EachType P (types_onto (hypotheses_in p Γ) Δ) → OfIds p P (types_held Γ) × EachType P Δ
  of_types [] Δ h = (λ j a. absurd a, h)
  of_types (x ∷ Γ) Δ h =
      let r = of_types Γ (tree_at p x.ty ∷ Δ) h in
      (λ j a. one r.0 r.1.0 j a, r.1.1)
    where
      one : OfIds p P (types_held Γ) → P (tree_at p x.ty) → OfIds p P (x.ty ∷ types_held Γ)
      one r f j (inl e) = subst (λ (i : TermId). P (tree_at p i)) e f
      one r f j (inr a) = r j a

  -- what a metavariable holds
  held : (m : HeldMeta) → OfIds p P (held_ids m) → EachHeld P (declared_as (metavariable_in p m))
  held m h = record {
    context = types m.context [] (λ j a. h j (found_before (types_held m.context) (m.ty ∷ body_ids m.body) j a)) tt;
    ty = h m.ty (found_after (types_held m.context) (m.ty ∷ body_ids m.body) m.ty (inl refl));
    body = body m.body (λ j a. h j (found_after (types_held m.context) (m.ty ∷ body_ids m.body) j (inr a)));
  }
    where
      body : (o : Option TermId) → OfIds p P (body_ids o) → (b : Tree) → body_in p o ≡ Some b → P b
      body None h b e = absurd cc
      body (Some t) h b e = let f : tree_at p t ≡ b = cc in subst P f (h t (inl refl))

  of_held : (m : HeldMeta) → EachHeld P (declared_as (metavariable_in p m)) → OfIds p P (held_ids m)
  of_held m h j a = elim (found_either (types_held m.context) (m.ty ∷ body_ids m.body) j a) [ inl b ↦ (of_types m.context [] h.context).0 j b | inr b ↦ rest b ]
    where
      body : (o : Option TermId) → ((b : Tree) → body_in p o ≡ Some b → P b) → OfIds p P (body_ids o)
      body None f j a = absurd a
      body (Some t) f j (inl e) = subst (λ (i : TermId). P (tree_at p i)) e (f (tree_at p t) refl)
      body (Some t) f j (inr a) = absurd a

      rest : IsFound (m.ty ∷ body_ids m.body) j → P (tree_at p j)
      rest (inl e) = subst (λ (i : TermId). P (tree_at p i)) e h.ty
      rest (inr b) = body m.body h.body j b

module _ (ms : List HeldMeta) (p : List Tree) where
  -- the metavariable that may be at a number
  abbrev seen_at : Option HeldMeta → Option Declared
  seen_at o = option_map (declared_in p) o

  module _ (P : Tree → Type 0) where
    two : (a b : TermId) → P (tree_at p a) → P (tree_at p b) → OfIds p P (a ∷ b ∷ [])
    two a b f g j (inl e) = subst (λ (i : TermId). P (tree_at p i)) e f
    two a b f g j (inr (inl e)) = subst (λ (i : TermId). P (tree_at p i)) e g
    two a b f g j (inr (inr k)) = absurd k

    -- a set that has the trees of what a node leads to
    pub spread_of : (x : Node) → OfIds p P (next_ids ms x) → Spread (store_in p ms) P (tree_in p x)
    spread_of (VarNode i) h = tt
    spread_of (SortNode s) h = tt
    spread_of (ProdNode x a b) h = (h a (inl refl), h b (inr (inl refl)))
    spread_of (LamNode x a b) h = (h a (inl refl), h b (inr (inl refl)))
    spread_of (AppNode f a) h = (h f (inl refl), h a (inr (inl refl)))
    spread_of (ConstNode c) h = tt
    spread_of (IndNode e) h = tt
    spread_of (ConNode e k) h = tt
    spread_of (MatchNode e r c bs) h = (h r (inl refl), h c (inr (inl refl)), bodies p P (branches_of bs) (λ j a. h j (inr (inr a))))
    spread_of (MetaNode m s) h = (
      terms_of p P (ids_of s) (λ j a. h j (found_before (ids_of s) (ids_at ms m) j a)),
      λ d e. there (slice_get ms m) (λ j a. h j (found_after (ids_of s) (ids_at ms m) j a)) d (sym (store_at p ms m) ∙ e),
    )
      where
        there : (o : Option HeldMeta) → OfIds p P (some_ids o) → (d : Declared) → seen_at o ≡ Some d → EachHeld P d
        there None h d e = absurd cc
        there (Some m) h d e = let f : declared_as (metavariable_in p m) ≡ d = cc in subst (EachHeld P) f (held p P m h)

    -- and back
    pub of_spread : (x : Node) → Spread (store_in p ms) P (tree_in p x) → OfIds p P (next_ids ms x)
    of_spread (VarNode i) h j a = absurd a
    of_spread (SortNode s) h j a = absurd a
    of_spread (ProdNode x a b) h j k = two a b h.0 h.1 j k
    of_spread (LamNode x a b) h j k = two a b h.0 h.1 j k
    of_spread (AppNode f a) h j k = two f a h.0 h.1 j k
    of_spread (ConstNode c) h j a = absurd a
    of_spread (IndNode e) h j a = absurd a
    of_spread (ConNode e k) h j a = absurd a
    of_spread (MatchNode e r c bs) h j k = more j k
      where
        more : (j : TermId) → IsFound (r ∷ c ∷ bodies_of (branches_of bs)) j → P (tree_at p j)
        more j (inl e) = subst (λ (i : TermId). P (tree_at p i)) e h.0
        more j (inr (inl e)) = subst (λ (i : TermId). P (tree_at p i)) e h.1
        more j (inr (inr k)) = of_bodies p P (branches_of bs) h.2 j k
    of_spread (MetaNode m s) h j k = elim (found_either (ids_of s) (ids_at ms m) j k) [ inl a ↦ of_terms p P (ids_of s) h.0 j a | inr a ↦ there (slice_get ms m) (λ d e. h.1 d (store_at p ms m ∙ e)) j a ]
      where
        there : (o : Option HeldMeta) → ((d : Declared) → seen_at o ≡ Some d → EachHeld P d) → OfIds p P (some_ids o)
        there None f j a = absurd a
        there (Some m) f j a = of_held p P m (f (declared_as (metavariable_in p m)) refl) j a

-- What is true of the ids that a search for metavariable n from a term has found, so many of them expanded: what stands in each is reached from the term, and all that the expanded ones lead to is found.
pub record IsSearch (ms : List HeldMeta) (p : List Tree) (t : TermId) (n expanded : ℕ) (ks : List TermId) : Type 0 where
  pub below : (k : TermId) → IsFound ks k → k.at < length p
  pub root : IsFound ks t
  pub led : OfIds p (Leads (store_in p ms) (tree_at p t)) ks
  pub spread : (k : TermId) → IsFound (take expanded ks) k → Expanded (store_in p ms) n (Named p ks) (tree_at p k)

pub search_starts : (ms : List HeldMeta) (p : List Tree) (t : TermId) (n : ℕ) (ks : List TermId) → t.at < length p → Adds [] ks (t ∷ []) → IsSearch ms p t n 0 ks
search_starts ms p t n ks l a = record {
  below = λ k f. subst (λ (i : TermId). i.at < length p) (only k f) l;
  root = a.found.0;
  led = λ k f m x. subst (λ (i : TermId). Mentions m (tree_at p i) → Reaches (store_in p ms) (tree_at p t) m) (only k f) (λ y. at_once y) x;
  spread = λ k f. absurd f;
}
  where
    one : (k : TermId) → IsFound (t ∷ []) k → t ≡ k
    one k (inl e) = e
    one k (inr h) = absurd h

    only : (k : TermId) → IsFound ks k → t ≡ k
    only k f = elim (found_by [] ks (t ∷ []) a k f) [ inl h ↦ absurd h | inr h ↦ one k h ]

-- one of a list
found_at : (ks : List TermId) (i : ℕ) (k : TermId) → slice_get ks i ≡ Some k → IsFound ks k
found_at [] i k e = absurd cc
found_at (j ∷ js) zero k e = inl cc
found_at (j ∷ js) (suc i) k e = inr (found_at js i k e)

all_taken : (ks : List TermId) (i : ℕ) → slice_get ks i ≡ None → (k : TermId) → IsFound ks k → IsFound (take i ks) k
all_taken [] i e k f = absurd f
all_taken (j ∷ js) zero e k f = absurd cc
all_taken (j ∷ js) (suc i) e k (inl f) = inl f
all_taken (j ∷ js) (suc i) e k (inr f) = inr (all_taken js i e k f)

-- among the first of a longer list, and the next one
taken_next : (ks more : List TermId) (i : ℕ) (k j : TermId) → slice_get ks i ≡ Some k → IsFound (take (suc i) (ks ++ more)) j → IsFound (take i ks) j ⊎ (k ≡ j)
taken_next [] more i k j e f = absurd cc
taken_next (x ∷ ks) more zero k j e (inl f) = let g : x ≡ k = cc in inr (sym g ∙ f)
taken_next (x ∷ ks) more zero k j e (inr f) = absurd f
taken_next (x ∷ ks) more (suc i) k j e (inl f) = inl (inl f)
taken_next (x ∷ ks) more (suc i) k j e (inr f) = elim (taken_next ks more i k j e f) [ inl a ↦ inl (inr a) | inr b ↦ inr b ]

named_more : (p : List Tree) (ks js : List TermId) → ((k : TermId) → IsFound ks k → IsFound js k) → (t : Tree) → Named p ks t → Named p js t
named_more p ks js h t a = (a.0, h a.0 a.1, a.2)

-- the ids that a node leads to are held
all_append : (n : ℕ) (js ks : List TermId) → AllBelow n js → AllBelow n ks → AllBelow n (js ++ ks)
all_append n [] ks h l = l
all_append n (j ∷ js) ks h l = (h.0, all_append n js ks h.1 l)

one_below : (n : ℕ) (ks : List TermId) → AllBelow n ks → (k : TermId) → IsFound ks k → k.at < n
one_below n [] h k f = absurd f
one_below n (j ∷ js) h k (inl e) = subst (λ (i : TermId). i.at < n) e h.0
one_below n (j ∷ js) h k (inr f) = one_below n js h.1 k f

bodies_below : (n : ℕ) (bs : List (List Bytes × TermId)) → ArmsBelow n bs → AllBelow n (bodies_of bs)
bodies_below n [] h = tt
bodies_below n (b ∷ bs) h = (h.0, bodies_below n bs h.1)

types_below : (n : ℕ) (Γ : List HeldHyp) → ContextBelow n Γ → AllBelow n (types_held Γ)
types_below n [] h = tt
types_below n (x ∷ Γ) h = (h.0, types_below n Γ h.1)

body_below : (n : ℕ) (o : Option TermId) → BodyBelow n o → AllBelow n (body_ids o)
body_below n None h = tt
body_below n (Some t) h = (h, tt)

meta_below : (n : ℕ) (ms : List HeldMeta) (m : ℕ) → MetasBelow n ms → AllBelow n (ids_at ms m)
meta_below n [] m h = tt
meta_below n (x ∷ ms) zero h = all_append n (types_held x.context) (x.ty ∷ body_ids x.body) (types_below n x.context h.0.0) (h.0.1, body_below n x.body h.0.2)
meta_below n (x ∷ ms) (suc m) h = meta_below n ms m h.1

next_below : (n : ℕ) (ms : List HeldMeta) (x : Node) → MetasBelow n ms → Below n x → AllBelow n (next_ids ms x)
next_below n ms (VarNode i) h b = tt
next_below n ms (SortNode s) h b = tt
next_below n ms (ProdNode x a c) h b = (b.0, (b.1, tt))
next_below n ms (LamNode x a c) h b = (b.0, (b.1, tt))
next_below n ms (AppNode f a) h b = (b.0, (b.1, tt))
next_below n ms (ConstNode c) h b = tt
next_below n ms (IndNode e) h b = tt
next_below n ms (ConNode e k) h b = tt
next_below n ms (MatchNode e r c bs) h b = (b.0, (b.1, bodies_below n (branches_of bs) b.2))
next_below n ms (MetaNode m s) h b = all_append n (ids_of s) (ids_at ms m) b (meta_below n ms m h)

-- whether a node is metavariable n
not_meta : (p : List Tree) (n : ℕ) (x : Node) → is_meta n x ≡ false → IsOther n (tree_in p x)
not_meta p n (VarNode i) e = tt
not_meta p n (SortNode s) e = tt
not_meta p n (ProdNode x a b) e = tt
not_meta p n (LamNode x a b) e = tt
not_meta p n (AppNode f a) e = tt
not_meta p n (ConstNode c) e = tt
not_meta p n (IndNode i) e = tt
not_meta p n (ConNode i k) e = tt
not_meta p n (MatchNode i r c bs) e = tt
not_meta p n (MetaNode m s) e = λ same. true≢false (sym (eq-eqb m n same) ∙ e)

is_mentioned : (p : List Tree) (n : ℕ) (x : Node) → is_meta n x ≡ true → Mentions n (tree_in p x)
is_mentioned p n (VarNode i) e = absurd cc
is_mentioned p n (SortNode s) e = absurd cc
is_mentioned p n (ProdNode x a b) e = absurd cc
is_mentioned p n (LamNode x a b) e = absurd cc
is_mentioned p n (AppNode f a) e = absurd cc
is_mentioned p n (ConstNode c) e = absurd cc
is_mentioned p n (IndNode i) e = absurd cc
is_mentioned p n (ConNode i k) e = absurd cc
is_mentioned p n (MatchNode i r c bs) e = absurd cc
is_mentioned p n (MetaNode m s) e = inl (eqb-true m n e)

module _ (ms : List HeldMeta) (p : List Tree) (t : TermId) (n i : ℕ) (ks : List TermId) (h : IsSearch ms p t n i ks) (id : TermId) (at : slice_get ks i ≡ Some id) where
  -- the next id is held
  pub search_held : id.at < length p
  search_held = h.below id (found_at ks i id at)

  module _ (x : Node) (says : tree_at p id ≡ tree_in p x) where
    leads : Leads (store_in p ms) (tree_at p t) (tree_in p x)
    leads = subst (Leads (store_in p ms) (tree_at p t)) says (h.led id (found_at ks i id at))

    -- it is metavariable n
    pub search_found : is_meta n x ≡ true → Reaches (store_in p ms) (tree_at p t) n
    search_found e = leads n (is_mentioned p n x e)

    -- it is expanded
    pub search_next : (new : List TermId) → StoreBelow (length p) ms → Below id.at x → is_meta n x ≡ false → Adds ks new (next_ids ms x) → IsSearch ms p t n (i + 1) new
    unfolding StoreBelow
    search_next new b l e a = record {
      below = λ k f. elim (found_by ks new (next_ids ms x) a k f) [ inl g ↦ h.below k g | inr g ↦ one_below (length p) (next_ids ms x) below k g ];
      root = still t h.root;
      led = λ k f. elim (found_by ks new (next_ids ms x) a k f) [ inl g ↦ h.led k g | inr g ↦ of_spread ms p (Leads (store_in p ms) (tree_at p t)) x (leads_on (store_in p ms) (tree_at p t) (tree_in p x) leads) k g ];
      spread = λ k f. elim (taken_next ks a.more i id k at (subst (λ (l : List TermId). IsFound l k) (ap (take (suc i)) a.after) (subst (λ j. IsFound (take j new) k) (add-one i) f))) [ inl g ↦ expanded_more (store_in p ms) n (Named p ks) (Named p new) (named_more p ks new still) (tree_at p k) (h.spread k g) | inr g ↦ subst (λ (j : TermId). Expanded (store_in p ms) n (Named p new) (tree_at p j)) g this ];
    }
      where
        still : (k : TermId) → IsFound ks k → IsFound new k
        still = still_found ks new (next_ids ms x) a

        below : AllBelow (length p) (next_ids ms x)
        below = next_below (length p) ms x b (node-held id.at (length p) x l search_held)

        this : Expanded (store_in p ms) n (Named p new) (tree_at p id)
        this = subst (Expanded (store_in p ms) n (Named p new)) (sym says) (record { spread = spread_of ms p (Named p new) x (λ k f. (k, found_of new (next_ids ms x) k a.found f, refl)); other = not_meta p n x e })

-- all that was found is expanded
pub search_ends : (ms : List HeldMeta) (p : List Tree) (t : TermId) (n i : ℕ) (ks : List TermId) → IsSearch ms p t n i ks → slice_get ks i ≡ None → Reaches (store_in p ms) (tree_at p t) n → ⊥
search_ends ms p t n i ks h e = never_reached (store_in p ms) n (Named p ks) closed (tree_at p t) (t, h.root, refl)
  where
    closed : (u : Tree) → Named p ks u → Expanded (store_in p ms) n (Named p ks) u
    closed u k = subst (Expanded (store_in p ms) n (Named p ks)) k.2 (h.spread k.0 (all_taken ks i e k.0 k.1))
