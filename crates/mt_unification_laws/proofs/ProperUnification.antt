-- Unification keeps a store proper, whatever the soundness of what it works on.
use Rattle.std.specs.Prelude.{◌≡◌, refl, ℕ, zero, suc, List, [], ◌∷◌, nat_eq, Bool, true, false, not, ◌&&◌, Option, Some, None, option_map, is_none, reverse, slice_get, slice_set}
use Rattle.std.proofs.Common.{sym, ap, ◌∙◌, subst}
use mathlib.Core.List.{reverse_aux}
use Rattle.mt_term.specs.Trees.{Tree, Trees, Sort, Prod, Lam, App, Match, Meta, End, Item}
use Rattle.mt_term.specs.Substitution.{under, join}
use Rattle.mt_term.specs.Spines.{item_at}
use Rattle.mt_term.specs.Declarations.{Hypothesis, Environment}
use Rattle.mt_term.specs.States.{Metavariable, Equation, Hint, is_open, meta_with_body}
use Rattle.mt_term.specs.Alike.{is_alike}
use Rattle.mt_term.specs.Instancing.{instance, assigned_body}
use Rattle.mt_term.specs.declared.modes.Mode.{Mode}
use Rattle.mt_term.specs.declared.modes.Mode.TheVariants.{Equal, AtMost as Below}
use Rattle.mt_term.specs.Stores.{declared_as, store_of, types_onto, AllMetasIn, AllMetasOf, InStore}
use Rattle.mt_term.specs.StoreChanges.{Extends}
use Rattle.mt_term.proofs.ReachLaws.{weaker, weaker_all, weaker_of}
use Rattle.mt_calculus_laws.proofs.AlikeLaws.{both}
use Rattle.mt_calculus_laws.proofs.Images.{some_of, is_some_at, under_metas}
use Rattle.mt_calculus_laws.proofs.MetaLaws.{join_metas}
use Rattle.mt_rules.specs.Charges.{Done, Charged, give, ◌>>=◌}
use Rattle.mt_rules.specs.WeakHead.{body_under, step}
use Rattle.mt_rules.specs.Comparison.{same_shapes}
use Rattle.mt_rules.specs.Inference.{infer, context_types}
use Rattle.mt_rules_laws.proofs.ReductionTheorems.{step_law}
use Rattle.mt_rules_laws.proofs.Yields.{Yields, gives, refuses, charges, then_yields, tries, so_yields, fixed_yields, some_is, nothing}
use Rattle.mt_unification_rules.specs.Hints.{head_entry, Candidate, with_variables, first_terms}
use Rattle.mt_unification_rules.specs.Placeholders.{Metas, all_variables, with_meta, placeholder}
use Rattle.mt_unification_rules.specs.Reach.{reaches}
use Rattle.mt_unification_rules.specs.TakingBack.{taken_back}
use Rattle.mt_unification_rules.specs.Unification.{Question, known, only_if, with_argument, head_replaced, same_meta, same_bodies, given, assign, assign_side, by_assignment, by_terms, by_parts, by_equations, by_sides, by_direction, by_hints, is_higher, rank, on_step, by_step, by_types, by_bodies, by_rules, unify_by, unified, unify}
use Rattle.mt_unification_laws.specs.ProperStores.{Proper, Own, OwnContext, MetaFree, MetaFreeEnvironment, MetaFreeTypes, MetaFreeTerms, MetaFreeHint, MetaFreeHints}
use Rattle.mt_unification_laws.specs.UnificationLaws.{UnificationProperLaw}
use Rattle.mt_unification_laws.proofs.Candidates.{EachCandidate, candidates_each}
use Rattle.mt_unification_laws.proofs.Conditions.{known_yields, only_if_yields, either_yields, none_is, not_true}
use Rattle.mt_unification_laws.proofs.HintVariables.{item_in}
use Rattle.mt_unification_laws.proofs.InferredMetas.{infer_metas}
use Rattle.mt_unification_laws.proofs.Later.{extends_same, extends_twice}
use Rattle.mt_unification_laws.proofs.Mentions.{in_metas}
use Rattle.mt_unification_laws.proofs.NewMetas.{last_get}
use Rattle.mt_unification_laws.proofs.ProperSteps.{given_proper, placeholder_proper}
use Rattle.mt_unification_laws.proofs.ProperTypes.{free_in, reached_own, infer_own}
use Rattle.mt_unification_laws.proofs.StoreGrowth.{set_grows, appended, grows_extends}

-- what is own stays so in a later store
pub stays : (ms ms' : Metas) → Extends (store_of ms) (store_of ms') → (k : ℕ) → InStore (store_of ms) k → InStore (store_of ms') k
stays ms ms' x k h = let r = some_of ((store_of ms).at k) h in is_some_at (x k r.0 r.1).1

pub own_later : (ms ms' : Metas) → Extends (store_of ms) (store_of ms') → (t : Tree) → Own ms t → Own ms' t
own_later ms ms' x t a = weaker (InStore (store_of ms)) (InStore (store_of ms')) (stays ms ms' x) t a

pub context_later : (ms ms' : Metas) → Extends (store_of ms) (store_of ms') → (Γ : List Hypothesis) → OwnContext ms Γ → OwnContext ms' Γ
context_later ms ms' x Γ a = weaker_of (InStore (store_of ms)) (InStore (store_of ms')) (stays ms ms' x) (context_types Γ) a

-- the new store is proper, and has what the old one has
pub record Kept (ms ms' : Metas) : Type 0 where
  pub proper : Proper ms'
  pub extends : Extends (store_of ms) (store_of ms')

pub kept_same : (ms : Metas) → Proper ms → Kept ms ms
kept_same ms z = record { proper = z; extends = extends_same (store_of ms) }

pub kept_twice : (ms ms' ms'' : Metas) → Kept ms ms' → Kept ms' ms'' → Kept ms ms''
kept_twice ms ms' ms'' p q = record { proper = q.proper; extends = extends_twice (store_of ms) (store_of ms') (store_of ms'') p.extends q.extends }

abbrev Told : Question → Metas → Type 0
Told (ms, Γ, mode, t, u) ms' = Proper ms → OwnContext ms Γ → Own ms t → Own ms u → Kept ms ms'

types_inside : (hs Γ : List Hypothesis) → context_types (reverse_aux hs Γ) ≡ types_onto hs (context_types Γ)
types_inside [] Γ = refl
types_inside (h ∷ hs) Γ = types_inside hs (h ∷ Γ)

-- all variables of a context
variables_own : (P : ℕ → Type 0) (n : ℕ) → AllMetasIn P (all_variables n)
variables_own P zero = tt
variables_own P (suc n) = (tt, variables_own P n)

pub placeholder_own : (ms : Metas) (Γ : List Hypothesis) (T : Tree) → Own (with_meta ms Γ T) ((placeholder ms Γ T).term)
placeholder_own ms Γ T = (is_some_at (ap (option_map declared_as) (last_get ms _)), variables_own (InStore (store_of (with_meta ms Γ T))) _)

pub placeholder_kept : (ms : Metas) (Γ : List Hypothesis) (T : Tree) → Proper ms → OwnContext ms Γ → Own ms T → Kept ms (with_meta ms Γ T)
placeholder_kept ms Γ T z c t = record { proper = placeholder_proper ms Γ T z c t; extends = grows_extends ms (with_meta ms Γ T) (appended ms _) }

-- the variables of a hint
pub record Variables (ms : Metas) (v : Metas × Trees) : Type 0 where
  pub kept : Kept ms v.0
  pub own : AllMetasIn (InStore (store_of v.0)) v.1

variables_kept : (Γ xs : List Hypothesis) → MetaFreeTypes xs → (ms : Metas) (us : Trees) → Proper ms → OwnContext ms Γ → AllMetasIn (InStore (store_of ms)) us → Variables ms (with_variables ms Γ xs us)
variables_kept Γ [] f ms us z c a = record { kept = kept_same ms z; own = a }
variables_kept Γ (x ∷ xs) f ms us z c a =
    let T : Tree = under us x.ty in
    let p = placeholder ms Γ T in
    let k : Kept ms p.store = placeholder_kept ms Γ T z c (under_metas (InStore (store_of ms)) us x.ty a (free_in (InStore (store_of ms)) x.ty f.0)) in
    let b : AllMetasIn (InStore (store_of p.store)) us = weaker_all (InStore (store_of ms)) (InStore (store_of p.store)) (stays ms p.store k.extends) us a in
    let r = variables_kept Γ xs f.1 p.store (join us (Item p.term End)) k.proper (context_later ms p.store k.extends Γ c) (join_metas (InStore (store_of p.store)) us (Item p.term End) b (placeholder_own ms Γ T, tt)) in
    record { kept = kept_twice ms p.store _ k r.kept; own = r.own }

first_own : (P : ℕ → Type 0) (n : ℕ) (s : Trees) → AllMetasIn P s → AllMetasIn P (first_terms n s)
first_own P zero s a = tt
first_own P (suc n) End a = tt
first_own P (suc n) (Item t s) a = (a.0, first_own P n s a.1)

module _ (E : Environment) (free : MetaFreeEnvironment E) where
  given_kept : (ms : Metas) (n : ℕ) (v : Tree) → Proper ms → Own ms v → Yields (given ms n v) (Kept ms)
  given_kept ms n v z a =
      then_yields (λ m. slice_get ms n ≡ Some m) (Kept ms) (known (slice_get ms n)) _ (known_yields (slice_get ms n)) (λ m e.
      then_yields (λ y. (is_none m.body && not (reaches ms v n)) ≡ true) (Kept ms) (only_if (is_none m.body && not (reaches ms v n))) _ (only_if_yields _) (λ y o.
      let q = both (is_none m.body) (not (reaches ms v n)) o in
      gives (Kept ms) (slice_set ms n (meta_with_body m v)) (record { proper = given_proper ms n v m z e a (not_true (reaches ms v n) q.1); extends = grows_extends ms _ (set_grows ms n m v e (none_is m.body q.0)) })))

  module _ (again : Question → Charged Metas) (ih : (q : Question) → Yields (again q) (Told q)) where
    asked : (ms : Metas) (Γ : List Hypothesis) (mode : Mode) (t u : Tree) → Proper ms → OwnContext ms Γ → Own ms t → Own ms u → Yields (again (ms, Γ, mode, t, u)) (Kept ms)
    asked ms Γ mode t u z c a b n r l e = ih (ms, Γ, mode, t, u) n r l e z c a b

    -- after a part of which nothing is asked
    past : {A : Type 0} (ms : Metas) (m : Charged A) (f : A → Charged Metas) → ((a : A) → Yields (f a) (Kept ms)) → Yields (m >>= f) (Kept ms)
    past ms m f y = then_yields (λ a. Unit {0}) (Kept ms) m f (λ n a r e. tt) (λ a z. y a)

    -- after a question
    after : (ms : Metas) (Γ : List Hypothesis) (mode : Mode) (t u : Tree) (f : Metas → Charged Metas) → Proper ms → OwnContext ms Γ → Own ms t → Own ms u → ((ms' : Metas) → Kept ms ms' → Yields (f ms') (Kept ms')) → Yields (again (ms, Γ, mode, t, u) >>= f) (Kept ms)
    after ms Γ mode t u f z c a b y =
        then_yields (Kept ms) (Kept ms) (again (ms, Γ, mode, t, u)) f (asked ms Γ mode t u z c a b) (λ ms' k.
        so_yields (Kept ms') (Kept ms) (f ms') (λ ms'' q. kept_twice ms ms' ms'' k q) (y ms' k))

    assign_kept : (ms : Metas) (n : ℕ) (s : Trees) (u : Tree) → Proper ms → Yields (assign E again ms n s u) (Kept ms)
    assign_kept ms n s u z =
        past ms (known (taken_back s (instance ms u))) _ (λ v. past ms (only_if (not (reaches ms v n))) _ (λ y.
        then_yields (λ m. slice_get ms n ≡ Some m) (Kept ms) (known (slice_get ms n)) _ (known_yields (slice_get ms n)) (λ m e.
        let h = z.owned n (declared_as m) (ap (option_map declared_as) e) in
        let c : OwnContext ms (reverse m.context) = subst (AllMetasOf (InStore (store_of ms))) (sym (types_inside m.context [])) h.context in
        then_yields (λ T. Own ms v × Own ms T) (Kept ms) (infer E (store_of ms) (reverse m.context) v) _
        (λ k T l r. let a = infer_metas E (store_of ms) (reverse m.context) v k T l r in (a, infer_own E free (store_of ms) z.owned (reverse m.context) v c a k T l r)) (λ T a.
        after ms (reverse m.context) Below T m.ty (λ ms'. given ms' n v) z c a.1 h.ty (λ ms' k. given_kept ms' n v k.proper (own_later ms ms' k.extends v a.0))))))

    side_kept : (ms : Metas) (t u : Tree) → Proper ms → Yields (assign_side E again ms t u) (Kept ms)
    side_kept ms (Meta n s) u z = past ms (only_if (is_open (slice_get ms n))) _ (λ y. assign_kept ms n s u z)
    side_kept ms t u z = refuses (Kept ms) _

    assignment_kept : (ms : Metas) (t u : Tree) → Proper ms → Yields (by_assignment E again ms t u) (Kept ms)
    assignment_kept ms t u z = past ms (only_if (not (same_meta t u))) _ (λ y. tries (Kept ms) _ _ (side_kept ms t u z) (side_kept ms u t z))

    terms_kept : (ms : Metas) (Γ : List Hypothesis) (s r : Trees) → Proper ms → OwnContext ms Γ → AllMetasIn (InStore (store_of ms)) s → AllMetasIn (InStore (store_of ms)) r → Yields (by_terms E again ms Γ s r) (Kept ms)
    terms_kept ms Γ End End z c a b = gives (Kept ms) ms (kept_same ms z)
    terms_kept ms Γ (Item t s) (Item u r) z c a b =
        after ms Γ Equal t u (λ ms'. by_terms E again ms' Γ s r) z c a.0 b.0 (λ ms' k.
        let w = weaker_all (InStore (store_of ms)) (InStore (store_of ms')) (stays ms ms' k.extends) in
        terms_kept ms' Γ s r k.proper (context_later ms ms' k.extends Γ c) (w s a.1) (w r b.1))
    terms_kept ms Γ s r z c a b = refuses (Kept ms) _

    -- two questions, the second perhaps under one more hypothesis
    two : (ms : Metas) (Γ Δ : List Hypothesis) (m1 m2 : Mode) (t u t' u' : Tree) → Proper ms → OwnContext ms Γ → OwnContext ms Δ → Own ms t → Own ms u → Own ms t' → Own ms u'
        → Yields (again (ms, Γ, m1, t, u) >>= (λ ms'. again (ms', Δ, m2, t', u'))) (Kept ms)
    two ms Γ Δ m1 m2 t u t' u' z c d a b a' b' =
        after ms Γ m1 t u (λ ms'. again (ms', Δ, m2, t', u')) z c a b (λ ms' k. asked ms' Δ m2 t' u' k.proper (context_later ms ms' k.extends Δ d) (own_later ms ms' k.extends t' a') (own_later ms ms' k.extends u' b'))

    parts_kept : (ms : Metas) (Γ : List Hypothesis) (t u : Tree) → Proper ms → OwnContext ms Γ → Own ms t → Own ms u → Yields (by_parts E again ms Γ t u) (Kept ms)
    parts_kept ms Γ (App f a) (App g b) z c h j = two ms Γ Γ Equal Equal f g a b z c c h.0 j.0 h.1 j.1
    parts_kept ms Γ (Lam x a b) (Lam y d e) z c h j = two ms Γ (record { name = x; ty = a } ∷ Γ) Equal Equal a d b e z c (h.0, c) h.0 j.0 h.1 j.1
    parts_kept ms Γ (Match e r d bs) (Match f p g cs) z c h j =
        past ms (only_if (nat_eq e f && same_shapes bs cs)) _ (λ y.
        after ms Γ Equal r p _ z c h.0 j.0 (λ ms' k.
        after ms' Γ Equal d g _ k.proper (context_later ms ms' k.extends Γ c) (own_later ms ms' k.extends d h.1) (own_later ms ms' k.extends g j.1) (λ ms'' q.
        past ms'' (same_bodies E (store_of ms'') bs cs) _ (λ y. gives (Kept ms'') ms'' (kept_same ms'' q.proper)))))
    parts_kept ms Γ (Meta n s) (Meta m r) z c h j = past ms (only_if (nat_eq n m && is_open (slice_get ms n))) _ (λ y. terms_kept ms Γ s r z c h.1 j.1)
    parts_kept ms Γ t u z c h j = refuses (Kept ms) _

    -- hints
    equations_kept : (Γ : List Hypothesis) (us : Trees) (es : List Equation) → MetaFreeTerms es → (ms : Metas) → Proper ms → OwnContext ms Γ → AllMetasIn (InStore (store_of ms)) us → Yields (by_equations again Γ us es ms) (Kept ms)
    equations_kept Γ us [] f ms z c a = gives (Kept ms) ms (kept_same ms z)
    equations_kept Γ us (e ∷ es) f ms z c a =
        then_yields (λ x. item_at us e.place ≡ Some x) (Kept ms) (known (item_at us e.place)) _ (known_yields (item_at us e.place)) (λ x at.
        let u : Tree = under (first_terms e.place us) e.term in
        after ms Γ Equal x u (by_equations again Γ us es) z c (in_metas (InStore (store_of ms)) (item_in us e.place x at) a)
        (under_metas (InStore (store_of ms)) (first_terms e.place us) e.term (first_own (InStore (store_of ms)) e.place us a) (free_in (InStore (store_of ms)) e.term f.0)) (λ ms' k.
        equations_kept Γ us es f.1 ms' k.proper (context_later ms ms' k.extends Γ c) (weaker_all (InStore (store_of ms)) (InStore (store_of ms')) (stays ms ms' k.extends) us a)))

    sides_kept : (Γ : List Hypothesis) (h : Hint) → MetaFreeHint h → (v : Metas × Trees) (t u : Tree) → Proper v.0 → OwnContext v.0 Γ → AllMetasIn (InStore (store_of v.0)) v.1 → Own v.0 t → Own v.0 u → Yields (by_sides again Γ h v t u) (Kept v.0)
    sides_kept Γ h f v t u z c a ht hu =
        let side : (w : Tree) → MetaFree w → Own v.0 (under v.1 w) = λ w g. under_metas (InStore (store_of v.0)) v.1 w a (free_in (InStore (store_of v.0)) w g) in
        after v.0 Γ Equal (under v.1 h.left) t (λ ms. again (ms, Γ, Equal, under v.1 h.right, u) >>= (λ ms'. by_equations again Γ v.1 h.eqs ms')) z c (side h.left f.left) ht (λ ms k.
        after ms Γ Equal (under v.1 h.right) u (λ ms'. by_equations again Γ v.1 h.eqs ms') k.proper (context_later v.0 ms k.extends Γ c) (own_later v.0 ms k.extends (under v.1 h.right) (side h.right f.right)) (own_later v.0 ms k.extends u hu) (λ ms' q.
        let x : Extends (store_of v.0) (store_of ms') = extends_twice (store_of v.0) (store_of ms) (store_of ms') k.extends q.extends in
        equations_kept Γ v.1 h.eqs f.eqs ms' q.proper (context_later v.0 ms' x Γ c) (weaker_all (InStore (store_of v.0)) (InStore (store_of ms')) (stays v.0 ms' x) v.1 a)))

    direction_kept : (ms : Metas) (Γ : List Hypothesis) (t u : Tree) (h : Hint) → MetaFreeHint h → (swapped : Bool) → Proper ms → OwnContext ms Γ → Own ms t → Own ms u → Yields (by_direction again ms Γ t u h swapped) (Kept ms)
    direction_kept ms Γ t u h f swapped z c a b = go swapped
      where
        v : Metas × Trees
        v = with_variables ms Γ h.vars End

        k : Variables ms (with_variables ms Γ h.vars End)
        k = variables_kept Γ h.vars f.vars ms End z c tt

        later : (w : Tree) → Own ms w → Own ((with_variables ms Γ h.vars End).0) w
        later w o = own_later ms ((with_variables ms Γ h.vars End).0) k.kept.extends w o

        d : OwnContext ((with_variables ms Γ h.vars End).0) Γ
        d = context_later ms ((with_variables ms Γ h.vars End).0) k.kept.extends Γ c

        go : (swapped : Bool) → Yields (by_direction again ms Γ t u h swapped) (Kept ms)
        go false = so_yields (Kept ((with_variables ms Γ h.vars End).0)) (Kept ms) _ (λ ms' q. kept_twice ms ((with_variables ms Γ h.vars End).0) ms' k.kept q) (sides_kept Γ h f (with_variables ms Γ h.vars End) t u k.kept.proper d k.own (later t a) (later u b))
        go true = so_yields (Kept ((with_variables ms Γ h.vars End).0)) (Kept ms) _ (λ ms' q. kept_twice ms ((with_variables ms Γ h.vars End).0) ms' k.kept q) (sides_kept Γ h f (with_variables ms Γ h.vars End) u t k.kept.proper d k.own (later u b) (later t a))

    hints_kept : (ms : Metas) (Γ : List Hypothesis) (t u : Tree) (cs : List Candidate) → EachCandidate MetaFreeHint cs → Proper ms → OwnContext ms Γ → Own ms t → Own ms u → Yields (by_hints again ms Γ t u cs) (Kept ms)
    hints_kept ms Γ t u [] f z c a b = refuses (Kept ms) _
    hints_kept ms Γ t u (d ∷ ds) f z c a b = tries (Kept ms) _ _ (charges (Kept ms) _ (direction_kept ms Γ t u d.hint f.0 d.swapped z c a b)) (hints_kept ms Γ t u ds f.1 z c a b)

    module _ (ms : Metas) (Γ : List Hypothesis) (mode : Mode) (t u : Tree) (z : Proper ms) (c : OwnContext ms Γ) (a : Own ms t) (b : Own ms u) where
      -- a step of a side
      step_own : (v : Tree) → Own ms v → Yields (step E (store_of ms) v) (λ o. (w : Tree) → o ≡ Some w → Own ms w)
      step_own v h n o l e w g = reached_own E free (store_of ms) z.owned (step_law E (store_of ms) v w n l (e ∙ ap (λ a. Done a l) g)) h

      left_kept : (m : Charged Metas) → Yields m (Kept ms) → Yields (step E (store_of ms) t >>= on_step E again (λ v. (ms, Γ, mode, v, u)) m) (Kept ms)
      left_kept m y = then_yields (λ o. (w : Tree) → o ≡ Some w → Own ms w) (Kept ms) (step E (store_of ms) t) (on_step E again (λ v. (ms, Γ, mode, v, u)) m) (step_own t a) go
        where
          go : (o : Option Tree) → ((w : Tree) → o ≡ Some w → Own ms w) → Yields (on_step E again (λ v. (ms, Γ, mode, v, u)) m o) (Kept ms)
          go None h = y
          go (Some w) h = asked ms Γ mode w u z c (h w refl) b

      right_kept : (m : Charged Metas) → Yields m (Kept ms) → Yields (step E (store_of ms) u >>= on_step E again (λ v. (ms, Γ, mode, t, v)) m) (Kept ms)
      right_kept m y = then_yields (λ o. (w : Tree) → o ≡ Some w → Own ms w) (Kept ms) (step E (store_of ms) u) (on_step E again (λ v. (ms, Γ, mode, t, v)) m) (step_own u b) go
        where
          go : (o : Option Tree) → ((w : Tree) → o ≡ Some w → Own ms w) → Yields (on_step E again (λ v. (ms, Γ, mode, t, v)) m o) (Kept ms)
          go None h = y
          go (Some w) h = asked ms Γ mode t w z c a (h w refl)

      step_kept : (m : Charged Metas) → Yields m (Kept ms) → Yields (by_step E again ms Γ mode t u m) (Kept ms)
      step_kept m y = either_yields (Kept ms) (is_higher (rank u) (rank t)) _ _ (λ e. right_kept _ (left_kept m y)) (left_kept _ (right_kept m y))

      -- the head of a side is replaced by its body
      replaced_own : (v w : Tree) → Own ms v → head_replaced ms v ≡ Some w → Own ms w
      replaced_own (Meta n s) w h e = go (slice_get ms n) refl e
        where
          bodied : (m : Metavariable) → slice_get ms n ≡ Some m → (o : Option Tree) → m.body ≡ o → body_under o s ≡ Some w → Own ms w
          bodied m g None q f = nothing f
          bodied m g (Some v) q f = subst (Own ms) (some_is f) (under_metas (InStore (store_of ms)) s v h.1 ((z.owned n (declared_as m) (ap (option_map declared_as) g)).body v q))

          go : (o : Option Metavariable) → slice_get ms n ≡ o → body_under (assigned_body o) s ≡ Some w → Own ms w
          go None g f = nothing f
          go (Some m) g f = bodied m g m.body refl f
      replaced_own (App f d) w h e = go (λ v g. replaced_own f v h.0 g) (head_replaced ms f) refl e
        where
          go : ((v : Tree) → head_replaced ms f ≡ Some v → Own ms v) → (o : Option Tree) → head_replaced ms f ≡ o → with_argument d o ≡ Some w → Own ms w
          go r None g k = nothing k
          go r (Some v) g k = subst (Own ms) (some_is k) (r v g, h.1)
      replaced_own v w h e = nothing e

      bodies_kept : (m : Charged Metas) → Yields m (Kept ms) → Yields (by_bodies E again (λ v. (ms, Γ, mode, v, u)) (λ v. (ms, Γ, mode, t, v)) (head_replaced ms t) (head_replaced ms u) m) (Kept ms)
      bodies_kept m y = go (head_replaced ms t) (head_replaced ms u) refl refl
        where
          go : (o p : Option Tree) → head_replaced ms t ≡ o → head_replaced ms u ≡ p → Yields (by_bodies E again (λ v. (ms, Γ, mode, v, u)) (λ v. (ms, Γ, mode, t, v)) o p m) (Kept ms)
          go (Some v) p e f = charges (Kept ms) _ (asked ms Γ mode v u z c (replaced_own t v a e) b)
          go None (Some v) e f = charges (Kept ms) _ (asked ms Γ mode t v z c a (replaced_own u v b f))
          go None None e f = y

    types_kept : (ms : Metas) (Γ : List Hypothesis) (mode : Mode) (t u : Tree) → Proper ms → OwnContext ms Γ → Own ms t → Own ms u → Yields (by_types E again ms Γ mode t u) (Kept ms)
    types_kept ms Γ mode (Sort s) (Sort r) z c h j = either_yields (Kept ms) _ _ _ (λ e. gives (Kept ms) ms (kept_same ms z)) (refuses (Kept ms) _)
    types_kept ms Γ mode (Prod x a b) (Prod y d e) z c h j = two ms Γ (record { name = x; ty = a } ∷ Γ) Equal mode a d b e z c (h.0, c) h.0 j.0 h.1 j.1
    types_kept ms Γ mode t u z c h j = refuses (Kept ms) _

    rules_kept : (H : List Hint) → MetaFreeHints H → (ms : Metas) (Γ : List Hypothesis) (mode : Mode) (t u : Tree) → Proper ms → OwnContext ms Γ → Own ms t → Own ms u → Yields (by_rules E again H ms Γ mode t u) (Kept ms)
    rules_kept H f ms Γ mode t u z c a b =
        either_yields (Kept ms) (is_alike t u) (give ms) _ (λ e. gives (Kept ms) ms (kept_same ms z))
        (bodies_kept ms Γ mode t u z c a b _
        (tries (Kept ms) _ _ (assignment_kept ms t u z)
        (tries (Kept ms) _ _ (parts_kept ms Γ t u z c a b)
        (tries (Kept ms) _ _ (hints_kept ms Γ t u _ (candidates_each MetaFreeHint H (head_entry t) (head_entry u) f) z c a b)
        (step_kept ms Γ mode t u z c a b _ (types_kept ms Γ mode t u z c a b))))))

    unify_by_kept : (H : List Hint) → MetaFreeHints H → (q : Question) → Yields (unify_by E H again q) (Told q)
    unify_by_kept H f (ms, Γ, mode, t, u) n ms' l e z c a b =
        charges (Kept ms) _ (tries (Kept ms) _ _ (rules_kept H f ms Γ mode t u z c a b) (refuses (Kept ms) _)) n ms' l e

  unified_kept : (H : List Hint) → MetaFreeHints H → (q : Question) → Yields (unified E H q) (Told q)
  unfolding unified
  unified_kept H f q = fixed_yields Question (λ q. Metas) (unify_by E H) Told (λ again ih. unify_by_kept again ih H f) q

  pub unify_kept : (H : List Hint) → MetaFreeHints H → (ms : Metas) (Γ : List Hypothesis) (mode : Mode) (t u : Tree) → Proper ms → OwnContext ms Γ → Own ms t → Own ms u → Yields (unify E H ms Γ mode t u) (Kept ms)
  unfolding unify
  unify_kept H f ms Γ mode t u z c a b n ms' l e = unified_kept H f (ms, Γ, mode, t, u) n ms' l e z c a b

pub unification_proper_law : UnificationProperLaw
unification_proper_law E free H f ms ms' Γ mode t u n l z c a b e = (unify_kept E free H f ms Γ mode t u z c a b n ms' l e).proper
