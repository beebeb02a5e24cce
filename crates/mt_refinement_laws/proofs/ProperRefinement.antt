-- Refinement keeps a store proper, whatever the soundness of what it works on; its term and its type mention metavariables of the new store alone.
use Rattle.std.specs.Prelude.{◌≡◌, refl, ℕ, zero, suc, ◌-◌, List, [], ◌∷◌, length, Bool, true, false, if◌then◌else◌, Option, Some, None, option_map}
use Rattle.std.proofs.Common.{sym, ap, subst}
use Rattle.mt_term.specs.Trees.{Bytes, Tree, Arms, Var, Sort as sort, Prod as prod, Lam as lam, App as app, Const, Ind, Con as con, Match as match, End, Item, NoArm, Arm}
use Rattle.mt_term.specs.Substitution.{sub, one, apps, join, count}
use Rattle.mt_term.specs.Spines.{at_args, motive_on_all}
use Rattle.mt_term.specs.UniverseForms.{sort_above, sort_of_product}
use Rattle.mt_term.specs.Declarations.{Hypothesis, Constructor, constructor_at}
use Rattle.mt_term.specs.Alike.{is_alike}
use Rattle.mt_term.specs.declared.modes.Mode.TheVariants.{Equal, AtMost}
use Rattle.mt_term.specs.Stores.{store_of, AllMetasIn, AllMetasArms, InStore}
use Rattle.mt_term.specs.StoreChanges.{Extends}
use Rattle.mt_term.proofs.ReachLaws.{weaker_all}
use Rattle.mt_calculus_laws.proofs.MetaLaws.{one_metas, apps_metas, join_metas, motive_on_all_metas}
use Rattle.mt_rules.specs.Charges.{give}
use Rattle.mt_rules.specs.WeakHead.{whd}
use Rattle.mt_rules.specs.Inference.{Product, Family, a_sort, a_product, eliminable, checked, in_range, as_family, branch_context, branch_type, elimination, constructor_type}
use Rattle.mt_rules_laws.proofs.Yields.{nothing}
use Rattle.mt_unification_rules.specs.Placeholders.{Metas, Typed, placeholder}
use Rattle.mt_unification_rules.specs.Unification.{unify}
use Rattle.mt_unification_laws.specs.ProperStores.{Proper, Own, OwnContext, MetaFree, MetaFreeConstructors}
use Rattle.mt_unification_laws.proofs.ProperTypes.{free_in, head_own, product_own, variable_own, constant_own, inductive_own, constructor_own, range_own}
use Rattle.mt_unification_laws.proofs.ProperUnification.{stays, own_later, context_later, Kept, kept_same, kept_twice, placeholder_own, placeholder_kept, unify_kept}
use Rattle.mt_term_parser.specs.declared.raw.RawSort.{RawSort}
use Rattle.mt_term_parser.specs.Written.{Written, Form, Arguments, Cases, Term, Name, Con, Hole, Vector, Sort, Lam, Prod, App, Match, Cast, Absent, Given, NoArgument, Argument, NoCase, Case}
use Rattle.mt_resolver.specs.Resolution.{Found, meant, or_unbound, name_all, resolved_sort}
use Rattle.mt_refinement_rules.specs.Coercions.{Coercion, type_head, first_some, first_chain, chain, shortest, path}
use Rattle.mt_refinement_rules.specs.Settings.{Setting}
use Rattle.mt_refinement_rules.specs.Placed.{Placed, by, in_store}
use Rattle.mt_refinement_rules.specs.Finishing.{Refinement, names_of, on_argument, fitted, on_new, under_coercion, inserted, on_path, finish, Sorted, as_type}
use Rattle.mt_refinement_rules.specs.Heads.{declared_type_of, with_declared_type, or_no_position, by_name, by_numbers, by_sort}
use Rattle.mt_refinement_rules.specs.Placeholders.{by_placeholder}
use Rattle.mt_refinement_rules.specs.Binders.{product_in, expected_product, abstracted, over_type, by_abstraction, over_domain, by_bare_abstraction, by_product, by_cast}
use Rattle.mt_refinement_rules.specs.Applications.{Rest, by_argument, by_vector, by_application}
use Rattle.mt_refinement_rules.specs.Matches.{Return, written_return, expected_return, Bodies, no_body, one_body, by_match}
use Rattle.mt_refinement_rules.specs.Refinement.{place_of, is_vector, refined, refined_form, refined_arguments, refined_bodies, refine}
use Rattle.mt_refinement_laws.specs.ProperSettings.{MetaFreeCoercions, MetaFreeSetting}
use Rattle.mt_refinement_laws.specs.RefinementLaws.{RefinementProperLaw}
use Rattle.mt_refinement_laws.proofs.PlacedYields.{IfFound, Finds, finds, finds_nothing, answers, charge_finds, by_finds, then_finds, try_finds, so_finds, on_any, in_store_finds}
use Rattle.mt_refinement_laws.proofs.Vectors.{vector_finds}
use Rattle.mt_refinement_laws.proofs.MatchSoundness.{eliminable_yields}
use Rattle.mt_refinement_laws.proofs.MatchTypes.{sort_yields}
use Rattle.mt_refinement_laws.proofs.SoundEnds.{product_in_is}
use Rattle.mt_refinement_laws.proofs.ProperParts.{branch_type_own, branch_context_own, constant_return_own, at_args_own, OwnFamily, own_family}

-- an expected type mentions metavariables of the store alone
abbrev pub OwnIn : Metas → Option Tree → Type 0
OwnIn ms None = Unit {0}
OwnIn ms (Some U) = Own ms U

in_later : (ms ms' : Metas) → Extends (store_of ms) (store_of ms') → (o : Option Tree) → OwnIn ms o → OwnIn ms' o
in_later ms ms' x None h = tt
in_later ms ms' x (Some U) h = own_later ms ms' x U h

-- what is found: the store is kept, and term and type are its own
pub record OwnTyped (ms : Metas) (t : Typed) : Type 0 where
  pub kept : Kept ms t.store
  pub term : Own t.store t.term
  pub ty : Own t.store t.ty

record OwnSorted (ms : Metas) (t : Sorted) : Type 0 where
  pub kept : Kept ms t.store
  pub term : Own t.store t.term

record OwnPair (ms : Metas) (r : Metas × Tree) : Type 0 where
  pub kept : Kept ms r.0
  pub term : Own r.0 r.1

record OwnArms (ms : Metas) (bs : Metas × Arms) : Type 0 where
  pub kept : Kept ms bs.0
  pub arms : AllMetasArms (InStore (store_of bs.0)) bs.1

from_kept : (ms ms' : Metas) (t : Typed) → Kept ms ms' → OwnTyped ms' t → OwnTyped ms t
from_kept ms ms' t k r = record { kept = kept_twice ms ms' t.store k r.kept; term = r.term; ty = r.ty }

-- refinements, rests of applications, return functions, bodies
abbrev Keeping : Refinement → Type 0
Keeping m = (ms : Metas) (Γ : List Hypothesis) (o : Option Tree) → Proper ms → OwnContext ms Γ → OwnIn ms o → Finds (m ms Γ o) (OwnTyped ms)

abbrev RestKeeps : List Hypothesis → Option Tree → Rest → Type 0
RestKeeps Γ o m = (ms : Metas) (f : Typed) → OwnContext f.store Γ → OwnIn f.store o → OwnTyped ms f → Finds (m f) (OwnTyped ms)

abbrev ReturnKeeps : Return → Type 0
ReturnKeeps m = (ms : Metas) (Γ : List Hypothesis) (o : Option Tree) (f : Family) → Proper ms → OwnContext ms Γ → OwnIn ms o → OwnFamily (InStore (store_of ms)) f → Finds (m ms Γ o f) (OwnPair ms)

abbrev BodiesKeep : Bodies → Type 0
BodiesKeep m = (ms : Metas) (Γ : List Hypothesis) (f : Family) (r : Tree) (n : ℕ) (cs : List Constructor) → Proper ms → OwnContext ms Γ → AllMetasIn (InStore (store_of ms)) f.params → Own ms r → MetaFreeConstructors cs → Finds (m ms Γ f r n cs) (OwnArms ms)

module _ (S : Setting) (free : MetaFreeSetting S) where
  -- a weak head
  abbrev head : ℕ → Metas → Tree → Placed Tree
  head at ms t = by at (whd S.env (store_of ms) t)

  head_finds : (at : ℕ) (ms : Metas) (t : Tree) → Proper ms → Own ms t → Finds (head at ms t) (Own ms)
  head_finds at ms t z a = by_finds (Own ms) at (whd S.env (store_of ms) t) (head_own S.env free.env (store_of ms) z.owned t a)

  product_finds : (at : ℕ) (ms : Metas) (u : Tree) → Proper ms → Own ms u → Finds (by at (a_product u)) (λ (p : Product). Own ms p.dom × Own ms p.cod)
  product_finds at ms u z a = by_finds (λ (p : Product). Own ms p.dom × Own ms p.cod) at (a_product u) (product_own S.env free.env (store_of ms) z.owned u a)

  unify_finds : (at : ℕ) (ms : Metas) (Γ : List Hypothesis) (t u : Tree) → Proper ms → OwnContext ms Γ → Own ms t → Own ms u → Finds (by at (unify S.env S.hints ms Γ AtMost t u)) (Kept ms)
  unify_finds at ms Γ t u z c a b = by_finds (Kept ms) at _ (unify_kept S.env free.env S.hints free.hints ms Γ AtMost t u z c a b)

  -- a function on an argument
  argument_own : (ms : Metas) (f : Typed) (p : Product) (a : Typed) → OwnTyped ms f → Own f.store p.cod → OwnTyped f.store a → OwnTyped ms (on_argument f p a)
  argument_own ms f p a r h k =
      let x = k.kept.extends in
      record {
        kept = kept_twice ms f.store a.store r.kept k.kept;
        term = (own_later f.store a.store x f.term r.term, k.term);
        ty = one_metas (InStore (store_of a.store)) a.term p.cod k.term (own_later f.store a.store x p.cod h);
      }

  placeholder_typed : (ms : Metas) (Γ : List Hypothesis) (T : Tree) → Proper ms → OwnContext ms Γ → Own ms T → OwnTyped ms (placeholder ms Γ T)
  placeholder_typed ms Γ T z c a =
      let k = placeholder_kept ms Γ T z c a in
      record { kept = k; term = placeholder_own ms Γ T; ty = own_later ms ((placeholder ms Γ T).store) k.extends T a }

  fitted_own : (at : ℕ) (ms : Metas) (Γ : List Hypothesis) (t : Typed) (U : Tree) → OwnContext t.store Γ → Own t.store U → OwnTyped ms t → Finds (fitted S at Γ t U) (OwnTyped ms)
  fitted_own at ms Γ t U c h r =
      then_finds (Kept t.store) (OwnTyped ms) _ _ (unify_finds at t.store Γ t.ty U r.kept.proper c r.ty h) (λ ms' k.
      finds (OwnTyped ms) (record { store = ms'; term = t.term; ty = t.ty }) (record { kept = kept_twice ms t.store ms' r.kept k; term = own_later t.store ms' k.extends t.term r.term; ty = own_later t.store ms' k.extends t.ty r.ty }))

  -- coercions
  on_new_own : (at : ℕ) (ms : Metas) (Γ : List Hypothesis) (n : ℕ) (f : Typed) → OwnContext f.store Γ → OwnTyped ms f → Finds (on_new at Γ n f) (OwnTyped ms)
  on_new_own at ms Γ zero f c r = finds (OwnTyped ms) f r
  on_new_own at ms Γ (suc n) f c r =
      charge_finds (OwnTyped ms) _
      (then_finds (λ (p : Product). Own f.store p.dom × Own f.store p.cod) (OwnTyped ms) _ _ (product_finds at f.store f.ty r.kept.proper r.ty) (λ p h.
      let a = placeholder_typed f.store Γ p.dom r.kept.proper c h.0 in
      on_new_own at ms Γ n (on_argument f p (placeholder f.store Γ p.dom)) (context_later f.store ((placeholder f.store Γ p.dom).store) a.kept.extends Γ c) (argument_own ms f p (placeholder f.store Γ p.dom) r h.1 a)))

  under_coercion_own : (at : ℕ) (ms : Metas) (Γ : List Hypothesis) (c : Coercion) → MetaFree c.term × MetaFree c.ty → (t : Typed) → OwnContext t.store Γ → OwnTyped ms t → Finds (under_coercion S at Γ c t) (OwnTyped ms)
  under_coercion_own at ms Γ d g t c r =
      charge_finds (OwnTyped ms) _
      (then_finds (OwnTyped t.store) (OwnTyped ms) _ _ (on_new_own at t.store Γ (d.count - 1) (record { store = t.store; term = d.term; ty = d.ty }) c start) (λ f q.
      then_finds (λ (p : Product). Own f.store p.dom × Own f.store p.cod) (OwnTyped ms) _ _ (product_finds at f.store f.ty q.kept.proper q.ty) (λ p h.
      let x = q.kept.extends in
      let a = own_later t.store f.store x t.term r.term in
      let b = own_later t.store f.store x t.ty r.ty in
      then_finds (Kept f.store) (OwnTyped ms) _ _ (unify_finds at f.store Γ t.ty p.dom q.kept.proper (context_later t.store f.store x Γ c) b h.0) (λ ms' k.
      let u : Typed = record { store = ms'; term = t.term; ty = t.ty } in
      finds (OwnTyped ms) (record { store = ms'; term = app f.term t.term; ty = sub (one t.term) p.cod })
      (argument_own ms f p u (record { kept = kept_twice ms t.store f.store r.kept q.kept; term = q.term; ty = q.ty }) h.1
      (record { kept = k; term = own_later f.store ms' k.extends t.term a; ty = own_later f.store ms' k.extends t.ty b }))))))
    where
      start : OwnTyped t.store (record { store = t.store; term = d.term; ty = d.ty })
      start = record { kept = kept_same t.store r.kept.proper; term = free_in (InStore (store_of t.store)) d.term g.0; ty = free_in (InStore (store_of t.store)) d.ty g.1 }

  inserted_own : (at : ℕ) (ms : Metas) (Γ : List Hypothesis) (U : Tree) (cs : List Coercion) → MetaFreeCoercions cs → (t : Typed) → OwnContext t.store Γ → Own t.store U → OwnTyped ms t → Finds (inserted S at Γ U cs t) (OwnTyped ms)
  inserted_own at ms Γ U [] g t c h r = fitted_own at ms Γ t U c h r
  inserted_own at ms Γ U (d ∷ ds) g t c h r =
      then_finds (OwnTyped t.store) (OwnTyped ms) _ _ (under_coercion_own at t.store Γ d g.0 t c (record { kept = kept_same t.store r.kept.proper; term = r.term; ty = r.ty })) (λ u q.
      inserted_own at ms Γ U ds g.1 u (context_later t.store u.store q.kept.extends Γ c) (own_later t.store u.store q.kept.extends U h) (from_kept ms t.store u r.kept q))

  -- the coercions of a path
  abbrev FreePath : Option (List Coercion) → Type 0
  FreePath None = Unit {0}
  FreePath (Some cs) = MetaFreeCoercions cs

  first_free : (o p : Option (List Coercion)) → FreePath o → FreePath p → FreePath (first_some o p)
  first_free None p h g = g
  first_free (Some cs) p h g = h

  more_free : (c : Coercion) → MetaFree c.term × MetaFree c.ty → (o : Option (List Coercion)) → FreePath o → FreePath (option_map (λ ds. c ∷ ds) o)
  more_free c h None g = tt
  more_free c h (Some cs) g = (h, g)

  first_chain_free : (rest : Coercion → Option (List Coercion)) → ((c : Coercion) → FreePath (rest c)) → (a : Tree) (cs : List Coercion) → MetaFreeCoercions cs → FreePath (first_chain rest a cs)
  first_chain_free rest h a [] g = tt
  first_chain_free rest h a (c ∷ cs) g = go (is_alike c.source a) (first_free (option_map (λ ds. c ∷ ds) (rest c)) (first_chain rest a cs) (more_free c g.0 (rest c) (h c)) (first_chain_free rest h a cs g.1)) (first_chain_free rest h a cs g.1)
    where
      go : (b : Bool) → FreePath (first_some (option_map (λ ds. c ∷ ds) (rest c)) (first_chain rest a cs)) → FreePath (first_chain rest a cs) → FreePath (if b then first_some (option_map (λ ds. c ∷ ds) (rest c)) (first_chain rest a cs) else first_chain rest a cs)
      go true p q = p
      go false p q = q

  chain_free : (cs : List Coercion) → MetaFreeCoercions cs → (n : ℕ) (a b : Tree) → FreePath (chain cs n a b)
  chain_free cs g zero a b = go (is_alike a b)
    where
      go : (q : Bool) → FreePath (if q then Some [] else None)
      go true = tt
      go false = tt
  chain_free cs g (suc n) a b = first_chain_free (λ c. chain cs n c.target b) (λ c. chain_free cs g n c.target b) a cs g

  shortest_free : (cs : List Coercion) → MetaFreeCoercions cs → (k n : ℕ) (a b : Tree) → FreePath (shortest cs k n a b)
  shortest_free cs g zero n a b = tt
  shortest_free cs g (suc k) n a b = first_free (chain cs n a b) (shortest cs k (suc n) a b) (chain_free cs g n a b) (shortest_free cs g k (suc n) a b)

  path_free : (cs : List Coercion) → MetaFreeCoercions cs → (o p : Option Tree) → FreePath (path cs o p)
  path_free cs g None p = tt
  path_free cs g (Some a) None = tt
  path_free cs g (Some a) (Some b) = go (is_alike a b)
    where
      go : (q : Bool) → FreePath (if q then None else shortest cs (length cs) 1 a b)
      go true = tt
      go false = shortest_free cs g (length cs) 1 a b

  on_path_own : (at : ℕ) (ms : Metas) (Γ : List Hypothesis) (t : Typed) (U : Tree) → OwnContext t.store Γ → Own t.store U → OwnTyped ms t → (o : Option (List Coercion)) → FreePath o → Finds (on_path S at Γ t U o) (OwnTyped ms)
  on_path_own at ms Γ t U c h r None g = finds_nothing (OwnTyped ms) _ at
  on_path_own at ms Γ t U c h r (Some cs) g = try_finds (OwnTyped ms) _ _ (inserted_own at ms Γ U cs g t c h r) (λ q place. finds_nothing (OwnTyped ms) _ at)

  finish_own : (at : ℕ) (ms : Metas) (Γ : List Hypothesis) (o : Option Tree) (t : Typed) → OwnContext t.store Γ → OwnIn t.store o → OwnTyped ms t → Finds (finish S at Γ o t) (OwnTyped ms)
  finish_own at ms Γ None t c h r = finds (OwnTyped ms) t r
  finish_own at ms Γ (Some U) t c h r =
      try_finds (OwnTyped ms) (fitted S at Γ t U) _ (fitted_own at ms Γ t U c h r) (λ q place.
      on_any (OwnTyped ms) (head at t.store t.ty) _ (λ u. on_any (OwnTyped ms) (head at t.store U) _ (λ v.
      on_path_own at ms Γ t U c h r _ (path_free S.coercions free.coercions (type_head u) (type_head v)))))

  -- the same from the store before
  ends : (at : ℕ) (ms : Metas) (Γ : List Hypothesis) (o : Option Tree) (t : Typed) → OwnContext ms Γ → OwnIn ms o → OwnTyped ms t → Finds (finish S at Γ o t) (OwnTyped ms)
  ends at ms Γ o t c h r = finish_own at ms Γ o t (context_later ms t.store r.kept.extends Γ c) (in_later ms t.store r.kept.extends o h) r

  as_type_own : (at : ℕ) (m : Refinement) → Keeping m → (ms : Metas) (Γ : List Hypothesis) → Proper ms → OwnContext ms Γ → Finds (as_type S at m ms Γ) (OwnSorted ms)
  as_type_own at m h ms Γ z c =
      then_finds (OwnTyped ms) (OwnSorted ms) _ _ (h ms Γ None z c tt) (λ t r.
      on_any (OwnSorted ms) (head at t.store t.ty) _ (λ u. on_any (OwnSorted ms) (by at (a_sort u)) _ (λ s.
      finds (OwnSorted ms) (record { store = t.store; term = t.term; sort = s }) (record { kept = r.kept; term = r.term }))))

  abstracted_own : (x : Bytes) (A : Tree) (b : Refinement) → Keeping b → (ms : Metas) (Γ : List Hypothesis) (o : Option Tree) → Proper ms → OwnContext ms Γ → Own ms A → OwnIn ms o → Finds (abstracted x A b ms Γ o) (OwnTyped ms)
  abstracted_own x A b h ms Γ o z c a t =
      then_finds (OwnTyped ms) (OwnTyped ms) _ _ (h ms (record { name = x; ty = A } ∷ Γ) o z (a, c) t) (λ u r.
      let a' = own_later ms u.store r.kept.extends A a in
      finds (OwnTyped ms) (record { store = u.store; term = lam x A u.term; ty = prod x A u.ty }) (record { kept = r.kept; term = (a', r.term); ty = (a', r.ty) }))

  -- the parts of the expected product
  abbrev OwnProduct : Metas → Option Product → Type 0
  OwnProduct ms None = Unit {0}
  OwnProduct ms (Some p) = Own ms p.dom × Own ms p.cod

  parts_of : (ms : Metas) (u : Tree) (o : Option Product) → product_in u ≡ o → Own ms u → OwnProduct ms o
  parts_of ms u None e a = tt
  parts_of ms u (Some p) e a = subst (Own ms) (product_in_is u p e) a

  expected_own : (at : ℕ) (ms : Metas) (o : Option Tree) → Proper ms → OwnIn ms o → Finds (expected_product S at ms o) (OwnProduct ms)
  expected_own at ms None z h = finds (OwnProduct ms) None tt
  expected_own at ms (Some U) z h = then_finds (Own ms) (OwnProduct ms) _ _ (head_finds at ms U z h) (λ u a. finds (OwnProduct ms) (product_in u) (parts_of ms u (product_in u) refl a))

  over_type_own : (at : ℕ) (x : Bytes) (place : ℕ) (b : Refinement) → Keeping b → (A : Sorted) (Γ : List Hypothesis) (o : Option Tree) → Proper A.store → OwnContext A.store Γ → Own A.store A.term → OwnIn A.store o → (p : Option Product) → OwnProduct A.store p → Finds (over_type S at x place b A Γ o p) (OwnTyped A.store)
  over_type_own at x place b h A Γ o z c a t (Some p) q =
      then_finds (Kept A.store) (OwnTyped A.store) _ _ (in_store_finds (Kept A.store) A.store _ (by_finds (Kept A.store) place _ (unify_kept S.env free.env S.hints free.hints A.store Γ Equal A.term p.dom z c a q.0))) (λ ms k.
      so_finds (OwnTyped ms) (OwnTyped A.store) _ (λ u r. from_kept A.store ms u k r)
      (abstracted_own x A.term b h ms Γ (Some p.cod) k.proper (context_later A.store ms k.extends Γ c) (own_later A.store ms k.extends A.term a) (own_later A.store ms k.extends p.cod q.1)))
  over_type_own at x place b h A Γ o z c a t None q =
      then_finds (OwnTyped A.store) (OwnTyped A.store) _ _ (abstracted_own x A.term b h A.store Γ None z c a tt) (λ u r. ends at A.store Γ o u c t r)

  over_domain_own : (at : ℕ) (x : Bytes) (b : Refinement) → Keeping b → (ms : Metas) (Γ : List Hypothesis) → Proper ms → OwnContext ms Γ → (p : Option Product) → OwnProduct ms p → Finds (over_domain at x b ms Γ p) (OwnTyped ms)
  over_domain_own at x b h ms Γ z c (Some p) q = abstracted_own x p.dom b h ms Γ (Some p.cod) z c q.0 q.1
  over_domain_own at x b h ms Γ z c None q = finds_nothing (OwnTyped ms) _ at

  -- ---- the rules

  declared_own : (ms : Metas) (Γ : List Hypothesis) (t T : Tree) → Proper ms → OwnContext ms Γ → declared_type_of S.env Γ t ≡ Some T → Own ms t × Own ms T
  declared_own ms Γ (Var i) T z c e = (tt, variable_own S.env free.env (store_of ms) z.owned Γ i T c e)
  declared_own ms Γ (Const d) T z c e = (tt, constant_own S.env free.env (store_of ms) z.owned d T e)
  declared_own ms Γ (Ind d) T z c e = (tt, inductive_own S.env free.env (store_of ms) z.owned d T e)
  declared_own ms Γ (con d k) T z c e = (tt, constructor_own S.env free.env (store_of ms) z.owned d k T e)
  declared_own ms Γ t T z c e = nothing e

  abbrev OwnBoth : Metas → Tree × Tree → Type 0
  OwnBoth ms h = Own ms h.0 × Own ms h.1

  named_own : (at : ℕ) (x : Bytes) (ms : Metas) (Γ : List Hypothesis) → Proper ms → OwnContext ms Γ → (o : Option Tree) → IfFound (OwnBoth ms) (or_unbound x at (with_declared_type S.env Γ o))
  named_own at x ms Γ z c None = tt
  named_own at x ms Γ z c (Some t) = go (declared_type_of S.env Γ t) refl
    where
      go : (o : Option Tree) → declared_type_of S.env Γ t ≡ o → IfFound (OwnBoth ms) (or_unbound x at (option_map (λ T. (t, T)) o))
      go None e = tt
      go (Some T) e = declared_own ms Γ t T z c e

  by_name_own : (at : ℕ) (x : Bytes) → Keeping (by_name S at x)
  by_name_own at x ms Γ o z c h =
      then_finds (OwnBoth ms) (OwnTyped ms) (give (or_unbound x at (with_declared_type S.env Γ (meant S.env (names_of Γ) x)))) _ (answers (OwnBoth ms) _ (named_own at x ms Γ z c (meant S.env (names_of Γ) x))) (λ p q.
      ends at ms Γ o (record { store = ms; term = p.0; ty = p.1 }) c h (record { kept = kept_same ms z; term = q.0; ty = q.1 }))

  by_numbers_own : (at e k : ℕ) → Keeping (by_numbers S at e k)
  by_numbers_own at e k ms Γ o z c h =
      then_finds (λ (d : Constructor). Own ms d.ty) (OwnTyped ms) (give (or_no_position at (constructor_at S.env.entries e k))) _ (answers (λ (d : Constructor). Own ms d.ty) _ (go (constructor_at S.env.entries e k) refl)) (λ d q.
      ends at ms Γ o (record { store = ms; term = con e k; ty = d.ty }) c h (record { kept = kept_same ms z; term = tt; ty = q }))
    where
      go : (p : Option Constructor) → constructor_at S.env.entries e k ≡ p → IfFound (λ (d : Constructor). Own ms d.ty) (or_no_position at p)
      go None g = tt
      go (Some d) g = constructor_own S.env free.env (store_of ms) z.owned e k d.ty (ap constructor_type g)

  by_sort_own : (at : ℕ) (s : RawSort) → Keeping (by_sort S at s)
  by_sort_own at s ms Γ o z c h =
      on_any (OwnTyped ms) (give (resolved_sort S.env.names at s)) _ (λ t.
      then_finds (λ r. t ≡ sort r) (OwnTyped ms) (by at (a_sort t)) _ (by_finds (λ r. t ≡ sort r) at (a_sort t) (sort_yields t)) (λ r e.
      then_finds (Own ms) (OwnTyped ms) (by at (in_range (sort_above r))) _ (by_finds (Own ms) at (in_range (sort_above r)) (range_own S.env free.env (store_of ms) z.owned (sort_above r))) (λ T a.
      ends at ms Γ o (record { store = ms; term = t; ty = T }) c h (record { kept = kept_same ms z; term = subst (Own ms) (sym e) tt; ty = a }))))

  by_placeholder_own : (at : ℕ) → Keeping (by_placeholder at)
  by_placeholder_own at ms Γ None z c h = finds_nothing (OwnTyped ms) _ at
  by_placeholder_own at ms Γ (Some T) z c h = finds (OwnTyped ms) (placeholder ms Γ T) (placeholder_typed ms Γ T z c h)

  by_abstraction_own : (at : ℕ) (x : Bytes) (place : ℕ) (A b : Refinement) → Keeping A → Keeping b → Keeping (by_abstraction S at x place A b)
  by_abstraction_own at x place A b h j ms Γ o z c t =
      then_finds (OwnSorted ms) (OwnTyped ms) _ _ (as_type_own place A h ms Γ z c) (λ T r.
      let x' = r.kept.extends in
      so_finds (OwnTyped T.store) (OwnTyped ms) _ (λ u q. from_kept ms T.store u r.kept q)
      (then_finds (OwnProduct T.store) (OwnTyped T.store) _ _ (expected_own at T.store o r.kept.proper (in_later ms T.store x' o t)) (λ p q.
      over_type_own at x place b j T Γ o r.kept.proper (context_later ms T.store x' Γ c) r.term (in_later ms T.store x' o t) p q)))

  by_bare_abstraction_own : (at : ℕ) (x : Bytes) (b : Refinement) → Keeping b → Keeping (by_bare_abstraction S at x b)
  by_bare_abstraction_own at x b h ms Γ o z c t = then_finds (OwnProduct ms) (OwnTyped ms) _ _ (expected_own at ms o z t) (λ p q. over_domain_own at x b h ms Γ z c p q)

  by_product_own : (at : ℕ) (x : Bytes) (place : ℕ) (A : Refinement) (place' : ℕ) (B : Refinement) → Keeping A → Keeping B → Keeping (by_product S at x place A place' B)
  by_product_own at x place A place' B h j ms Γ o z c t =
      then_finds (OwnSorted ms) (OwnTyped ms) _ _ (as_type_own place A h ms Γ z c) (λ T r.
      then_finds (OwnSorted T.store) (OwnTyped ms) _ _ (as_type_own place' B j T.store (record { name = x; ty = T.term } ∷ Γ) r.kept.proper (r.term, context_later ms T.store r.kept.extends Γ c)) (λ U q.
      ends at ms Γ o (record { store = U.store; term = prod x T.term U.term; ty = sort (sort_of_product T.sort U.sort) }) c t
      (record { kept = kept_twice ms T.store U.store r.kept q.kept; term = (own_later T.store U.store q.kept.extends T.term r.term, q.term); ty = tt })))

  by_cast_own : (at : ℕ) (m : Refinement) (place : ℕ) (A : Refinement) → Keeping m → Keeping A → Keeping (by_cast S at m place A)
  by_cast_own at m place A h j ms Γ o z c t =
      then_finds (OwnSorted ms) (OwnTyped ms) _ _ (as_type_own place A j ms Γ z c) (λ T r.
      then_finds (OwnTyped T.store) (OwnTyped ms) _ _ (h T.store Γ (Some T.term) r.kept.proper (context_later ms T.store r.kept.extends Γ c) r.term) (λ u q.
      ends at ms Γ o (record { store = u.store; term = u.term; ty = T.term }) c t
      (record { kept = kept_twice ms T.store u.store r.kept q.kept; term = q.term; ty = own_later T.store u.store q.kept.extends T.term r.term })))

  by_argument_own : (Γ : List Hypothesis) (o : Option Tree) (place : ℕ) (a : Refinement) (rest : Rest) → Keeping a → RestKeeps Γ o rest → RestKeeps Γ o (by_argument S Γ place a rest)
  by_argument_own Γ o place a rest h j ms f c t r =
      then_finds (Own f.store) (OwnTyped ms) _ _ (head_finds place f.store f.ty r.kept.proper r.ty) (λ u g.
      then_finds (λ (p : Product). Own f.store p.dom × Own f.store p.cod) (OwnTyped ms) _ _ (product_finds place f.store u r.kept.proper g) (λ p k.
      then_finds (OwnTyped f.store) (OwnTyped ms) _ _ (h f.store Γ (Some p.dom) r.kept.proper c k.0) (λ v q.
      j ms (on_argument f p v) (context_later f.store v.store q.kept.extends Γ c) (in_later f.store v.store q.kept.extends o t) (argument_own ms f p v r k.1 q))))

  -- a function with its context and its expected type
  record OwnFunction (ms : Metas) (Γ : List Hypothesis) (o : Option Tree) (f : Typed) : Type 0 where
    pub context : OwnContext f.store Γ
    pub expected : OwnIn f.store o
    pub typed : OwnTyped ms f

  by_vector_own : (Γ : List Hypothesis) (o : Option Tree) (place : ℕ) (rest : Rest) → RestKeeps Γ o rest → RestKeeps Γ o (by_vector S Γ place rest)
  by_vector_own Γ o place rest h ms f c t r =
      vector_finds S Γ place (OwnFunction ms Γ o) (λ g u. Own g.store u) (OwnTyped ms) (λ g i. head_own S.env free.env (store_of g.store) i.typed.kept.proper.owned g.ty i.typed.ty) keeps rest
      (λ g i. h ms g i.context i.expected i.typed) f (record { context = c; expected = t; typed = r })
    where
      keeps : (g : Typed) → OwnFunction ms Γ o g → (u : Tree) → Own g.store u → (p : Product) → product_in u ≡ Some p → OwnFunction ms Γ o (on_argument g p (placeholder g.store Γ p.dom))
      keeps g i u q p e =
          let k = parts_of g.store u (Some p) e q in
          let a = placeholder_typed g.store Γ p.dom i.typed.kept.proper i.context k.0 in
          let x = a.kept.extends in
          record {
            context = context_later g.store ((placeholder g.store Γ p.dom).store) x Γ i.context;
            expected = in_later g.store ((placeholder g.store Γ p.dom).store) x o i.expected;
            typed = argument_own ms g p (placeholder g.store Γ p.dom) i.typed k.1 a;
          }

  by_application_own : (m : Refinement) (rest : List Hypothesis → Option Tree → Rest) → Keeping m → ((Γ : List Hypothesis) (o : Option Tree) → RestKeeps Γ o (rest Γ o)) → Keeping (by_application m rest)
  by_application_own m rest h j ms Γ o z c t =
      then_finds (OwnTyped ms) (OwnTyped ms) _ _ (h ms Γ None z c tt) (λ f r. j Γ o ms f (context_later ms f.store r.kept.extends Γ c) (in_later ms f.store r.kept.extends o t) r)

  written_return_own : (m : Refinement) → Keeping m → ReturnKeeps (written_return m)
  written_return_own m h ms Γ o f z c t q = then_finds (OwnTyped ms) (OwnPair ms) _ _ (h ms Γ None z c tt) (λ u r. finds (OwnPair ms) (u.store, u.term) (record { kept = r.kept; term = r.term }))

  expected_return_own : (at : ℕ) → ReturnKeeps (expected_return at)
  expected_return_own at ms Γ None f z c t q = finds_nothing (OwnPair ms) _ at
  expected_return_own at ms Γ (Some U) f z c t q =
      finds (OwnPair ms) _ (record { kept = kept_same ms z; term = constant_return_own (InStore (store_of ms)) f.arity (apps (Ind f.number) f.params) U q.arity (apps_metas (InStore (store_of ms)) (Ind f.number) f.params tt q.params) t })

  no_body_own : BodiesKeep no_body
  no_body_own ms Γ f r n cs z c p a q = finds (OwnArms ms) (ms, NoArm) (record { kept = kept_same ms z; arms = tt })

  one_body_own : (at : ℕ) (xs : List Bytes) (b : Refinement) (others : Bodies) → Keeping b → BodiesKeep others → BodiesKeep (one_body at xs b others)
  one_body_own at xs b others h j ms Γ f r n [] z c p a q = finds_nothing (OwnArms ms) _ at
  one_body_own at xs b others h j ms Γ f r n (d ∷ ds) z c p a q =
      then_finds (λ u. at_args d.ty f.params ≡ Some u) (OwnArms ms) (by at (eliminable (at_args d.ty f.params))) _ (by_finds (λ u. at_args d.ty f.params ≡ Some u) at _ (eliminable_yields (at_args d.ty f.params))) (λ u eu.
      let hu : Own ms u = at_args_own (InStore (store_of ms)) d.ty f.params u (free_in (InStore (store_of ms)) d.ty q.0) p eu in
      let goal = branch_type (count f.params) r (apps (con f.number n) f.params) u xs in
      then_finds (λ v. goal ≡ Some v) (OwnArms ms) (by at (eliminable goal)) _ (by_finds (λ v. goal ≡ Some v) at _ (eliminable_yields goal)) (λ v ev.
      let hv : Own ms v = branch_type_own (InStore (store_of ms)) (count f.params) r (apps (con f.number n) f.params) u xs v a (apps_metas (InStore (store_of ms)) (con f.number n) f.params tt p) hu ev in
      then_finds (OwnTyped ms) (OwnArms ms) _ _ (h ms (branch_context Γ u xs) (Some v) z (branch_context_own (InStore (store_of ms)) Γ u xs c hu) hv) (λ t k.
      let x = k.kept.extends in
      then_finds (OwnArms t.store) (OwnArms ms) _ _ (j t.store Γ f r (suc n) ds k.kept.proper (context_later ms t.store x Γ c) (weaker_all (InStore (store_of ms)) (InStore (store_of t.store)) (stays ms t.store x) f.params p) (own_later ms t.store x r a) q.1) (λ bs g.
      finds (OwnArms ms) (bs.0, Arm xs t.term bs.1) (record { kept = kept_twice ms t.store bs.0 k.kept g.kept; arms = (own_later t.store bs.0 g.kept.extends t.term k.term, g.arms) })))))

  by_match_own : (at : ℕ) (m : Refinement) (return : Return) (arms : Cases) (bodies : Bodies) → Keeping m → ReturnKeeps return → BodiesKeep bodies → Keeping (by_match S at m return arms bodies)
  by_match_own at m return arms bodies h j l ms Γ o z c t =
      then_finds (OwnTyped ms) (OwnTyped ms) _ _ (h ms Γ None z c tt) (λ d r.
      let x1 = r.kept.extends in
      then_finds (Own d.store) (OwnTyped ms) (head at d.store d.ty) _ (head_finds at d.store d.ty r.kept.proper r.ty) (λ u q.
      then_finds (λ f. as_family S.env.entries u ≡ Some f) (OwnTyped ms) (by at (eliminable (as_family S.env.entries u))) _ (by_finds (λ f. as_family S.env.entries u ≡ Some f) at _ (eliminable_yields (as_family S.env.entries u))) (λ f e.
      let w : OwnFamily (InStore (store_of d.store)) f = own_family (InStore (store_of d.store)) S.env free.env u f q e in
      on_any (OwnTyped ms) (by at (checked (name_all (count f.params) f.constructors arms))) _ (λ y.
      then_finds (OwnPair d.store) (OwnTyped ms) (return d.store Γ o f) _ (j d.store Γ o f r.kept.proper (context_later ms d.store x1 Γ c) (in_later ms d.store x1 o t) w) (λ p k.
      on_any (OwnTyped ms) (in_store p.0 (by at (elimination S.env (store_of p.0) Γ f p.1))) _ (λ s.
      let x2 = k.kept.extends in
      let c2 : OwnContext p.0 Γ = context_later d.store p.0 x2 Γ (context_later ms d.store x1 Γ c) in
      then_finds (OwnArms p.0) (OwnTyped ms) (bodies p.0 Γ f p.1 zero f.constructors) _ (l p.0 Γ f p.1 zero f.constructors k.kept.proper c2 (weaker_all (InStore (store_of d.store)) (InStore (store_of p.0)) (stays d.store p.0 x2) f.params w.params) k.term w.constructors) (λ bs b.
      let x3 = b.kept.extends in
      let x23 : Extends (store_of d.store) (store_of bs.0) = (kept_twice d.store p.0 bs.0 k.kept b.kept).extends in
      let hd : Own bs.0 d.term = own_later d.store bs.0 x23 d.term r.term in
      let hr : Own bs.0 p.1 = own_later p.0 bs.0 x3 p.1 k.term in
      let hi : AllMetasIn (InStore (store_of bs.0)) f.indices = weaker_all (InStore (store_of d.store)) (InStore (store_of bs.0)) (stays d.store bs.0 x23) f.indices w.indices in
      ends at ms Γ o (record { store = bs.0; term = match f.number p.1 d.term bs.1; ty = motive_on_all p.1 (join f.indices (Item d.term End)) }) c t
      (record {
        kept = kept_twice ms d.store bs.0 r.kept (kept_twice d.store p.0 bs.0 k.kept b.kept);
        term = (hr, hd, b.arms);
        ty = motive_on_all_metas (InStore (store_of bs.0)) p.1 (join f.indices (Item d.term End)) hr (join_metas (InStore (store_of bs.0)) f.indices (Item d.term End) hi (hd, tt));
      }))))))))

  either : (Γ : List Hypothesis) (o : Option Tree) (b : Bool) (m m' : Rest) → RestKeeps Γ o m → RestKeeps Γ o m' → RestKeeps Γ o (if b then m else m')
  either Γ o true m m' h j = h
  either Γ o false m m' h j = j

  -- all raw terms
  mutual
    refined_own : (w : Written) → Keeping (refined S w)
    refined_own (Term at f) ms Γ o z c t = charge_finds (OwnTyped ms) _ (form_own at f ms Γ o z c t)

    form_own : (at : ℕ) (f : Form) → Keeping (refined_form S at f)
    form_own at (Name x) = by_name_own at x
    form_own at (Con e k) = by_numbers_own at e k
    form_own at Hole = by_placeholder_own at
    form_own at Vector = λ ms Γ o z c t. finds_nothing (OwnTyped ms) _ at
    form_own at (Sort s) = by_sort_own at s
    form_own at (Lam x Absent b) = by_bare_abstraction_own at x _ (refined_own b)
    form_own at (Lam x (Given A) b) = by_abstraction_own at x (place_of A) _ _ (refined_own A) (refined_own b)
    form_own at (Prod x A B) = by_product_own at x (place_of A) _ (place_of B) _ (refined_own A) (refined_own B)
    form_own at (App f args) = by_application_own _ _ (refined_own f) (arguments_own at args)
    form_own at (Match c Absent arms) = by_match_own at _ _ arms _ (refined_own c) (expected_return_own at) (bodies_own at arms)
    form_own at (Match c (Given R) arms) = by_match_own at _ _ arms _ (refined_own c) (written_return_own _ (refined_own R)) (bodies_own at arms)
    form_own at (Cast m T) = by_cast_own at _ (place_of T) _ (refined_own m) (refined_own T)

    arguments_own : (at : ℕ) (args : Arguments) (Γ : List Hypothesis) (o : Option Tree) → RestKeeps Γ o (refined_arguments S at args Γ o)
    arguments_own at NoArgument Γ o = λ ms f c t r. finish_own at ms Γ o f c t r
    arguments_own at (Argument a args) Γ o = either Γ o (is_vector a) _ _ (by_vector_own Γ o (place_of a) _ (arguments_own at args Γ o)) (by_argument_own Γ o (place_of a) _ _ (refined_own a) (arguments_own at args Γ o))

    bodies_own : (at : ℕ) (arms : Cases) → BodiesKeep (refined_bodies S at arms)
    bodies_own at NoCase = no_body_own
    bodies_own at (Case x xs b arms) = one_body_own at xs _ _ (refined_own b) (bodies_own at arms)

pub refinement_proper_law : RefinementProperLaw
unfolding refine
refinement_proper_law S free ms Γ w o t n l z c h e =
    let r : OwnTyped ms t = (refined_own S free w ms Γ o z c (own_in o h)).yields n (Found t) l e in
    (r.kept.proper, r.term, r.ty)
  where
    own_in : (o : Option Tree) → ((U : Tree) → o ≡ Some U → Own ms U) → OwnIn ms o
    own_in None h = tt
    own_in (Some U) h = h U refl
