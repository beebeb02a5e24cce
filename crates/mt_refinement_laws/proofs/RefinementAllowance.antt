-- Refinement goes by its allowance.
use Rattle.std.proofs.Common.{arith}
use Rattle.std.specs.Prelude.{ℕ, zero, suc, ◌-◌, List, [], ◌∷◌, Bool, true, false, if◌then◌else◌, Option, Some, None}
use Rattle.mt_term.specs.Trees.{Bytes, Tree, Con as con}
use Rattle.mt_term.specs.Substitution.{apps, count}
use Rattle.mt_term.specs.Spines.{at_args}
use Rattle.mt_term.specs.UniverseForms.{sort_above}
use Rattle.mt_term.specs.Declarations.{Hypothesis, Constructor}
use Rattle.mt_term.specs.Reasons.{Reason}
use Rattle.mt_rules.specs.Charges.{Charged}
use Rattle.mt_rules.specs.Inference.{Product, Family, as_family, branch_context, branch_type}
use Rattle.mt_term.specs.Stores.{store_of}
use Rattle.mt_rules.specs.WeakHead.{whd}
use Rattle.mt_term.specs.declared.universes.Sort.{Sort as AnySort}
use Rattle.mt_rules_laws.proofs.Charged.{Agree, AgreeAfter, give-agree, charge-agree}
use Rattle.mt_rules_laws.proofs.KnotLaws.{fixed-agree}
use Rattle.mt_rules_laws.proofs.WeakHeadLaws.{whd-agree}
use Rattle.mt_rules_laws.proofs.InferenceLaws.{a_sort-agree, a_product-agree, eliminable-agree, checked-agree, in_range-agree, elimination-agree}
use Rattle.mt_rules_laws.proofs.AllowanceTheorem.{by_allowance}
use Rattle.mt_unification_rules.specs.Placeholders.{Metas, Typed}
use Rattle.mt_unification_laws.proofs.UnificationAllowance.{unify-agree}
use Rattle.mt_term_parser.specs.declared.raw.RawSort.{RawSort}
use Rattle.mt_term_parser.specs.Written.{Written, Form, Arguments, Cases, Term, Name, Con, Hole, Vector, Sort, Lam, Prod, App, Match, Cast, Absent, Given, NoArgument, Argument, NoCase, Case}
use Rattle.mt_resolver.specs.Resolution.{Resolution, name_all, resolved_sort}
use Rattle.mt_refinement_rules.specs.Coercions.{Coercion}
use Rattle.mt_refinement_rules.specs.Settings.{Setting}
use Rattle.mt_refinement_rules.specs.Placed.{Placed, faults, tried, by}
use Rattle.mt_refinement_rules.specs.Finishing.{Refinement, fitted, on_new, under_coercion, inserted, on_path, finish, Sorted, as_type}
use Rattle.mt_refinement_rules.specs.Heads.{by_name, by_numbers, by_sort}
use Rattle.mt_refinement_rules.specs.Placeholders.{by_placeholder}
use Rattle.mt_refinement_rules.specs.Binders.{product_in, expected_product, abstracted, over_type, by_abstraction, over_domain, by_bare_abstraction, by_product, by_cast}
use Rattle.mt_refinement_rules.specs.Applications.{Rest, by_argument, on_product, placeholders, one_more, by_vector, by_application}
use Rattle.mt_refinement_rules.specs.Matches.{Return, written_return, expected_return, Bodies, no_body, one_body, by_match}
use Rattle.mt_refinement_rules.specs.Refinement.{place_of, is_vector, refined, refined_form, refined_arguments, refined_bodies, refine}
use Rattle.mt_refinement_laws.specs.RefinementLaws.{RefinementAllowanceLaw}
use Rattle.mt_refinement_laws.proofs.PlacedLaws.{found-agree, faults-agree, by-agree, next-agree, attempt-agree, in_store-agree}

-- what goes by the allowance, at every one: a refinement, the rest of an application, the motive and the bodies of a match
abbrev Goes : Refinement → Type 0
Goes m = (k i : ℕ) (ms : Metas) (Γ : List Hypothesis) (o : Option Tree) → Agree k i (m ms Γ o) (m ms Γ o)

abbrev RestGoes : Rest → Type 0
RestGoes m = (k i : ℕ) (f : Typed) → Agree k i (m f) (m f)

abbrev ReturnGoes : Return → Type 0
ReturnGoes m = (k i : ℕ) (ms : Metas) (Γ : List Hypothesis) (o : Option Tree) (f : Family) → Agree k i (m ms Γ o f) (m ms Γ o f)

abbrev BodiesGo : Bodies → Type 0
BodiesGo m = (k i : ℕ) (ms : Metas) (Γ : List Hypothesis) (f : Family) (r : Tree) (n : ℕ) (cs : List Constructor) → Agree k i (m ms Γ f r n cs) (m ms Γ f r n cs)

-- after a charge, where it goes at every allowance
after : {A : Type 0} (k i : ℕ) (m : Charged A) → ((j : ℕ) → Agree j i m m) → AgreeAfter k i m m
after zero i m h = tt
after (suc k) i m h = h k

-- what agrees with itself up to an allowance agrees with itself below it
sooner : {A : Type 0} (k i : ℕ) (m : Charged A) → Agree k i m m → AgreeAfter k i m m
sooner zero i m h = tt
sooner (suc k) i m h = record { at = λ n l. h.at n (omega (arith, l)) }

module _ (S : Setting) where
  module _ (k i : ℕ) where
    head-agree : (at : ℕ) (ms : Metas) (t : Tree) → Agree k i (by at (whd S.env (store_of ms) t)) (by at (whd S.env (store_of ms) t))
    head-agree at ms t = by-agree k i at _ _ (whd-agree S.env (store_of ms) k i t)

    fitted-agree : (at : ℕ) (Γ : List Hypothesis) (t : Typed) (U : Tree) → Agree k i (fitted S at Γ t U) (fitted S at Γ t U)
    fitted-agree at Γ t U = next-agree k i _ _ _ _ (by-agree k i at _ _ (unify-agree S.env S.hints k i t.store Γ _ t.ty U)) (λ ms. found-agree k i _)

    -- coercions
    on_new-agree : (at : ℕ) (Γ : List Hypothesis) (n : ℕ) (f : Typed) → Agree k i (on_new at Γ n f) (on_new at Γ n f)
    on_new-agree at Γ zero f = found-agree k i f
    on_new-agree at Γ (suc n) f = charge-agree k i _ _ (sooner k i _ (next-agree k i _ _ _ _ (by-agree k i at _ _ (a_product-agree k i f.ty)) (λ (p : Product). on_new-agree at Γ n _)))

    under_coercion-agree : (at : ℕ) (Γ : List Hypothesis) (c : Coercion) (t : Typed) → Agree k i (under_coercion S at Γ c t) (under_coercion S at Γ c t)
    under_coercion-agree at Γ c t =
        charge-agree k i _ _ (sooner k i _
        (next-agree k i _ _ _ _ (on_new-agree at Γ (c.count - 1) _) (λ f.
        next-agree k i _ _ _ _ (by-agree k i at _ _ (a_product-agree k i f.ty)) (λ (p : Product).
        next-agree k i _ _ _ _ (by-agree k i at _ _ (unify-agree S.env S.hints k i f.store Γ _ t.ty p.dom)) (λ ms. found-agree k i _)))))

    inserted-agree : (at : ℕ) (Γ : List Hypothesis) (U : Tree) (cs : List Coercion) (t : Typed) → Agree k i (inserted S at Γ U cs t) (inserted S at Γ U cs t)
    inserted-agree at Γ U [] t = fitted-agree at Γ t U
    inserted-agree at Γ U (c ∷ cs) t = next-agree k i _ _ _ _ (under_coercion-agree at Γ c t) (λ u. inserted-agree at Γ U cs u)

    on_path-agree : (at : ℕ) (Γ : List Hypothesis) (t : Typed) (U : Tree) (o : Option (List Coercion)) → Agree k i (on_path S at Γ t U o) (on_path S at Γ t U o)
    on_path-agree at Γ t U None = faults-agree k i _ at
    on_path-agree at Γ t U (Some cs) = attempt-agree k i _ _ _ _ (inserted-agree at Γ U cs t) (λ r place. faults-agree k i _ at)

    finish-agree : (at : ℕ) (Γ : List Hypothesis) (o : Option Tree) (t : Typed) → Agree k i (finish S at Γ o t) (finish S at Γ o t)
    finish-agree at Γ None t = found-agree k i t
    finish-agree at Γ (Some U) t =
        attempt-agree k i _ _ _ _ (fitted-agree at Γ t U) (λ r place.
        next-agree k i _ _ _ _ (head-agree at t.store t.ty) (λ u. next-agree k i _ _ _ _ (head-agree at t.store U) (λ v. on_path-agree at Γ t U _)))

    as_type-agree : (at : ℕ) (m : Refinement) → Goes m → (ms : Metas) (Γ : List Hypothesis) → Agree k i (as_type S at m ms Γ) (as_type S at m ms Γ)
    as_type-agree at m h ms Γ =
        next-agree k i _ _ _ _ (h k i ms Γ None) (λ t.
        next-agree k i _ _ _ _ (head-agree at t.store t.ty) (λ u.
        next-agree k i _ _ _ _ (by-agree k i at _ _ (a_sort-agree k i u)) (λ s. found-agree k i _)))

    expected_product-agree : (at : ℕ) (ms : Metas) (o : Option Tree) → Agree k i (expected_product S at ms o) (expected_product S at ms o)
    expected_product-agree at ms None = found-agree k i _
    expected_product-agree at ms (Some U) = next-agree k i _ _ _ _ (head-agree at ms U) (λ u. found-agree k i _)

    abstracted-agree : (x : Bytes) (A : Tree) (b : Refinement) → Goes b → (ms : Metas) (Γ : List Hypothesis) (o : Option Tree) → Agree k i (abstracted x A b ms Γ o) (abstracted x A b ms Γ o)
    abstracted-agree x A b h ms Γ o = next-agree k i _ _ _ _ (h k i ms _ o) (λ t. found-agree k i _)

    over_type-agree : (at : ℕ) (x : Bytes) (place : ℕ) (b : Refinement) → Goes b → (A : Sorted) (Γ : List Hypothesis) (o : Option Tree) (p : Option Product) → Agree k i (over_type S at x place b A Γ o p) (over_type S at x place b A Γ o p)
    over_type-agree at x place b h A Γ o (Some p) = next-agree k i _ _ _ _ (in_store-agree k i A.store _ _ (by-agree k i place _ _ (unify-agree S.env S.hints k i A.store Γ _ A.term p.dom))) (λ ms. abstracted-agree x A.term b h ms Γ (Some p.cod))
    over_type-agree at x place b h A Γ o None = next-agree k i _ _ _ _ (abstracted-agree x A.term b h A.store Γ None) (λ t. finish-agree at Γ o t)

    over_domain-agree : (at : ℕ) (x : Bytes) (b : Refinement) → Goes b → (ms : Metas) (Γ : List Hypothesis) (p : Option Product) → Agree k i (over_domain at x b ms Γ p) (over_domain at x b ms Γ p)
    over_domain-agree at x b h ms Γ (Some p) = abstracted-agree x p.dom b h ms Γ (Some p.cod)
    over_domain-agree at x b h ms Γ None = faults-agree k i _ at

  -- the rules
  by_name-goes : (at : ℕ) (x : Bytes) → Goes (by_name S at x)
  by_name-goes at x k i ms Γ o = next-agree k i _ _ _ _ (give-agree k i _) (λ h. finish-agree k i at Γ o _)

  by_numbers-goes : (at e c : ℕ) → Goes (by_numbers S at e c)
  by_numbers-goes at e c k i ms Γ o = next-agree k i _ _ _ _ (give-agree k i _) (λ h. finish-agree k i at Γ o _)

  by_sort-goes : (at : ℕ) (s : RawSort) → Goes (by_sort S at s)
  by_sort-goes at s k i ms Γ o =
      next-agree k i _ _ _ _ (give-agree k i (resolved_sort S.env.names at s)) (λ t.
      next-agree k i _ _ _ _ (by-agree k i at _ _ (a_sort-agree k i t)) (λ (s : AnySort).
      next-agree k i _ _ _ _ (by-agree k i at _ _ (in_range-agree k i (sort_above s))) (λ T. finish-agree k i at Γ o _)))

  by_placeholder-goes : (at : ℕ) → Goes (by_placeholder at)
  by_placeholder-goes at k i ms Γ None = faults-agree k i _ at
  by_placeholder-goes at k i ms Γ (Some T) = found-agree k i _

  by_abstraction-goes : (at : ℕ) (x : Bytes) (place : ℕ) (A b : Refinement) → Goes A → Goes b → Goes (by_abstraction S at x place A b)
  by_abstraction-goes at x place A b h j k i ms Γ o =
      next-agree k i _ _ _ _ (as_type-agree k i place A h ms Γ) (λ T.
      next-agree k i _ _ _ _ (expected_product-agree k i at T.store o) (λ p. over_type-agree k i at x place b j T Γ o p))

  by_bare_abstraction-goes : (at : ℕ) (x : Bytes) (b : Refinement) → Goes b → Goes (by_bare_abstraction S at x b)
  by_bare_abstraction-goes at x b h k i ms Γ o = next-agree k i _ _ _ _ (expected_product-agree k i at ms o) (λ p. over_domain-agree k i at x b h ms Γ p)

  by_product-goes : (at : ℕ) (x : Bytes) (place : ℕ) (A : Refinement) (place' : ℕ) (B : Refinement) → Goes A → Goes B → Goes (by_product S at x place A place' B)
  by_product-goes at x place A place' B h j k i ms Γ o =
      next-agree k i _ _ _ _ (as_type-agree k i place A h ms Γ) (λ T.
      next-agree k i _ _ _ _ (as_type-agree k i place' B j T.store _) (λ U. finish-agree k i at Γ o _))

  by_cast-goes : (at : ℕ) (t : Refinement) (place : ℕ) (A : Refinement) → Goes t → Goes A → Goes (by_cast S at t place A)
  by_cast-goes at t place A h j k i ms Γ o =
      next-agree k i _ _ _ _ (as_type-agree k i place A j ms Γ) (λ T.
      next-agree k i _ _ _ _ (h k i T.store Γ (Some T.term)) (λ u. finish-agree k i at Γ o _))

  by_argument-goes : (Γ : List Hypothesis) (place : ℕ) (a : Refinement) (rest : Rest) → Goes a → RestGoes rest → RestGoes (by_argument S Γ place a rest)
  by_argument-goes Γ place a rest h j k i f =
      next-agree k i _ _ _ _ (head-agree k i place f.store f.ty) (λ u.
      next-agree k i _ _ _ _ (by-agree k i place _ _ (a_product-agree k i u)) (λ (p : Product).
      next-agree k i _ _ _ _ (h k i f.store Γ (Some p.dom)) (λ t. j k i _)))

  module _ (Γ : List Hypothesis) (place : ℕ) (r : Reason) (at : ℕ) where
    on_product-agree : (k i : ℕ) (rest rest' : Rest) → ((g : Typed) → AgreeAfter k i (rest g) (rest' g)) → (f : Typed) (p : Option Product) → Agree k i (on_product Γ (faults r at) rest f p) (on_product Γ (faults r at) rest' f p)
    on_product-agree k i rest rest' h f (Some p) = charge-agree k i _ _ (h _)
    on_product-agree k i rest rest' h f None = faults-agree k i r at

    later : {A : Type 0} (k i : ℕ) (m m' : Charged A) → Agree k i m m' → AgreeAfter k i m m'
    later zero i m m' h = tt
    later (suc k) i m m' h = record { at = λ n l. h.at n (omega (arith, l)) }

    placeholders-agree : (k i j : ℕ) (rest rest' : Rest) → ((g : Typed) → Agree k i (rest g) (rest' g)) → (f : Typed) → Agree k i (placeholders S Γ place (faults r at) j rest f) (placeholders S Γ place (faults r at) j rest' f)
    placeholders-agree k i zero rest rest' h f = h f
    placeholders-agree k i (suc j) rest rest' h f =
        next-agree k i _ _ _ _ (head-agree k i place f.store f.ty) (λ u. on_product-agree k i _ _ (λ g. later k i _ _ (placeholders-agree k i j rest rest' h g)) f (product_in u))

    one_more-agree : (rest : Rest) → RestGoes rest → (f : Typed) (k i : ℕ) (again again' : ℕ → Placed Typed) → ((j : ℕ) → AgreeAfter k i (again j) (again' j)) → (j : ℕ) → Agree k i (one_more S Γ place rest f r at again j) (one_more S Γ place rest f r at again' j)
    one_more-agree rest g f k i again again' h j =
        next-agree k i _ _ _ _ (head-agree k i place f.store f.ty) (λ u. on_product-agree k i _ _ (inside k h) f (product_in u))
      where
        inside : (k : ℕ) → ((j : ℕ) → AgreeAfter k i (again j) (again' j)) → (e : Typed) → AgreeAfter k i (placeholders S Γ place (faults r at) j (λ d. tried (rest d) (λ s p. again (suc j))) e) (placeholders S Γ place (faults r at) j (λ d. tried (rest d) (λ s p. again' (suc j))) e)
        inside zero h e = tt
        inside (suc k) h e = placeholders-agree k i j _ _ (λ d. attempt-agree k i _ _ _ _ (g k i d) (λ s p. h (suc j))) e

  by_vector-goes : (Γ : List Hypothesis) (place : ℕ) (rest : Rest) → RestGoes rest → RestGoes (by_vector S Γ place rest)
  by_vector-goes Γ place rest h k i f =
      attempt-agree k i _ _ _ _ (h k i f) (λ r at.
      fixed-agree ℕ (λ j. Resolution Typed) (one_more S Γ place rest f r at) (record { agrees = λ k i again again' g j. one_more-agree Γ place r at rest h f k i again again' g j }) k i zero)

  by_application-goes : (m : Refinement) (rest : List Hypothesis → Option Tree → Rest) → Goes m → ((Γ : List Hypothesis) (o : Option Tree) → RestGoes (rest Γ o)) → Goes (by_application m rest)
  by_application-goes m rest h j k i ms Γ o = next-agree k i _ _ _ _ (h k i ms Γ None) (λ f. j Γ o k i f)

  written_return-goes : (m : Refinement) → Goes m → ReturnGoes (written_return m)
  written_return-goes m h k i ms Γ o f = next-agree k i _ _ _ _ (h k i ms Γ None) (λ t. found-agree k i _)

  expected_return-goes : (at : ℕ) → ReturnGoes (expected_return at)
  expected_return-goes at k i ms Γ (Some U) f = found-agree k i _
  expected_return-goes at k i ms Γ None f = faults-agree k i _ at

  no_body-goes : BodiesGo no_body
  no_body-goes k i ms Γ f r n cs = found-agree k i _

  one_body-goes : (at : ℕ) (xs : List Bytes) (b : Refinement) (others : Bodies) → Goes b → BodiesGo others → BodiesGo (one_body at xs b others)
  one_body-goes at xs b others h j k i ms Γ f r n [] = faults-agree k i _ at
  one_body-goes at xs b others h j k i ms Γ f r n (c ∷ cs) =
      next-agree k i _ _ _ _ (by-agree k i at _ _ (eliminable-agree k i (at_args c.ty f.params))) (λ (u : Tree).
      next-agree k i _ _ _ _ (by-agree k i at _ _ (eliminable-agree k i (branch_type (count f.params) r (apps (con f.number n) f.params) u xs))) (λ (U : Tree).
      next-agree k i _ _ _ _ (h k i ms (branch_context Γ u xs) (Some U)) (λ t.
      next-agree k i _ _ _ _ (j k i t.store Γ f r (suc n) cs) (λ bs. found-agree k i _))))

  by_match-goes : (at : ℕ) (c : Refinement) (return : Return) (arms : Cases) (bodies : Bodies) → Goes c → ReturnGoes return → BodiesGo bodies → Goes (by_match S at c return arms bodies)
  by_match-goes at c return arms bodies h j l k i ms Γ o =
      next-agree k i _ _ _ _ (h k i ms Γ None) (λ t.
      next-agree k i _ _ _ _ (head-agree k i at t.store t.ty) (λ u.
      next-agree k i _ _ _ _ (by-agree k i at _ _ (eliminable-agree k i (as_family S.env.entries u))) (λ (f : Family).
      next-agree k i _ _ _ _ (by-agree k i at _ _ (checked-agree k i (name_all (count f.params) f.constructors arms))) (λ z.
      next-agree k i _ _ _ _ (j k i t.store Γ o f) (λ r.
      next-agree k i _ _ _ _ (in_store-agree k i r.0 _ _ (by-agree k i at _ _ (elimination-agree S.env (store_of r.0) k i Γ f r.1))) (λ s.
      next-agree k i _ _ _ _ (l k i r.0 Γ f r.1 zero f.constructors) (λ bs. finish-agree k i at Γ o _)))))))

  either : (b : Bool) (m m' : Rest) → RestGoes m → RestGoes m' → RestGoes (if b then m else m')
  either true m m' h j = h
  either false m m' h j = j

  -- all raw terms
  mutual
    refined-goes : (w : Written) → Goes (refined S w)
    refined-goes (Term at f) k i ms Γ o = charge-agree k i _ _ (after k i _ (λ j. form-goes at f j i ms Γ o))

    form-goes : (at : ℕ) (f : Form) → Goes (refined_form S at f)
    form-goes at (Name x) = by_name-goes at x
    form-goes at (Con e c) = by_numbers-goes at e c
    form-goes at Hole = by_placeholder-goes at
    form-goes at Vector = λ k i ms Γ o. faults-agree k i _ at
    form-goes at (Sort s) = by_sort-goes at s
    form-goes at (Lam x Absent b) = by_bare_abstraction-goes at x _ (refined-goes b)
    form-goes at (Lam x (Given A) b) = by_abstraction-goes at x (place_of A) _ _ (refined-goes A) (refined-goes b)
    form-goes at (Prod x A B) = by_product-goes at x (place_of A) _ (place_of B) _ (refined-goes A) (refined-goes B)
    form-goes at (App f args) = by_application-goes _ _ (refined-goes f) (arguments-go at args)
    form-goes at (Match c Absent arms) = by_match-goes at _ _ arms _ (refined-goes c) (expected_return-goes at) (bodies-go at arms)
    form-goes at (Match c (Given R) arms) = by_match-goes at _ _ arms _ (refined-goes c) (written_return-goes _ (refined-goes R)) (bodies-go at arms)
    form-goes at (Cast t T) = by_cast-goes at _ (place_of T) _ (refined-goes t) (refined-goes T)

    arguments-go : (at : ℕ) (args : Arguments) (Γ : List Hypothesis) (o : Option Tree) → RestGoes (refined_arguments S at args Γ o)
    arguments-go at NoArgument Γ o = λ k i f. finish-agree k i at Γ o f
    arguments-go at (Argument a args) Γ o = either (is_vector a) _ _ (by_vector-goes Γ (place_of a) _ (arguments-go at args Γ o)) (by_argument-goes Γ (place_of a) _ _ (refined-goes a) (arguments-go at args Γ o))

    bodies-go : (at : ℕ) (arms : Cases) → BodiesGo (refined_bodies S at arms)
    bodies-go at NoCase = no_body-goes
    bodies-go at (Case x xs b arms) = one_body-goes at xs _ _ (refined-goes b) (bodies-go at arms)

pub refine-agree : (S : Setting) (k i : ℕ) (ms : Metas) (Γ : List Hypothesis) (w : Written) (o : Option Tree) → Agree k i (refine S ms Γ w o) (refine S ms Γ w o)
unfolding refine
refine-agree S k i ms Γ w o = refined-goes S w k i ms Γ o

pub refinement_allowance_law : RefinementAllowanceLaw
refinement_allowance_law S ms Γ w o = by_allowance _ (λ k i. refine-agree S k i ms Γ w o)
