-- A refusal of refinement has a place, which is that of the raw term or of one that stands in it.
use Rattle.std.specs.Prelude.{ℕ, zero, suc, ◌-◌, List, [], ◌∷◌, Bool, true, false, if◌then◌else◌, Option, Some, None}
use Rattle.mt_term.specs.Trees.{Bytes, Tree, Con as con, Match as match, End, Item, Arm}
use Rattle.mt_term.specs.Substitution.{apps, join, count}
use Rattle.mt_term.specs.Spines.{motive_on_all, at_args}
use Rattle.mt_term.specs.UniverseForms.{sort_above}
use Rattle.mt_rules.specs.Charges.{Charged}
use Rattle.mt_term.specs.Stores.{store_of}
use Rattle.mt_rules.specs.WeakHead.{whd}
use Rattle.mt_term.specs.Declarations.{Hypothesis, Constructor, constructor_at}
use Rattle.mt_term.specs.Reasons.{Reason}
use Rattle.mt_rules.specs.Inference.{Product, Family, a_sort, a_product, eliminable, checked, in_range, as_family, branch_context, branch_type, elimination}
use Rattle.mt_term.specs.declared.modes.Mode.TheVariants.{Equal, AtMost}
use Rattle.mt_unification_rules.specs.Placeholders.{Metas, Typed}
use Rattle.mt_unification_rules.specs.Unification.{unify}
use Rattle.mt_term_parser.specs.declared.raw.RawSort.{RawSort}
use Rattle.mt_term_parser.specs.declared.raw.RawSort.TheVariants as raw_sort
use Rattle.mt_term_parser.specs.declared.raw.Part.{Part}
use Rattle.mt_term_parser.specs.declared.raw.Part.TheVariants as part
use Rattle.mt_term_parser.specs.Written.{Written, Form, Arguments, Cases, Term, Name, Con, Hole, Vector, Sort, Lam, Prod, App, Match, Cast, Absent, Given, NoArgument, Argument, NoCase, Case}
use Rattle.mt_resolver.specs.Resolution.{Resolution, Found, Faults, then_found, first_place, meant, or_unbound, name_all, resolved_parts, resolved_sort}
use Rattle.mt_refinement_rules.specs.Coercions.{Coercion}
use Rattle.mt_refinement_rules.specs.Settings.{Setting}
use Rattle.mt_refinement_rules.specs.Placed.{Placed, faults, ◌>>=◌, by, tried}
use Rattle.mt_refinement_rules.specs.Finishing.{Refinement, names_of, fitted, finish, Sorted, as_type, on_new, under_coercion, inserted, on_path}
use Rattle.mt_refinement_rules.specs.Heads.{with_declared_type, or_no_position, by_name, by_numbers, by_sort}
use Rattle.mt_refinement_rules.specs.Placeholders.{by_placeholder}
use Rattle.mt_refinement_rules.specs.Binders.{product_in, expected_product, abstracted, over_type, by_abstraction, over_domain, by_bare_abstraction, by_product, by_cast}
use Rattle.mt_refinement_rules.specs.Applications.{Rest, by_argument, on_product, placeholders, one_more, by_vector, by_application}
use Rattle.mt_refinement_rules.specs.Matches.{Return, written_return, expected_return, Bodies, no_body, one_body, by_match}
use Rattle.mt_refinement_laws.specs.Places.{IsPlaceIn}
use Rattle.mt_refinement_laws.proofs.AllPlaces.{AllPlaces, AllPlacesInside, AllPlacesIn, AllPlacesOf, all_places}
use Rattle.mt_refinement_rules.specs.Refinement.{place_of, is_vector, refined, refined_form, refined_arguments, refined_bodies, refine}
use Rattle.mt_refinement_laws.specs.RefinementLaws.{RefinementPlaceLaw}
use Rattle.mt_refinement_laws.proofs.PlacedFaults.{Placing, finds_place, at_place, answer_place, IfFaults, by_place, charge_place, then_place, try_place, in_store_place, fixed_place, no_refusal, fault_place}

module _ (P : ℕ → Type 0) where
  -- what costs nothing is refused at its own place
  unbound_place : {A : Type 0} (x : Bytes) (at : ℕ) (o : Option A) → P at → IfFaults P (or_unbound x at o)
  unbound_place x at None p = p
  unbound_place x at (Some a) p = tt

  position_place : (at : ℕ) (o : Option Constructor) → P at → IfFaults P (or_no_position at o)
  position_place at None p = p
  position_place at (Some c) p = tt

  found_place : {A B : Type 0} (o : Resolution A) (f : A → Resolution B) → IfFaults P o → ((a : A) → IfFaults P (f a)) → IfFaults P (then_found o f)
  found_place (Found a) f h j = j a
  found_place (Faults r at) f h j = h

  parts_place : (names : List Bytes) (at : ℕ) (parts : List Part) → P at → IfFaults P (resolved_parts names at parts)
  parts_place names at [] p = tt
  parts_place names at (part.Number k ∷ parts) p = found_place (resolved_parts names at parts) _ (parts_place names at parts p) (λ u. tt)
  parts_place names at (part.Name x k ∷ parts) p =
      found_place (or_unbound x at (first_place names x)) _ (unbound_place x at (first_place names x) p) (λ n. found_place (resolved_parts names at parts) _ (parts_place names at parts p) (λ u. tt))

  sort_place : (names : List Bytes) (at : ℕ) (s : RawSort) → P at → IfFaults P (resolved_sort names at s)
  sort_place names at raw_sort.Prop p = tt
  sort_place names at (raw_sort.Typ parts) p = found_place (resolved_parts names at parts) _ (parts_place names at parts p) (λ u. tt)

  -- refinements, rests of applications, motives and bodies
  abbrev PlacedBy : Refinement → Type 0
  PlacedBy m = (ms : Metas) (Γ : List Hypothesis) (o : Option Tree) → Placing P (m ms Γ o)

  abbrev RestPlaced : Rest → Type 0
  RestPlaced m = (f : Typed) → Placing P (m f)

  abbrev ReturnPlaced : Return → Type 0
  ReturnPlaced m = (ms : Metas) (Γ : List Hypothesis) (o : Option Tree) (f : Family) → Placing P (m ms Γ o f)

  abbrev BodiesPlaced : Bodies → Type 0
  BodiesPlaced m = (ms : Metas) (Γ : List Hypothesis) (f : Family) (r : Tree) (n : ℕ) (cs : List Constructor) → Placing P (m ms Γ f r n cs)

  own_place : (w : Written) → AllPlaces P w → P (place_of w)
  own_place (Term at f) p = p.0

  module _ (S : Setting) where
    -- after a definition without places
    next : {A B : Type 0} (at : ℕ) (m : Charged A) (f : A → Placed B) → P at → ((a : A) → Placing P (f a)) → Placing P (by at m >>= f)
    next at m f p h = then_place P (by at m) f (by_place P at m p) h

    fitted_place : (at : ℕ) (Γ : List Hypothesis) (t : Typed) (U : Tree) → P at → Placing P (fitted S at Γ t U)
    fitted_place at Γ t U p = next at (unify S.env S.hints t.store Γ AtMost t.ty U) _ p (λ ms. finds_place P _)

    -- coercions
    on_new_place : (at : ℕ) (Γ : List Hypothesis) (n : ℕ) (f : Typed) → P at → Placing P (on_new at Γ n f)
    on_new_place at Γ zero f p = finds_place P f
    on_new_place at Γ (suc n) f p = charge_place P _ (next at (a_product f.ty) _ p (λ d. on_new_place at Γ n _ p))

    under_coercion_place : (at : ℕ) (Γ : List Hypothesis) (c : Coercion) (t : Typed) → P at → Placing P (under_coercion S at Γ c t)
    under_coercion_place at Γ c t p =
        charge_place P _ (then_place P _ _ (on_new_place at Γ (c.count - 1) _ p) (λ f.
        next at (a_product f.ty) _ p (λ d. next at (unify S.env S.hints f.store Γ AtMost t.ty d.dom) _ p (λ ms. finds_place P _))))

    inserted_place : (at : ℕ) (Γ : List Hypothesis) (U : Tree) (cs : List Coercion) (t : Typed) → P at → Placing P (inserted S at Γ U cs t)
    inserted_place at Γ U [] t p = fitted_place at Γ t U p
    inserted_place at Γ U (c ∷ cs) t p = then_place P _ _ (under_coercion_place at Γ c t p) (λ u. inserted_place at Γ U cs u p)

    on_path_place : (at : ℕ) (Γ : List Hypothesis) (t : Typed) (U : Tree) (o : Option (List Coercion)) → P at → Placing P (on_path S at Γ t U o)
    on_path_place at Γ t U None p = at_place P _ at p
    on_path_place at Γ t U (Some cs) p = try_place P _ _ (inserted_place at Γ U cs t p) (λ r place q. at_place P _ at p)

    finish_place : (at : ℕ) (Γ : List Hypothesis) (o : Option Tree) (t : Typed) → P at → Placing P (finish S at Γ o t)
    finish_place at Γ None t p = finds_place P t
    finish_place at Γ (Some U) t p =
        try_place P (fitted S at Γ t U) _ (fitted_place at Γ t U p) (λ r place q.
        next at (whd S.env (store_of t.store) t.ty) _ p (λ u. next at (whd S.env (store_of t.store) U) _ p (λ v. on_path_place at Γ t U _ p)))

    as_type_place : (at : ℕ) (m : Refinement) → P at → PlacedBy m → (ms : Metas) (Γ : List Hypothesis) → Placing P (as_type S at m ms Γ)
    as_type_place at m p h ms Γ = then_place P _ _ (h ms Γ None) (λ t. next at (whd S.env (store_of t.store) t.ty) _ p (λ u. next at (a_sort u) _ p (λ s. finds_place P _)))

    expected_product_place : (at : ℕ) (ms : Metas) (o : Option Tree) → P at → Placing P (expected_product S at ms o)
    expected_product_place at ms None p = finds_place P None
    expected_product_place at ms (Some U) p = next at (whd S.env (store_of ms) U) _ p (λ u. finds_place P _)

    abstracted_place : (x : Bytes) (A : Tree) (b : Refinement) → PlacedBy b → PlacedBy (abstracted x A b)
    abstracted_place x A b h ms Γ o = then_place P _ _ (h ms _ o) (λ t. finds_place P _)

    over_type_place : (at : ℕ) (x : Bytes) (place : ℕ) (b : Refinement) → P at → P place → PlacedBy b → (A : Sorted) (Γ : List Hypothesis) (o : Option Tree) (p : Option Product) → Placing P (over_type S at x place b A Γ o p)
    over_type_place at x place b pa pp h A Γ o (Some p) = then_place P _ _ (in_store_place P A.store _ (by_place P place (unify S.env S.hints A.store Γ Equal A.term p.dom) pp)) (λ ms. abstracted_place x A.term b h ms Γ (Some p.cod))
    over_type_place at x place b pa pp h A Γ o None = then_place P _ _ (abstracted_place x A.term b h A.store Γ None) (λ t. finish_place at Γ o t pa)

    over_domain_place : (at : ℕ) (x : Bytes) (b : Refinement) → P at → PlacedBy b → (ms : Metas) (Γ : List Hypothesis) (p : Option Product) → Placing P (over_domain at x b ms Γ p)
    over_domain_place at x b pa h ms Γ (Some p) = abstracted_place x p.dom b h ms Γ (Some p.cod)
    over_domain_place at x b pa h ms Γ None = at_place P _ at pa

    -- the rules
    by_name_place : (at : ℕ) (x : Bytes) → P at → PlacedBy (by_name S at x)
    by_name_place at x p ms Γ o = then_place P _ _ (answer_place P (or_unbound x at (with_declared_type S.env Γ (meant S.env (names_of Γ) x))) (unbound_place x at (with_declared_type S.env Γ (meant S.env (names_of Γ) x)) p)) (λ h. finish_place at Γ o (record { store = ms; term = h.0; ty = h.1 }) p)

    by_numbers_place : (at e c : ℕ) → P at → PlacedBy (by_numbers S at e c)
    by_numbers_place at e c p ms Γ o = then_place P _ _ (answer_place P (or_no_position at (constructor_at S.env.entries e c)) (position_place at (constructor_at S.env.entries e c) p)) (λ h. finish_place at Γ o (record { store = ms; term = con e c; ty = h.ty }) p)

    by_sort_place : (at : ℕ) (s : RawSort) → P at → PlacedBy (by_sort S at s)
    by_sort_place at s p ms Γ o =
        then_place P _ _ (answer_place P (resolved_sort S.env.names at s) (sort_place S.env.names at s p)) (λ t.
        next at (a_sort t) _ p (λ r. next at (in_range (sort_above r)) _ p (λ T. finish_place at Γ o (record { store = ms; term = t; ty = T }) p)))

    by_placeholder_place : (at : ℕ) → P at → PlacedBy (by_placeholder at)
    by_placeholder_place at p ms Γ None = at_place P _ at p
    by_placeholder_place at p ms Γ (Some T) = finds_place P _

    by_abstraction_place : (at : ℕ) (x : Bytes) (place : ℕ) (A b : Refinement) → P at → P place → PlacedBy A → PlacedBy b → PlacedBy (by_abstraction S at x place A b)
    by_abstraction_place at x place A b p q h j ms Γ o =
        then_place P _ _ (as_type_place place A q h ms Γ) (λ T. then_place P _ _ (expected_product_place at T.store o p) (λ d. over_type_place at x place b p q j T Γ o d))

    by_bare_abstraction_place : (at : ℕ) (x : Bytes) (b : Refinement) → P at → PlacedBy b → PlacedBy (by_bare_abstraction S at x b)
    by_bare_abstraction_place at x b p h ms Γ o = then_place P _ _ (expected_product_place at ms o p) (λ d. over_domain_place at x b p h ms Γ d)

    by_product_place : (at : ℕ) (x : Bytes) (place : ℕ) (A : Refinement) (place' : ℕ) (B : Refinement) → P at → P place → P place' → PlacedBy A → PlacedBy B → PlacedBy (by_product S at x place A place' B)
    by_product_place at x place A place' B p q q' h j ms Γ o =
        then_place P _ _ (as_type_place place A q h ms Γ) (λ T. then_place P _ _ (as_type_place place' B q' j T.store _) (λ U. finish_place at Γ o _ p))

    by_cast_place : (at : ℕ) (t : Refinement) (place : ℕ) (A : Refinement) → P at → P place → PlacedBy t → PlacedBy A → PlacedBy (by_cast S at t place A)
    by_cast_place at t place A p q h j ms Γ o =
        then_place P _ _ (as_type_place place A q j ms Γ) (λ T. then_place P _ _ (h T.store Γ (Some T.term)) (λ u. finish_place at Γ o _ p))

    by_argument_place : (Γ : List Hypothesis) (place : ℕ) (a : Refinement) (rest : Rest) → P place → PlacedBy a → RestPlaced rest → RestPlaced (by_argument S Γ place a rest)
    by_argument_place Γ place a rest p h j f =
        next place (whd S.env (store_of f.store) f.ty) _ p (λ u. next place (a_product u) _ p (λ d. then_place P _ _ (h f.store Γ (Some d.dom)) (λ t. j _)))

    module _ (Γ : List Hypothesis) (place : ℕ) (pp : P place) (r : Reason) (at : ℕ) (pa : P at) where
      placeholders_place : (j : ℕ) (rest : Rest) → RestPlaced rest → RestPlaced (placeholders S Γ place (faults r at) j rest)
      placeholders_place zero rest h f = h f
      placeholders_place (suc j) rest h f = next place (whd S.env (store_of f.store) f.ty) _ pp (λ u. one (product_in u) (placeholders_place j rest h))
        where
          one : (d : Option Product) → RestPlaced (placeholders S Γ place (faults r at) j rest) → Placing P (on_product Γ (faults r at) (placeholders S Γ place (faults r at) j rest) f d)
          one (Some d) more = charge_place P _ (more _)
          one None more = at_place P r at pa

      one_more_place : (rest : Rest) → RestPlaced rest → (f : Typed) (again : ℕ → Placed Typed) → ((j : ℕ) → Placing P (again j)) → (j : ℕ) → Placing P (one_more S Γ place rest f r at again j)
      one_more_place rest h f again g j = placeholders_place (suc j) (λ e. tried (rest e) (λ s q. again (suc j))) (λ e. try_place P (rest e) _ (h e) (λ s q x. g (suc j))) f

    by_vector_place : (Γ : List Hypothesis) (place : ℕ) (rest : Rest) → P place → RestPlaced rest → RestPlaced (by_vector S Γ place rest)
    by_vector_place Γ place rest p h f = try_place P (rest f) _ (h f) (λ r at q. fixed_place P ℕ Typed (one_more S Γ place rest f r at) (λ again g j. one_more_place Γ place p r at q rest h f again g j) zero)

    by_application_place : (m : Refinement) (rest : List Hypothesis → Option Tree → Rest) → PlacedBy m → ((Γ : List Hypothesis) (o : Option Tree) → RestPlaced (rest Γ o)) → PlacedBy (by_application m rest)
    by_application_place m rest h j ms Γ o = then_place P _ _ (h ms Γ None) (λ f. j Γ o f)

    written_return_place : (m : Refinement) → PlacedBy m → ReturnPlaced (written_return m)
    written_return_place m h ms Γ o f = then_place P _ _ (h ms Γ None) (λ t. finds_place P _)

    expected_return_place : (at : ℕ) → P at → ReturnPlaced (expected_return at)
    expected_return_place at p ms Γ (Some U) f = finds_place P _
    expected_return_place at p ms Γ None f = at_place P _ at p

    no_body_place : BodiesPlaced no_body
    no_body_place ms Γ f r n cs = finds_place P _

    one_body_place : (at : ℕ) (xs : List Bytes) (b : Refinement) (others : Bodies) → P at → PlacedBy b → BodiesPlaced others → BodiesPlaced (one_body at xs b others)
    one_body_place at xs b others p h j ms Γ f r n [] = at_place P _ at p
    one_body_place at xs b others p h j ms Γ f r n (c ∷ cs) =
        next at (eliminable (at_args c.ty f.params)) _ p (λ u. next at (eliminable (branch_type (count f.params) r (apps (con f.number n) f.params) u xs)) _ p (λ U.
        then_place P _ _ (h ms (branch_context Γ u xs) (Some U)) (λ t. then_place P _ _ (j t.store Γ f r (suc n) cs) (λ bs. finds_place P (bs.0, Arm xs t.term bs.1)))))

    by_match_place : (at : ℕ) (c : Refinement) (return : Return) (arms : Cases) (bodies : Bodies) → P at → PlacedBy c → ReturnPlaced return → BodiesPlaced bodies → PlacedBy (by_match S at c return arms bodies)
    by_match_place at c return arms bodies p h j k ms Γ o =
        then_place P _ _ (h ms Γ None) (λ t. next at (whd S.env (store_of t.store) t.ty) _ p (λ u. next at (eliminable (as_family S.env.entries u)) _ p (λ f. next at (checked (name_all (count f.params) f.constructors arms)) _ p (λ z.
        then_place P _ _ (j t.store Γ o f) (λ r. then_place P _ _ (in_store_place P r.0 _ (by_place P at (elimination S.env (store_of r.0) Γ f r.1) p)) (λ s.
        then_place P _ _ (k r.0 Γ f r.1 zero f.constructors) (λ bs. finish_place at Γ o (record { store = bs.0; term = match f.number r.1 t.term bs.1; ty = motive_on_all r.1 (join f.indices (Item t.term End)) }) p)))))))

    either : (b : Bool) (m m' : Rest) → RestPlaced m → RestPlaced m' → RestPlaced (if b then m else m')
    either true m m' h j = h
    either false m m' h j = j

    -- all raw terms
    mutual
      refined_place : (w : Written) → AllPlaces P w → PlacedBy (refined S w)
      refined_place (Term at f) p ms Γ o = charge_place P _ (form_place at f p.0 p.1 ms Γ o)

      form_place : (at : ℕ) (f : Form) → P at → AllPlacesInside P f → PlacedBy (refined_form S at f)
      form_place at (Name x) p q = by_name_place at x p
      form_place at (Con e c) p q = by_numbers_place at e c p
      form_place at Hole p q = by_placeholder_place at p
      form_place at Vector p q = λ ms Γ o. at_place P _ at p
      form_place at (Sort s) p q = by_sort_place at s p
      form_place at (Lam x Absent b) p q = by_bare_abstraction_place at x _ p (refined_place b q)
      form_place at (Lam x (Given A) b) p q = by_abstraction_place at x (place_of A) _ _ p (own_place A q.0) (refined_place A q.0) (refined_place b q.1)
      form_place at (Prod x A B) p q = by_product_place at x (place_of A) _ (place_of B) _ p (own_place A q.0) (own_place B q.1) (refined_place A q.0) (refined_place B q.1)
      form_place at (App f args) p q = by_application_place _ _ (refined_place f q.0) (arguments_place at args p q.1)
      form_place at (Match c Absent arms) p q = by_match_place at _ _ arms _ p (refined_place c q.0) (expected_return_place at p) (bodies_place at arms p q.1)
      form_place at (Match c (Given R) arms) p q = by_match_place at _ _ arms _ p (refined_place c q.0) (written_return_place _ (refined_place R q.1)) (bodies_place at arms p q.2)
      form_place at (Cast t T) p q = by_cast_place at _ (place_of T) _ p (own_place T q.1) (refined_place t q.0) (refined_place T q.1)

      arguments_place : (at : ℕ) (args : Arguments) → P at → AllPlacesIn P args → (Γ : List Hypothesis) (o : Option Tree) → RestPlaced (refined_arguments S at args Γ o)
      arguments_place at NoArgument p q Γ o = λ f. finish_place at Γ o f p
      arguments_place at (Argument a args) p q Γ o = either (is_vector a) _ _ (by_vector_place Γ (place_of a) _ (own_place a q.0) (arguments_place at args p q.1 Γ o)) (by_argument_place Γ (place_of a) _ _ (own_place a q.0) (refined_place a q.0) (arguments_place at args p q.1 Γ o))

      bodies_place : (at : ℕ) (arms : Cases) → P at → AllPlacesOf P arms → BodiesPlaced (refined_bodies S at arms)
      bodies_place at NoCase p q = no_body_place
      bodies_place at (Case x xs b arms) p q = one_body_place at xs _ _ p (refined_place b q.0) (bodies_place at arms p q.1)

pub refinement_place_law : RefinementPlaceLaw
unfolding refine
refinement_place_law S ms Γ w o r n l =
    let p = (refined_place (IsPlaceIn w) S w (all_places (IsPlaceIn w) w (λ at i. i)) ms Γ o).at n in
    (λ e. no_refusal (IsPlaceIn w) (refined S w ms Γ o n) r l p e, λ at e. fault_place (IsPlaceIn w) (refined S w ms Γ o n) r at l p e)
