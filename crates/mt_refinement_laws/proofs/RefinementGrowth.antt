-- The store that refinement leaves has each metavariable of the one before.
use Rattle.std.specs.Prelude.{ℕ, zero, suc, ◌-◌, List, [], ◌∷◌, Bool, true, false, if◌then◌else◌, Option, Some, None}
use Rattle.mt_term.specs.Trees.{Bytes, Tree, App as app, Con as con, Match as match, End, Item, NoArm, Arm}
use Rattle.mt_term.specs.Substitution.{sub, one, apps, join, count}
use Rattle.mt_term.specs.Spines.{motive_on_all, at_args}
use Rattle.mt_term.specs.UniverseForms.{sort_above}
use Rattle.mt_rules.specs.Charges.{give}
use Rattle.mt_term.specs.Stores.{store_of}
use Rattle.mt_rules.specs.WeakHead.{whd}
use Rattle.mt_term.specs.Declarations.{Hypothesis, Constructor, constructor_at}
use Rattle.mt_rules.specs.Inference.{Product, Family, a_sort, a_product, eliminable, checked, in_range, as_family, branch_context, branch_type, elimination}
use Rattle.mt_term.specs.declared.modes.Mode.{Mode}
use Rattle.mt_rules_laws.proofs.Yields.{Yields}
use Rattle.mt_unification_rules.specs.Placeholders.{Metas, Typed, placeholder}
use Rattle.mt_unification_rules.specs.Unification.{unify}
use Rattle.mt_unification_laws.specs.UnificationLaws.{Grows}
use Rattle.mt_unification_laws.proofs.StoreGrowth.{grows_same, grows_twice, appended}
use Rattle.mt_unification_laws.proofs.UnificationGrowth.{unification_growth_law}
use Rattle.mt_term_parser.specs.declared.raw.RawSort.{RawSort}
use Rattle.mt_term_parser.specs.Written.{Written, Form, Arguments, Cases, Term, Name, Con, Hole, Vector, Sort, Lam, Prod, App, Match, Cast, Absent, Given, NoArgument, Argument, NoCase, Case}
use Rattle.mt_resolver.specs.Resolution.{Found, meant, or_unbound, name_all, resolved_sort}
use Rattle.mt_refinement_rules.specs.Coercions.{Coercion}
use Rattle.mt_refinement_rules.specs.Settings.{Setting}
use Rattle.mt_refinement_rules.specs.Placed.{Placed, ◌>>=◌, by, in_store}
use Rattle.mt_refinement_rules.specs.Finishing.{Refinement, names_of, fitted, finish, Sorted, as_type, on_argument, on_new, under_coercion, inserted, on_path}
use Rattle.mt_refinement_rules.specs.Heads.{with_declared_type, or_no_position, by_name, by_numbers, by_sort}
use Rattle.mt_refinement_rules.specs.Placeholders.{by_placeholder}
use Rattle.mt_refinement_rules.specs.Binders.{expected_product, abstracted, over_type, by_abstraction, over_domain, by_bare_abstraction, by_product, by_cast}
use Rattle.mt_refinement_rules.specs.Applications.{Rest, by_argument, by_vector, by_application}
use Rattle.mt_refinement_rules.specs.Matches.{Return, written_return, expected_return, Bodies, no_body, one_body, by_match}
use Rattle.mt_refinement_rules.specs.Refinement.{place_of, is_vector, refined, refined_form, refined_arguments, refined_bodies, refine}
use Rattle.mt_refinement_laws.specs.RefinementLaws.{RefinementGrowthLaw}
use Rattle.mt_refinement_laws.proofs.PlacedYields.{Finds, finds, finds_nothing, charge_finds, by_finds, then_finds, try_finds, so_finds, on_any, in_store_finds}
use Rattle.mt_refinement_laws.proofs.Vectors.{vector_finds}

-- the store grows: that of a term, of a type, and of what stands beside others
abbrev Grown : Metas → Typed → Type 0
Grown ms t = Grows ms t.store

abbrev GrownSorted : Metas → Sorted → Type 0
GrownSorted ms t = Grows ms t.store

abbrev GrownPair : {A : Type 0} → Metas → Metas × A → Type 0
GrownPair ms p = Grows ms p.0

-- by a refinement, the rest of an application, the motive and the bodies of a match
abbrev Growing : Refinement → Type 0
Growing m = (ms : Metas) (Γ : List Hypothesis) (o : Option Tree) → Finds (m ms Γ o) (Grown ms)

abbrev RestGrows : Rest → Type 0
RestGrows m = (f : Typed) → Finds (m f) (Grown f.store)

abbrev ReturnGrows : Return → Type 0
ReturnGrows m = (ms : Metas) (Γ : List Hypothesis) (o : Option Tree) (f : Family) → Finds (m ms Γ o f) (GrownPair ms)

abbrev BodiesGrow : Bodies → Type 0
BodiesGrow m = (ms : Metas) (Γ : List Hypothesis) (f : Family) (r : Tree) (n : ℕ) (cs : List Constructor) → Finds (m ms Γ f r n cs) (GrownPair ms)

-- after a part that leaves a larger store
later : (ms ms' : Metas) → Grows ms ms' → (m : Placed Typed) → Finds m (Grown ms') → Finds m (Grown ms)
later ms ms' g m h = so_finds (Grown ms') (Grown ms) m (λ t j. grows_twice ms ms' t.store g j) h

after : (ms : Metas) (m : Placed Typed) (f : Typed → Placed Typed) → Finds m (Grown ms) → ((t : Typed) → Finds (f t) (Grown t.store)) → Finds (m >>= f) (Grown ms)
after ms m f y h = then_finds (Grown ms) (Grown ms) m f y (λ t g. later ms t.store g (f t) (h t))

module _ (S : Setting) where
  -- a weak head
  abbrev head : ℕ → Metas → Tree → Placed Tree
  head at ms t = by at (whd S.env (store_of ms) t)

  unify_grows : (ms : Metas) (Γ : List Hypothesis) (mode : Mode) (t u : Tree) → Yields (unify S.env S.hints ms Γ mode t u) (Grows ms)
  unify_grows ms Γ mode t u n ms' l e = unification_growth_law S.env S.hints ms ms' Γ mode t u n l e

  fitted_grows : (at : ℕ) (Γ : List Hypothesis) (t : Typed) (U : Tree) → Finds (fitted S at Γ t U) (Grown t.store)
  fitted_grows at Γ t U = then_finds (Grows t.store) (Grown t.store) _ _ (by_finds (Grows t.store) at _ (unify_grows t.store Γ _ t.ty U)) (λ ms g. finds (Grown t.store) (record { store = ms; term = t.term; ty = t.ty }) g)

  -- coercions
  on_new_grows : (at : ℕ) (Γ : List Hypothesis) (n : ℕ) (f : Typed) → Finds (on_new at Γ n f) (Grown f.store)
  on_new_grows at Γ zero f = finds (Grown f.store) f (grows_same f.store)
  on_new_grows at Γ (suc n) f =
      charge_finds (Grown f.store) _ (on_any (Grown f.store) (by at (a_product f.ty)) _ (λ p.
      let g : Typed = on_argument f p (placeholder f.store Γ p.dom) in
      later f.store g.store (appended f.store _) _ (on_new_grows at Γ n g)))

  under_coercion_grows : (at : ℕ) (Γ : List Hypothesis) (c : Coercion) (t : Typed) → Finds (under_coercion S at Γ c t) (Grown t.store)
  under_coercion_grows at Γ c t =
      charge_finds (Grown t.store) _ (after t.store _ _ (on_new_grows at Γ (c.count - 1) _) (λ f.
      on_any (Grown f.store) (by at (a_product f.ty)) _ (λ p.
      then_finds (Grows f.store) (Grown f.store) _ _ (by_finds (Grows f.store) at _ (unify_grows f.store Γ _ t.ty p.dom)) (λ ms g.
      finds (Grown f.store) (record { store = ms; term = app f.term t.term; ty = sub (one t.term) p.cod }) g))))

  inserted_grows : (at : ℕ) (Γ : List Hypothesis) (U : Tree) (cs : List Coercion) (t : Typed) → Finds (inserted S at Γ U cs t) (Grown t.store)
  inserted_grows at Γ U [] t = fitted_grows at Γ t U
  inserted_grows at Γ U (c ∷ cs) t = after t.store _ _ (under_coercion_grows at Γ c t) (λ u. inserted_grows at Γ U cs u)

  on_path_grows : (at : ℕ) (Γ : List Hypothesis) (t : Typed) (U : Tree) (o : Option (List Coercion)) → Finds (on_path S at Γ t U o) (Grown t.store)
  on_path_grows at Γ t U None = finds_nothing (Grown t.store) _ at
  on_path_grows at Γ t U (Some cs) = try_finds (Grown t.store) _ _ (inserted_grows at Γ U cs t) (λ r place. finds_nothing (Grown t.store) _ at)

  finish_grows : (at : ℕ) (Γ : List Hypothesis) (o : Option Tree) (t : Typed) → Finds (finish S at Γ o t) (Grown t.store)
  finish_grows at Γ None t = finds (Grown t.store) t (grows_same t.store)
  finish_grows at Γ (Some U) t =
      try_finds (Grown t.store) (fitted S at Γ t U) _ (fitted_grows at Γ t U) (λ r place.
      on_any (Grown t.store) (head at t.store t.ty) _ (λ u. on_any (Grown t.store) (head at t.store U) _ (λ v. on_path_grows at Γ t U _)))

  as_type_grows : (at : ℕ) (m : Refinement) → Growing m → (ms : Metas) (Γ : List Hypothesis) → Finds (as_type S at m ms Γ) (GrownSorted ms)
  as_type_grows at m h ms Γ =
      then_finds (Grown ms) (GrownSorted ms) _ _ (h ms Γ None) (λ t g.
      on_any (GrownSorted ms) (head at t.store t.ty) _ (λ u. on_any (GrownSorted ms) (by at (a_sort u)) _ (λ s. finds (GrownSorted ms) (record { store = t.store; term = t.term; sort = s }) g)))

  abstracted_grows : (x : Bytes) (A : Tree) (b : Refinement) → Growing b → Growing (abstracted x A b)
  abstracted_grows x A b h ms Γ o = after ms _ _ (h ms _ o) (λ t. finds (Grown t.store) _ (grows_same t.store))

  over_type_grows : (at : ℕ) (x : Bytes) (place : ℕ) (b : Refinement) → Growing b → (A : Sorted) (Γ : List Hypothesis) (o : Option Tree) (p : Option Product) → Finds (over_type S at x place b A Γ o p) (Grown A.store)
  over_type_grows at x place b h A Γ o (Some p) =
      then_finds (Grows A.store) (Grown A.store) _ _ (in_store_finds (Grows A.store) A.store _ (by_finds (Grows A.store) place _ (unify_grows A.store Γ _ A.term p.dom))) (λ ms g.
      later A.store ms g _ (abstracted_grows x A.term b h ms Γ (Some p.cod)))
  over_type_grows at x place b h A Γ o None = after A.store _ _ (abstracted_grows x A.term b h A.store Γ None) (λ t. finish_grows at Γ o t)

  over_domain_grows : (at : ℕ) (x : Bytes) (b : Refinement) → Growing b → (ms : Metas) (Γ : List Hypothesis) (p : Option Product) → Finds (over_domain at x b ms Γ p) (Grown ms)
  over_domain_grows at x b h ms Γ (Some p) = abstracted_grows x p.dom b h ms Γ (Some p.cod)
  over_domain_grows at x b h ms Γ None = finds_nothing (Grown ms) _ at

  -- the rules
  by_name_grows : (at : ℕ) (x : Bytes) → Growing (by_name S at x)
  by_name_grows at x ms Γ o = on_any (Grown ms) (give (or_unbound x at (with_declared_type S.env Γ (meant S.env (names_of Γ) x)))) _ (λ h. finish_grows at Γ o (record { store = ms; term = h.0; ty = h.1 }))

  by_numbers_grows : (at e c : ℕ) → Growing (by_numbers S at e c)
  by_numbers_grows at e c ms Γ o = on_any (Grown ms) (give (or_no_position at (constructor_at S.env.entries e c))) _ (λ h. finish_grows at Γ o (record { store = ms; term = con e c; ty = h.ty }))

  by_sort_grows : (at : ℕ) (s : RawSort) → Growing (by_sort S at s)
  by_sort_grows at s ms Γ o = on_any (Grown ms) (give (resolved_sort S.env.names at s)) _ (λ t. on_any (Grown ms) (by at (a_sort t)) _ (λ r. on_any (Grown ms) (by at (in_range (sort_above r))) _ (λ T. finish_grows at Γ o (record { store = ms; term = t; ty = T }))))

  by_placeholder_grows : (at : ℕ) → Growing (by_placeholder at)
  by_placeholder_grows at ms Γ None = finds_nothing (Grown ms) _ at
  by_placeholder_grows at ms Γ (Some T) = finds (Grown ms) _ (appended ms _)

  by_abstraction_grows : (at : ℕ) (x : Bytes) (place : ℕ) (A b : Refinement) → Growing A → Growing b → Growing (by_abstraction S at x place A b)
  by_abstraction_grows at x place A b h j ms Γ o =
      then_finds (GrownSorted ms) (Grown ms) _ _ (as_type_grows place A h ms Γ) (λ T g.
      later ms T.store g _ (on_any (Grown T.store) (expected_product S at T.store o) _ (λ p. over_type_grows at x place b j T Γ o p)))

  by_bare_abstraction_grows : (at : ℕ) (x : Bytes) (b : Refinement) → Growing b → Growing (by_bare_abstraction S at x b)
  by_bare_abstraction_grows at x b h ms Γ o = on_any (Grown ms) (expected_product S at ms o) _ (λ p. over_domain_grows at x b h ms Γ p)

  by_product_grows : (at : ℕ) (x : Bytes) (place : ℕ) (A : Refinement) (place' : ℕ) (B : Refinement) → Growing A → Growing B → Growing (by_product S at x place A place' B)
  by_product_grows at x place A place' B h j ms Γ o =
      then_finds (GrownSorted ms) (Grown ms) _ _ (as_type_grows place A h ms Γ) (λ T g.
      later ms T.store g _ (then_finds (GrownSorted T.store) (Grown T.store) _ _ (as_type_grows place' B j T.store _) (λ U g'.
      later T.store U.store g' _ (finish_grows at Γ o _))))

  by_cast_grows : (at : ℕ) (t : Refinement) (place : ℕ) (A : Refinement) → Growing t → Growing A → Growing (by_cast S at t place A)
  by_cast_grows at t place A h j ms Γ o =
      then_finds (GrownSorted ms) (Grown ms) _ _ (as_type_grows place A j ms Γ) (λ T g.
      later ms T.store g _ (after T.store _ _ (h T.store Γ (Some T.term)) (λ u. finish_grows at Γ o _)))

  by_argument_grows : (Γ : List Hypothesis) (place : ℕ) (a : Refinement) (rest : Rest) → Growing a → RestGrows rest → RestGrows (by_argument S Γ place a rest)
  by_argument_grows Γ place a rest h j f =
      on_any (Grown f.store) (head place f.store f.ty) _ (λ u. on_any (Grown f.store) (by place (a_product u)) _ (λ p. after f.store _ _ (h f.store Γ (Some p.dom)) (λ t. j _)))

  by_vector_grows : (Γ : List Hypothesis) (place : ℕ) (rest : Rest) → RestGrows rest → RestGrows (by_vector S Γ place rest)
  by_vector_grows Γ place rest h f =
      vector_finds S Γ place (Grown f.store) (λ g u. Unit {0}) (Grown f.store) (λ g i n u l e. tt) (λ g i u z p e. grows_twice f.store g.store _ i (appended g.store _)) rest
      (λ g i. later f.store g.store i (rest g) (h g)) f (grows_same f.store)

  by_application_grows : (m : Refinement) (rest : List Hypothesis → Option Tree → Rest) → Growing m → ((Γ : List Hypothesis) (o : Option Tree) → RestGrows (rest Γ o)) → Growing (by_application m rest)
  by_application_grows m rest h j ms Γ o = after ms _ _ (h ms Γ None) (λ f. j Γ o f)

  written_return_grows : (m : Refinement) → Growing m → ReturnGrows (written_return m)
  written_return_grows m h ms Γ o f = then_finds (Grown ms) (GrownPair ms) _ _ (h ms Γ None) (λ t g. finds (GrownPair ms) (t.store, t.term) g)

  expected_return_grows : (at : ℕ) → ReturnGrows (expected_return at)
  expected_return_grows at ms Γ (Some U) f = finds (GrownPair ms) _ (grows_same ms)
  expected_return_grows at ms Γ None f = finds_nothing (GrownPair ms) _ at

  no_body_grows : BodiesGrow no_body
  no_body_grows ms Γ f r n cs = finds (GrownPair ms) (ms, NoArm) (grows_same ms)

  one_body_grows : (at : ℕ) (xs : List Bytes) (b : Refinement) (others : Bodies) → Growing b → BodiesGrow others → BodiesGrow (one_body at xs b others)
  one_body_grows at xs b others h j ms Γ f r n [] = finds_nothing (GrownPair ms) _ at
  one_body_grows at xs b others h j ms Γ f r n (c ∷ cs) =
      on_any (GrownPair ms) (by at (eliminable (at_args c.ty f.params))) _ (λ u. on_any (GrownPair ms) (by at (eliminable (branch_type (count f.params) r (apps (con f.number n) f.params) u xs))) _ (λ U.
      then_finds (Grown ms) (GrownPair ms) _ _ (h ms (branch_context Γ u xs) (Some U)) (λ t g.
      then_finds (GrownPair t.store) (GrownPair ms) _ _ (j t.store Γ f r (suc n) cs) (λ bs g'. finds (GrownPair ms) (bs.0, Arm xs t.term bs.1) (grows_twice ms t.store bs.0 g g')))))

  by_match_grows : (at : ℕ) (c : Refinement) (return : Return) (arms : Cases) (bodies : Bodies) → Growing c → ReturnGrows return → BodiesGrow bodies → Growing (by_match S at c return arms bodies)
  by_match_grows at c return arms bodies h j k ms Γ o =
      after ms _ _ (h ms Γ None) (λ t.
      on_any (Grown t.store) (head at t.store t.ty) _ (λ u. on_any (Grown t.store) (by at (eliminable (as_family S.env.entries u))) _ (λ f.
      on_any (Grown t.store) (by at (checked (name_all (count f.params) f.constructors arms))) _ (λ z.
      then_finds (GrownPair t.store) (Grown t.store) _ _ (j t.store Γ o f) (λ r g. later t.store r.0 g _
      (on_any (Grown r.0) (in_store r.0 (by at (elimination S.env (store_of r.0) Γ f r.1))) _ (λ s.
      then_finds (GrownPair r.0) (Grown r.0) _ _ (k r.0 Γ f r.1 zero f.constructors) (λ bs g'. later r.0 bs.0 g' _ (finish_grows at Γ o (record { store = bs.0; term = match f.number r.1 t.term bs.1; ty = motive_on_all r.1 (join f.indices (Item t.term End)) }))))))))))

  either : (b : Bool) (m m' : Rest) → RestGrows m → RestGrows m' → RestGrows (if b then m else m')
  either true m m' h j = h
  either false m m' h j = j

  -- all raw terms
  mutual
    refined_grows : (w : Written) → Growing (refined S w)
    refined_grows (Term at f) ms Γ o = charge_finds (Grown ms) _ (form_grows at f ms Γ o)

    form_grows : (at : ℕ) (f : Form) → Growing (refined_form S at f)
    form_grows at (Name x) = by_name_grows at x
    form_grows at (Con e c) = by_numbers_grows at e c
    form_grows at Hole = by_placeholder_grows at
    form_grows at Vector = λ ms Γ o. finds_nothing (Grown ms) _ at
    form_grows at (Sort s) = by_sort_grows at s
    form_grows at (Lam x Absent b) = by_bare_abstraction_grows at x _ (refined_grows b)
    form_grows at (Lam x (Given A) b) = by_abstraction_grows at x (place_of A) _ _ (refined_grows A) (refined_grows b)
    form_grows at (Prod x A B) = by_product_grows at x (place_of A) _ (place_of B) _ (refined_grows A) (refined_grows B)
    form_grows at (App f args) = by_application_grows _ _ (refined_grows f) (arguments_grow at args)
    form_grows at (Match c Absent arms) = by_match_grows at _ _ arms _ (refined_grows c) (expected_return_grows at) (bodies_grow at arms)
    form_grows at (Match c (Given R) arms) = by_match_grows at _ _ arms _ (refined_grows c) (written_return_grows _ (refined_grows R)) (bodies_grow at arms)
    form_grows at (Cast t T) = by_cast_grows at _ (place_of T) _ (refined_grows t) (refined_grows T)

    arguments_grow : (at : ℕ) (args : Arguments) (Γ : List Hypothesis) (o : Option Tree) → RestGrows (refined_arguments S at args Γ o)
    arguments_grow at NoArgument Γ o = finish_grows at Γ o
    arguments_grow at (Argument a args) Γ o = either (is_vector a) _ _ (by_vector_grows Γ (place_of a) _ (arguments_grow at args Γ o)) (by_argument_grows Γ (place_of a) _ _ (refined_grows a) (arguments_grow at args Γ o))

    bodies_grow : (at : ℕ) (arms : Cases) → BodiesGrow (refined_bodies S at arms)
    bodies_grow at NoCase = no_body_grows
    bodies_grow at (Case x xs b arms) = one_body_grows at xs _ _ (refined_grows b) (bodies_grow at arms)

pub refinement_growth_law : RefinementGrowthLaw
unfolding refine
refinement_growth_law S ms Γ w o t n l e = (refined_grows S w ms Γ o).yields n (Found t) l e
