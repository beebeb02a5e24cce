-- Unification by a hint leaves a sound store, over which the two terms are convertible: no conversion is tested.
use Rattle.std.specs.Prelude.{◌≡◌, refl, ℕ, zero, suc, ◌+◌, List, [], ◌∷◌, length, if◌then◌else◌, nat_eq, Bool, true, false, Option, Some, None}
use Rattle.std.proofs.Common.{sym, ap, ◌∙◌, subst, eqb-true, arith}
use Rattle.mt_term.specs.Trees.{Tree, Trees, Meta, End, Item}
use Rattle.mt_term.specs.Substitution.{tr_all, then_as, fill, beyond, under, join, count, sub}
use Rattle.mt_term.specs.Declarations.{Hypothesis, Environment}
use Rattle.mt_term.specs.States.{Equation, Hint}
use Rattle.mt_term.specs.Spines.{item_at}
use Rattle.mt_term.specs.declared.modes.Mode.TheVariants.{Equal}
use Rattle.mt_rules.specs.Charges.{Charged}
use Rattle.mt_term.specs.Stores.{Store, no_store, types_of, store_of}
use Rattle.mt_term.specs.StoreChanges.{Extends}
use Rattle.mt_calculus.specs.Contraction.{in_terms}
use Rattle.mt_calculus.specs.Conversion.{Conv, same, back, chain, metas, ConvAll, ends, items}
use Rattle.mt_calculus.specs.Typing.{IsContext, Has, Stands, In, Holds, k_stands}
use Rattle.mt_calculus.specs.SoundEnvironment.{SoundEnvironment}
use Rattle.mt_calculus.specs.SoundStore.{SoundStore}
use Rattle.mt_rules.specs.Inference.{context_types}
use Rattle.mt_term.proofs.Subst.{sub_id, tr_under, tr_join, meta_steady}
use Rattle.mt_calculus_laws.proofs.Steps.{Tracks, step, conv_tr}
use Rattle.mt_calculus_laws.proofs.Follow.{sub_convs}
use Rattle.mt_calculus_laws.proofs.Known.{known}
use Rattle.mt_rules_laws.proofs.Yields.{Yields, gives, refuses, charges, then_yields, tries, so_yields, nothing, some_is}
use Rattle.mt_unification_rules.specs.Hints.{Candidate, with_variables, first_terms, equation_at, solution_of, solved, solution}
use Rattle.mt_unification_rules.specs.Placeholders.{Metas}
use Rattle.mt_unification_laws.specs.TypedHints.{first_hypotheses, TypedEquations, Acceptable, SoundHint}
use Rattle.mt_unification_rules.specs.Unification.{Question, known as known_or_refused, by_equations, by_sides, by_direction, by_hints}
use Rattle.mt_unification_laws.proofs.Candidates.{EachCandidate}
use Rattle.mt_unification_laws.proofs.Conditions.{known_yields}
use Rattle.mt_unification_laws.proofs.Later.{extends_same, extends_twice, conv_later}
use Rattle.mt_unification_laws.proofs.HintVariables.{join_end, join_join, fill_join, count_join, item_in, FitsIn, fits_moved, filled, Declares, declares}
use Rattle.mt_unification_laws.proofs.SoundAnswers.{closed, StandsIn, Ok, Told, moved, asked}

-- ---- conversion under the equations

module _ (E : Environment) (env : SoundEnvironment E) where
  -- convertible terms for the variables
  then_convs : (S : Store) (t u : Tree) (σ τ : ℕ → Tree) → Conv E S t u → ((i : ℕ) → Conv E S (σ i) (τ i)) → (i : ℕ) → Conv E S (then_as t σ i) (then_as u τ i)
  then_convs S t u σ τ c h zero = c
  then_convs S t u σ τ c h (suc i) = h i

  fill_convs : (S : Store) {s t : Trees} → ConvAll E S s t → (σ τ : ℕ → Tree) → ((i : ℕ) → Conv E S (σ i) (τ i)) → (i : ℕ) → Conv E S (fill s σ i) (fill t τ i)
  fill_convs S ends σ τ h i = h i
  fill_convs S (items {t = t} {t' = u} c cs) σ τ h i = fill_convs S cs (then_as t σ) (then_as u τ) (then_convs S t u σ τ c h) i

  under_convs : (S : Store) (s t : Trees) → ConvAll E S s t → (u : Tree) → Conv E S (under s u) (under t u)
  under_convs S s t c u = sub_convs E (closed E env) S (fill s beyond) (fill t beyond) (fill_convs S c beyond beyond (λ i. same)) u

  join_convs : (S : Store) {s t : Trees} → ConvAll E S s t → {q r : Trees} → ConvAll E S q r → ConvAll E S (join s q) (join t r)
  join_convs S ends d = d
  join_convs S (items c cs) d = items c (join_convs S cs d)

  -- terms under terms
  under_under : (σ : ℕ → Tree) (s : Trees) (t : Tree) → sub σ (under s t) ≡ under (tr_all Meta σ s) t
  under_under σ s t = tr_under Meta meta_steady σ s t ∙ ap (under (tr_all Meta σ s)) (sub_id t)

  -- the equations hold of these terms
  abbrev pub EquationsHold : Store → Trees → List Equation → Type 0
  EquationsHold S us [] = Unit {0}
  EquationsHold S us (e ∷ es) = ((x : Tree) → item_at us e.place ≡ Some x → Conv E S x (under (first_terms e.place us) e.term)) × EquationsHold S us es

  equation_holds : (S : Store) (us : Trees) (es : List Equation) (i : ℕ) (t x : Tree) → EquationsHold S us es → equation_at es i ≡ Some t → item_at us i ≡ Some x → Conv E S x (under (first_terms i us) t)
  equation_holds S us [] i t x h e g = nothing e
  equation_holds S us (a ∷ es) i t x h e g = go (nat_eq a.place i) refl e (equation_holds S us es i t x h.1)
    where
      go : (b : Bool) → nat_eq a.place i ≡ b → (if b then Some a.term else equation_at es i) ≡ Some t → (equation_at es i ≡ Some t → item_at us i ≡ Some x → Conv E S x (under (first_terms i us) t)) → Conv E S x (under (first_terms i us) t)
      go true f k rest =
          let p : a.place ≡ i = eqb-true a.place i f in
          subst (λ v. Conv E S x (under (first_terms i us) v)) (some_is k) (subst (λ j. Conv E S x (under (first_terms j us) a.term)) p (h.0 x (ap (item_at us) p ∙ g)))
      go false f k rest = rest k g

  -- places in a list
  item_past : (a : Trees) (y : Tree) (b : Trees) → item_at (join a (Item y b)) (count a) ≡ Some y
  item_past End y b = refl
  item_past (Item t a) y b = item_past a y b

  first_past : (a b : Trees) → first_terms (count a) (join a b) ≡ a
  first_past End b = refl
  first_past (Item t a) b = ap (Item t) (first_past a b)

  fill_past : (s : Trees) (σ : ℕ → Tree) (k : ℕ) → fill s σ (count s + k) ≡ σ k
  fill_past End σ k = ap σ (omega arith)
  fill_past (Item t s) σ k =
      let e : count (Item t s) + k ≡ count s + suc k = omega arith in
      ap (fill s (then_as t σ)) e ∙ fill_past s (then_as t σ) (suc k)

  variable_is : (a : Trees) (y : Tree) (b : Trees) (k : ℕ) → k ≡ count b → fill (join a (Item y b)) beyond k ≡ y
  variable_is a y b k e =
      let f : k ≡ count b + 0 = omega (arith, e) in
      ap (fill (join a (Item y b)) beyond) f ∙ (ap (λ (ρ : ℕ → Tree). ρ (count b + 0)) (fill_join a (Item y b) beyond) ∙ fill_past b (then_as y (fill a beyond)) 0)

  none_tracks : (S : Store) → Tracks E no_store Meta S
  none_tracks S = record { steady = meta_steady; bodies = λ n d b e g s. nothing e; terms = λ n s t c. step (in_terms c); convs = λ n s t c. metas c }

  module _ (S : Store) (es : List Equation) (us : Trees) (holds : EquationsHold S us es) where
    -- the solution of one variable
    value_conv : (s a : Trees) (y : Tree) (b : Trees) (k : ℕ) (o : Option Tree) → us ≡ join a (Item y b) → count s ≡ count a → k ≡ count b → ConvAll E S (tr_all Meta (fill us beyond) s) a → equation_at es (count s) ≡ o → Conv E S (sub (fill us beyond) (solution_of o k s)) y
    value_conv s a y b k None e n l c f = subst (λ v. Conv E S (fill us beyond k) v) (ap (λ r. fill r beyond k) e ∙ variable_is a y b k l) same
    value_conv s a y b k (Some t) e n l c f =
        let q : Conv E S y (under (first_terms (count s) us) t) = equation_holds S us es (count s) t y holds f (ap (item_at us) n ∙ (ap (λ r. item_at r (count a)) e ∙ item_past a y b)) in
        let first : first_terms (count s) us ≡ a = ap (λ j. first_terms j us) n ∙ (ap (first_terms (count a)) e ∙ first_past a (Item y b)) in
        chain (subst (λ v. Conv E S v (under a t)) (sym (under_under (fill us beyond) s t)) (under_convs S (tr_all Meta (fill us beyond) s) a c t)) (back (subst (λ r. Conv E S y (under r t)) first q))

    -- the solutions of the variables, from earlier ones on, are convertible to the terms for them
    solved_convs : (xs : List Hypothesis) (s a b : Trees) → us ≡ join a b → count s ≡ count a → length xs ≡ count b → ConvAll E S (tr_all Meta (fill us beyond) s) a → ConvAll E S (tr_all Meta (fill us beyond) (solved es xs s)) us
    solved_convs [] s a End e n l c = subst (ConvAll E S (tr_all Meta (fill us beyond) s)) (sym (e ∙ join_end a)) c
    solved_convs [] s a (Item y b) e n l c = let q : 0 ≡ suc (count b) = l in absurd (omega (arith, q))
    solved_convs (x ∷ xs) s a End e n l c = let q : suc (length xs) ≡ 0 = l in absurd (omega (arith, q))
    solved_convs (x ∷ xs) s a (Item y b) e n l c =
        let q : suc (length xs) ≡ suc (count b) = l in
        let k : length xs ≡ count b = omega (arith, q) in
        let v : Tree = solution_of (equation_at es (count s)) (length xs) s in
        let cv : Conv E S (sub (fill us beyond) v) y = value_conv s a y b (length xs) (equation_at es (count s)) e n k c refl in
        let cs = count_join s (Item v End) in
        let ca = count_join a (Item y End) in
        let counts : count (join s (Item v End)) ≡ count (join a (Item y End)) = omega (arith, cs, ca, n) in
        solved_convs xs (join s (Item v End)) (join a (Item y End)) b (e ∙ sym (join_join a (Item y End) b)) counts k
        (subst (λ r. ConvAll E S r (join a (Item y End))) (sym (tr_join Meta (fill us beyond) s (Item v End))) (join_convs S c (items cv ends)))

  -- where the equations hold of terms, the sides of an acceptable hint are convertible under them
  sides_conv : (h : Hint) → Acceptable E h → (S : Store) (us : Trees) → length h.vars ≡ count us → EquationsHold S us h.eqs → Conv E S (under us h.left) (under us h.right)
  sides_conv h acceptable S us n q = chain (back (side h.left)) (chain middle (side h.right))
    where
      all : ConvAll E S (tr_all Meta (fill us beyond) (solution h)) us
      all = solved_convs S h.eqs us q h.vars End End us refl refl n ends

      side : (t : Tree) → Conv E S (sub (fill us beyond) (under (solution h) t)) (under us t)
      side t = subst (λ v. Conv E S v (under us t)) (sym (under_under (fill us beyond) (solution h) t)) (under_convs S (tr_all Meta (fill us beyond) (solution h)) us all t)

      middle : Conv E S (sub (fill us beyond) (under (solution h) h.left)) (sub (fill us beyond) (under (solution h) h.right))
      middle = conv_tr E (closed E env) no_store Meta S (none_tracks S) acceptable (fill us beyond)

  -- ---- the rule

  module _ (again : Question → Charged Metas) (ih : (q : Question) → Yields (again q) (Told E env q)) where
    -- the equations, one after the other
    record Equated (ms : Metas) (us : Trees) (es : List Equation) (ms' : Metas) : Type 0 where
      pub sound : SoundStore E (store_of ms')
      pub extends : Extends (store_of ms) (store_of ms')
      pub hold : EquationsHold (store_of ms') us es

    module _ (Γ : List Hypothesis) (us : Trees) (xs : List Hypothesis) where
      -- what holds of the new metavariables
      abbrev Fit : Metas → Type 0
      Fit ms = (k : ℕ) → FitsIn E env ms Γ (first_terms k us) (types_of (first_hypotheses k xs))

      abbrev Standing : Metas → Type 0
      Standing ms = (t : Tree) → In t us → StandsIn E env ms Γ t

      equations_yield : (es : List Equation) → TypedEquations E xs es → (ms : Metas) → SoundStore E (store_of ms) → Holds E true (store_of ms) (context_types Γ) IsContext → Fit ms → Standing ms
          → Yields (by_equations again Γ us es ms) (Equated ms us es)
      equations_yield [] g ms z c f st = gives (Equated ms us []) ms (record { sound = z; extends = extends_same (store_of ms); hold = tt })
      equations_yield (e ∷ es) g ms z c f st =
          then_yields (λ x. item_at us e.place ≡ Some x) (Equated ms us (e ∷ es)) (known_or_refused (item_at us e.place)) _ (known_yields (item_at us e.place)) (λ x at.
          let u : Tree = under (first_terms e.place us) e.term in
          let typed = filled E env ms Γ (first_terms e.place us) (types_of (first_hypotheses e.place xs)) e.term (g.0.0.ty) z c (f e.place) g.0.2 in
          then_yields (λ ms1. Ok E env ms ms1 Equal x u) (Equated ms us (e ∷ es)) (again (ms, Γ, Equal, x, u)) _ (asked E env again ih ms Γ Equal x u z (st x (item_in us e.place x at)) (k_stands typed)) (λ ms1 p.
          let over = moved E env ms ms1 z p.extends (context_types Γ) in
          so_yields (Equated ms1 us es) (Equated ms us (e ∷ es)) (by_equations again Γ us es ms1)
          (λ ms' q. record {
            sound = q.sound;
            extends = extends_twice (store_of ms) (store_of ms1) (store_of ms') p.extends q.extends;
            hold = ((λ y k. subst (λ v. Conv E (store_of ms') v u) (some_is (sym at ∙ k)) (conv_later E (closed E env) (store_of ms1) (store_of ms') p.sound.owned q.extends x u p.fit)), q.hold);
          })
          (equations_yield es g.1 ms1 p.sound (over IsContext c) (λ k. fits_moved E env ms ms1 z p.extends Γ (first_terms k us) (types_of (first_hypotheses k xs)) (f k)) (λ t i. over (Stands t) (st t i)))))

    -- a hint on its new metavariables
    sides_yield : (h : Hint) → SoundHint E h → (ms : Metas) (Γ : List Hypothesis) (t u : Tree) → SoundStore E (store_of ms) → StandsIn E env ms Γ t → StandsIn E env ms Γ u
        → Yields (by_sides again Γ h (with_variables ms Γ h.vars End) t u) (λ ms'. Ok E env ms ms' Equal t u)
    sides_yield h g ms Γ t u z ht hu =
        then_yields (λ ms1. Ok E env ms0 ms1 Equal (under us h.left) t) P (again (ms0, Γ, Equal, under us h.left, t)) _ (asked E env again ih ms0 Γ Equal (under us h.left) t d.sound (side h.left g.typed.left_type g.typed.left) (moved E env ms ms0 z d.extends (context_types Γ) (Stands t) ht)) (λ ms1 a.
        let x1 : Extends (store_of ms) (store_of ms1) = extends_twice (store_of ms) (store_of ms0) (store_of ms1) d.extends a.extends in
        then_yields (λ ms2. Ok E env ms1 ms2 Equal (under us h.right) u) P (again (ms1, Γ, Equal, under us h.right, u)) _ (asked E env again ih ms1 Γ Equal (under us h.right) u a.sound (moved E env ms0 ms1 d.sound a.extends (context_types Γ) (Stands (under us h.right)) (side h.right g.typed.right_type g.typed.right)) (moved E env ms ms1 z x1 (context_types Γ) (Stands u) hu)) (λ ms2 b.
        let x2 : Extends (store_of ms0) (store_of ms2) = extends_twice (store_of ms0) (store_of ms1) (store_of ms2) a.extends b.extends in
        so_yields (Equated ms2 us h.eqs) P (by_equations again Γ us h.eqs ms2) (λ ms' q. finish ms1 a ms2 b ms' q)
        (equations_yield Γ us h.vars h.eqs g.typed.equations ms2 b.sound (moved E env ms0 ms2 d.sound x2 (context_types Γ) IsContext c0) (λ k. fits_moved E env ms0 ms2 d.sound x2 Γ (first_terms k us) (types_of (first_hypotheses k h.vars)) (fit k)) (λ v i. moved E env ms0 ms2 d.sound x2 (context_types Γ) (Stands v) (stand v i)))))
      where
        P : Metas → Type 0
        P ms' = Ok E env ms ms' Equal t u

        ms0 : Metas
        ms0 = (with_variables ms Γ h.vars End).0

        us : Trees
        us = (with_variables ms Γ h.vars End).1

        c : Holds E true (store_of ms) (context_types Γ) IsContext
        c = (known E true ht).0

        d : Declares E env ms Γ End [] h.vars ms0 us
        d = declares E env Γ h.vars ms End [] z c (λ i T l. elim l [ ]) ((known E true g.typed.variables).1)

        c0 : Holds E true (store_of ms0) (context_types Γ) IsContext
        c0 = moved E env ms ms0 z d.extends (context_types Γ) IsContext c

        fit : (k : ℕ) → FitsIn E env ms0 Γ (first_terms k us) (types_of (first_hypotheses k h.vars))
        fit k = subst (λ r. FitsIn E env ms0 Γ (first_terms k r) (types_of (first_hypotheses k h.vars))) (sym d.all) (d.fits k)

        stand : (v : Tree) → In v us → StandsIn E env ms0 Γ v
        stand v i = d.stands v (subst (In v) d.all i)

        -- all the variables
        first_all : (s : Trees) → first_terms (count s) s ≡ s
        first_all End = refl
        first_all (Item v s) = ap (Item v) (first_all s)

        all_first : (xs : List Hypothesis) → first_hypotheses (length xs) xs ≡ xs
        all_first [] = refl
        all_first (x ∷ xs) = ap (λ ys. x ∷ ys) (all_first xs)

        counted : length h.vars ≡ count us
        counted = sym (ap count d.all ∙ d.counted)

        fit_all : FitsIn E env ms0 Γ us (types_of h.vars)
        fit_all =
            subst (λ r. FitsIn E env ms0 Γ r (types_of h.vars)) (ap (λ k. first_terms k us) counted ∙ first_all us)
            (subst (λ xs. FitsIn E env ms0 Γ (first_terms (length h.vars) us) (types_of xs)) (all_first h.vars) (fit (length h.vars)))

        side : (v V : Tree) → Holds E true no_store (types_of h.vars) (Has v V) → StandsIn E env ms0 Γ (under us v)
        side v V k = k_stands (filled E env ms0 Γ us (types_of h.vars) v V d.sound c0 fit_all k)

        finish : (ms1 : Metas) → Ok E env ms0 ms1 Equal (under us h.left) t → (ms2 : Metas) → Ok E env ms1 ms2 Equal (under us h.right) u → (ms' : Metas) → Equated ms2 us h.eqs ms' → Ok E env ms ms' Equal t u
        finish ms1 a ms2 b ms' q =
            let x0 : Extends (store_of ms) (store_of ms1) = extends_twice (store_of ms) (store_of ms0) (store_of ms1) d.extends a.extends in
            let x1 : Extends (store_of ms1) (store_of ms') = extends_twice (store_of ms1) (store_of ms2) (store_of ms') b.extends q.extends in
            let l : Conv E (store_of ms') (under us h.left) t = conv_later E (closed E env) (store_of ms1) (store_of ms') a.sound.owned x1 (under us h.left) t a.fit in
            let r : Conv E (store_of ms') (under us h.right) u = conv_later E (closed E env) (store_of ms2) (store_of ms') b.sound.owned q.extends (under us h.right) u b.fit in
            record {
              sound = q.sound;
              extends = extends_twice (store_of ms) (store_of ms1) (store_of ms') x0 x1;
              fit = chain (back l) (chain (sides_conv h g.acceptable (store_of ms') us counted q.hold) r);
            }

    turned : (ms ms' : Metas) (t u : Tree) → Ok E env ms ms' Equal u t → Ok E env ms ms' Equal t u
    turned ms ms' t u r = record { sound = r.sound; extends = r.extends; fit = back r.fit }

    direction_yields : (h : Hint) → SoundHint E h → (ms : Metas) (Γ : List Hypothesis) (t u : Tree) (swapped : Bool) → SoundStore E (store_of ms) → StandsIn E env ms Γ t → StandsIn E env ms Γ u
        → Yields (by_direction again ms Γ t u h swapped) (λ ms'. Ok E env ms ms' Equal t u)
    direction_yields h g ms Γ t u false z ht hu = sides_yield h g ms Γ t u z ht hu
    direction_yields h g ms Γ t u true z ht hu = so_yields (λ ms'. Ok E env ms ms' Equal u t) (λ ms'. Ok E env ms ms' Equal t u) _ (λ ms' r. turned ms ms' t u r) (sides_yield h g ms Γ u t z hu ht)

    pub by_hints_yields : (ms : Metas) (Γ : List Hypothesis) (t u : Tree) → SoundStore E (store_of ms) → StandsIn E env ms Γ t → StandsIn E env ms Γ u → (cs : List Candidate) → EachCandidate (SoundHint E) cs
        → Yields (by_hints again ms Γ t u cs) (λ ms'. Ok E env ms ms' Equal t u)
    by_hints_yields ms Γ t u z ht hu [] g = refuses (λ ms'. Ok E env ms ms' Equal t u) _
    by_hints_yields ms Γ t u z ht hu (c ∷ cs) g =
        tries (λ ms'. Ok E env ms ms' Equal t u) _ _ (charges (λ ms'. Ok E env ms ms' Equal t u) _ (direction_yields c.hint g.0 ms Γ t u c.swapped z ht hu)) (by_hints_yields ms Γ t u z ht hu cs g.1)
