-- Unification over a sound store leaves a sound store, over which the two terms are convertible, or the first is at most the second.
use Rattle.std.specs.Prelude.{◌≡◌, refl, ℕ, List, [], ◌∷◌, length, nat_eq, true, false, not, ◌&&◌, Option, Some, None, option_map, is_none, reverse, slice_get, slice_set}
use Rattle.std.proofs.Common.{sym, ap, ◌∙◌, subst, eqb-true}
use mathlib.Core.List.{reverse_aux}
use Rattle.mt_term.specs.Trees.{Tree, Trees, Arms, Sort, Prod, Lam, App, Match, Meta, End, Item, NoArm, Arm}
use Rattle.mt_term.specs.Substitution.{under}
use Rattle.mt_term.specs.Declarations.{Hypothesis, Environment}
use Rattle.mt_term.specs.States.{Metavariable, Hint, is_open, meta_with_body}
use Rattle.mt_term.specs.declared.modes.Mode.{Mode}
use Rattle.mt_term.specs.declared.modes.Mode.TheVariants.{Equal, AtMost as Below}
use Rattle.mt_rules.specs.Charges.{Done, Charged, give, ◌>>=◌}
use Rattle.mt_term.specs.Alike.{is_alike}
use Rattle.mt_term.specs.Stores.{Declared, Store, types_onto, types_of, declared_as, store_of, AllMetas, InStore, Owned}
use Rattle.mt_term.specs.StoreChanges.{Extends, Puts, with_body as declared_with}
use Rattle.mt_calculus.specs.Contraction.{Contracts, assigned, in_fun}
use Rattle.mt_calculus.specs.Conversion.{Conv, same, back, chain, reduct, lams, app_conv, matches, metas, ConvAll, ends, items, ConvArms, no_arms, arms}
use Rattle.mt_calculus.specs.Typing.{Judgement, IsContext, IsType, Has, Stands, In, first, later, Holds, t_sub, k_of, k_type_stands, k_reduct, k_fun, k_arg, k_terms, k_return, k_matched, k_prod_type, k_dom, k_cod, k_lam_dom, k_lam_body}
use Rattle.mt_calculus.specs.SoundEnvironment.{SoundEnvironment}
use Rattle.mt_calculus.specs.SoundStore.{SoundStore}
use Rattle.mt_term.specs.Instancing.{assigned_body, instance}
use Rattle.mt_rules.specs.WeakHead.{body_under, step}
use Rattle.mt_rules.specs.Comparison.{same_shapes, sorts_fit, convert}
use Rattle.mt_rules.specs.Inference.{infer, context_types}
use Rattle.mt_rules_laws.specs.ReductionLaws.{Compared, ReachedFrom}
use Rattle.mt_term.proofs.ReachLaws.{weaker}
use Rattle.mt_calculus_laws.proofs.Images.{is_some_at, some_of}
use Rattle.mt_calculus_laws.proofs.Steps.{ClosedEnv}
use Rattle.mt_calculus_laws.proofs.AlikeLaws.{alike_conv, both}
use Rattle.mt_calculus_laws.proofs.StoreSteps.{assign_law}
use Rattle.mt_rules_laws.proofs.ReductionTheorems.{step_law, comparison_law, inference_law, sound_typed}
use Rattle.mt_rules_laws.proofs.ComparisonSoundness.{Fit, as_fit}
use Rattle.mt_rules_laws.proofs.Yields.{Yields, gives, refuses, charges, then_yields, tries, so_yields, fixed_yields, some_is, nothing, untrue}
use Rattle.mt_unification_rules.specs.Reach.{reaches}
use Rattle.mt_unification_rules.specs.TakingBack.{taken_back}
use Rattle.mt_unification_rules.specs.Hints.{head_entry, candidates}
use Rattle.mt_unification_rules.specs.Placeholders.{Metas}
use Rattle.mt_unification_laws.specs.TypedHints.{SoundHint, SoundHints}
use Rattle.mt_unification_rules.specs.Unification.{Question, refused, known, only_if, with_argument, head_replaced, same_meta, same_bodies, given, assign, assign_side, by_assignment, by_terms, by_parts, is_higher, rank, on_step, by_step, by_types, by_bodies, by_rules, unify_by, unified, unify}
use Rattle.mt_unification_laws.specs.UnificationLaws.{UnificationLaw}
use Rattle.mt_unification_laws.proofs.Candidates.{candidates_each}
use Rattle.mt_unification_laws.proofs.Conditions.{known_yields, only_if_yields, either_yields, none_is, not_true}
use Rattle.mt_unification_laws.proofs.StoreGrowth.{set_grows, set_puts, grows_extends}
use Rattle.mt_unification_laws.proofs.SoundAnswers as answers
use Rattle.mt_unification_laws.proofs.HintSoundness.{by_hints_yields}
use Rattle.mt_unification_laws.proofs.Unreached.{unreached}
use Rattle.mt_unification_laws.proofs.TakenBack.{taken_back_is}
use Rattle.mt_unification_laws.proofs.InstanceConversion.{instance_conv}
use Rattle.mt_unification_laws.proofs.InferredMetas.{infer_metas}
use Rattle.mt_unification_laws.proofs.Later.{extends_same, extends_twice, conv_later, fit_later, in_place, fit_via, fit_products, fit_sorts, reached_conv, reached_stands}

-- a context oldest first, as judgements see it
types_inside : (hs Γ : List Hypothesis) → context_types (reverse_aux hs Γ) ≡ types_onto hs (context_types Γ)
types_inside [] Γ = refl
types_inside (h ∷ hs) Γ = types_inside hs (h ∷ Γ)

own_types : (hs : List Hypothesis) → context_types (reverse hs) ≡ types_of hs
own_types hs = types_inside hs []

module _ (E : Environment) (env : SoundEnvironment E) where
  closed : ClosedEnv E
  closed = answers.closed E env

  abbrev StandsIn : Metas → List Hypothesis → Tree → Type 0
  StandsIn = answers.StandsIn E env

  abbrev Ok : Metas → Metas → Mode → Tree → Tree → Type 0
  Ok = answers.Ok E env

  abbrev Told : Question → Metas → Type 0
  Told = answers.Told E env

  moved : (ms ms' : Metas) → SoundStore E (store_of ms) → Extends (store_of ms) (store_of ms') → (Γ : List Tree) (J : Judgement) → Holds E true (store_of ms) Γ J → Holds E true (store_of ms') Γ J
  moved = answers.moved E env

  nothing_new : (ms : Metas) (mode : Mode) (t u : Tree) → SoundStore E (store_of ms) → Fit E (store_of ms) mode t u → Ok ms ms mode t u
  nothing_new = answers.nothing_new E env

  as_mode : (ms ms' : Metas) (mode : Mode) (t u : Tree) → Ok ms ms' Equal t u → Ok ms ms' mode t u
  as_mode = answers.as_mode E env

  -- A body for an open metavariable.
  record Given (ms ms' : Metas) (n : ℕ) (v : Tree) : Type 0 where
    pub sound : SoundStore E (store_of ms')
    pub extends : Extends (store_of ms) (store_of ms')
    pub value : (s : Trees) → Conv E (store_of ms') (Meta n s) (under s v)

  given_is : (ms : Metas) (n : ℕ) (v : Tree) (m : Metavariable) → SoundStore E (store_of ms) → slice_get ms n ≡ Some m → m.body ≡ None → AllMetas (InStore (store_of ms)) v → reaches ms v n ≡ false
      → Holds E true (store_of ms) (types_of m.context) (Has v m.ty) → Given ms (slice_set ms n (meta_with_body m v)) n v
  given_is ms n v m z e o a far h =
      let put : Puts (store_of ms) n (declared_with (declared_as m) v) (store_of (slice_set ms n (meta_with_body m v))) = set_puts ms n m v e in
      record {
        sound = assign_law E (store_of ms) (store_of (slice_set ms n (meta_with_body m v))) env z n (declared_as m) v (ap (option_map declared_as) e) o a (unreached ms n v far) h put;
        extends = grows_extends ms (slice_set ms n (meta_with_body m v)) (set_grows ms n m v e o);
        value = λ s. reduct (assigned put.new refl);
      }

  given_yields : (ms : Metas) (n : ℕ) (v : Tree) (d : Declared) → SoundStore E (store_of ms) → (store_of ms).at n ≡ Some d → AllMetas (InStore (store_of ms)) v → Holds E true (store_of ms) (d.context) (Has v (d.ty)) → Yields (given ms n v) (λ ms'. Given ms ms' n v)
  given_yields ms n v d z at a h =
      then_yields (λ m. slice_get ms n ≡ Some m) (λ ms'. Given ms ms' n v) (known (slice_get ms n)) _ (known_yields (slice_get ms n)) (λ m e.
      then_yields (λ y. (is_none m.body && not (reaches ms v n)) ≡ true) (λ ms'. Given ms ms' n v) (only_if (is_none m.body && not (reaches ms v n))) _ (only_if_yields _) (λ y c.
      let q = both (is_none m.body) (not (reaches ms v n)) c in
      let one : d ≡ declared_as m = some_is (sym at ∙ ap (option_map declared_as) e) in
      gives (λ ms'. Given ms ms' n v) _ (given_is ms n v m z e (none_is m.body q.0) a (not_true (reaches ms v n) q.1) (subst (λ (c : Declared). Holds E true (store_of ms) (c.context) (Has v (c.ty))) one h))))

  module _ (again : Question → Charged Metas) (ih : (q : Question) → Yields (again q) (Told q)) where
    asked : (ms : Metas) (Γ : List Hypothesis) (mode : Mode) (t u : Tree) → SoundStore E (store_of ms) → StandsIn ms Γ t → StandsIn ms Γ u → Yields (again (ms, Γ, mode, t, u)) (λ ms'. Ok ms ms' mode t u)
    asked = answers.asked E env again ih

    -- Two questions, one after the other.
    record Row (ms ms' : Metas) (m1 m2 : Mode) (t u t' u' : Tree) : Type 0 where
      pub sound : SoundStore E (store_of ms')
      pub extends : Extends (store_of ms) (store_of ms')
      pub former : Fit E (store_of ms') m1 t u
      pub latter : Fit E (store_of ms') m2 t' u'

    in_row : (ms : Metas) (Γ Δ : List Hypothesis) (m1 m2 : Mode) (t u t' u' : Tree) → SoundStore E (store_of ms) → StandsIn ms Γ t → StandsIn ms Γ u → ((ms1 : Metas) → Ok ms ms1 m1 t u → StandsIn ms1 Δ t' × StandsIn ms1 Δ u')
        → Yields (again (ms, Γ, m1, t, u) >>= (λ ms1. again (ms1, Δ, m2, t', u'))) (λ ms'. Row ms ms' m1 m2 t u t' u')
    in_row ms Γ Δ m1 m2 t u t' u' z h j stand =
        then_yields (λ ms1. Ok ms ms1 m1 t u) (λ ms'. Row ms ms' m1 m2 t u t' u') (again (ms, Γ, m1, t, u)) (λ ms1. again (ms1, Δ, m2, t', u')) (asked ms Γ m1 t u z h j) (λ ms1 p.
        let s = stand ms1 p in
        so_yields (λ ms2. Ok ms1 ms2 m2 t' u') (λ ms'. Row ms ms' m1 m2 t u t' u') (again (ms1, Δ, m2, t', u'))
        (λ ms2 q. record { sound = q.sound; extends = extends_twice (store_of ms) (store_of ms1) (store_of ms2) p.extends q.extends; former = fit_later E closed (store_of ms1) (store_of ms2) p.sound.owned q.extends m1 t u p.fit; latter = q.fit })
        (asked ms1 Δ m2 t' u' p.sound s.0 s.1))

    -- under a binder, the right body under the left type
    under_binder : (ms : Metas) (Γ : List Hypothesis) (h : Hypothesis) (C : Tree) (b d : Tree) → SoundStore E (store_of ms) → Holds E true (store_of ms) (context_types Γ) (IsType (h.ty)) → Holds E true (store_of ms) (context_types Γ) (IsType C)
        → Holds E true (store_of ms) (h.ty ∷ context_types Γ) (Stands b) → Holds E true (store_of ms) (C ∷ context_types Γ) (Stands d) → (ms1 : Metas) → Ok ms ms1 Equal (h.ty) C → StandsIn ms1 (h ∷ Γ) b × StandsIn ms1 (h ∷ Γ) d
    under_binder ms Γ h C b d z a c hb hd ms1 p = (
      moved ms ms1 z p.extends (h.ty ∷ context_types Γ) (Stands b) hb,
      in_place E closed (store_of ms1) (context_types Γ) C (h.ty) (Stands d) p.sound.owned (moved ms ms1 z p.extends (context_types Γ) (IsType C) c) (moved ms ms1 z p.extends (context_types Γ) (IsType (h.ty)) a) (back p.fit) (moved ms ms1 z p.extends (C ∷ context_types Γ) (Stands d) hd),
    )

    -- Assignment.
    assign_yields : (ms : Metas) (n : ℕ) (s : Trees) (u : Tree) → SoundStore E (store_of ms) → Yields (assign E again ms n s u) (λ ms'. Ok ms ms' Equal (Meta n s) u)
    assign_yields ms n s u z =
        then_yields (λ v. taken_back s (instance ms u) ≡ Some v) P (known (taken_back s (instance ms u))) _ (known_yields _) (λ v tb.
        then_yields (λ y. not (reaches ms v n) ≡ true) P (only_if (not (reaches ms v n))) _ (only_if_yields _) (λ y far.
        then_yields (λ m. slice_get ms n ≡ Some m) P (known (slice_get ms n)) _ (known_yields (slice_get ms n)) (λ m e.
        then_yields (λ t. Typed m v t) P (infer E (store_of ms) (reverse m.context) v) _ (typed m e v) (λ t h.
        then_yields (λ ms1. Ok ms ms1 Below t m.ty) P (again (ms, reverse m.context, Below, t, m.ty)) _ (asked ms (reverse m.context) Below t m.ty z (k_type_stands (k_of h.0)) (k_type_stands (type m e))) (λ ms1 p.
        let c = p.extends n (declared_as m) (ap (option_map declared_as) e) in
        let g : Holds E true (store_of ms1) (context_types (reverse m.context)) (Has v m.ty) = t_sub (moved ms ms1 z p.extends _ _ h.0) p.fit (moved ms ms1 z p.extends _ _ (type m e)) in
        let g' : Holds E true (store_of ms1) (c.0.context) (Has v (c.0.ty)) = subst (λ T. Holds E true (store_of ms1) (c.0.context) (Has v T)) (sym c.2.ty) (subst (λ Δ. Holds E true (store_of ms1) Δ (Has v m.ty)) (own_types m.context ∙ sym c.2.context) g) in
        so_yields (λ ms'. Given ms1 ms' n v) P (given ms1 n v) (λ ms' q. finish v tb ms1 p.extends ms' q)
        (given_yields ms1 n v c.0 p.sound c.1 (weaker (InStore (store_of ms)) (InStore (store_of ms1)) (stays ms1 p.extends) v h.1) g'))))))
      where
        P : Metas → Type 0
        P ms' = Ok ms ms' Equal (Meta n s) u

        Typed : Metavariable → Tree → Tree → Type 0
        Typed m v t = Holds E true (store_of ms) (context_types (reverse m.context)) (Has v t) × AllMetas (InStore (store_of ms)) v

        type : (m : Metavariable) → slice_get ms n ≡ Some m → Holds E true (store_of ms) (context_types (reverse m.context)) (IsType m.ty)
        type m e = subst (λ Δ. Holds E true (store_of ms) Δ (IsType m.ty)) (sym (own_types m.context)) (sound_typed E env (store_of ms) z n (declared_as m) (ap (option_map declared_as) e)).1

        context : (m : Metavariable) → slice_get ms n ≡ Some m → Holds E true (store_of ms) (context_types (reverse m.context)) IsContext
        context m e = subst (λ Δ. Holds E true (store_of ms) Δ IsContext) (sym (own_types m.context)) (sound_typed E env (store_of ms) z n (declared_as m) (ap (option_map declared_as) e)).0

        typed : (m : Metavariable) → slice_get ms n ≡ Some m → (v : Tree) → Yields (infer E (store_of ms) (reverse m.context) v) (Typed m v)
        typed m e v k t l r = (inference_law E env (store_of ms) z (reverse m.context) v t k l (context m e) r, infer_metas E (store_of ms) (reverse m.context) v k t l r)

        stays : (ms1 : Metas) → Extends (store_of ms) (store_of ms1) → (k : ℕ) → InStore (store_of ms) k → InStore (store_of ms1) k
        stays ms1 x k h = let r = some_of ((store_of ms).at k) h in is_some_at (x k r.0 r.1).1

        finish : (v : Tree) → taken_back s (instance ms u) ≡ Some v → (ms1 : Metas) → Extends (store_of ms) (store_of ms1) → (ms' : Metas) → Given ms1 ms' n v → Ok ms ms' Equal (Meta n s) u
        finish v tb ms1 x ms' q =
            let y : Extends (store_of ms) (store_of ms') = extends_twice (store_of ms) (store_of ms1) (store_of ms') x q.extends in
            record {
              sound = q.sound;
              extends = y;
              fit = chain (subst (Conv E (store_of ms') (Meta n s)) (taken_back_is s (instance ms u) v tb) (q.value s)) (back (conv_later E closed (store_of ms) (store_of ms') z.owned y u (instance ms u) (instance_conv E closed ms u)));
            }

    assign_side_yields : (ms : Metas) (t u : Tree) → SoundStore E (store_of ms) → Yields (assign_side E again ms t u) (λ ms'. Ok ms ms' Equal t u)
    assign_side_yields ms (Meta n s) u z = then_yields (λ y. is_open (slice_get ms n) ≡ true) (λ ms'. Ok ms ms' Equal (Meta n s) u) (only_if (is_open (slice_get ms n))) _ (only_if_yields _) (λ y o. assign_yields ms n s u z)
    assign_side_yields ms t u z = refuses (λ ms'. Ok ms ms' Equal t u) _

    turned : (ms ms' : Metas) (t u : Tree) → Ok ms ms' Equal u t → Ok ms ms' Equal t u
    turned ms ms' t u r = record { sound = r.sound; extends = r.extends; fit = back r.fit }

    by_assignment_yields : (ms : Metas) (t u : Tree) → SoundStore E (store_of ms) → Yields (by_assignment E again ms t u) (λ ms'. Ok ms ms' Equal t u)
    by_assignment_yields ms t u z =
        then_yields (λ y. not (same_meta t u) ≡ true) (λ ms'. Ok ms ms' Equal t u) (only_if (not (same_meta t u))) _ (only_if_yields _) (λ y o.
        tries (λ ms'. Ok ms ms' Equal t u) _ _ (assign_side_yields ms t u z) (so_yields (λ ms'. Ok ms ms' Equal u t) (λ ms'. Ok ms ms' Equal t u) _ (λ ms' r. turned ms ms' t u r) (assign_side_yields ms u t z)))

    -- Parts.
    record All (ms ms' : Metas) (s r : Trees) : Type 0 where
      pub sound : SoundStore E (store_of ms')
      pub extends : Extends (store_of ms) (store_of ms')
      pub fit : ConvAll E (store_of ms') s r

    conv_moved : (ms ms' : Metas) → Owned (store_of ms) → Extends (store_of ms) (store_of ms') → (t u : Tree) → Conv E (store_of ms) t u → Conv E (store_of ms') t u
    conv_moved ms ms' own x t u c = conv_later E closed (store_of ms) (store_of ms') own x t u c

    by_terms_yields : (ms : Metas) (Γ : List Hypothesis) (s r : Trees) → SoundStore E (store_of ms) → ((t : Tree) → In t s → StandsIn ms Γ t) → ((t : Tree) → In t r → StandsIn ms Γ t) → Yields (by_terms E again ms Γ s r) (λ ms'. All ms ms' s r)
    by_terms_yields ms Γ End End z h j = gives (λ ms'. All ms ms' End End) ms (record { sound = z; extends = extends_same (store_of ms); fit = ends })
    by_terms_yields ms Γ (Item t s) (Item u r) z h j =
        then_yields (λ ms1. Ok ms ms1 Equal t u) (λ ms'. All ms ms' (Item t s) (Item u r)) (again (ms, Γ, Equal, t, u)) _ (asked ms Γ Equal t u z (h t first) (j u first)) (λ ms1 p.
        so_yields (λ ms'. All ms1 ms' s r) (λ ms'. All ms ms' (Item t s) (Item u r)) (by_terms E again ms1 Γ s r)
        (λ ms' q. record { sound = q.sound; extends = extends_twice (store_of ms) (store_of ms1) (store_of ms') p.extends q.extends; fit = items (conv_moved ms1 ms' p.sound.owned q.extends t u p.fit) q.fit })
        (by_terms_yields ms1 Γ s r p.sound (λ c i. moved ms ms1 z p.extends (context_types Γ) (Stands c) (h c (later i))) (λ c i. moved ms ms1 z p.extends (context_types Γ) (Stands c) (j c (later i)))))
    by_terms_yields ms Γ s r z h j = refuses (λ ms'. All ms ms' s r) _

    bodies_yield : (S : Store) (bs cs : Arms) → same_shapes bs cs ≡ true → Yields (same_bodies E S bs cs) (λ y. ConvArms E S bs cs)
    bodies_yield S NoArm NoArm h = gives (λ y. ConvArms E S NoArm NoArm) tt no_arms
    bodies_yield S (Arm xs b bs) (Arm ys c cs) h =
        let n = both (nat_eq (length xs) (length ys)) (same_shapes bs cs) h in
        then_yields (λ o. o ≡ true → Conv E S b c) (λ y. ConvArms E S (Arm xs b bs) (Arm ys c cs)) (convert E S Equal b c) _ yes (λ o f.
        then_yields (λ y. o ≡ true) (λ y. ConvArms E S (Arm xs b bs) (Arm ys c cs)) (only_if o) _ (only_if_yields o) (λ y g.
        so_yields (λ y. ConvArms E S bs cs) (λ y. ConvArms E S (Arm xs b bs) (Arm ys c cs)) (same_bodies E S bs cs) (λ y k. arms (eqb-true (length xs) (length ys) n.0) (f g) k) (bodies_yield S bs cs n.1)))
      where
        yes : Yields (convert E S Equal b c) (λ o. o ≡ true → Conv E S b c)
        yes k o r e g = comparison_law E S Equal b c k r (e ∙ ap (λ a. Done a r) g)
    bodies_yield S NoArm (Arm ys c cs) h = untrue h
    bodies_yield S (Arm xs b bs) NoArm h = untrue h

    match_yields : (ms : Metas) (Γ : List Hypothesis) (e f : ℕ) (r p c d : Tree) (bs cs : Arms) → SoundStore E (store_of ms) → StandsIn ms Γ r → StandsIn ms Γ p → StandsIn ms Γ c → StandsIn ms Γ d → Yields (by_parts E again ms Γ (Match e r c bs) (Match f p d cs)) (λ ms'. Ok ms ms' Equal (Match e r c bs) (Match f p d cs))
    match_yields ms Γ e f r p c d bs cs z hr hp hc hd =
        then_yields (λ y. (nat_eq e f && same_shapes bs cs) ≡ true) P (only_if (nat_eq e f && same_shapes bs cs)) _ (only_if_yields _) (λ y o.
        then_yields (λ ms1. Ok ms ms1 Equal r p) P (again (ms, Γ, Equal, r, p)) _ (asked ms Γ Equal r p z hr hp) (λ ms1 a.
        then_yields (λ ms2. Ok ms1 ms2 Equal c d) P (again (ms1, Γ, Equal, c, d)) _ (asked ms1 Γ Equal c d a.sound (moved ms ms1 z a.extends (context_types Γ) (Stands c) hc) (moved ms ms1 z a.extends (context_types Γ) (Stands d) hd)) (λ ms2 b.
        let q = both (nat_eq e f) (same_shapes bs cs) o in
        then_yields (λ y. ConvArms E (store_of ms2) bs cs) P (same_bodies E (store_of ms2) bs cs) _ (bodies_yield (store_of ms2) bs cs q.1) (λ y k.
        gives P ms2 (record {
          sound = b.sound;
          extends = extends_twice (store_of ms) (store_of ms1) (store_of ms2) a.extends b.extends;
          fit = subst (λ i. Conv E (store_of ms2) (Match e r c bs) (Match i p d cs)) (eqb-true e f q.0) (matches (conv_moved ms1 ms2 a.sound.owned b.extends r p a.fit) b.fit k);
        })))))
      where
        P : Metas → Type 0
        P ms' = Ok ms ms' Equal (Match e r c bs) (Match f p d cs)

    by_parts_yields : (ms : Metas) (Γ : List Hypothesis) (t u : Tree) → SoundStore E (store_of ms) → StandsIn ms Γ t → StandsIn ms Γ u → Yields (by_parts E again ms Γ t u) (λ ms'. Ok ms ms' Equal t u)
    by_parts_yields ms Γ (App f a) (App g b) z h j =
        so_yields (λ ms'. Row ms ms' Equal Equal f g a b) (λ ms'. Ok ms ms' Equal (App f a) (App g b)) _ (λ ms' r. record { sound = r.sound; extends = r.extends; fit = app_conv r.former r.latter })
        (in_row ms Γ Γ Equal Equal f g a b z (k_fun h) (k_fun j) (λ ms1 p. (moved ms ms1 z p.extends (context_types Γ) (Stands a) (k_arg h), moved ms ms1 z p.extends (context_types Γ) (Stands b) (k_arg j))))
    by_parts_yields ms Γ (Lam x a b) (Lam y c d) z h j =
        so_yields (λ ms'. Row ms ms' Equal Equal a c b d) (λ ms'. Ok ms ms' Equal (Lam x a b) (Lam y c d)) _ (λ ms' r. record { sound = r.sound; extends = r.extends; fit = lams r.former r.latter })
        (in_row ms Γ (record { name = x; ty = a } ∷ Γ) Equal Equal a c b d z (k_type_stands (k_lam_dom h)) (k_type_stands (k_lam_dom j)) (under_binder ms Γ (record { name = x; ty = a }) c b d z (k_lam_dom h) (k_lam_dom j) (k_lam_body h) (k_lam_body j)))
    by_parts_yields ms Γ (Match e r c bs) (Match f p d cs) z h j = match_yields ms Γ e f r p c d bs cs z (k_return h) (k_return j) (k_matched h) (k_matched j)
    by_parts_yields ms Γ (Meta n s) (Meta m r) z h j =
        then_yields (λ y. (nat_eq n m && is_open (slice_get ms n)) ≡ true) (λ ms'. Ok ms ms' Equal (Meta n s) (Meta m r)) (only_if (nat_eq n m && is_open (slice_get ms n))) _ (only_if_yields _) (λ y o.
        let q = both (nat_eq n m) (is_open (slice_get ms n)) o in
        so_yields (λ ms'. All ms ms' s r) (λ ms'. Ok ms ms' Equal (Meta n s) (Meta m r)) (by_terms E again ms Γ s r)
        (λ ms' a. record { sound = a.sound; extends = a.extends; fit = subst (λ i. Conv E (store_of ms') (Meta n s) (Meta i r)) (eqb-true n m q.0) (metas a.fit) })
        (by_terms_yields ms Γ s r z (λ t l. k_terms h l) (λ t l. k_terms j l)))
    by_parts_yields ms Γ t u z h j = refuses (λ ms'. Ok ms ms' Equal t u) _

    -- Steps.
    from_left : (ms ms' : Metas) (mode : Mode) (t t' u : Tree) → SoundStore E (store_of ms) → Conv E (store_of ms) t t' → Ok ms ms' mode t' u → Ok ms ms' mode t u
    from_left ms ms' mode t t' u z c r = record { sound = r.sound; extends = r.extends; fit = fit_via E (store_of ms') mode (conv_moved ms ms' z.owned r.extends t t' c) r.fit same }

    from_right : (ms ms' : Metas) (mode : Mode) (t u u' : Tree) → SoundStore E (store_of ms) → Conv E (store_of ms) u u' → Ok ms ms' mode t u' → Ok ms ms' mode t u
    from_right ms ms' mode t u u' z c r = record { sound = r.sound; extends = r.extends; fit = fit_via E (store_of ms') mode same r.fit (back (conv_moved ms ms' z.owned r.extends u u' c)) }

    module _ (ms : Metas) (Γ : List Hypothesis) (mode : Mode) (t u : Tree) (z : SoundStore E (store_of ms)) (h : StandsIn ms Γ t) (j : StandsIn ms Γ u) where
      abbrev P : Metas → Type 0
      P ms' = Ok ms ms' mode t u

      -- goes on with a reduct of the left side, and of the right side
      left_again : (t' : Tree) → Conv E (store_of ms) t t' → StandsIn ms Γ t' → Yields (again (ms, Γ, mode, t', u)) P
      left_again t' c h' = so_yields (λ ms'. Ok ms ms' mode t' u) P (again (ms, Γ, mode, t', u)) (λ ms' r. from_left ms ms' mode t t' u z c r) (asked ms Γ mode t' u z h' j)

      right_again : (u' : Tree) → Conv E (store_of ms) u u' → StandsIn ms Γ u' → Yields (again (ms, Γ, mode, t, u')) P
      right_again u' c j' = so_yields (λ ms'. Ok ms ms' mode t u') P (again (ms, Γ, mode, t, u')) (λ ms' r. from_right ms ms' mode t u u' z c r) (asked ms Γ mode t u' z h j')

      -- a step that is there is made of contractions
      abbrev Steps : Tree → Option Tree → Type 0
      Steps v o = (w : Tree) → o ≡ Some w → ReachedFrom E (store_of ms) v w

      step_is : (v : Tree) → Yields (step E (store_of ms) v) (Steps v)
      step_is v n o l e w g = step_law E (store_of ms) v w n l (e ∙ ap (λ a. Done a l) g)

      left_step : (m : Charged Metas) → Yields m P → Yields (step E (store_of ms) t >>= on_step E again (λ v. (ms, Γ, mode, v, u)) m) P
      left_step m y = then_yields (Steps t) P (step E (store_of ms) t) (on_step E again (λ v. (ms, Γ, mode, v, u)) m) (step_is t) go
        where
          go : (o : Option Tree) → Steps t o → Yields (on_step E again (λ v. (ms, Γ, mode, v, u)) m o) P
          go None r = y
          go (Some v) r = let c = r v refl in left_again v (reached_conv E (store_of ms) c) (reached_stands E (store_of ms) (context_types Γ) h c)

      right_step : (m : Charged Metas) → Yields m P → Yields (step E (store_of ms) u >>= on_step E again (λ v. (ms, Γ, mode, t, v)) m) P
      right_step m y = then_yields (Steps u) P (step E (store_of ms) u) (on_step E again (λ v. (ms, Γ, mode, t, v)) m) (step_is u) go
        where
          go : (o : Option Tree) → Steps u o → Yields (on_step E again (λ v. (ms, Γ, mode, t, v)) m o) P
          go None r = y
          go (Some v) r = let c = r v refl in right_again v (reached_conv E (store_of ms) c) (reached_stands E (store_of ms) (context_types Γ) j c)

      by_step_yields : (m : Charged Metas) → Yields m P → Yields (by_step E again ms Γ mode t u m) P
      by_step_yields m y = either_yields P (is_higher (rank u) (rank t)) _ _ (λ e. right_step _ (left_step m y)) (left_step _ (right_step m y))

      -- the head of a side is replaced by its body
      replaced : (v w : Tree) → head_replaced ms v ≡ Some w → Contracts E (store_of ms) v w
      replaced (Meta n s) w e = go (slice_get ms n) refl e
        where
          bodied : (m : Metavariable) → slice_get ms n ≡ Some m → (o : Option Tree) → m.body ≡ o → body_under o s ≡ Some w → Contracts E (store_of ms) (Meta n s) w
          bodied m g None b f = nothing f
          bodied m g (Some v) b f = subst (Contracts E (store_of ms) (Meta n s)) (some_is f) (assigned (ap (option_map declared_as) g) b)

          go : (o : Option Metavariable) → slice_get ms n ≡ o → body_under (assigned_body o) s ≡ Some w → Contracts E (store_of ms) (Meta n s) w
          go None g f = nothing f
          go (Some m) g f = bodied m g m.body refl f
      replaced (App f a) w e = go (replaced f) (head_replaced ms f) refl e
        where
          go : ((v : Tree) → head_replaced ms f ≡ Some v → Contracts E (store_of ms) f v) → (o : Option Tree) → head_replaced ms f ≡ o → with_argument a o ≡ Some w → Contracts E (store_of ms) (App f a) w
          go ih None g k = nothing k
          go ih (Some v) g k = subst (Contracts E (store_of ms) (App f a)) (some_is k) (in_fun (ih v g))
      replaced v w e = nothing e

      by_bodies_yields : (m : Charged Metas) → Yields m P → Yields (by_bodies E again (λ v. (ms, Γ, mode, v, u)) (λ v. (ms, Γ, mode, t, v)) (head_replaced ms t) (head_replaced ms u) m) P
      by_bodies_yields m y = go (head_replaced ms t) (head_replaced ms u) refl refl
        where
          go : (o p : Option Tree) → head_replaced ms t ≡ o → head_replaced ms u ≡ p → Yields (by_bodies E again (λ v. (ms, Γ, mode, v, u)) (λ v. (ms, Γ, mode, t, v)) o p m) P
          go (Some v) p e f = let c = replaced t v e in charges P _ (left_again v (reduct c) (k_reduct h c))
          go None (Some v) e f = let c = replaced u v f in charges P _ (right_again v (reduct c) (k_reduct j c))
          go None None e f = y

    -- Sorts and products.
    by_types_yields : (ms : Metas) (Γ : List Hypothesis) (mode : Mode) (t u : Tree) → SoundStore E (store_of ms) → StandsIn ms Γ t → StandsIn ms Γ u → Yields (by_types E again ms Γ mode t u) (λ ms'. Ok ms ms' mode t u)
    by_types_yields ms Γ mode (Sort s) (Sort r) z h j =
        either_yields (λ ms'. Ok ms ms' mode (Sort s) (Sort r)) (sorts_fit E.below mode s r) (give ms) refused
        (λ e. gives (λ ms'. Ok ms ms' mode (Sort s) (Sort r)) ms (nothing_new ms mode (Sort s) (Sort r) z (fit_sorts E (store_of ms) mode s r e)))
        (refuses (λ ms'. Ok ms ms' mode (Sort s) (Sort r)) _)
    by_types_yields ms Γ mode (Prod x a b) (Prod y c d) z h j =
        let hp = k_prod_type h in
        let jp = k_prod_type j in
        so_yields (λ ms'. Row ms ms' Equal mode a c b d) (λ ms'. Ok ms ms' mode (Prod x a b) (Prod y c d)) _ (λ ms' r. record { sound = r.sound; extends = r.extends; fit = fit_products E (store_of ms') mode x y a c b d r.former r.latter })
        (in_row ms Γ (record { name = x; ty = a } ∷ Γ) Equal mode a c b d z (k_type_stands (k_dom hp)) (k_type_stands (k_dom jp)) (under_binder ms Γ (record { name = x; ty = a }) c b d z (k_dom hp) (k_dom jp) (k_type_stands (k_cod hp)) (k_type_stands (k_cod jp))))
    by_types_yields ms Γ mode t u z h j = refuses (λ ms'. Ok ms ms' mode t u) _

    alike_fit : (ms : Metas) (mode : Mode) (t u : Tree) → is_alike t u ≡ true → Fit E (store_of ms) mode t u
    unfolding is_alike
    alike_fit ms mode t u e = as_fit E (store_of ms) mode (alike_conv E (store_of ms) t u e)

    by_rules_yields : (H : List Hint) → SoundHints E H → (ms : Metas) (Γ : List Hypothesis) (mode : Mode) (t u : Tree) → SoundStore E (store_of ms) → StandsIn ms Γ t → StandsIn ms Γ u → Yields (by_rules E again H ms Γ mode t u) (λ ms'. Ok ms ms' mode t u)
    by_rules_yields H good ms Γ mode t u z h j =
        either_yields Q (is_alike t u) (give ms) _ (λ e. gives Q ms (nothing_new ms mode t u z (alike_fit ms mode t u e)))
        (by_bodies_yields ms Γ mode t u z h j _
        (tries Q _ _ (so_yields (λ ms'. Ok ms ms' Equal t u) Q _ (λ ms' r. as_mode ms ms' mode t u r) (by_assignment_yields ms t u z))
        (tries Q _ _ (so_yields (λ ms'. Ok ms ms' Equal t u) Q _ (λ ms' r. as_mode ms ms' mode t u r) (by_parts_yields ms Γ t u z h j))
        (tries Q _ _ (so_yields (λ ms'. Ok ms ms' Equal t u) Q _ (λ ms' r. as_mode ms ms' mode t u r) (by_hints_yields E env again ih ms Γ t u z h j (candidates H (head_entry t) (head_entry u)) (candidates_each (SoundHint E) H (head_entry t) (head_entry u) good)))
        (by_step_yields ms Γ mode t u z h j _ (by_types_yields ms Γ mode t u z h j))))))
      where
        Q : Metas → Type 0
        Q ms' = Ok ms ms' mode t u

    unify_by_yields : (H : List Hint) → SoundHints E H → (q : Question) → Yields (unify_by E H again q) (Told q)
    unify_by_yields H good (ms, Γ, mode, t, u) n a r e z h j =
        charges (λ ms'. Ok ms ms' mode t u) _ (tries (λ ms'. Ok ms ms' mode t u) _ _ (by_rules_yields H good ms Γ mode t u z h j) (refuses (λ ms'. Ok ms ms' mode t u) _)) n a r e

  unified_yields : (H : List Hint) → SoundHints E H → (q : Question) → Yields (unified E H q) (Told q)
  unfolding unified
  unified_yields H good q = fixed_yields Question (λ q. Metas) (unify_by E H) Told (λ again ih. unify_by_yields again ih H good) q

compared_of : (E : Environment) (S : Store) (mode : Mode) (t u : Tree) → Fit E S mode t u → Compared E S mode t u
compared_of E S Equal t u h = h
compared_of E S Below t u h = h

pub unification_law : UnificationLaw
unfolding unify
unification_law E sound H good ms ms' Γ mode t u n l z h j e =
    let r = unified_yields E sound H good (ms, Γ, mode, t, u) n ms' l e z h j in
    (r.sound, r.extends, compared_of E (store_of ms') mode t u r.fit)
