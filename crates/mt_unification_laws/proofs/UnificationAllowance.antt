-- Unification goes by its allowance.
use Rattle.std.specs.Prelude.{◌≡◌, ℕ, zero, suc, List, [], ◌∷◌, nat_eq, Bool, true, false, not, ◌&&◌, Option, Some, None, is_none, reverse, slice_get, slice_set}
use Rattle.std.proofs.Common.{arith}
use Rattle.mt_term.specs.Substitution.{under}
use Rattle.mt_term.specs.Spines.{item_at}
use Rattle.mt_term.specs.States.{Equation, Hint, is_open, meta_with_body}
use Rattle.mt_term.specs.Trees.{Tree, Trees, Arms, Sort, Prod, Lam, App, Match, Meta, End, Item, NoArm, Arm}
use Rattle.mt_term.specs.Declarations.{Hypothesis, Environment}
use Rattle.mt_rules.specs.Charges.{Charged}
use Rattle.mt_term.specs.Alike.{is_alike}
use Rattle.mt_term.specs.Stores.{Store, store_of}
use Rattle.mt_term.specs.Instancing.{instance}
use Rattle.mt_rules.specs.Comparison.{same_shapes, convert}
use Rattle.mt_rules.specs.Inference.{infer}
use Rattle.mt_term.specs.declared.modes.Mode.{Mode}
use Rattle.mt_term.specs.declared.modes.Mode.TheVariants.{Equal, AtMost as Below}
use Rattle.mt_rules_laws.proofs.Charged.{Agree, AgreeAfter, give-agree, refuse-agree, charge-agree, then-agree, tried-agree, if-agree}
use Rattle.mt_rules_laws.proofs.KnotLaws.{IsCharged, fixed-agree, fixed-is}
use Rattle.mt_rules_laws.proofs.WeakHeadLaws.{step-agree}
use Rattle.mt_rules_laws.proofs.ComparisonLaws.{convert-agree}
use Rattle.mt_rules_laws.proofs.InferenceLaws.{infer-agree}
use Rattle.mt_rules_laws.proofs.AllowanceTheorem.{by_allowance}
use Rattle.mt_unification_rules.specs.Reach.{reaches}
use Rattle.mt_unification_rules.specs.TakingBack.{taken_back}
use Rattle.mt_unification_rules.specs.Hints.{Candidate, with_variables, first_terms}
use Rattle.mt_unification_rules.specs.Placeholders.{Metas}
use Rattle.mt_unification_rules.specs.Unification.{Question, known, only_if, same_meta, same_bodies, given, assign, assign_side, by_assignment, by_terms, by_parts, by_equations, by_sides, by_direction, by_hint, by_hints, is_higher, rank, on_step, by_step, by_types, by_bodies, by_rules, unify_by, unified, unify}
use Rattle.mt_unification_laws.specs.UnificationLaws.{UnificationAllowanceLaw}

module _ (k i : ℕ) where
  known-agree : {A : Type 0} (o : Option A) → Agree k i (known o) (known o)
  known-agree None = refuse-agree k i _
  known-agree (Some a) = give-agree k i a

  only_if-agree : (b : Bool) → Agree k i (only_if b) (only_if b)
  only_if-agree true = give-agree k i tt
  only_if-agree false = refuse-agree k i _

  pub same_bodies-agree : (E : Environment) (S : Store) (bs cs : Arms) → Agree k i (same_bodies E S bs cs) (same_bodies E S bs cs)
  same_bodies-agree E S NoArm NoArm = give-agree k i tt
  same_bodies-agree E S (Arm xs b bs) (Arm ys c cs) =
      then-agree k i (convert E S Equal b c) (convert E S Equal b c) _ _ (convert-agree E S k i Equal b c) (λ o.
      then-agree k i (only_if o) (only_if o) _ _ (only_if-agree o) (λ z. same_bodies-agree E S bs cs))
  same_bodies-agree E S NoArm (Arm ys c cs) = refuse-agree k i _
  same_bodies-agree E S (Arm xs b bs) NoArm = refuse-agree k i _

  pub given-agree : (ms : Metas) (n : ℕ) (v : Tree) → Agree k i (given ms n v) (given ms n v)
  given-agree ms n v =
      then-agree k i (known (slice_get ms n)) (known (slice_get ms n)) _ _ (known-agree (slice_get ms n)) (λ m.
      let fit = is_none m.body && not (reaches ms v n) in
      then-agree k i (only_if fit) (only_if fit) _ _ (only_if-agree fit) (λ z. give-agree k i (slice_set ms n (meta_with_body m v))))

-- what agrees up to k agrees below it
below : {A : Type 0} (k i : ℕ) (m m' : Charged A) → Agree k i m m' → AgreeAfter k i m m'
below zero i m m' h = tt
below (suc k) i m m' h = record { at = λ n l. h.at n (omega (arith, l)) }

-- hints
module _ (k i : ℕ) (again again' : Question → Charged Metas) (h : (q : Question) → Agree k i (again q) (again' q)) where
  pub by_equations-agree : (Γ : List Hypothesis) (us : Trees) (es : List Equation) (ms : Metas) → Agree k i (by_equations again Γ us es ms) (by_equations again' Γ us es ms)
  by_equations-agree Γ us [] ms = give-agree k i ms
  by_equations-agree Γ us (e ∷ es) ms =
      then-agree k i (known (item_at us e.place)) (known (item_at us e.place)) _ _ (known-agree k i (item_at us e.place)) (λ x.
      let q : Question = (ms, Γ, Equal, x, under (first_terms e.place us) e.term) in
      then-agree k i (again q) (again' q) _ _ (h q) (λ ms'. by_equations-agree Γ us es ms'))

  pub by_sides-agree : (Γ : List Hypothesis) (c : Hint) (v : Metas × Trees) (t u : Tree) → Agree k i (by_sides again Γ c v t u) (by_sides again' Γ c v t u)
  by_sides-agree Γ c v t u =
      let q : Question = (v.0, Γ, Equal, under v.1 c.left, t) in
      then-agree k i (again q) (again' q) _ _ (h q) (λ ms.
      let r : Question = (ms, Γ, Equal, under v.1 c.right, u) in
      then-agree k i (again r) (again' r) _ _ (h r) (λ ms'. by_equations-agree Γ v.1 c.eqs ms'))

  pub by_direction-agree : (ms : Metas) (Γ : List Hypothesis) (t u : Tree) (c : Hint) (swapped : Bool) → Agree k i (by_direction again ms Γ t u c swapped) (by_direction again' ms Γ t u c swapped)
  by_direction-agree ms Γ t u c false = by_sides-agree Γ c (with_variables ms Γ c.vars End) t u
  by_direction-agree ms Γ t u c true = by_sides-agree Γ c (with_variables ms Γ c.vars End) u t

  pub by_hint-agree : (ms : Metas) (Γ : List Hypothesis) (t u : Tree) (c : Candidate) → Agree k i (by_hint again ms Γ t u c) (by_hint again' ms Γ t u c)
  by_hint-agree ms Γ t u c = charge-agree k i _ _ (below k i _ _ (by_direction-agree ms Γ t u c.hint c.swapped))

  pub by_hints-agree : (ms : Metas) (Γ : List Hypothesis) (t u : Tree) (cs : List Candidate) → Agree k i (by_hints again ms Γ t u cs) (by_hints again' ms Γ t u cs)
  by_hints-agree ms Γ t u [] = refuse-agree k i _
  by_hints-agree ms Γ t u (c ∷ cs) = tried-agree k i _ _ _ _ (by_hint-agree ms Γ t u c) (by_hints-agree ms Γ t u cs)

module _ (E : Environment) (k i : ℕ) (again again' : Question → Charged Metas) (h : (q : Question) → Agree k i (again q) (again' q)) where
  pub assign-agree : (ms : Metas) (n : ℕ) (s : Trees) (u : Tree) → Agree k i (assign E again ms n s u) (assign E again' ms n s u)
  assign-agree ms n s u =
      let back = taken_back s (instance ms u) in
      then-agree k i (known back) (known back) _ _ (known-agree k i back) (λ v.
      let far = not (reaches ms v n) in
      then-agree k i (only_if far) (only_if far) _ _ (only_if-agree k i far) (λ z.
      then-agree k i (known (slice_get ms n)) (known (slice_get ms n)) _ _ (known-agree k i (slice_get ms n)) (λ m.
      let own = infer E (store_of ms) (reverse m.context) v in
      then-agree k i own own _ _ (infer-agree E (store_of ms) k i (reverse m.context) v) (λ t.
      let q : Question = (ms, reverse m.context, Below, t, m.ty) in
      then-agree k i (again q) (again' q) _ _ (h q) (λ ms'. given-agree k i ms' n v)))))

  pub assign_side-agree : (ms : Metas) (t u : Tree) → Agree k i (assign_side E again ms t u) (assign_side E again' ms t u)
  assign_side-agree ms (Meta n s) u = let o = is_open (slice_get ms n) in then-agree k i (only_if o) (only_if o) _ _ (only_if-agree k i o) (λ z. assign-agree ms n s u)
  assign_side-agree ms _ u = refuse-agree k i _

  pub by_assignment-agree : (ms : Metas) (t u : Tree) → Agree k i (by_assignment E again ms t u) (by_assignment E again' ms t u)
  by_assignment-agree ms t u = let o = not (same_meta t u) in then-agree k i (only_if o) (only_if o) _ _ (only_if-agree k i o) (λ z. tried-agree k i _ _ _ _ (assign_side-agree ms t u) (assign_side-agree ms u t))

  pub by_terms-agree : (ms : Metas) (Γ : List Hypothesis) (s r : Trees) → Agree k i (by_terms E again ms Γ s r) (by_terms E again' ms Γ s r)
  by_terms-agree ms Γ End End = give-agree k i ms
  by_terms-agree ms Γ (Item t s) (Item u r) = then-agree k i _ _ _ _ (h _) (λ ms'. by_terms-agree ms' Γ s r)
  by_terms-agree ms Γ _ _ = refuse-agree k i _

  pub by_parts-agree : (ms : Metas) (Γ : List Hypothesis) (t u : Tree) → Agree k i (by_parts E again ms Γ t u) (by_parts E again' ms Γ t u)
  by_parts-agree ms Γ (App f a) (App g b) = then-agree k i _ _ _ _ (h _) (λ ms'. h _)
  by_parts-agree ms Γ (Lam x a b) (Lam y c d) = then-agree k i _ _ _ _ (h _) (λ ms'. h _)
  by_parts-agree ms Γ (Match e r c bs) (Match f p d cs) =
      let o = nat_eq e f && same_shapes bs cs in
      then-agree k i (only_if o) (only_if o) _ _ (only_if-agree k i o) (λ z.
      then-agree k i (again (ms, Γ, Equal, r, p)) (again' (ms, Γ, Equal, r, p)) _ _ (h _) (λ ms'.
      then-agree k i (again (ms', Γ, Equal, c, d)) (again' (ms', Γ, Equal, c, d)) _ _ (h _) (λ ms''.
      let same = same_bodies E (store_of ms'') bs cs in
      then-agree k i same same _ _ (same_bodies-agree k i E (store_of ms'') bs cs) (λ z. give-agree k i ms''))))
  by_parts-agree ms Γ (Meta n s) (Meta m r) = let o = nat_eq n m && is_open (slice_get ms n) in then-agree k i (only_if o) (only_if o) _ _ (only_if-agree k i o) (λ z. by_terms-agree ms Γ s r)
  by_parts-agree ms Γ _ _ = refuse-agree k i _

  pub on_step-agree : (with : Tree → Question) (m m' : Charged Metas) → Agree k i m m' → (o : Option Tree) → Agree k i (on_step E again with m o) (on_step E again' with m' o)
  on_step-agree with m m' g None = g
  on_step-agree with m m' g (Some t) = h (with t)

  pub by_step-agree : (ms : Metas) (Γ : List Hypothesis) (mode : Mode) (t u : Tree) (m m' : Charged Metas) → Agree k i m m' → Agree k i (by_step E again ms Γ mode t u m) (by_step E again' ms Γ mode t u m')
  by_step-agree ms Γ mode t u m m' g =
      if-agree k i (is_higher (rank u) (rank t)) _ _ _ _
      (then-agree k i _ _ _ _ (step-agree E (store_of ms) k i u) (on_step-agree _ _ _ (then-agree k i _ _ _ _ (step-agree E (store_of ms) k i t) (on_step-agree _ _ _ g))))
      (then-agree k i _ _ _ _ (step-agree E (store_of ms) k i t) (on_step-agree _ _ _ (then-agree k i _ _ _ _ (step-agree E (store_of ms) k i u) (on_step-agree _ _ _ g))))

  pub by_types-agree : (ms : Metas) (Γ : List Hypothesis) (mode : Mode) (t u : Tree) → Agree k i (by_types E again ms Γ mode t u) (by_types E again' ms Γ mode t u)
  by_types-agree ms Γ mode (Sort s) (Sort r) = if-agree k i _ _ _ _ _ (give-agree k i ms) (refuse-agree k i _)
  by_types-agree ms Γ mode (Prod x a b) (Prod y c d) = then-agree k i _ _ _ _ (h _) (λ ms'. h _)
  by_types-agree ms Γ mode _ _ = refuse-agree k i _

  by_bodies-agree : (left right : Tree → Question) (o p : Option Tree) (m m' : Charged Metas) → Agree k i m m' → Agree k i (by_bodies E again left right o p m) (by_bodies E again' left right o p m')
  by_bodies-agree left right (Some t) p m m' g = charge-agree k i _ _ (below k i _ _ (h (left t)))
  by_bodies-agree left right None (Some u) m m' g = charge-agree k i _ _ (below k i _ _ (h (right u)))
  by_bodies-agree left right None None m m' g = g

  pub by_rules-agree : (H : List Hint) (ms : Metas) (Γ : List Hypothesis) (mode : Mode) (t u : Tree) → Agree k i (by_rules E again H ms Γ mode t u) (by_rules E again' H ms Γ mode t u)
  by_rules-agree H ms Γ mode t u =
      if-agree k i (is_alike t u) _ _ _ _ (give-agree k i ms)
      (by_bodies-agree _ _ _ _ _ _
      (tried-agree k i _ _ _ _ (by_assignment-agree ms t u)
      (tried-agree k i _ _ _ _ (by_parts-agree ms Γ t u)
      (tried-agree k i _ _ _ _ (by_hints-agree k i again again' h ms Γ t u _)
      (by_step-agree ms Γ mode t u _ _ (by_types-agree ms Γ mode t u))))))

  answered-agree : (H : List Hint) (q : Question) → Agree (suc k) i (unify_by E H again q) (unify_by E H again' q)
  answered-agree H (ms, Γ, mode, t, u) = charge-agree (suc k) i _ _ (tried-agree k i _ _ _ _ (by_rules-agree H ms Γ mode t u) (refuse-agree k i _))

unify_by-agree : (E : Environment) (H : List Hint) (k i : ℕ) (again again' : Question → Charged Metas) → ((q : Question) → AgreeAfter k i (again q) (again' q)) → (q : Question) → Agree k i (unify_by E H again q) (unify_by E H again' q)
unify_by-agree E H zero i again again' h (ms, Γ, mode, t, u) = charge-agree 0 i _ _ tt
unify_by-agree E H (suc k) i again again' h q = answered-agree E k i again again' h H q

unified-charged : (E : Environment) (H : List Hint) → IsCharged Question (λ q. Metas) (unify_by E H)
unified-charged E H = record { agrees = λ k i again again' h q. unify_by-agree E H k i again again' h q }

pub unified-agree : (E : Environment) (H : List Hint) (k i : ℕ) (q : Question) → Agree k i (unified E H q) (unified E H q)
unfolding unified
unified-agree E H k i q = fixed-agree _ _ _ (unified-charged E H) k i q

-- it unfolds
pub unified-is : (E : Environment) (H : List Hint) (q : Question) (n : ℕ) → unified E H q n ≡ unify_by E H (unified E H) q n
unfolding unified
unified-is E H q n = fixed-is _ _ _ (unified-charged E H) q n

pub unify-agree : (E : Environment) (H : List Hint) (k i : ℕ) (ms : Metas) (Γ : List Hypothesis) (mode : Mode) (t u : Tree) → Agree k i (unify E H ms Γ mode t u) (unify E H ms Γ mode t u)
unfolding unify
unify-agree E H k i ms Γ mode t u = unified-agree E H k i (ms, Γ, mode, t, u)

pub unification_allowance_law : UnificationAllowanceLaw
unification_allowance_law E H ms Γ mode t u = by_allowance _ (λ k i. unify-agree E H k i ms Γ mode t u)
