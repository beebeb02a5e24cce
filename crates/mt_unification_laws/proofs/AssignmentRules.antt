-- The assignment of a metavariable, rule by rule, as a program follows it.
use Rattle.std.specs.Prelude.{ℕ, ◌≡◌, ◌≤◌, refl, List, [], Bool, true, false, not, ◌&&◌, Option, Some, None, is_none, reverse, slice_get, slice_set, option_map}
use Rattle.std.proofs.Common.{◌∙◌, ap, arith, sym}
use Rattle.mt_term.specs.Trees.{Bytes, Tree, Trees, Arms, Var, Sort, Prod, Lam, App, Const, Ind, Con, Match, Meta}
use Rattle.mt_term.specs.declared.universes.Sort.{Sort as AnySort}
use Rattle.mt_term.specs.declared.modes.Mode.TheVariants.{AtMost}
use Rattle.mt_term.specs.Declarations.{Hypothesis, Environment}
use Rattle.mt_term.specs.Reasons.{Reason, Unbound}
use Rattle.mt_term.specs.States.{Metavariable, is_open, meta_with_body, meta_context, meta_type, Hint}
use Rattle.mt_rules.specs.Charges.{Done, Refused, Spent, rest}
use Rattle.mt_term.specs.Instancing.{assigned_body, instance}
use Rattle.mt_term.specs.Stores.{store_of}
use Rattle.mt_rules.specs.Inference.{infer}
use Rattle.mt_rules_laws.proofs.InferenceLaws.{infer-rest}
use Rattle.mt_rules_laws.proofs.Yields.{untrue}
use Rattle.mt_unification_rules.specs.Reach.{reaches}
use Rattle.mt_unification_rules.specs.TakingBack.{taken_back}
use Rattle.mt_unification_rules.specs.Placeholders.{Metas}
use Rattle.mt_unification_rules.specs.Unification.{same_meta, unify}
use Rattle.mt_unification_rules.specs.UnificationParts.{present, assignment, side_assignment, meta_assignment, typed_assignment, body_given}
use Rattle.mt_unification_laws.proofs.PartOutcomes.{on-done, on-spent, on-refused, on-some, on-none, on-true, on-false, try-done, try-spent, try-refused, by-outcome, unify-rest, assignment-rest, side_assignment-rest, meta_assignment-rest, typed_assignment-rest, body_given-rest}

module _ (E : Environment) (H : List Hint) where
  -- the left side, or else the right one
  pub assignment-same : (ms : Metas) (t u : Tree) (n : ℕ) → same_meta t u ≡ true → assignment E H ms t u n ≡ Refused (Unbound []) n
  unfolding assignment side_assignment
  assignment-same ms t u n z = on-false _ _ _ (ap not z)

  pub assignment-left_done : (ms : Metas) (t u : Tree) (final : Metas) (n k : ℕ) → same_meta t u ≡ false → side_assignment E H ms t u n ≡ Done final k → assignment E H ms t u n ≡ Done final k
  unfolding assignment side_assignment
  assignment-left_done ms t u final n k e1 z = on-true _ _ _ (ap not e1) (try-done _ _ z)

  pub assignment-left_spent : (ms : Metas) (t u : Tree) (n : ℕ) → same_meta t u ≡ false → side_assignment E H ms t u n ≡ Spent → assignment E H ms t u n ≡ Spent
  unfolding assignment side_assignment
  assignment-left_spent ms t u n e1 z = on-true _ _ _ (ap not e1) (try-spent _ _ z)

  pub assignment-right : (ms : Metas) (t u : Tree) (q2 : Reason) (n l2 : ℕ) → same_meta t u ≡ false → side_assignment E H ms t u n ≡ Refused q2 l2 → assignment E H ms t u n ≡ side_assignment E H ms u t l2
  unfolding assignment side_assignment
  assignment-right ms t u q2 n l2 e1 e2 = on-true _ _ _ (ap not e1) (try-refused _ _ e2 (refl))

  pub assignment-left_within : (ms : Metas) (t u : Tree) (n : ℕ) → same_meta t u ≡ false → rest (assignment E H ms t u n) ≤ rest (side_assignment E H ms t u n)
  assignment-left_within ms t u n e1 =
      by-outcome (side_assignment E H ms t u n) (rest (assignment E H ms t u n)) (λ z. rw (assignment-left_spent ms t u n e1 z) (omega arith)) (λ q2 l2 e2. rw (assignment-right ms t u q2 n l2 e1 e2) (side_assignment-rest E H ms u t l2)) (λ final k z. rw (assignment-left_done ms t u final n k e1 z) (omega arith))

  -- one side
  pub side_assignment-meta_closed : (ms : Metas) (i : ℕ) (s : Trees) (u : Tree) (n : ℕ) → is_open (slice_get ms i) ≡ false → side_assignment E H ms (Meta i s) u n ≡ Refused (Unbound []) n
  unfolding side_assignment meta_assignment
  side_assignment-meta_closed ms i s u n z = on-false _ _ _ z

  pub side_assignment-meta : (ms : Metas) (i : ℕ) (s : Trees) (u : Tree) (n : ℕ) → is_open (slice_get ms i) ≡ true → side_assignment E H ms (Meta i s) u n ≡ meta_assignment E H ms i s u n
  unfolding side_assignment meta_assignment
  side_assignment-meta ms i s u n e1 = on-true _ _ _ e1 (refl)

  pub side_assignment-var : (ms : Metas) (i : ℕ) (u : Tree) (n : ℕ) → side_assignment E H ms (Var i) u n ≡ Refused (Unbound []) n
  unfolding side_assignment
  side_assignment-var ms i u n = refl

  pub side_assignment-sort : (ms : Metas) (s : AnySort) (u : Tree) (n : ℕ) → side_assignment E H ms (Sort s) u n ≡ Refused (Unbound []) n
  unfolding side_assignment
  side_assignment-sort ms s u n = refl

  pub side_assignment-prod : (ms : Metas) (x : Bytes) (a b : Tree) (u : Tree) (n : ℕ) → side_assignment E H ms (Prod x a b) u n ≡ Refused (Unbound []) n
  unfolding side_assignment
  side_assignment-prod ms x a b u n = refl

  pub side_assignment-lam : (ms : Metas) (x : Bytes) (a b : Tree) (u : Tree) (n : ℕ) → side_assignment E H ms (Lam x a b) u n ≡ Refused (Unbound []) n
  unfolding side_assignment
  side_assignment-lam ms x a b u n = refl

  pub side_assignment-app : (ms : Metas) (f a : Tree) (u : Tree) (n : ℕ) → side_assignment E H ms (App f a) u n ≡ Refused (Unbound []) n
  unfolding side_assignment
  side_assignment-app ms f a u n = refl

  pub side_assignment-const : (ms : Metas) (c : ℕ) (u : Tree) (n : ℕ) → side_assignment E H ms (Const c) u n ≡ Refused (Unbound []) n
  unfolding side_assignment
  side_assignment-const ms c u n = refl

  pub side_assignment-ind : (ms : Metas) (e : ℕ) (u : Tree) (n : ℕ) → side_assignment E H ms (Ind e) u n ≡ Refused (Unbound []) n
  unfolding side_assignment
  side_assignment-ind ms e u n = refl

  pub side_assignment-con : (ms : Metas) (e k : ℕ) (u : Tree) (n : ℕ) → side_assignment E H ms (Con e k) u n ≡ Refused (Unbound []) n
  unfolding side_assignment
  side_assignment-con ms e k u n = refl

  pub side_assignment-match : (ms : Metas) (e : ℕ) (r c : Tree) (bs : Arms) (u : Tree) (n : ℕ) → side_assignment E H ms (Match e r c bs) u n ≡ Refused (Unbound []) n
  unfolding side_assignment
  side_assignment-match ms e r c bs u n = refl

  -- a metavariable, to the body that is taken back
  pub meta_assignment-lost : (ms : Metas) (i : ℕ) (s : Trees) (u : Tree) (n : ℕ) → taken_back s (instance ms u) ≡ None → meta_assignment E H ms i s u n ≡ Refused (Unbound []) n
  unfolding meta_assignment typed_assignment unify
  meta_assignment-lost ms i s u n z = on-none _ _ _ z

  pub meta_assignment-reached : (ms : Metas) (i : ℕ) (s : Trees) (u : Tree) (v : Tree) (n : ℕ) → taken_back s (instance ms u) ≡ Some v → reaches ms v i ≡ true → meta_assignment E H ms i s u n ≡ Refused (Unbound []) n
  unfolding meta_assignment typed_assignment unify
  meta_assignment-reached ms i s u v n e1 z = on-some _ _ _ e1 (on-false _ _ _ (ap not z))

  pub meta_assignment-missing : (ms : Metas) (i : ℕ) (s : Trees) (u : Tree) (v : Tree) (n : ℕ) → taken_back s (instance ms u) ≡ Some v → reaches ms v i ≡ false → slice_get ms i ≡ None → meta_assignment E H ms i s u n ≡ Refused (Unbound []) n
  unfolding meta_assignment typed_assignment unify
  meta_assignment-missing ms i s u v n e1 e2 z = on-some _ _ _ e1 (on-true _ _ _ (ap not e2) (on-none _ _ _ z))

  -- a metavariable from its parts
  from-parts : (o : Option Metavariable) (Δ : List Hypothesis) (a : Tree) → option_map meta_context o ≡ Some Δ → option_map meta_type o ≡ Some a → o ≡ Some (record { context = Δ; ty = a; body = assigned_body o })
  from-parts None Δ a c t = absurd cc
  from-parts (Some m) Δ a c t =
      let c' : m.context ≡ Δ = cc in
      let t' : m.ty ≡ a = cc in
      λ i. Some (record { context = c' i; ty = t' i; body = m.body })

  pub meta_assignment-typed : (ms : Metas) (i : ℕ) (s : Trees) (u : Tree) (v : Tree) (Δ : List Hypothesis) (a : Tree) (b : Option Tree) (n : ℕ) → taken_back s (instance ms u) ≡ Some v → reaches ms v i ≡ false → slice_get ms i ≡ Some (record { context = Δ; ty = a; body = b }) → meta_assignment E H ms i s u n ≡ typed_assignment E H ms i Δ a v n
  unfolding meta_assignment typed_assignment unify
  meta_assignment-typed ms i s u v Δ a b n e1 e2 z = on-some _ _ _ e1 (on-true _ _ _ (ap not e2) (on-some _ _ _ z refl))

  pub meta_assignment-known : (ms : Metas) (i : ℕ) (s : Trees) (u : Tree) (v : Tree) (Δ : List Hypothesis) (a : Tree) (n : ℕ) → taken_back s (instance ms u) ≡ Some v → reaches ms v i ≡ false → option_map meta_context (slice_get ms i) ≡ Some Δ → option_map meta_type (slice_get ms i) ≡ Some a → meta_assignment E H ms i s u n ≡ typed_assignment E H ms i Δ a v n
  meta_assignment-known ms i s u v Δ a n e1 e2 f g =
      meta_assignment-typed ms i s u v Δ a (assigned_body (slice_get ms i)) n e1 e2 (from-parts (slice_get ms i) Δ a f g)

  -- to a body that is there, by its type
  pub typed_assignment-inferred_spent : (ms : Metas) (i : ℕ) (Δ : List Hypothesis) (a v : Tree) (n : ℕ) → infer E (store_of ms) (reverse Δ) v n ≡ Spent → typed_assignment E H ms i Δ a v n ≡ Spent
  unfolding typed_assignment unify body_given
  typed_assignment-inferred_spent ms i Δ a v n z = on-spent _ _ z

  pub typed_assignment-inferred_refused : (ms : Metas) (i : ℕ) (Δ : List Hypothesis) (a v : Tree) (q : Reason) (n k : ℕ) → infer E (store_of ms) (reverse Δ) v n ≡ Refused q k → typed_assignment E H ms i Δ a v n ≡ Refused (Unbound []) k
  unfolding typed_assignment unify body_given
  typed_assignment-inferred_refused ms i Δ a v q n k z = on-refused _ _ z

  pub typed_assignment-unified_spent : (ms : Metas) (i : ℕ) (Δ : List Hypothesis) (a v : Tree) (t : Tree) (n l1 : ℕ) → infer E (store_of ms) (reverse Δ) v n ≡ Done t l1 → unify E H ms (reverse Δ) AtMost t a l1 ≡ Spent → typed_assignment E H ms i Δ a v n ≡ Spent
  unfolding typed_assignment unify body_given
  typed_assignment-unified_spent ms i Δ a v t n l1 e1 z = on-done _ _ e1 (on-spent _ _ z)

  pub typed_assignment-unified_refused : (ms : Metas) (i : ℕ) (Δ : List Hypothesis) (a v : Tree) (t : Tree) (q : Reason) (n l1 k : ℕ) → infer E (store_of ms) (reverse Δ) v n ≡ Done t l1 → unify E H ms (reverse Δ) AtMost t a l1 ≡ Refused q k → typed_assignment E H ms i Δ a v n ≡ Refused (Unbound []) k
  unfolding typed_assignment unify body_given
  typed_assignment-unified_refused ms i Δ a v t q n l1 k e1 z = on-done _ _ e1 (on-refused _ _ z)

  pub typed_assignment-given : (ms : Metas) (i : ℕ) (Δ : List Hypothesis) (a v : Tree) (t : Tree) (ms' : Metas) (n l1 l2 : ℕ) → infer E (store_of ms) (reverse Δ) v n ≡ Done t l1 → unify E H ms (reverse Δ) AtMost t a l1 ≡ Done ms' l2 → typed_assignment E H ms i Δ a v n ≡ body_given ms' i v l2
  unfolding typed_assignment unify body_given
  typed_assignment-given ms i Δ a v t ms' n l1 l2 e1 e2 = on-done _ _ e1 (on-done _ _ e2 (refl))

  pub typed_assignment-unified_within : (ms : Metas) (i : ℕ) (Δ : List Hypothesis) (a v : Tree) (t : Tree) (n l1 : ℕ) → infer E (store_of ms) (reverse Δ) v n ≡ Done t l1 → rest (typed_assignment E H ms i Δ a v n) ≤ rest (unify E H ms (reverse Δ) AtMost t a l1)
  typed_assignment-unified_within ms i Δ a v t n l1 e1 =
      by-outcome (unify E H ms (reverse Δ) AtMost t a l1) (rest (typed_assignment E H ms i Δ a v n)) (λ z. rw (typed_assignment-unified_spent ms i Δ a v t n l1 e1 z) (omega arith)) (λ q k z. rw (typed_assignment-unified_refused ms i Δ a v t q n l1 k e1 z) (omega arith)) (λ ms' l2 e2. rw (typed_assignment-given ms i Δ a v t ms' n l1 l2 e1 e2) (body_given-rest ms' i v l2))

  pub typed_assignment-inferred_within : (ms : Metas) (i : ℕ) (Δ : List Hypothesis) (a v : Tree) (n : ℕ) → rest (typed_assignment E H ms i Δ a v n) ≤ rest (infer E (store_of ms) (reverse Δ) v n)
  typed_assignment-inferred_within ms i Δ a v n =
      by-outcome (infer E (store_of ms) (reverse Δ) v n) (rest (typed_assignment E H ms i Δ a v n)) (λ z. rw (typed_assignment-inferred_spent ms i Δ a v n z) (omega arith)) (λ q k z. rw (typed_assignment-inferred_refused ms i Δ a v q n k z) (omega arith)) (λ t l1 e1. omega (arith, typed_assignment-unified_within ms i Δ a v t n l1 e1, unify-rest E H ms (reverse Δ) AtMost t a l1))

  -- an open metavariable is there
  pub open-present : (o : Option Metavariable) → is_open o ≡ true → o ≡ Some (present o)
  unfolding present
  open-present None e = untrue e
  open-present (Some m) e = refl

  closed-given : (ms : Metas) (i : ℕ) (v : Tree) (n : ℕ) (o : Option Metavariable) → slice_get ms i ≡ o → is_open o ≡ false → body_given ms i v n ≡ Refused (Unbound []) n
  unfolding body_given
  closed-given ms i v n None e z = on-none _ _ _ e
  closed-given ms i v n (Some m) e z = on-some _ _ _ e (on-false _ _ _ (ap (λ b. b && not (reaches ms v i)) z))

  neither : (b c : Bool) → c ≡ true → (b && not c) ≡ false
  neither true c e = ap not e
  neither false c e = refl

  reached-given : (ms : Metas) (i : ℕ) (v : Tree) (n : ℕ) (o : Option Metavariable) → slice_get ms i ≡ o → reaches ms v i ≡ true → body_given ms i v n ≡ Refused (Unbound []) n
  unfolding body_given
  reached-given ms i v n None e z = on-none _ _ _ e
  reached-given ms i v n (Some m) e z = on-some _ _ _ e (on-false _ _ _ (neither (is_none m.body) (reaches ms v i) z))

  pub body_given-closed : (ms : Metas) (i : ℕ) (v : Tree) (n : ℕ) → is_open (slice_get ms i) ≡ false → body_given ms i v n ≡ Refused (Unbound []) n
  unfolding body_given
  body_given-closed ms i v n z = closed-given ms i v n (slice_get ms i) refl z

  pub body_given-reached : (ms : Metas) (i : ℕ) (v : Tree) (n : ℕ) → reaches ms v i ≡ true → body_given ms i v n ≡ Refused (Unbound []) n
  unfolding body_given
  body_given-reached ms i v n z = reached-given ms i v n (slice_get ms i) refl z

  pub body_given-known : (ms : Metas) (i : ℕ) (v : Tree) (m : Metavariable) (n : ℕ) → slice_get ms i ≡ Some m → is_none m.body ≡ true → reaches ms v i ≡ false → body_given ms i v n ≡ Done (slice_set ms i (meta_with_body m v)) n
  unfolding body_given
  body_given-known ms i v m n e h z = on-some _ _ _ e (on-true _ _ _ (ap (λ b. b && not (reaches ms v i)) h ∙ ap not z) refl)

  pub body_given-done : (ms : Metas) (i : ℕ) (v : Tree) (n : ℕ) → is_open (slice_get ms i) ≡ true → reaches ms v i ≡ false → body_given ms i v n ≡ Done (slice_set ms i (meta_with_body (present (slice_get ms i)) v)) n
  body_given-done ms i v n h z =
      let p = open-present (slice_get ms i) h in body_given-known ms i v (present (slice_get ms i)) n p (sym (ap is_open p) ∙ h) z

pub ruleset assignment_rules = (assignment-rest, side_assignment-rest, assignment-same, assignment-left_done, assignment-left_spent, assignment-right, assignment-left_within)

pub ruleset side_assignment_rules = (side_assignment-rest, meta_assignment-rest, side_assignment-meta_closed, side_assignment-meta, side_assignment-var, side_assignment-sort, side_assignment-prod, side_assignment-lam, side_assignment-app, side_assignment-const, side_assignment-ind, side_assignment-con, side_assignment-match)

pub ruleset meta_assignment_rules = (meta_assignment-rest, typed_assignment-rest, meta_assignment-lost, meta_assignment-reached, meta_assignment-missing, meta_assignment-typed, meta_assignment-known)

pub ruleset typed_assignment_rules = (infer-rest, unify-rest, typed_assignment-rest, body_given-rest, typed_assignment-inferred_spent, typed_assignment-inferred_refused, typed_assignment-unified_spent, typed_assignment-unified_refused, typed_assignment-given, typed_assignment-unified_within, typed_assignment-inferred_within)

pub ruleset body_given_rules = (body_given-rest, open-present, body_given-closed, body_given-reached, body_given-known, body_given-done)
