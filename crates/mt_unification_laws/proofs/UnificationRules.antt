-- Unification, rule by rule, as a program follows it: a question, and the rules in order.
use Rattle.std.specs.Prelude.{ℕ, ◌≡◌, ◌-◌, ◌<◌, ◌≤◌, refl, List, [], true, false, Option, Some, None}
use Rattle.std.proofs.Common.{◌∙◌, ap, arith}
use Rattle.mt_term.specs.States.{Hint}
use Rattle.mt_term.specs.Trees.{Tree}
use Rattle.mt_term.specs.declared.modes.Mode.{Mode}
use Rattle.mt_term.specs.Declarations.{Hypothesis, Environment}
use Rattle.mt_term.specs.Reasons.{Reason, Unbound, Mismatch}
use Rattle.mt_rules.specs.Charges.{Done, Refused, Spent, Charged, give, charge, refuse, tried, or_else, rest}
use Rattle.mt_term.specs.Alike.{is_alike}
use Rattle.mt_unification_rules.specs.Hints.{head_entry, candidates}
use Rattle.mt_unification_rules.specs.Placeholders.{Metas}
use Rattle.mt_unification_rules.specs.Unification.{head_replaced, by_assignment, by_parts, by_hints, by_step, by_types, by_bodies, by_rules, unified, unify}
use Rattle.mt_unification_rules.specs.UnificationParts.{plain, attempt, attempt_unassigned, assignment, parts, hinted, stepped}
use Rattle.mt_unification_laws.proofs.UnificationAllowance.{unified-is}
use Rattle.mt_unification_laws.proofs.PartOutcomes.{at-end, if-true, if-false, try-done, try-spent, try-refused, explained, paid, by-outcome, unify-rest, attempt-rest, attempt_unassigned-rest, assignment-rest, parts-rest, hinted-rest, stepped-rest}

module _ (E : Environment) (H : List Hint) where
  unify-paid : (ms : Metas) (Γ : List Hypothesis) (mode : Mode) (t u : Tree) (n : ℕ) → 0 < n → unify E H ms Γ mode t u n ≡ or_else (attempt E H ms Γ mode t u (n - 1)) (refuse (Mismatch Γ t u []))
  unfolding unify attempt
  unify-paid ms Γ mode t u n h = unified-is E H (ms, Γ, mode, t, u) n ∙ (paid _ n h ∙ explained (by_rules E (unified E H) H ms Γ mode t u (n - 1)) (Mismatch Γ t u []))

  unify-nothing : (ms : Metas) (Γ : List Hypothesis) (mode : Mode) (t u : Tree) → unify E H ms Γ mode t u 0 ≡ Spent
  unfolding unify
  unify-nothing ms Γ mode t u = unified-is E H (ms, Γ, mode, t, u) 0

  -- one charge, and the rules
  pub unify-out : (ms : Metas) (Γ : List Hypothesis) (mode : Mode) (t u : Tree) (n : ℕ) → n ≡ 0 → unify E H ms Γ mode t u n ≡ Spent
  unify-out ms Γ mode t u n e = ap (unify E H ms Γ mode t u) e ∙ unify-nothing ms Γ mode t u

  pub unify-done : (ms : Metas) (Γ : List Hypothesis) (mode : Mode) (t u : Tree) (final : Metas) (n k : ℕ) → 0 < n → attempt E H ms Γ mode t u (n - 1) ≡ Done final k → unify E H ms Γ mode t u n ≡ Done final k
  unify-done ms Γ mode t u final n k h z = unify-paid ms Γ mode t u n h ∙ ap (λ o. or_else o (refuse (Mismatch Γ t u []))) z

  pub unify-refused : (ms : Metas) (Γ : List Hypothesis) (mode : Mode) (t u : Tree) (q : Reason) (n k : ℕ) → 0 < n → attempt E H ms Γ mode t u (n - 1) ≡ Refused q k → unify E H ms Γ mode t u n ≡ Refused (Mismatch Γ t u []) k
  unify-refused ms Γ mode t u q n k h z = unify-paid ms Γ mode t u n h ∙ ap (λ o. or_else o (refuse (Mismatch Γ t u []))) z

  pub unify-spent : (ms : Metas) (Γ : List Hypothesis) (mode : Mode) (t u : Tree) (n : ℕ) → 0 < n → attempt E H ms Γ mode t u (n - 1) ≡ Spent → unify E H ms Γ mode t u n ≡ Spent
  unify-spent ms Γ mode t u n h z = unify-paid ms Γ mode t u n h ∙ ap (λ o. or_else o (refuse (Mismatch Γ t u []))) z

  pub unify-within : (ms : Metas) (Γ : List Hypothesis) (mode : Mode) (t u : Tree) (n : ℕ) → 0 < n → rest (unify E H ms Γ mode t u n) ≤ rest (attempt E H ms Γ mode t u (n - 1))
  unify-within ms Γ mode t u n h =
      by-outcome (attempt E H ms Γ mode t u (n - 1)) (rest (unify E H ms Γ mode t u n)) (λ z. rw (unify-spent ms Γ mode t u n h z) (omega arith)) (λ q k z. rw (unify-refused ms Γ mode t u q n k h z) (omega arith)) (λ final k z. rw (unify-done ms Γ mode t u final n k h z) (omega arith))

  -- the rules for terms that differ, by the bodies for their heads
  attempt-bodies : (ms : Metas) (Γ : List Hypothesis) (mode : Mode) (t u : Tree) (o p : Option Tree) (n : ℕ) → is_alike t u ≡ false → head_replaced ms t ≡ o → head_replaced ms u ≡ p
      → attempt E H ms Γ mode t u n ≡ plain (by_bodies E (unified E H) (λ t'. (ms, Γ, mode, t', u)) (λ u'. (ms, Γ, mode, t, u')) o p (tried (by_assignment E (unified E H) ms t u) (tried (by_parts E (unified E H) ms Γ t u) (tried (by_hints (unified E H) ms Γ t u (candidates H (head_entry t) (head_entry u))) (by_step E (unified E H) ms Γ mode t u (by_types E (unified E H) ms Γ mode t u))))) n)
  unfolding attempt
  attempt-bodies ms Γ mode t u o p n e f g =
      let others : Charged Metas = tried (by_assignment E (unified E H) ms t u) (tried (by_parts E (unified E H) ms Γ t u) (tried (by_hints (unified E H) ms Γ t u (candidates H (head_entry t) (head_entry u))) (by_step E (unified E H) ms Γ mode t u (by_types E (unified E H) ms Γ mode t u)))) in
      let begun : Option Tree → Option Tree → Charged Metas = λ o p. by_bodies E (unified E H) (λ t'. (ms, Γ, mode, t', u)) (λ u'. (ms, Γ, mode, t, u')) o p others in
      at-end _ (if-false (is_alike t u) (give ms) (begun (head_replaced ms t) (head_replaced ms u)) n e) ∙ (ap (λ o. plain (begun o (head_replaced ms u) n)) f ∙ ap (λ p. plain (begun o p n)) g)

  -- terms that are alike, and heads that are assigned metavariables
  pub attempt-alike : (ms : Metas) (Γ : List Hypothesis) (mode : Mode) (t u : Tree) (n : ℕ) → is_alike t u ≡ true → attempt E H ms Γ mode t u n ≡ Done ms n
  unfolding attempt unify attempt_unassigned
  attempt-alike ms Γ mode t u n e = at-end _ (if-true _ _ _ _ e)

  pub attempt-left_out : (ms : Metas) (Γ : List Hypothesis) (mode : Mode) (t u : Tree) (t' : Tree) (n : ℕ) → is_alike t u ≡ false → head_replaced ms t ≡ Some t' → n ≡ 0 → attempt E H ms Γ mode t u n ≡ Spent
  unfolding attempt unify attempt_unassigned
  attempt-left_out ms Γ mode t u t' n e f h =
      attempt-bodies ms Γ mode t u (Some t') (head_replaced ms u) n e f refl ∙ ap (λ k. plain (charge (unify E H ms Γ mode t' u) k)) h

  pub attempt-left_done : (ms : Metas) (Γ : List Hypothesis) (mode : Mode) (t u : Tree) (t' : Tree) (final : Metas) (n k : ℕ) → is_alike t u ≡ false → head_replaced ms t ≡ Some t' → 0 < n → unify E H ms Γ mode t' u (n - 1) ≡ Done final k → attempt E H ms Γ mode t u n ≡ Done final k
  unfolding attempt unify attempt_unassigned
  attempt-left_done ms Γ mode t u t' final n k e f h z =
      attempt-bodies ms Γ mode t u (Some t') (head_replaced ms u) n e f refl ∙ ap plain (paid _ n h ∙ z)

  pub attempt-left_refused : (ms : Metas) (Γ : List Hypothesis) (mode : Mode) (t u : Tree) (t' : Tree) (q : Reason) (n k : ℕ) → is_alike t u ≡ false → head_replaced ms t ≡ Some t' → 0 < n → unify E H ms Γ mode t' u (n - 1) ≡ Refused q k → attempt E H ms Γ mode t u n ≡ Refused (Unbound []) k
  unfolding attempt unify attempt_unassigned
  attempt-left_refused ms Γ mode t u t' q n k e f h z =
      attempt-bodies ms Γ mode t u (Some t') (head_replaced ms u) n e f refl ∙ ap plain (paid _ n h ∙ z)

  pub attempt-left_spent : (ms : Metas) (Γ : List Hypothesis) (mode : Mode) (t u : Tree) (t' : Tree) (n : ℕ) → is_alike t u ≡ false → head_replaced ms t ≡ Some t' → 0 < n → unify E H ms Γ mode t' u (n - 1) ≡ Spent → attempt E H ms Γ mode t u n ≡ Spent
  unfolding attempt unify attempt_unassigned
  attempt-left_spent ms Γ mode t u t' n e f h z = attempt-bodies ms Γ mode t u (Some t') (head_replaced ms u) n e f refl ∙ ap plain (paid _ n h ∙ z)

  pub attempt-left_within : (ms : Metas) (Γ : List Hypothesis) (mode : Mode) (t u : Tree) (t' : Tree) (n : ℕ) → is_alike t u ≡ false → head_replaced ms t ≡ Some t' → 0 < n → rest (attempt E H ms Γ mode t u n) ≤ rest (unify E H ms Γ mode t' u (n - 1))
  attempt-left_within ms Γ mode t u t' n e f h =
      by-outcome (unify E H ms Γ mode t' u (n - 1)) (rest (attempt E H ms Γ mode t u n)) (λ z. rw (attempt-left_spent ms Γ mode t u t' n e f h z) (omega arith)) (λ q k z. rw (attempt-left_refused ms Γ mode t u t' q n k e f h z) (omega arith)) (λ final k z. rw (attempt-left_done ms Γ mode t u t' final n k e f h z) (omega arith))

  pub attempt-right_out : (ms : Metas) (Γ : List Hypothesis) (mode : Mode) (t u : Tree) (u' : Tree) (n : ℕ) → is_alike t u ≡ false → head_replaced ms t ≡ None → head_replaced ms u ≡ Some u' → n ≡ 0 → attempt E H ms Γ mode t u n ≡ Spent
  unfolding attempt unify attempt_unassigned
  attempt-right_out ms Γ mode t u u' n e f g h =
      attempt-bodies ms Γ mode t u None (Some u') n e f g ∙ ap (λ k. plain (charge (unify E H ms Γ mode t u') k)) h

  pub attempt-right_done : (ms : Metas) (Γ : List Hypothesis) (mode : Mode) (t u : Tree) (u' : Tree) (final : Metas) (n k : ℕ) → is_alike t u ≡ false → head_replaced ms t ≡ None → head_replaced ms u ≡ Some u' → 0 < n → unify E H ms Γ mode t u' (n - 1) ≡ Done final k → attempt E H ms Γ mode t u n ≡ Done final k
  unfolding attempt unify attempt_unassigned
  attempt-right_done ms Γ mode t u u' final n k e f g h z = attempt-bodies ms Γ mode t u None (Some u') n e f g ∙ ap plain (paid _ n h ∙ z)

  pub attempt-right_refused : (ms : Metas) (Γ : List Hypothesis) (mode : Mode) (t u : Tree) (u' : Tree) (q : Reason) (n k : ℕ) → is_alike t u ≡ false → head_replaced ms t ≡ None → head_replaced ms u ≡ Some u' → 0 < n → unify E H ms Γ mode t u' (n - 1) ≡ Refused q k → attempt E H ms Γ mode t u n ≡ Refused (Unbound []) k
  unfolding attempt unify attempt_unassigned
  attempt-right_refused ms Γ mode t u u' q n k e f g h z = attempt-bodies ms Γ mode t u None (Some u') n e f g ∙ ap plain (paid _ n h ∙ z)

  pub attempt-right_spent : (ms : Metas) (Γ : List Hypothesis) (mode : Mode) (t u : Tree) (u' : Tree) (n : ℕ) → is_alike t u ≡ false → head_replaced ms t ≡ None → head_replaced ms u ≡ Some u' → 0 < n → unify E H ms Γ mode t u' (n - 1) ≡ Spent → attempt E H ms Γ mode t u n ≡ Spent
  unfolding attempt unify attempt_unassigned
  attempt-right_spent ms Γ mode t u u' n e f g h z = attempt-bodies ms Γ mode t u None (Some u') n e f g ∙ ap plain (paid _ n h ∙ z)

  pub attempt-right_within : (ms : Metas) (Γ : List Hypothesis) (mode : Mode) (t u : Tree) (u' : Tree) (n : ℕ) → is_alike t u ≡ false → head_replaced ms t ≡ None → head_replaced ms u ≡ Some u' → 0 < n → rest (attempt E H ms Γ mode t u n) ≤ rest (unify E H ms Γ mode t u' (n - 1))
  attempt-right_within ms Γ mode t u u' n e f g h =
      by-outcome (unify E H ms Γ mode t u' (n - 1)) (rest (attempt E H ms Γ mode t u n)) (λ z. rw (attempt-right_spent ms Γ mode t u u' n e f g h z) (omega arith)) (λ q k z. rw (attempt-right_refused ms Γ mode t u u' q n k e f g h z) (omega arith)) (λ final k z. rw (attempt-right_done ms Γ mode t u u' final n k e f g h z) (omega arith))

  pub attempt-unassigned : (ms : Metas) (Γ : List Hypothesis) (mode : Mode) (t u : Tree) (n : ℕ) → is_alike t u ≡ false → head_replaced ms t ≡ None → head_replaced ms u ≡ None → attempt E H ms Γ mode t u n ≡ attempt_unassigned E H ms Γ mode t u n
  unfolding attempt unify attempt_unassigned
  attempt-unassigned ms Γ mode t u n e f g = attempt-bodies ms Γ mode t u None None n e f g

  -- the other rules, in order
  pub attempt_unassigned-assigned_done : (ms : Metas) (Γ : List Hypothesis) (mode : Mode) (t u : Tree) (final : Metas) (n k : ℕ) → assignment E H ms t u n ≡ Done final k → attempt_unassigned E H ms Γ mode t u n ≡ Done final k
  unfolding attempt_unassigned assignment parts hinted stepped
  attempt_unassigned-assigned_done ms Γ mode t u final n k z = try-done _ _ z

  pub attempt_unassigned-assigned_spent : (ms : Metas) (Γ : List Hypothesis) (mode : Mode) (t u : Tree) (n : ℕ) → assignment E H ms t u n ≡ Spent → attempt_unassigned E H ms Γ mode t u n ≡ Spent
  unfolding attempt_unassigned assignment parts hinted stepped
  attempt_unassigned-assigned_spent ms Γ mode t u n z = try-spent _ _ z

  pub attempt_unassigned-parts_done : (ms : Metas) (Γ : List Hypothesis) (mode : Mode) (t u : Tree) (q1 : Reason) (final : Metas) (n l1 k : ℕ) → assignment E H ms t u n ≡ Refused q1 l1 → parts E H ms Γ t u l1 ≡ Done final k → attempt_unassigned E H ms Γ mode t u n ≡ Done final k
  unfolding attempt_unassigned assignment parts hinted stepped
  attempt_unassigned-parts_done ms Γ mode t u q1 final n l1 k e1 z = try-refused _ _ e1 (try-done _ _ z)

  pub attempt_unassigned-parts_spent : (ms : Metas) (Γ : List Hypothesis) (mode : Mode) (t u : Tree) (q1 : Reason) (n l1 : ℕ) → assignment E H ms t u n ≡ Refused q1 l1 → parts E H ms Γ t u l1 ≡ Spent → attempt_unassigned E H ms Γ mode t u n ≡ Spent
  unfolding attempt_unassigned assignment parts hinted stepped
  attempt_unassigned-parts_spent ms Γ mode t u q1 n l1 e1 z = try-refused _ _ e1 (try-spent _ _ z)

  pub attempt_unassigned-hinted_done : (ms : Metas) (Γ : List Hypothesis) (mode : Mode) (t u : Tree) (q1 q2 : Reason) (final : Metas) (n l1 l2 k : ℕ) → assignment E H ms t u n ≡ Refused q1 l1 → parts E H ms Γ t u l1 ≡ Refused q2 l2 → hinted E H ms Γ t u (candidates H (head_entry t) (head_entry u)) l2 ≡ Done final k → attempt_unassigned E H ms Γ mode t u n ≡ Done final k
  unfolding attempt_unassigned assignment parts hinted stepped
  attempt_unassigned-hinted_done ms Γ mode t u q1 q2 final n l1 l2 k e1 e2 z = try-refused _ _ e1 (try-refused _ _ e2 (try-done _ _ z))

  pub attempt_unassigned-hinted_spent : (ms : Metas) (Γ : List Hypothesis) (mode : Mode) (t u : Tree) (q1 q2 : Reason) (n l1 l2 : ℕ) → assignment E H ms t u n ≡ Refused q1 l1 → parts E H ms Γ t u l1 ≡ Refused q2 l2 → hinted E H ms Γ t u (candidates H (head_entry t) (head_entry u)) l2 ≡ Spent → attempt_unassigned E H ms Γ mode t u n ≡ Spent
  unfolding attempt_unassigned assignment parts hinted stepped
  attempt_unassigned-hinted_spent ms Γ mode t u q1 q2 n l1 l2 e1 e2 z = try-refused _ _ e1 (try-refused _ _ e2 (try-spent _ _ z))

  pub attempt_unassigned-step : (ms : Metas) (Γ : List Hypothesis) (mode : Mode) (t u : Tree) (q1 q2 q3 : Reason) (n l1 l2 l3 : ℕ) → assignment E H ms t u n ≡ Refused q1 l1 → parts E H ms Γ t u l1 ≡ Refused q2 l2 → hinted E H ms Γ t u (candidates H (head_entry t) (head_entry u)) l2 ≡ Refused q3 l3 → attempt_unassigned E H ms Γ mode t u n ≡ stepped E H ms Γ mode t u l3
  unfolding attempt_unassigned assignment parts hinted stepped
  attempt_unassigned-step ms Γ mode t u q1 q2 q3 n l1 l2 l3 e1 e2 e3 = try-refused _ _ e1 (try-refused _ _ e2 (try-refused _ _ e3 (refl)))

  pub attempt_unassigned-hinted_within : (ms : Metas) (Γ : List Hypothesis) (mode : Mode) (t u : Tree) (q1 q2 : Reason) (n l1 l2 : ℕ) → assignment E H ms t u n ≡ Refused q1 l1 → parts E H ms Γ t u l1 ≡ Refused q2 l2 → rest (attempt_unassigned E H ms Γ mode t u n) ≤ rest (hinted E H ms Γ t u (candidates H (head_entry t) (head_entry u)) l2)
  attempt_unassigned-hinted_within ms Γ mode t u q1 q2 n l1 l2 e1 e2 =
      by-outcome (hinted E H ms Γ t u (candidates H (head_entry t) (head_entry u)) l2) (rest (attempt_unassigned E H ms Γ mode t u n)) (λ z. rw (attempt_unassigned-hinted_spent ms Γ mode t u q1 q2 n l1 l2 e1 e2 z) (omega arith)) (λ q3 l3 e3. rw (attempt_unassigned-step ms Γ mode t u q1 q2 q3 n l1 l2 l3 e1 e2 e3) (stepped-rest E H ms Γ mode t u l3)) (λ final k z. rw (attempt_unassigned-hinted_done ms Γ mode t u q1 q2 final n l1 l2 k e1 e2 z) (omega arith))

  pub attempt_unassigned-parts_within : (ms : Metas) (Γ : List Hypothesis) (mode : Mode) (t u : Tree) (q1 : Reason) (n l1 : ℕ) → assignment E H ms t u n ≡ Refused q1 l1 → rest (attempt_unassigned E H ms Γ mode t u n) ≤ rest (parts E H ms Γ t u l1)
  attempt_unassigned-parts_within ms Γ mode t u q1 n l1 e1 =
      by-outcome (parts E H ms Γ t u l1) (rest (attempt_unassigned E H ms Γ mode t u n)) (λ z. rw (attempt_unassigned-parts_spent ms Γ mode t u q1 n l1 e1 z) (omega arith)) (λ q2 l2 e2. omega (arith, attempt_unassigned-hinted_within ms Γ mode t u q1 q2 n l1 l2 e1 e2, hinted-rest E H ms Γ t u (candidates H (head_entry t) (head_entry u)) l2)) (λ final k z. rw (attempt_unassigned-parts_done ms Γ mode t u q1 final n l1 k e1 z) (omega arith))

  pub attempt_unassigned-assigned_within : (ms : Metas) (Γ : List Hypothesis) (mode : Mode) (t u : Tree) (n : ℕ) → rest (attempt_unassigned E H ms Γ mode t u n) ≤ rest (assignment E H ms t u n)
  attempt_unassigned-assigned_within ms Γ mode t u n =
      by-outcome (assignment E H ms t u n) (rest (attempt_unassigned E H ms Γ mode t u n)) (λ z. rw (attempt_unassigned-assigned_spent ms Γ mode t u n z) (omega arith)) (λ q1 l1 e1. omega (arith, attempt_unassigned-parts_within ms Γ mode t u q1 n l1 e1, parts-rest E H ms Γ t u l1)) (λ final k z. rw (attempt_unassigned-assigned_done ms Γ mode t u final n k z) (omega arith))

pub ruleset unify_rules = (unify-rest, attempt-rest, unify-out, unify-done, unify-refused, unify-spent, unify-within)

pub ruleset attempt_rules = (unify-rest, attempt-rest, attempt_unassigned-rest, attempt-alike, attempt-left_out, attempt-left_done, attempt-left_refused, attempt-left_spent, attempt-left_within, attempt-right_out, attempt-right_done, attempt-right_refused, attempt-right_spent, attempt-right_within, attempt-unassigned)

pub ruleset attempt_unassigned_rules = (attempt_unassigned-rest, assignment-rest, parts-rest, hinted-rest, stepped-rest, attempt_unassigned-assigned_done, attempt_unassigned-assigned_spent, attempt_unassigned-parts_done, attempt_unassigned-parts_spent, attempt_unassigned-hinted_done, attempt_unassigned-hinted_spent, attempt_unassigned-step, attempt_unassigned-hinted_within, attempt_unassigned-parts_within, attempt_unassigned-assigned_within)
