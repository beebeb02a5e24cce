-- Steps of a side, and sorts and products, rule by rule, as a program follows them.
use Rattle.std.specs.Prelude.{ℕ, ◌≡◌, ◌≤◌, refl, List, [], ◌∷◌, true, false, Some, None}
use Rattle.std.proofs.Common.{◌∙◌, ap, arith}
use Rattle.mt_term.specs.States.{Hint}
use Rattle.mt_term.specs.Trees.{Bytes, Tree, Sort, Prod}
use Rattle.mt_term.specs.declared.universes.Sort.{Sort as AnySort}
use Rattle.mt_term.specs.declared.modes.Mode.{Mode}
use Rattle.mt_term.specs.declared.modes.Mode.TheVariants.{Equal}
use Rattle.mt_term.specs.Declarations.{Hypothesis, Environment}
use Rattle.mt_term.specs.Reasons.{Reason, Unbound}
use Rattle.mt_rules.specs.Charges.{Done, Refused, Spent, rest}
use Rattle.mt_term.specs.Stores.{store_of}
use Rattle.mt_rules.specs.WeakHead.{step}
use Rattle.mt_rules.specs.Comparison.{sorts_fit}
use Rattle.mt_rules_laws.proofs.WeakHeadLaws.{step-rest}
use Rattle.mt_unification_rules.specs.Placeholders.{Metas}
use Rattle.mt_unification_rules.specs.Unification.{is_higher, rank, unify}
use Rattle.mt_unification_rules.specs.UnificationParts.{types, stepped, left_step_first, right_step_first, left_step_last, right_step_last}
use Rattle.mt_unification_laws.proofs.PartOutcomes.{on-done, on-spent, on-refused, at-end, if-true, if-false, by-outcome, by-option, unify-rest, types-rest, stepped-rest, left_step_first-rest, right_step_first-rest, left_step_last-rest, right_step_last-rest}

module _ (E : Environment) (H : List Hint) where
  -- the higher side first
  pub stepped-right : (ms : Metas) (Γ : List Hypothesis) (mode : Mode) (t u : Tree) (n : ℕ) → is_higher (rank u) (rank t) ≡ true → stepped E H ms Γ mode t u n ≡ right_step_first E H ms Γ mode t u n
  unfolding stepped right_step_first
  stepped-right ms Γ mode t u n z = at-end _ (if-true _ _ _ _ z)

  pub stepped-left : (ms : Metas) (Γ : List Hypothesis) (mode : Mode) (t u : Tree) (n : ℕ) → is_higher (rank u) (rank t) ≡ false → stepped E H ms Γ mode t u n ≡ left_step_first E H ms Γ mode t u n
  unfolding stepped left_step_first
  stepped-left ms Γ mode t u n z = at-end _ (if-false _ _ _ _ z)

  -- a step of the left side, and then the other side
  pub left_step_first-step_spent : (ms : Metas) (Γ : List Hypothesis) (mode : Mode) (t u : Tree) (n : ℕ) → step E (store_of ms) t n ≡ Spent → left_step_first E H ms Γ mode t u n ≡ Spent
  unfolding left_step_first unify
  left_step_first-step_spent ms Γ mode t u n z = on-spent _ _ z

  pub left_step_first-step_refused : (ms : Metas) (Γ : List Hypothesis) (mode : Mode) (t u : Tree) (q : Reason) (n k : ℕ) → step E (store_of ms) t n ≡ Refused q k → left_step_first E H ms Γ mode t u n ≡ Refused (Unbound []) k
  unfolding left_step_first unify
  left_step_first-step_refused ms Γ mode t u q n k z = on-refused _ _ z

  pub left_step_first-went_done : (ms : Metas) (Γ : List Hypothesis) (mode : Mode) (t u : Tree) (t' : Tree) (final : Metas) (n l1 k : ℕ) → step E (store_of ms) t n ≡ Done (Some t') l1 → unify E H ms Γ mode t' u l1 ≡ Done final k → left_step_first E H ms Γ mode t u n ≡ Done final k
  unfolding left_step_first unify
  left_step_first-went_done ms Γ mode t u t' final n l1 k e1 z = on-done _ _ e1 (at-end _ z)

  pub left_step_first-went_refused : (ms : Metas) (Γ : List Hypothesis) (mode : Mode) (t u : Tree) (t' : Tree) (q : Reason) (n l1 k : ℕ) → step E (store_of ms) t n ≡ Done (Some t') l1 → unify E H ms Γ mode t' u l1 ≡ Refused q k → left_step_first E H ms Γ mode t u n ≡ Refused (Unbound []) k
  unfolding left_step_first unify
  left_step_first-went_refused ms Γ mode t u t' q n l1 k e1 z = on-done _ _ e1 (at-end _ z)

  pub left_step_first-went_spent : (ms : Metas) (Γ : List Hypothesis) (mode : Mode) (t u : Tree) (t' : Tree) (n l1 : ℕ) → step E (store_of ms) t n ≡ Done (Some t') l1 → unify E H ms Γ mode t' u l1 ≡ Spent → left_step_first E H ms Γ mode t u n ≡ Spent
  unfolding left_step_first unify
  left_step_first-went_spent ms Γ mode t u t' n l1 e1 z = on-done _ _ e1 (at-end _ z)

  pub left_step_first-went_within : (ms : Metas) (Γ : List Hypothesis) (mode : Mode) (t u : Tree) (t' : Tree) (n l1 : ℕ) → step E (store_of ms) t n ≡ Done (Some t') l1 → rest (left_step_first E H ms Γ mode t u n) ≤ rest (unify E H ms Γ mode t' u l1)
  left_step_first-went_within ms Γ mode t u t' n l1 e1 =
      by-outcome (unify E H ms Γ mode t' u l1) (rest (left_step_first E H ms Γ mode t u n)) (λ z. rw (left_step_first-went_spent ms Γ mode t u t' n l1 e1 z) (omega arith)) (λ q k z. rw (left_step_first-went_refused ms Γ mode t u t' q n l1 k e1 z) (omega arith)) (λ final k z. rw (left_step_first-went_done ms Γ mode t u t' final n l1 k e1 z) (omega arith))

  pub left_step_first-none : (ms : Metas) (Γ : List Hypothesis) (mode : Mode) (t u : Tree) (n l1 : ℕ) → step E (store_of ms) t n ≡ Done None l1 → left_step_first E H ms Γ mode t u n ≡ right_step_last E H ms Γ mode t u l1
  unfolding left_step_first unify right_step_last
  left_step_first-none ms Γ mode t u n l1 e1 = on-done _ _ e1 refl

  pub left_step_first-step_within : (ms : Metas) (Γ : List Hypothesis) (mode : Mode) (t u : Tree) (n : ℕ) → rest (left_step_first E H ms Γ mode t u n) ≤ rest (step E (store_of ms) t n)
  left_step_first-step_within ms Γ mode t u n =
      by-outcome (step E (store_of ms) t n) (rest (left_step_first E H ms Γ mode t u n)) (λ z. rw (left_step_first-step_spent ms Γ mode t u n z) (omega arith)) (λ q k z. rw (left_step_first-step_refused ms Γ mode t u q n k z) (omega arith)) (λ o l1 e1. by-option o (λ z. rw (left_step_first-none ms Γ mode t u n l1 (e1 ∙ ap (λ p. Done p l1) z)) (right_step_last-rest E H ms Γ mode t u l1)) (λ t' z. omega (arith, left_step_first-went_within ms Γ mode t u t' n l1 (e1 ∙ ap (λ p. Done p l1) z), unify-rest E H ms Γ mode t' u l1)))

  -- a step of the right side, and then the other side
  pub right_step_first-step_spent : (ms : Metas) (Γ : List Hypothesis) (mode : Mode) (t u : Tree) (n : ℕ) → step E (store_of ms) u n ≡ Spent → right_step_first E H ms Γ mode t u n ≡ Spent
  unfolding right_step_first unify
  right_step_first-step_spent ms Γ mode t u n z = on-spent _ _ z

  pub right_step_first-step_refused : (ms : Metas) (Γ : List Hypothesis) (mode : Mode) (t u : Tree) (q : Reason) (n k : ℕ) → step E (store_of ms) u n ≡ Refused q k → right_step_first E H ms Γ mode t u n ≡ Refused (Unbound []) k
  unfolding right_step_first unify
  right_step_first-step_refused ms Γ mode t u q n k z = on-refused _ _ z

  pub right_step_first-went_done : (ms : Metas) (Γ : List Hypothesis) (mode : Mode) (t u : Tree) (u' : Tree) (final : Metas) (n l1 k : ℕ) → step E (store_of ms) u n ≡ Done (Some u') l1 → unify E H ms Γ mode t u' l1 ≡ Done final k → right_step_first E H ms Γ mode t u n ≡ Done final k
  unfolding right_step_first unify
  right_step_first-went_done ms Γ mode t u u' final n l1 k e1 z = on-done _ _ e1 (at-end _ z)

  pub right_step_first-went_refused : (ms : Metas) (Γ : List Hypothesis) (mode : Mode) (t u : Tree) (u' : Tree) (q : Reason) (n l1 k : ℕ) → step E (store_of ms) u n ≡ Done (Some u') l1 → unify E H ms Γ mode t u' l1 ≡ Refused q k → right_step_first E H ms Γ mode t u n ≡ Refused (Unbound []) k
  unfolding right_step_first unify
  right_step_first-went_refused ms Γ mode t u u' q n l1 k e1 z = on-done _ _ e1 (at-end _ z)

  pub right_step_first-went_spent : (ms : Metas) (Γ : List Hypothesis) (mode : Mode) (t u : Tree) (u' : Tree) (n l1 : ℕ) → step E (store_of ms) u n ≡ Done (Some u') l1 → unify E H ms Γ mode t u' l1 ≡ Spent → right_step_first E H ms Γ mode t u n ≡ Spent
  unfolding right_step_first unify
  right_step_first-went_spent ms Γ mode t u u' n l1 e1 z = on-done _ _ e1 (at-end _ z)

  pub right_step_first-went_within : (ms : Metas) (Γ : List Hypothesis) (mode : Mode) (t u : Tree) (u' : Tree) (n l1 : ℕ) → step E (store_of ms) u n ≡ Done (Some u') l1 → rest (right_step_first E H ms Γ mode t u n) ≤ rest (unify E H ms Γ mode t u' l1)
  right_step_first-went_within ms Γ mode t u u' n l1 e1 =
      by-outcome (unify E H ms Γ mode t u' l1) (rest (right_step_first E H ms Γ mode t u n)) (λ z. rw (right_step_first-went_spent ms Γ mode t u u' n l1 e1 z) (omega arith)) (λ q k z. rw (right_step_first-went_refused ms Γ mode t u u' q n l1 k e1 z) (omega arith)) (λ final k z. rw (right_step_first-went_done ms Γ mode t u u' final n l1 k e1 z) (omega arith))

  pub right_step_first-none : (ms : Metas) (Γ : List Hypothesis) (mode : Mode) (t u : Tree) (n l1 : ℕ) → step E (store_of ms) u n ≡ Done None l1 → right_step_first E H ms Γ mode t u n ≡ left_step_last E H ms Γ mode t u l1
  unfolding right_step_first unify left_step_last
  right_step_first-none ms Γ mode t u n l1 e1 = on-done _ _ e1 refl

  pub right_step_first-step_within : (ms : Metas) (Γ : List Hypothesis) (mode : Mode) (t u : Tree) (n : ℕ) → rest (right_step_first E H ms Γ mode t u n) ≤ rest (step E (store_of ms) u n)
  right_step_first-step_within ms Γ mode t u n =
      by-outcome (step E (store_of ms) u n) (rest (right_step_first E H ms Γ mode t u n)) (λ z. rw (right_step_first-step_spent ms Γ mode t u n z) (omega arith)) (λ q k z. rw (right_step_first-step_refused ms Γ mode t u q n k z) (omega arith)) (λ o l1 e1. by-option o (λ z. rw (right_step_first-none ms Γ mode t u n l1 (e1 ∙ ap (λ p. Done p l1) z)) (left_step_last-rest E H ms Γ mode t u l1)) (λ u' z. omega (arith, right_step_first-went_within ms Γ mode t u u' n l1 (e1 ∙ ap (λ p. Done p l1) z), unify-rest E H ms Γ mode t u' l1)))

  -- a step of the left side, and then the types
  pub left_step_last-step_spent : (ms : Metas) (Γ : List Hypothesis) (mode : Mode) (t u : Tree) (n : ℕ) → step E (store_of ms) t n ≡ Spent → left_step_last E H ms Γ mode t u n ≡ Spent
  unfolding left_step_last unify
  left_step_last-step_spent ms Γ mode t u n z = on-spent _ _ z

  pub left_step_last-step_refused : (ms : Metas) (Γ : List Hypothesis) (mode : Mode) (t u : Tree) (q : Reason) (n k : ℕ) → step E (store_of ms) t n ≡ Refused q k → left_step_last E H ms Γ mode t u n ≡ Refused (Unbound []) k
  unfolding left_step_last unify
  left_step_last-step_refused ms Γ mode t u q n k z = on-refused _ _ z

  pub left_step_last-went_done : (ms : Metas) (Γ : List Hypothesis) (mode : Mode) (t u : Tree) (t' : Tree) (final : Metas) (n l1 k : ℕ) → step E (store_of ms) t n ≡ Done (Some t') l1 → unify E H ms Γ mode t' u l1 ≡ Done final k → left_step_last E H ms Γ mode t u n ≡ Done final k
  unfolding left_step_last unify
  left_step_last-went_done ms Γ mode t u t' final n l1 k e1 z = on-done _ _ e1 (at-end _ z)

  pub left_step_last-went_refused : (ms : Metas) (Γ : List Hypothesis) (mode : Mode) (t u : Tree) (t' : Tree) (q : Reason) (n l1 k : ℕ) → step E (store_of ms) t n ≡ Done (Some t') l1 → unify E H ms Γ mode t' u l1 ≡ Refused q k → left_step_last E H ms Γ mode t u n ≡ Refused (Unbound []) k
  unfolding left_step_last unify
  left_step_last-went_refused ms Γ mode t u t' q n l1 k e1 z = on-done _ _ e1 (at-end _ z)

  pub left_step_last-went_spent : (ms : Metas) (Γ : List Hypothesis) (mode : Mode) (t u : Tree) (t' : Tree) (n l1 : ℕ) → step E (store_of ms) t n ≡ Done (Some t') l1 → unify E H ms Γ mode t' u l1 ≡ Spent → left_step_last E H ms Γ mode t u n ≡ Spent
  unfolding left_step_last unify
  left_step_last-went_spent ms Γ mode t u t' n l1 e1 z = on-done _ _ e1 (at-end _ z)

  pub left_step_last-went_within : (ms : Metas) (Γ : List Hypothesis) (mode : Mode) (t u : Tree) (t' : Tree) (n l1 : ℕ) → step E (store_of ms) t n ≡ Done (Some t') l1 → rest (left_step_last E H ms Γ mode t u n) ≤ rest (unify E H ms Γ mode t' u l1)
  left_step_last-went_within ms Γ mode t u t' n l1 e1 =
      by-outcome (unify E H ms Γ mode t' u l1) (rest (left_step_last E H ms Γ mode t u n)) (λ z. rw (left_step_last-went_spent ms Γ mode t u t' n l1 e1 z) (omega arith)) (λ q k z. rw (left_step_last-went_refused ms Γ mode t u t' q n l1 k e1 z) (omega arith)) (λ final k z. rw (left_step_last-went_done ms Γ mode t u t' final n l1 k e1 z) (omega arith))

  pub left_step_last-none : (ms : Metas) (Γ : List Hypothesis) (mode : Mode) (t u : Tree) (n l1 : ℕ) → step E (store_of ms) t n ≡ Done None l1 → left_step_last E H ms Γ mode t u n ≡ types E H ms Γ mode t u l1
  unfolding left_step_last unify types
  left_step_last-none ms Γ mode t u n l1 e1 = on-done _ _ e1 refl

  pub left_step_last-step_within : (ms : Metas) (Γ : List Hypothesis) (mode : Mode) (t u : Tree) (n : ℕ) → rest (left_step_last E H ms Γ mode t u n) ≤ rest (step E (store_of ms) t n)
  left_step_last-step_within ms Γ mode t u n =
      by-outcome (step E (store_of ms) t n) (rest (left_step_last E H ms Γ mode t u n)) (λ z. rw (left_step_last-step_spent ms Γ mode t u n z) (omega arith)) (λ q k z. rw (left_step_last-step_refused ms Γ mode t u q n k z) (omega arith)) (λ o l1 e1. by-option o (λ z. rw (left_step_last-none ms Γ mode t u n l1 (e1 ∙ ap (λ p. Done p l1) z)) (types-rest E H ms Γ mode t u l1)) (λ t' z. omega (arith, left_step_last-went_within ms Γ mode t u t' n l1 (e1 ∙ ap (λ p. Done p l1) z), unify-rest E H ms Γ mode t' u l1)))

  -- a step of the right side, and then the types
  pub right_step_last-step_spent : (ms : Metas) (Γ : List Hypothesis) (mode : Mode) (t u : Tree) (n : ℕ) → step E (store_of ms) u n ≡ Spent → right_step_last E H ms Γ mode t u n ≡ Spent
  unfolding right_step_last unify
  right_step_last-step_spent ms Γ mode t u n z = on-spent _ _ z

  pub right_step_last-step_refused : (ms : Metas) (Γ : List Hypothesis) (mode : Mode) (t u : Tree) (q : Reason) (n k : ℕ) → step E (store_of ms) u n ≡ Refused q k → right_step_last E H ms Γ mode t u n ≡ Refused (Unbound []) k
  unfolding right_step_last unify
  right_step_last-step_refused ms Γ mode t u q n k z = on-refused _ _ z

  pub right_step_last-went_done : (ms : Metas) (Γ : List Hypothesis) (mode : Mode) (t u : Tree) (u' : Tree) (final : Metas) (n l1 k : ℕ) → step E (store_of ms) u n ≡ Done (Some u') l1 → unify E H ms Γ mode t u' l1 ≡ Done final k → right_step_last E H ms Γ mode t u n ≡ Done final k
  unfolding right_step_last unify
  right_step_last-went_done ms Γ mode t u u' final n l1 k e1 z = on-done _ _ e1 (at-end _ z)

  pub right_step_last-went_refused : (ms : Metas) (Γ : List Hypothesis) (mode : Mode) (t u : Tree) (u' : Tree) (q : Reason) (n l1 k : ℕ) → step E (store_of ms) u n ≡ Done (Some u') l1 → unify E H ms Γ mode t u' l1 ≡ Refused q k → right_step_last E H ms Γ mode t u n ≡ Refused (Unbound []) k
  unfolding right_step_last unify
  right_step_last-went_refused ms Γ mode t u u' q n l1 k e1 z = on-done _ _ e1 (at-end _ z)

  pub right_step_last-went_spent : (ms : Metas) (Γ : List Hypothesis) (mode : Mode) (t u : Tree) (u' : Tree) (n l1 : ℕ) → step E (store_of ms) u n ≡ Done (Some u') l1 → unify E H ms Γ mode t u' l1 ≡ Spent → right_step_last E H ms Γ mode t u n ≡ Spent
  unfolding right_step_last unify
  right_step_last-went_spent ms Γ mode t u u' n l1 e1 z = on-done _ _ e1 (at-end _ z)

  pub right_step_last-went_within : (ms : Metas) (Γ : List Hypothesis) (mode : Mode) (t u : Tree) (u' : Tree) (n l1 : ℕ) → step E (store_of ms) u n ≡ Done (Some u') l1 → rest (right_step_last E H ms Γ mode t u n) ≤ rest (unify E H ms Γ mode t u' l1)
  right_step_last-went_within ms Γ mode t u u' n l1 e1 =
      by-outcome (unify E H ms Γ mode t u' l1) (rest (right_step_last E H ms Γ mode t u n)) (λ z. rw (right_step_last-went_spent ms Γ mode t u u' n l1 e1 z) (omega arith)) (λ q k z. rw (right_step_last-went_refused ms Γ mode t u u' q n l1 k e1 z) (omega arith)) (λ final k z. rw (right_step_last-went_done ms Γ mode t u u' final n l1 k e1 z) (omega arith))

  pub right_step_last-none : (ms : Metas) (Γ : List Hypothesis) (mode : Mode) (t u : Tree) (n l1 : ℕ) → step E (store_of ms) u n ≡ Done None l1 → right_step_last E H ms Γ mode t u n ≡ types E H ms Γ mode t u l1
  unfolding right_step_last unify types
  right_step_last-none ms Γ mode t u n l1 e1 = on-done _ _ e1 refl

  pub right_step_last-step_within : (ms : Metas) (Γ : List Hypothesis) (mode : Mode) (t u : Tree) (n : ℕ) → rest (right_step_last E H ms Γ mode t u n) ≤ rest (step E (store_of ms) u n)
  right_step_last-step_within ms Γ mode t u n =
      by-outcome (step E (store_of ms) u n) (rest (right_step_last E H ms Γ mode t u n)) (λ z. rw (right_step_last-step_spent ms Γ mode t u n z) (omega arith)) (λ q k z. rw (right_step_last-step_refused ms Γ mode t u q n k z) (omega arith)) (λ o l1 e1. by-option o (λ z. rw (right_step_last-none ms Γ mode t u n l1 (e1 ∙ ap (λ p. Done p l1) z)) (types-rest E H ms Γ mode t u l1)) (λ u' z. omega (arith, right_step_last-went_within ms Γ mode t u u' n l1 (e1 ∙ ap (λ p. Done p l1) z), unify-rest E H ms Γ mode t u' l1)))

  -- a step of either side, the left one first
  pub left_step_first-other_spent : (ms : Metas) (Γ : List Hypothesis) (mode : Mode) (t u : Tree) (n l1 : ℕ) → step E (store_of ms) t n ≡ Done None l1 → step E (store_of ms) u l1 ≡ Spent → left_step_first E H ms Γ mode t u n ≡ Spent
  left_step_first-other_spent ms Γ mode t u n l1 e1 z = left_step_first-none ms Γ mode t u n l1 e1 ∙ right_step_last-step_spent ms Γ mode t u l1 z

  pub left_step_first-other_refused : (ms : Metas) (Γ : List Hypothesis) (mode : Mode) (t u : Tree) (q : Reason) (n l1 k : ℕ) → step E (store_of ms) t n ≡ Done None l1 → step E (store_of ms) u l1 ≡ Refused q k → left_step_first E H ms Γ mode t u n ≡ Refused (Unbound []) k
  left_step_first-other_refused ms Γ mode t u q n l1 k e1 z =
      left_step_first-none ms Γ mode t u n l1 e1 ∙ right_step_last-step_refused ms Γ mode t u q l1 k z

  pub left_step_first-other_within : (ms : Metas) (Γ : List Hypothesis) (mode : Mode) (t u : Tree) (n l1 : ℕ) → step E (store_of ms) t n ≡ Done None l1 → rest (left_step_first E H ms Γ mode t u n) ≤ rest (step E (store_of ms) u l1)
  left_step_first-other_within ms Γ mode t u n l1 e1 = rw (left_step_first-none ms Γ mode t u n l1 e1) (right_step_last-step_within ms Γ mode t u l1)

  pub left_step_first-other_went_done : (ms : Metas) (Γ : List Hypothesis) (mode : Mode) (t u : Tree) (u' : Tree) (final : Metas) (n l1 l2 k : ℕ) → step E (store_of ms) t n ≡ Done None l1 → step E (store_of ms) u l1 ≡ Done (Some u') l2 → unify E H ms Γ mode t u' l2 ≡ Done final k → left_step_first E H ms Γ mode t u n ≡ Done final k
  left_step_first-other_went_done ms Γ mode t u u' final n l1 l2 k e1 e2 z =
      left_step_first-none ms Γ mode t u n l1 e1 ∙ right_step_last-went_done ms Γ mode t u u' final l1 l2 k e2 z

  pub left_step_first-other_went_refused : (ms : Metas) (Γ : List Hypothesis) (mode : Mode) (t u : Tree) (u' : Tree) (q : Reason) (n l1 l2 k : ℕ) → step E (store_of ms) t n ≡ Done None l1 → step E (store_of ms) u l1 ≡ Done (Some u') l2 → unify E H ms Γ mode t u' l2 ≡ Refused q k → left_step_first E H ms Γ mode t u n ≡ Refused (Unbound []) k
  left_step_first-other_went_refused ms Γ mode t u u' q n l1 l2 k e1 e2 z =
      left_step_first-none ms Γ mode t u n l1 e1 ∙ right_step_last-went_refused ms Γ mode t u u' q l1 l2 k e2 z

  pub left_step_first-other_went_spent : (ms : Metas) (Γ : List Hypothesis) (mode : Mode) (t u : Tree) (u' : Tree) (n l1 l2 : ℕ) → step E (store_of ms) t n ≡ Done None l1 → step E (store_of ms) u l1 ≡ Done (Some u') l2 → unify E H ms Γ mode t u' l2 ≡ Spent → left_step_first E H ms Γ mode t u n ≡ Spent
  left_step_first-other_went_spent ms Γ mode t u u' n l1 l2 e1 e2 z =
      left_step_first-none ms Γ mode t u n l1 e1 ∙ right_step_last-went_spent ms Γ mode t u u' l1 l2 e2 z

  pub left_step_first-other_went_within : (ms : Metas) (Γ : List Hypothesis) (mode : Mode) (t u : Tree) (u' : Tree) (n l1 l2 : ℕ) → step E (store_of ms) t n ≡ Done None l1 → step E (store_of ms) u l1 ≡ Done (Some u') l2 → rest (left_step_first E H ms Γ mode t u n) ≤ rest (unify E H ms Γ mode t u' l2)
  left_step_first-other_went_within ms Γ mode t u u' n l1 l2 e1 e2 =
      rw (left_step_first-none ms Γ mode t u n l1 e1) (right_step_last-went_within ms Γ mode t u u' l1 l2 e2)

  pub left_step_first-no_step : (ms : Metas) (Γ : List Hypothesis) (mode : Mode) (t u : Tree) (n l1 l2 : ℕ) → step E (store_of ms) t n ≡ Done None l1 → step E (store_of ms) u l1 ≡ Done None l2 → left_step_first E H ms Γ mode t u n ≡ types E H ms Γ mode t u l2
  left_step_first-no_step ms Γ mode t u n l1 l2 e1 z = left_step_first-none ms Γ mode t u n l1 e1 ∙ right_step_last-none ms Γ mode t u l1 l2 z

  -- a step of either side, the right one first
  pub right_step_first-other_spent : (ms : Metas) (Γ : List Hypothesis) (mode : Mode) (t u : Tree) (n l1 : ℕ) → step E (store_of ms) u n ≡ Done None l1 → step E (store_of ms) t l1 ≡ Spent → right_step_first E H ms Γ mode t u n ≡ Spent
  right_step_first-other_spent ms Γ mode t u n l1 e1 z = right_step_first-none ms Γ mode t u n l1 e1 ∙ left_step_last-step_spent ms Γ mode t u l1 z

  pub right_step_first-other_refused : (ms : Metas) (Γ : List Hypothesis) (mode : Mode) (t u : Tree) (q : Reason) (n l1 k : ℕ) → step E (store_of ms) u n ≡ Done None l1 → step E (store_of ms) t l1 ≡ Refused q k → right_step_first E H ms Γ mode t u n ≡ Refused (Unbound []) k
  right_step_first-other_refused ms Γ mode t u q n l1 k e1 z =
      right_step_first-none ms Γ mode t u n l1 e1 ∙ left_step_last-step_refused ms Γ mode t u q l1 k z

  pub right_step_first-other_within : (ms : Metas) (Γ : List Hypothesis) (mode : Mode) (t u : Tree) (n l1 : ℕ) → step E (store_of ms) u n ≡ Done None l1 → rest (right_step_first E H ms Γ mode t u n) ≤ rest (step E (store_of ms) t l1)
  right_step_first-other_within ms Γ mode t u n l1 e1 = rw (right_step_first-none ms Γ mode t u n l1 e1) (left_step_last-step_within ms Γ mode t u l1)

  pub right_step_first-other_went_done : (ms : Metas) (Γ : List Hypothesis) (mode : Mode) (t u : Tree) (t' : Tree) (final : Metas) (n l1 l2 k : ℕ) → step E (store_of ms) u n ≡ Done None l1 → step E (store_of ms) t l1 ≡ Done (Some t') l2 → unify E H ms Γ mode t' u l2 ≡ Done final k → right_step_first E H ms Γ mode t u n ≡ Done final k
  right_step_first-other_went_done ms Γ mode t u t' final n l1 l2 k e1 e2 z =
      right_step_first-none ms Γ mode t u n l1 e1 ∙ left_step_last-went_done ms Γ mode t u t' final l1 l2 k e2 z

  pub right_step_first-other_went_refused : (ms : Metas) (Γ : List Hypothesis) (mode : Mode) (t u : Tree) (t' : Tree) (q : Reason) (n l1 l2 k : ℕ) → step E (store_of ms) u n ≡ Done None l1 → step E (store_of ms) t l1 ≡ Done (Some t') l2 → unify E H ms Γ mode t' u l2 ≡ Refused q k → right_step_first E H ms Γ mode t u n ≡ Refused (Unbound []) k
  right_step_first-other_went_refused ms Γ mode t u t' q n l1 l2 k e1 e2 z =
      right_step_first-none ms Γ mode t u n l1 e1 ∙ left_step_last-went_refused ms Γ mode t u t' q l1 l2 k e2 z

  pub right_step_first-other_went_spent : (ms : Metas) (Γ : List Hypothesis) (mode : Mode) (t u : Tree) (t' : Tree) (n l1 l2 : ℕ) → step E (store_of ms) u n ≡ Done None l1 → step E (store_of ms) t l1 ≡ Done (Some t') l2 → unify E H ms Γ mode t' u l2 ≡ Spent → right_step_first E H ms Γ mode t u n ≡ Spent
  right_step_first-other_went_spent ms Γ mode t u t' n l1 l2 e1 e2 z =
      right_step_first-none ms Γ mode t u n l1 e1 ∙ left_step_last-went_spent ms Γ mode t u t' l1 l2 e2 z

  pub right_step_first-other_went_within : (ms : Metas) (Γ : List Hypothesis) (mode : Mode) (t u : Tree) (t' : Tree) (n l1 l2 : ℕ) → step E (store_of ms) u n ≡ Done None l1 → step E (store_of ms) t l1 ≡ Done (Some t') l2 → rest (right_step_first E H ms Γ mode t u n) ≤ rest (unify E H ms Γ mode t' u l2)
  right_step_first-other_went_within ms Γ mode t u t' n l1 l2 e1 e2 =
      rw (right_step_first-none ms Γ mode t u n l1 e1) (left_step_last-went_within ms Γ mode t u t' l1 l2 e2)

  pub right_step_first-no_step : (ms : Metas) (Γ : List Hypothesis) (mode : Mode) (t u : Tree) (n l1 l2 : ℕ) → step E (store_of ms) u n ≡ Done None l1 → step E (store_of ms) t l1 ≡ Done None l2 → right_step_first E H ms Γ mode t u n ≡ types E H ms Γ mode t u l2
  right_step_first-no_step ms Γ mode t u n l1 l2 e1 z = right_step_first-none ms Γ mode t u n l1 e1 ∙ left_step_last-none ms Γ mode t u l1 l2 z

  -- two sorts
  pub types-sort : (ms : Metas) (Γ : List Hypothesis) (mode : Mode) (s r : AnySort) (n : ℕ) → sorts_fit E.below mode s r ≡ true → types E H ms Γ mode (Sort s) (Sort r) n ≡ Done ms n
  unfolding types
  types-sort ms Γ mode s r n z = at-end _ (if-true _ _ _ _ z)

  pub types-sort_unfit : (ms : Metas) (Γ : List Hypothesis) (mode : Mode) (s r : AnySort) (n : ℕ) → sorts_fit E.below mode s r ≡ false → types E H ms Γ mode (Sort s) (Sort r) n ≡ Refused (Unbound []) n
  unfolding types
  types-sort_unfit ms Γ mode s r n z = at-end _ (if-false _ _ _ _ z)

  -- two products
  pub types-prod_dom_spent : (ms : Metas) (Γ : List Hypothesis) (mode : Mode) (x y : Bytes) (a b c d : Tree) (n : ℕ) → unify E H ms Γ Equal a c n ≡ Spent → types E H ms Γ mode (Prod x a b) (Prod y c d) n ≡ Spent
  unfolding types unify
  types-prod_dom_spent ms Γ mode x y a b c d n z = on-spent _ _ z

  pub types-prod_dom_refused : (ms : Metas) (Γ : List Hypothesis) (mode : Mode) (x y : Bytes) (a b c d : Tree) (q : Reason) (n k : ℕ) → unify E H ms Γ Equal a c n ≡ Refused q k → types E H ms Γ mode (Prod x a b) (Prod y c d) n ≡ Refused (Unbound []) k
  unfolding types unify
  types-prod_dom_refused ms Γ mode x y a b c d q n k z = on-refused _ _ z

  pub types-prod_cod_done : (ms : Metas) (Γ : List Hypothesis) (mode : Mode) (x y : Bytes) (a b c d : Tree) (ms' : Metas) (final : Metas) (n l1 k : ℕ) → unify E H ms Γ Equal a c n ≡ Done ms' l1 → unify E H ms' (record { name = x; ty = a } ∷ Γ) mode b d l1 ≡ Done final k → types E H ms Γ mode (Prod x a b) (Prod y c d) n ≡ Done final k
  unfolding types unify
  types-prod_cod_done ms Γ mode x y a b c d ms' final n l1 k e1 z = on-done _ _ e1 (at-end _ z)

  pub types-prod_cod_refused : (ms : Metas) (Γ : List Hypothesis) (mode : Mode) (x y : Bytes) (a b c d : Tree) (ms' : Metas) (q : Reason) (n l1 k : ℕ) → unify E H ms Γ Equal a c n ≡ Done ms' l1 → unify E H ms' (record { name = x; ty = a } ∷ Γ) mode b d l1 ≡ Refused q k → types E H ms Γ mode (Prod x a b) (Prod y c d) n ≡ Refused (Unbound []) k
  unfolding types unify
  types-prod_cod_refused ms Γ mode x y a b c d ms' q n l1 k e1 z = on-done _ _ e1 (at-end _ z)

  pub types-prod_cod_spent : (ms : Metas) (Γ : List Hypothesis) (mode : Mode) (x y : Bytes) (a b c d : Tree) (ms' : Metas) (n l1 : ℕ) → unify E H ms Γ Equal a c n ≡ Done ms' l1 → unify E H ms' (record { name = x; ty = a } ∷ Γ) mode b d l1 ≡ Spent → types E H ms Γ mode (Prod x a b) (Prod y c d) n ≡ Spent
  unfolding types unify
  types-prod_cod_spent ms Γ mode x y a b c d ms' n l1 e1 z = on-done _ _ e1 (at-end _ z)

  pub types-prod_cod_within : (ms : Metas) (Γ : List Hypothesis) (mode : Mode) (x y : Bytes) (a b c d : Tree) (ms' : Metas) (n l1 : ℕ) → unify E H ms Γ Equal a c n ≡ Done ms' l1 → rest (types E H ms Γ mode (Prod x a b) (Prod y c d) n) ≤ rest (unify E H ms' (record { name = x; ty = a } ∷ Γ) mode b d l1)
  types-prod_cod_within ms Γ mode x y a b c d ms' n l1 e1 =
      by-outcome (unify E H ms' (record { name = x; ty = a } ∷ Γ) mode b d l1) (rest (types E H ms Γ mode (Prod x a b) (Prod y c d) n)) (λ z. rw (types-prod_cod_spent ms Γ mode x y a b c d ms' n l1 e1 z) (omega arith)) (λ q k z. rw (types-prod_cod_refused ms Γ mode x y a b c d ms' q n l1 k e1 z) (omega arith)) (λ final k z. rw (types-prod_cod_done ms Γ mode x y a b c d ms' final n l1 k e1 z) (omega arith))

  pub types-prod_dom_within : (ms : Metas) (Γ : List Hypothesis) (mode : Mode) (x y : Bytes) (a b c d : Tree) (n : ℕ) → rest (types E H ms Γ mode (Prod x a b) (Prod y c d) n) ≤ rest (unify E H ms Γ Equal a c n)
  types-prod_dom_within ms Γ mode x y a b c d n =
      by-outcome (unify E H ms Γ Equal a c n) (rest (types E H ms Γ mode (Prod x a b) (Prod y c d) n)) (λ z. rw (types-prod_dom_spent ms Γ mode x y a b c d n z) (omega arith)) (λ q k z. rw (types-prod_dom_refused ms Γ mode x y a b c d q n k z) (omega arith)) (λ ms' l1 e1. omega (arith, types-prod_cod_within ms Γ mode x y a b c d ms' n l1 e1, unify-rest E H ms' (record { name = x; ty = a } ∷ Γ) mode b d l1))

pub ruleset stepped_rules = (stepped-rest, left_step_first-rest, right_step_first-rest, stepped-right, stepped-left)

pub ruleset left_step_first_rules = (step-rest, unify-rest, left_step_first-rest, right_step_last-rest, left_step_first-step_spent, left_step_first-step_refused, left_step_first-went_done, left_step_first-went_refused, left_step_first-went_spent, left_step_first-went_within, left_step_first-none, left_step_first-step_within)

pub ruleset right_step_first_rules = (step-rest, unify-rest, right_step_first-rest, left_step_last-rest, right_step_first-step_spent, right_step_first-step_refused, right_step_first-went_done, right_step_first-went_refused, right_step_first-went_spent, right_step_first-went_within, right_step_first-none, right_step_first-step_within)

pub ruleset left_step_last_rules = (step-rest, unify-rest, left_step_last-rest, types-rest, left_step_last-step_spent, left_step_last-step_refused, left_step_last-went_done, left_step_last-went_refused, left_step_last-went_spent, left_step_last-went_within, left_step_last-none, left_step_last-step_within)

pub ruleset right_step_last_rules = (step-rest, unify-rest, right_step_last-rest, types-rest, right_step_last-step_spent, right_step_last-step_refused, right_step_last-went_done, right_step_last-went_refused, right_step_last-went_spent, right_step_last-went_within, right_step_last-none, right_step_last-step_within)

pub ruleset left_then_other_rules = (step-rest, unify-rest, left_step_first-rest, types-rest, left_step_first-step_spent, left_step_first-step_refused, left_step_first-went_done, left_step_first-went_refused, left_step_first-went_spent, left_step_first-went_within, left_step_first-step_within, left_step_first-other_spent, left_step_first-other_refused, left_step_first-other_within, left_step_first-other_went_done, left_step_first-other_went_refused, left_step_first-other_went_spent, left_step_first-other_went_within, left_step_first-no_step)

pub ruleset right_then_other_rules = (step-rest, unify-rest, right_step_first-rest, types-rest, right_step_first-step_spent, right_step_first-step_refused, right_step_first-went_done, right_step_first-went_refused, right_step_first-went_spent, right_step_first-went_within, right_step_first-step_within, right_step_first-other_spent, right_step_first-other_refused, right_step_first-other_within, right_step_first-other_went_done, right_step_first-other_went_refused, right_step_first-other_went_spent, right_step_first-other_went_within, right_step_first-no_step)

pub ruleset types_rules = (unify-rest, types-rest, types-sort, types-sort_unfit, types-prod_dom_spent, types-prod_dom_refused, types-prod_cod_done, types-prod_cod_refused, types-prod_cod_spent, types-prod_cod_within, types-prod_dom_within)
