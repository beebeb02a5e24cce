-- Hints, rule by rule, as a program follows them: each candidate tried, one of them, its two sides, and its equations.
use Rattle.std.specs.Prelude.{ℕ, ◌≡◌, ◌-◌, ◌<◌, ◌≤◌, refl, List, [], ◌∷◌, true, false, Some}
use Rattle.std.proofs.Common.{◌∙◌, ap, arith}
use Rattle.mt_term.specs.Trees.{Tree, Trees, End}
use Rattle.mt_term.specs.Substitution.{under}
use Rattle.mt_term.specs.Spines.{item_at}
use Rattle.mt_term.specs.States.{Equation, Hint}
use Rattle.mt_term.specs.Declarations.{Hypothesis, Environment}
use Rattle.mt_term.specs.Reasons.{Reason, Unbound}
use Rattle.mt_term.specs.declared.modes.Mode.TheVariants.{Equal}
use Rattle.mt_rules.specs.Charges.{Done, Refused, Spent, charge, rest}
use Rattle.mt_unification_rules.specs.Hints.{Candidate, with_variables, first_terms}
use Rattle.mt_unification_rules.specs.Placeholders.{Metas}
use Rattle.mt_unification_rules.specs.Unification.{by_direction, unified, unify}
use Rattle.mt_unification_rules.specs.UnificationParts.{plain, hinted, candidate_met, sides_met, equations_met}
use Rattle.mt_unification_laws.proofs.PartOutcomes.{on-done, on-spent, on-refused, at-end, on-some, try-done, try-spent, try-refused, paid, by-outcome, unify-rest, hinted-rest, candidate_met-rest, sides_met-rest, equations_met-rest}

module _ (E : Environment) (H : List Hint) where
  -- the candidates in order
  pub hinted-none : (ms : Metas) (Γ : List Hypothesis) (t u : Tree) (n : ℕ) → hinted E H ms Γ t u [] n ≡ Refused (Unbound []) n
  unfolding hinted
  hinted-none ms Γ t u n = refl

  pub hinted-first_done : (ms : Metas) (Γ : List Hypothesis) (t u : Tree) (c : Candidate) (cs : List Candidate) (final : Metas) (n k : ℕ) → candidate_met E H ms Γ t u c n ≡ Done final k → hinted E H ms Γ t u (c ∷ cs) n ≡ Done final k
  unfolding hinted candidate_met
  hinted-first_done ms Γ t u c cs final n k z = try-done _ _ z

  pub hinted-first_spent : (ms : Metas) (Γ : List Hypothesis) (t u : Tree) (c : Candidate) (cs : List Candidate) (n : ℕ) → candidate_met E H ms Γ t u c n ≡ Spent → hinted E H ms Γ t u (c ∷ cs) n ≡ Spent
  unfolding hinted candidate_met
  hinted-first_spent ms Γ t u c cs n z = try-spent _ _ z

  pub hinted-next : (ms : Metas) (Γ : List Hypothesis) (t u : Tree) (c : Candidate) (cs : List Candidate) (q : Reason) (n l : ℕ) → candidate_met E H ms Γ t u c n ≡ Refused q l → hinted E H ms Γ t u (c ∷ cs) n ≡ hinted E H ms Γ t u cs l
  unfolding hinted candidate_met
  hinted-next ms Γ t u c cs q n l z = try-refused _ _ z refl

  pub hinted-first_within : (ms : Metas) (Γ : List Hypothesis) (t u : Tree) (c : Candidate) (cs : List Candidate) (n : ℕ) → rest (hinted E H ms Γ t u (c ∷ cs) n) ≤ rest (candidate_met E H ms Γ t u c n)
  hinted-first_within ms Γ t u c cs n =
      by-outcome (candidate_met E H ms Γ t u c n) (rest (hinted E H ms Γ t u (c ∷ cs) n)) (λ z. rw (hinted-first_spent ms Γ t u c cs n z) (omega arith)) (λ q l z. rw (hinted-next ms Γ t u c cs q n l z) (hinted-rest E H ms Γ t u cs l)) (λ final k z. rw (hinted-first_done ms Γ t u c cs final n k z) (omega arith))

  -- one candidate: a charge, and the two sides
  pub candidate_met-out : (ms : Metas) (Γ : List Hypothesis) (t u : Tree) (c : Candidate) (n : ℕ) → n ≡ 0 → candidate_met E H ms Γ t u c n ≡ Spent
  unfolding candidate_met
  candidate_met-out ms Γ t u c n e = ap (λ k. plain (charge (by_direction (unified E H) ms Γ t u c.hint c.swapped) k)) e

  pub candidate_met-direct : (ms : Metas) (Γ : List Hypothesis) (t u : Tree) (c : Candidate) (n : ℕ) → 0 < n → c.swapped ≡ false → candidate_met E H ms Γ t u c n ≡ sides_met E H Γ c.hint (with_variables ms Γ c.hint.vars End) t u (n - 1)
  unfolding candidate_met sides_met
  candidate_met-direct ms Γ t u c n h e = ap plain (paid _ n h ∙ ap (λ b. by_direction (unified E H) ms Γ t u c.hint b (n - 1)) e)

  pub candidate_met-swapped : (ms : Metas) (Γ : List Hypothesis) (t u : Tree) (c : Candidate) (n : ℕ) → 0 < n → c.swapped ≡ true → candidate_met E H ms Γ t u c n ≡ sides_met E H Γ c.hint (with_variables ms Γ c.hint.vars End) u t (n - 1)
  unfolding candidate_met sides_met
  candidate_met-swapped ms Γ t u c n h e = ap plain (paid _ n h ∙ ap (λ b. by_direction (unified E H) ms Γ t u c.hint b (n - 1)) e)

  -- the two sides, and then the equations
  pub sides_met-left_spent : (Γ : List Hypothesis) (h : Hint) (v : Metas × Trees) (t u : Tree) (n : ℕ) → unify E H v.0 Γ Equal (under v.1 h.left) t n ≡ Spent → sides_met E H Γ h v t u n ≡ Spent
  unfolding sides_met unify
  sides_met-left_spent Γ h v t u n z = on-spent _ _ z

  pub sides_met-left_refused : (Γ : List Hypothesis) (h : Hint) (v : Metas × Trees) (t u : Tree) (q : Reason) (n k : ℕ) → unify E H v.0 Γ Equal (under v.1 h.left) t n ≡ Refused q k → sides_met E H Γ h v t u n ≡ Refused (Unbound []) k
  unfolding sides_met unify
  sides_met-left_refused Γ h v t u q n k z = on-refused _ _ z

  pub sides_met-right_spent : (Γ : List Hypothesis) (h : Hint) (v : Metas × Trees) (t u : Tree) (ms : Metas) (n l : ℕ) → unify E H v.0 Γ Equal (under v.1 h.left) t n ≡ Done ms l → unify E H ms Γ Equal (under v.1 h.right) u l ≡ Spent → sides_met E H Γ h v t u n ≡ Spent
  unfolding sides_met unify
  sides_met-right_spent Γ h v t u ms n l e z = on-done _ _ e (on-spent _ _ z)

  pub sides_met-right_refused : (Γ : List Hypothesis) (h : Hint) (v : Metas × Trees) (t u : Tree) (ms : Metas) (q : Reason) (n l k : ℕ) → unify E H v.0 Γ Equal (under v.1 h.left) t n ≡ Done ms l → unify E H ms Γ Equal (under v.1 h.right) u l ≡ Refused q k → sides_met E H Γ h v t u n ≡ Refused (Unbound []) k
  unfolding sides_met unify
  sides_met-right_refused Γ h v t u ms q n l k e z = on-done _ _ e (on-refused _ _ z)

  pub sides_met-equations : (Γ : List Hypothesis) (h : Hint) (v : Metas × Trees) (t u : Tree) (ms ms' : Metas) (n l k : ℕ) → unify E H v.0 Γ Equal (under v.1 h.left) t n ≡ Done ms l → unify E H ms Γ Equal (under v.1 h.right) u l ≡ Done ms' k → sides_met E H Γ h v t u n ≡ equations_met E H Γ v.1 h.eqs ms' k
  unfolding sides_met equations_met unify
  sides_met-equations Γ h v t u ms ms' n l k e f = on-done _ _ e (on-done _ _ f refl)

  -- the equations in order
  pub equations_met-none : (Γ : List Hypothesis) (us : Trees) (ms : Metas) (n : ℕ) → equations_met E H Γ us [] ms n ≡ Done ms n
  unfolding equations_met
  equations_met-none Γ us ms n = refl

  pub equations_met-spent : (Γ : List Hypothesis) (us : Trees) (e : Equation) (es : List Equation) (ms : Metas) (x : Tree) (n : ℕ) → item_at us e.place ≡ Some x → unify E H ms Γ Equal x (under (first_terms e.place us) e.term) n ≡ Spent → equations_met E H Γ us (e ∷ es) ms n ≡ Spent
  unfolding equations_met unify
  equations_met-spent Γ us e es ms x n i z = on-some _ _ n i (on-spent _ _ z)

  pub equations_met-refused : (Γ : List Hypothesis) (us : Trees) (e : Equation) (es : List Equation) (ms : Metas) (x : Tree) (q : Reason) (n k : ℕ) → item_at us e.place ≡ Some x → unify E H ms Γ Equal x (under (first_terms e.place us) e.term) n ≡ Refused q k → equations_met E H Γ us (e ∷ es) ms n ≡ Refused (Unbound []) k
  unfolding equations_met unify
  equations_met-refused Γ us e es ms x q n k i z = on-some _ _ n i (on-refused _ _ z)

  pub equations_met-next : (Γ : List Hypothesis) (us : Trees) (e : Equation) (es : List Equation) (ms : Metas) (x : Tree) (ms' : Metas) (n k : ℕ) → item_at us e.place ≡ Some x → unify E H ms Γ Equal x (under (first_terms e.place us) e.term) n ≡ Done ms' k → equations_met E H Γ us (e ∷ es) ms n ≡ equations_met E H Γ us es ms' k
  unfolding equations_met unify
  equations_met-next Γ us e es ms x ms' n k i z = on-some _ _ n i (on-done _ _ z refl)

pub ruleset hinted_rules = (hinted-rest, candidate_met-rest, hinted-none, hinted-first_done, hinted-first_spent, hinted-next, hinted-first_within)

pub ruleset candidate_rules = (candidate_met-rest, sides_met-rest, candidate_met-out, candidate_met-direct, candidate_met-swapped)

pub ruleset sides_rules = (sides_met-rest, unify-rest, equations_met-rest, sides_met-left_spent, sides_met-left_refused, sides_met-right_spent, sides_met-right_refused, sides_met-equations)

pub ruleset equations_rules = (equations_met-rest, unify-rest, equations_met-none, equations_met-spent, equations_met-refused, equations_met-next)
