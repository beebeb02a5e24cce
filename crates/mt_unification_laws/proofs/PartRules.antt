-- Unification part by part, rule by rule, as a program follows it.
use Rattle.std.specs.Prelude.{ℕ, ◌≡◌, ◌≤◌, refl, List, [], ◌∷◌, nat_eq, Bool, true, false, ◌&&◌, slice_get}
use Rattle.std.proofs.Common.{◌∙◌, ap, arith}
use Rattle.mt_term.specs.States.{is_open, Hint}
use Rattle.mt_term.specs.Trees.{Bytes, Tree, Trees, Arms, Lam, App, Match, Meta, End, Item, NoArm, Arm}
use Rattle.mt_term.specs.declared.modes.Mode.TheVariants.{Equal}
use Rattle.mt_term.specs.Declarations.{Hypothesis, Environment}
use Rattle.mt_term.specs.Reasons.{Reason, Unbound}
use Rattle.mt_rules.specs.Charges.{Outcome, Done, Refused, Spent, and_then, rest}
use Rattle.mt_term.specs.Stores.{Store, store_of}
use Rattle.mt_rules.specs.Comparison.{and_next, ◌and◌, same_shapes, convert, bodies}
use Rattle.mt_rules_laws.proofs.ComparisonLaws.{convert-rest, bodies-rest}
use Rattle.mt_unification_rules.specs.Placeholders.{Metas}
use Rattle.mt_unification_rules.specs.Unification.{only_if, same_bodies, unify}
use Rattle.mt_unification_rules.specs.UnificationParts.{plain, parts, match_parts, term_pairs, body_pairs}
use Rattle.mt_unification_laws.proofs.PartOutcomes.{on-done, on-spent, on-refused, on-plain-done, on-plain-spent, on-plain-refused, at-end, on-true, on-false, by-outcome, by-bool, unify-rest, parts-rest, match_parts-rest, term_pairs-rest, body_pairs-rest}

module _ (E : Environment) (H : List Hint) where
  -- two applications
  pub parts-app_fun_spent : (ms : Metas) (Γ : List Hypothesis) (f a g b : Tree) (n : ℕ) → unify E H ms Γ Equal f g n ≡ Spent → parts E H ms Γ (App f a) (App g b) n ≡ Spent
  unfolding parts unify
  parts-app_fun_spent ms Γ f a g b n z = on-spent _ _ z

  pub parts-app_fun_refused : (ms : Metas) (Γ : List Hypothesis) (f a g b : Tree) (q : Reason) (n k : ℕ) → unify E H ms Γ Equal f g n ≡ Refused q k → parts E H ms Γ (App f a) (App g b) n ≡ Refused (Unbound []) k
  unfolding parts unify
  parts-app_fun_refused ms Γ f a g b q n k z = on-refused _ _ z

  pub parts-app_arg_done : (ms : Metas) (Γ : List Hypothesis) (f a g b : Tree) (ms' : Metas) (final : Metas) (n l1 k : ℕ) → unify E H ms Γ Equal f g n ≡ Done ms' l1 → unify E H ms' Γ Equal a b l1 ≡ Done final k → parts E H ms Γ (App f a) (App g b) n ≡ Done final k
  unfolding parts unify
  parts-app_arg_done ms Γ f a g b ms' final n l1 k e1 z = on-done _ _ e1 (at-end _ z)

  pub parts-app_arg_refused : (ms : Metas) (Γ : List Hypothesis) (f a g b : Tree) (ms' : Metas) (q : Reason) (n l1 k : ℕ) → unify E H ms Γ Equal f g n ≡ Done ms' l1 → unify E H ms' Γ Equal a b l1 ≡ Refused q k → parts E H ms Γ (App f a) (App g b) n ≡ Refused (Unbound []) k
  unfolding parts unify
  parts-app_arg_refused ms Γ f a g b ms' q n l1 k e1 z = on-done _ _ e1 (at-end _ z)

  pub parts-app_arg_spent : (ms : Metas) (Γ : List Hypothesis) (f a g b : Tree) (ms' : Metas) (n l1 : ℕ) → unify E H ms Γ Equal f g n ≡ Done ms' l1 → unify E H ms' Γ Equal a b l1 ≡ Spent → parts E H ms Γ (App f a) (App g b) n ≡ Spent
  unfolding parts unify
  parts-app_arg_spent ms Γ f a g b ms' n l1 e1 z = on-done _ _ e1 (at-end _ z)

  pub parts-app_arg_within : (ms : Metas) (Γ : List Hypothesis) (f a g b : Tree) (ms' : Metas) (n l1 : ℕ) → unify E H ms Γ Equal f g n ≡ Done ms' l1 → rest (parts E H ms Γ (App f a) (App g b) n) ≤ rest (unify E H ms' Γ Equal a b l1)
  parts-app_arg_within ms Γ f a g b ms' n l1 e1 =
      by-outcome (unify E H ms' Γ Equal a b l1) (rest (parts E H ms Γ (App f a) (App g b) n)) (λ z. rw (parts-app_arg_spent ms Γ f a g b ms' n l1 e1 z) (omega arith)) (λ q k z. rw (parts-app_arg_refused ms Γ f a g b ms' q n l1 k e1 z) (omega arith)) (λ final k z. rw (parts-app_arg_done ms Γ f a g b ms' final n l1 k e1 z) (omega arith))

  pub parts-app_fun_within : (ms : Metas) (Γ : List Hypothesis) (f a g b : Tree) (n : ℕ) → rest (parts E H ms Γ (App f a) (App g b) n) ≤ rest (unify E H ms Γ Equal f g n)
  parts-app_fun_within ms Γ f a g b n =
      by-outcome (unify E H ms Γ Equal f g n) (rest (parts E H ms Γ (App f a) (App g b) n)) (λ z. rw (parts-app_fun_spent ms Γ f a g b n z) (omega arith)) (λ q k z. rw (parts-app_fun_refused ms Γ f a g b q n k z) (omega arith)) (λ ms' l1 e1. omega (arith, parts-app_arg_within ms Γ f a g b ms' n l1 e1, unify-rest E H ms' Γ Equal a b l1))

  -- two abstractions
  pub parts-lam_type_spent : (ms : Metas) (Γ : List Hypothesis) (x y : Bytes) (a b c d : Tree) (n : ℕ) → unify E H ms Γ Equal a c n ≡ Spent → parts E H ms Γ (Lam x a b) (Lam y c d) n ≡ Spent
  unfolding parts unify
  parts-lam_type_spent ms Γ x y a b c d n z = on-spent _ _ z

  pub parts-lam_type_refused : (ms : Metas) (Γ : List Hypothesis) (x y : Bytes) (a b c d : Tree) (q : Reason) (n k : ℕ) → unify E H ms Γ Equal a c n ≡ Refused q k → parts E H ms Γ (Lam x a b) (Lam y c d) n ≡ Refused (Unbound []) k
  unfolding parts unify
  parts-lam_type_refused ms Γ x y a b c d q n k z = on-refused _ _ z

  pub parts-lam_body_done : (ms : Metas) (Γ : List Hypothesis) (x y : Bytes) (a b c d : Tree) (ms' : Metas) (final : Metas) (n l1 k : ℕ) → unify E H ms Γ Equal a c n ≡ Done ms' l1 → unify E H ms' (record { name = x; ty = a } ∷ Γ) Equal b d l1 ≡ Done final k → parts E H ms Γ (Lam x a b) (Lam y c d) n ≡ Done final k
  unfolding parts unify
  parts-lam_body_done ms Γ x y a b c d ms' final n l1 k e1 z = on-done _ _ e1 (at-end _ z)

  pub parts-lam_body_refused : (ms : Metas) (Γ : List Hypothesis) (x y : Bytes) (a b c d : Tree) (ms' : Metas) (q : Reason) (n l1 k : ℕ) → unify E H ms Γ Equal a c n ≡ Done ms' l1 → unify E H ms' (record { name = x; ty = a } ∷ Γ) Equal b d l1 ≡ Refused q k → parts E H ms Γ (Lam x a b) (Lam y c d) n ≡ Refused (Unbound []) k
  unfolding parts unify
  parts-lam_body_refused ms Γ x y a b c d ms' q n l1 k e1 z = on-done _ _ e1 (at-end _ z)

  pub parts-lam_body_spent : (ms : Metas) (Γ : List Hypothesis) (x y : Bytes) (a b c d : Tree) (ms' : Metas) (n l1 : ℕ) → unify E H ms Γ Equal a c n ≡ Done ms' l1 → unify E H ms' (record { name = x; ty = a } ∷ Γ) Equal b d l1 ≡ Spent → parts E H ms Γ (Lam x a b) (Lam y c d) n ≡ Spent
  unfolding parts unify
  parts-lam_body_spent ms Γ x y a b c d ms' n l1 e1 z = on-done _ _ e1 (at-end _ z)

  pub parts-lam_body_within : (ms : Metas) (Γ : List Hypothesis) (x y : Bytes) (a b c d : Tree) (ms' : Metas) (n l1 : ℕ) → unify E H ms Γ Equal a c n ≡ Done ms' l1 → rest (parts E H ms Γ (Lam x a b) (Lam y c d) n) ≤ rest (unify E H ms' (record { name = x; ty = a } ∷ Γ) Equal b d l1)
  parts-lam_body_within ms Γ x y a b c d ms' n l1 e1 =
      by-outcome (unify E H ms' (record { name = x; ty = a } ∷ Γ) Equal b d l1) (rest (parts E H ms Γ (Lam x a b) (Lam y c d) n)) (λ z. rw (parts-lam_body_spent ms Γ x y a b c d ms' n l1 e1 z) (omega arith)) (λ q k z. rw (parts-lam_body_refused ms Γ x y a b c d ms' q n l1 k e1 z) (omega arith)) (λ final k z. rw (parts-lam_body_done ms Γ x y a b c d ms' final n l1 k e1 z) (omega arith))

  pub parts-lam_type_within : (ms : Metas) (Γ : List Hypothesis) (x y : Bytes) (a b c d : Tree) (n : ℕ) → rest (parts E H ms Γ (Lam x a b) (Lam y c d) n) ≤ rest (unify E H ms Γ Equal a c n)
  parts-lam_type_within ms Γ x y a b c d n =
      by-outcome (unify E H ms Γ Equal a c n) (rest (parts E H ms Γ (Lam x a b) (Lam y c d) n)) (λ z. rw (parts-lam_type_spent ms Γ x y a b c d n z) (omega arith)) (λ q k z. rw (parts-lam_type_refused ms Γ x y a b c d q n k z) (omega arith)) (λ ms' l1 e1. omega (arith, parts-lam_body_within ms Γ x y a b c d ms' n l1 e1, unify-rest E H ms' (record { name = x; ty = a } ∷ Γ) Equal b d l1))

  -- two matches
  pub parts-match_apart : (ms : Metas) (Γ : List Hypothesis) (e f : ℕ) (r c p d : Tree) (bs cs : Arms) (n : ℕ) → (nat_eq e f && same_shapes bs cs) ≡ false → parts E H ms Γ (Match e r c bs) (Match f p d cs) n ≡ Refused (Unbound []) n
  unfolding parts unify match_parts
  parts-match_apart ms Γ e f r c p d bs cs n z = on-false _ _ _ z

  pub parts-match_return_spent : (ms : Metas) (Γ : List Hypothesis) (e f : ℕ) (r c p d : Tree) (bs cs : Arms) (n : ℕ) → (nat_eq e f && same_shapes bs cs) ≡ true → unify E H ms Γ Equal r p n ≡ Spent → parts E H ms Γ (Match e r c bs) (Match f p d cs) n ≡ Spent
  unfolding parts unify match_parts
  parts-match_return_spent ms Γ e f r c p d bs cs n e1 z = on-true _ _ _ e1 (on-spent _ _ z)

  pub parts-match_return_refused : (ms : Metas) (Γ : List Hypothesis) (e f : ℕ) (r c p d : Tree) (bs cs : Arms) (q : Reason) (n k : ℕ) → (nat_eq e f && same_shapes bs cs) ≡ true → unify E H ms Γ Equal r p n ≡ Refused q k → parts E H ms Γ (Match e r c bs) (Match f p d cs) n ≡ Refused (Unbound []) k
  unfolding parts unify match_parts
  parts-match_return_refused ms Γ e f r c p d bs cs q n k e1 z = on-true _ _ _ e1 (on-refused _ _ z)

  pub parts-match : (ms : Metas) (Γ : List Hypothesis) (e f : ℕ) (r c p d : Tree) (bs cs : Arms) (ms' : Metas) (n l2 : ℕ) → (nat_eq e f && same_shapes bs cs) ≡ true → unify E H ms Γ Equal r p n ≡ Done ms' l2 → parts E H ms Γ (Match e r c bs) (Match f p d cs) n ≡ match_parts E H ms' Γ c d bs cs l2
  unfolding parts unify match_parts
  parts-match ms Γ e f r c p d bs cs ms' n l2 e1 e2 = on-true _ _ _ e1 (on-done _ _ e2 (refl))

  pub parts-match_return_within : (ms : Metas) (Γ : List Hypothesis) (e f : ℕ) (r c p d : Tree) (bs cs : Arms) (n : ℕ) → (nat_eq e f && same_shapes bs cs) ≡ true → rest (parts E H ms Γ (Match e r c bs) (Match f p d cs) n) ≤ rest (unify E H ms Γ Equal r p n)
  parts-match_return_within ms Γ e f r c p d bs cs n e1 =
      by-outcome (unify E H ms Γ Equal r p n) (rest (parts E H ms Γ (Match e r c bs) (Match f p d cs) n)) (λ z. rw (parts-match_return_spent ms Γ e f r c p d bs cs n e1 z) (omega arith)) (λ q k z. rw (parts-match_return_refused ms Γ e f r c p d bs cs q n k e1 z) (omega arith)) (λ ms' l2 e2. rw (parts-match ms Γ e f r c p d bs cs ms' n l2 e1 e2) (match_parts-rest E H ms' Γ c d bs cs l2))

  -- two metavariables
  pub parts-meta_apart : (ms : Metas) (Γ : List Hypothesis) (i j : ℕ) (s r : Trees) (n : ℕ) → (nat_eq i j && is_open (slice_get ms i)) ≡ false → parts E H ms Γ (Meta i s) (Meta j r) n ≡ Refused (Unbound []) n
  unfolding parts unify term_pairs
  parts-meta_apart ms Γ i j s r n z = on-false _ _ _ z

  pub parts-meta : (ms : Metas) (Γ : List Hypothesis) (i j : ℕ) (s r : Trees) (n : ℕ) → (nat_eq i j && is_open (slice_get ms i)) ≡ true → parts E H ms Γ (Meta i s) (Meta j r) n ≡ term_pairs E H ms Γ s r n
  unfolding parts unify term_pairs
  parts-meta ms Γ i j s r n e1 = on-true _ _ _ e1 (refl)

  -- the matched terms of two matches, and the bodies of their branches
  pub match_parts-matched_spent : (ms : Metas) (Γ : List Hypothesis) (c d : Tree) (bs cs : Arms) (n : ℕ) → unify E H ms Γ Equal c d n ≡ Spent → match_parts E H ms Γ c d bs cs n ≡ Spent
  unfolding match_parts unify body_pairs
  match_parts-matched_spent ms Γ c d bs cs n z = on-spent _ _ z

  pub match_parts-matched_refused : (ms : Metas) (Γ : List Hypothesis) (c d : Tree) (bs cs : Arms) (q : Reason) (n k : ℕ) → unify E H ms Γ Equal c d n ≡ Refused q k → match_parts E H ms Γ c d bs cs n ≡ Refused (Unbound []) k
  unfolding match_parts unify body_pairs
  match_parts-matched_refused ms Γ c d bs cs q n k z = on-refused _ _ z

  pub match_parts-bodies_spent : (ms : Metas) (Γ : List Hypothesis) (c d : Tree) (bs cs : Arms) (ms' : Metas) (n l1 : ℕ) → unify E H ms Γ Equal c d n ≡ Done ms' l1 → body_pairs E (store_of ms') bs cs l1 ≡ Spent → match_parts E H ms Γ c d bs cs n ≡ Spent
  unfolding match_parts unify body_pairs
  match_parts-bodies_spent ms Γ c d bs cs ms' n l1 e1 z = on-done _ _ e1 (on-plain-spent _ _ z)

  pub match_parts-bodies_refused : (ms : Metas) (Γ : List Hypothesis) (c d : Tree) (bs cs : Arms) (ms' : Metas) (q : Reason) (n l1 k : ℕ) → unify E H ms Γ Equal c d n ≡ Done ms' l1 → body_pairs E (store_of ms') bs cs l1 ≡ Refused q k → match_parts E H ms Γ c d bs cs n ≡ Refused (Unbound []) k
  unfolding match_parts unify body_pairs
  match_parts-bodies_refused ms Γ c d bs cs ms' q n l1 k e1 z = on-done _ _ e1 (on-plain-refused _ _ z)

  pub match_parts-done : (ms : Metas) (Γ : List Hypothesis) (c d : Tree) (bs cs : Arms) (ms' : Metas) (z1 : Unit {0}) (n l1 l2 : ℕ) → unify E H ms Γ Equal c d n ≡ Done ms' l1 → body_pairs E (store_of ms') bs cs l1 ≡ Done z1 l2 → match_parts E H ms Γ c d bs cs n ≡ Done ms' l2
  unfolding match_parts unify body_pairs
  match_parts-done ms Γ c d bs cs ms' z1 n l1 l2 e1 e2 = on-done _ _ e1 (on-plain-done _ _ e2 (refl))

  pub match_parts-bodies_within : (ms : Metas) (Γ : List Hypothesis) (c d : Tree) (bs cs : Arms) (ms' : Metas) (n l1 : ℕ) → unify E H ms Γ Equal c d n ≡ Done ms' l1 → rest (match_parts E H ms Γ c d bs cs n) ≤ rest (body_pairs E (store_of ms') bs cs l1)
  match_parts-bodies_within ms Γ c d bs cs ms' n l1 e1 =
      by-outcome (body_pairs E (store_of ms') bs cs l1) (rest (match_parts E H ms Γ c d bs cs n)) (λ z. rw (match_parts-bodies_spent ms Γ c d bs cs ms' n l1 e1 z) (omega arith)) (λ q k z. rw (match_parts-bodies_refused ms Γ c d bs cs ms' q n l1 k e1 z) (omega arith)) (λ z1 l2 e2. rw (match_parts-done ms Γ c d bs cs ms' z1 n l1 l2 e1 e2) (omega arith))

  pub match_parts-matched_within : (ms : Metas) (Γ : List Hypothesis) (c d : Tree) (bs cs : Arms) (n : ℕ) → rest (match_parts E H ms Γ c d bs cs n) ≤ rest (unify E H ms Γ Equal c d n)
  match_parts-matched_within ms Γ c d bs cs n =
      by-outcome (unify E H ms Γ Equal c d n) (rest (match_parts E H ms Γ c d bs cs n)) (λ z. rw (match_parts-matched_spent ms Γ c d bs cs n z) (omega arith)) (λ q k z. rw (match_parts-matched_refused ms Γ c d bs cs q n k z) (omega arith)) (λ ms' l1 e1. omega (arith, match_parts-bodies_within ms Γ c d bs cs ms' n l1 e1, body_pairs-rest E (store_of ms') bs cs l1))

  -- two lists of terms
  pub term_pairs-end : (ms : Metas) (Γ : List Hypothesis) (n : ℕ) → term_pairs E H ms Γ End End n ≡ Done ms n
  unfolding term_pairs
  term_pairs-end ms Γ n = refl

  pub term_pairs-item_term_spent : (ms : Metas) (Γ : List Hypothesis) (t u : Tree) (s r : Trees) (n : ℕ) → unify E H ms Γ Equal t u n ≡ Spent → term_pairs E H ms Γ (Item t s) (Item u r) n ≡ Spent
  unfolding term_pairs unify
  term_pairs-item_term_spent ms Γ t u s r n z = on-spent _ _ z

  pub term_pairs-item_term_refused : (ms : Metas) (Γ : List Hypothesis) (t u : Tree) (s r : Trees) (q : Reason) (n k : ℕ) → unify E H ms Γ Equal t u n ≡ Refused q k → term_pairs E H ms Γ (Item t s) (Item u r) n ≡ Refused (Unbound []) k
  unfolding term_pairs unify
  term_pairs-item_term_refused ms Γ t u s r q n k z = on-refused _ _ z

  pub term_pairs-item : (ms : Metas) (Γ : List Hypothesis) (t u : Tree) (s r : Trees) (ms' : Metas) (n l1 : ℕ) → unify E H ms Γ Equal t u n ≡ Done ms' l1 → term_pairs E H ms Γ (Item t s) (Item u r) n ≡ term_pairs E H ms' Γ s r l1
  unfolding term_pairs unify
  term_pairs-item ms Γ t u s r ms' n l1 e1 = on-done _ _ e1 (refl)

  pub term_pairs-item_term_within : (ms : Metas) (Γ : List Hypothesis) (t u : Tree) (s r : Trees) (n : ℕ) → rest (term_pairs E H ms Γ (Item t s) (Item u r) n) ≤ rest (unify E H ms Γ Equal t u n)
  term_pairs-item_term_within ms Γ t u s r n =
      by-outcome (unify E H ms Γ Equal t u n) (rest (term_pairs E H ms Γ (Item t s) (Item u r) n)) (λ z. rw (term_pairs-item_term_spent ms Γ t u s r n z) (omega arith)) (λ q k z. rw (term_pairs-item_term_refused ms Γ t u s r q n k z) (omega arith)) (λ ms' l1 e1. rw (term_pairs-item ms Γ t u s r ms' n l1 e1) (term_pairs-rest E H ms' Γ s r l1))

  pub term_pairs-longer : (ms : Metas) (Γ : List Hypothesis) (t : Tree) (s : Trees) (n : ℕ) → term_pairs E H ms Γ (Item t s) End n ≡ Refused (Unbound []) n
  unfolding term_pairs
  term_pairs-longer ms Γ t s n = refl

  pub term_pairs-shorter : (ms : Metas) (Γ : List Hypothesis) (t : Tree) (s : Trees) (n : ℕ) → term_pairs E H ms Γ End (Item t s) n ≡ Refused (Unbound []) n
  unfolding term_pairs
  term_pairs-shorter ms Γ t s n = refl

  -- two lists of branches
  pub body_pairs-end : (S : Store) (n : ℕ) → body_pairs E S NoArm NoArm n ≡ Done tt n
  unfolding body_pairs
  body_pairs-end S n = refl

  pub body_pairs-arm_body_spent : (S : Store) (xs ys : List Bytes) (b c : Tree) (bs cs : Arms) (n : ℕ) → convert E S Equal b c n ≡ Spent → body_pairs E S (Arm xs b bs) (Arm ys c cs) n ≡ Spent
  unfolding body_pairs
  body_pairs-arm_body_spent S xs ys b c bs cs n z = on-spent _ _ z

  pub body_pairs-arm_body_refused : (S : Store) (xs ys : List Bytes) (b c : Tree) (bs cs : Arms) (q : Reason) (n k : ℕ) → convert E S Equal b c n ≡ Refused q k → body_pairs E S (Arm xs b bs) (Arm ys c cs) n ≡ Refused (Unbound []) k
  unfolding body_pairs
  body_pairs-arm_body_refused S xs ys b c bs cs q n k z = on-refused _ _ z

  pub body_pairs-arm_no : (S : Store) (xs ys : List Bytes) (b c : Tree) (bs cs : Arms) (n l1 : ℕ) → convert E S Equal b c n ≡ Done false l1 → body_pairs E S (Arm xs b bs) (Arm ys c cs) n ≡ Refused (Unbound []) l1
  unfolding body_pairs
  body_pairs-arm_no S xs ys b c bs cs n l1 e1 = on-done _ _ e1 refl

  pub body_pairs-arm_yes : (S : Store) (xs ys : List Bytes) (b c : Tree) (bs cs : Arms) (n l1 : ℕ) → convert E S Equal b c n ≡ Done true l1 → body_pairs E S (Arm xs b bs) (Arm ys c cs) n ≡ body_pairs E S bs cs l1
  unfolding body_pairs
  body_pairs-arm_yes S xs ys b c bs cs n l1 e1 = on-done _ _ e1 refl

  pub body_pairs-arm_body_within : (S : Store) (xs ys : List Bytes) (b c : Tree) (bs cs : Arms) (n : ℕ) → rest (body_pairs E S (Arm xs b bs) (Arm ys c cs) n) ≤ rest (convert E S Equal b c n)
  body_pairs-arm_body_within S xs ys b c bs cs n =
      by-outcome (convert E S Equal b c n) (rest (body_pairs E S (Arm xs b bs) (Arm ys c cs) n)) (λ z. rw (body_pairs-arm_body_spent S xs ys b c bs cs n z) (omega arith)) (λ q k z. rw (body_pairs-arm_body_refused S xs ys b c bs cs q n k z) (omega arith)) (λ same l1 e1. by-bool same (λ z. rw (body_pairs-arm_no S xs ys b c bs cs n l1 (e1 ∙ ap (λ o. Done o l1) z)) (omega arith)) (λ z. rw (body_pairs-arm_yes S xs ys b c bs cs n l1 (e1 ∙ ap (λ o. Done o l1) z)) (body_pairs-rest E S bs cs l1)))

  pub body_pairs-longer : (S : Store) (xs : List Bytes) (b : Tree) (bs : Arms) (n : ℕ) → body_pairs E S (Arm xs b bs) NoArm n ≡ Refused (Unbound []) n
  unfolding body_pairs
  body_pairs-longer S xs b bs n = refl

  pub body_pairs-shorter : (S : Store) (xs : List Bytes) (b : Tree) (bs : Arms) (n : ℕ) → body_pairs E S NoArm (Arm xs b bs) n ≡ Refused (Unbound []) n
  unfolding body_pairs
  body_pairs-shorter S xs b bs n = refl

  -- of an outcome of the comparison, what it says of two bodies
  abbrev judged : Outcome Bool → Outcome (Unit {0})
  judged o = plain (and_then o only_if)

  pairs-then : (S : Store) (o : Outcome Bool) (bs cs : Arms) → ((l : ℕ) → body_pairs E S bs cs l ≡ judged (bodies E S bs cs l))
      → plain (and_then o (λ same l. and_then (only_if same l) (λ z. same_bodies E S bs cs))) ≡ judged (and_then o (and_next (bodies E S bs cs)))
  unfolding body_pairs
  pairs-then S (Done true l) bs cs h = h l
  pairs-then S (Done false l) bs cs h = refl
  pairs-then S (Refused q l) bs cs h = refl
  pairs-then S Spent bs cs h = refl

  body_pairs-bodies : (S : Store) (bs cs : Arms) (n : ℕ) → body_pairs E S bs cs n ≡ judged (bodies E S bs cs n)
  unfolding body_pairs bodies convert ◌and◌
  body_pairs-bodies S NoArm NoArm n = refl
  body_pairs-bodies S (Arm xs b bs) (Arm ys c cs) n = pairs-then S (convert E S Equal b c n) bs cs (λ l. body_pairs-bodies S bs cs l)
  body_pairs-bodies S NoArm (Arm ys c cs) n = refl
  body_pairs-bodies S (Arm xs b bs) NoArm n = refl

  -- the bodies of two lists of branches, as the comparison has them
  pub bodies-yes : (S : Store) (bs cs : Arms) (n l : ℕ) → bodies E S bs cs n ≡ Done true l → body_pairs E S bs cs n ≡ Done tt l
  bodies-yes S bs cs n l e = body_pairs-bodies S bs cs n ∙ ap judged e

  pub bodies-no : (S : Store) (bs cs : Arms) (n l : ℕ) → bodies E S bs cs n ≡ Done false l → body_pairs E S bs cs n ≡ Refused (Unbound []) l
  bodies-no S bs cs n l e = body_pairs-bodies S bs cs n ∙ ap judged e

  pub bodies-spent : (S : Store) (bs cs : Arms) (n : ℕ) → bodies E S bs cs n ≡ Spent → body_pairs E S bs cs n ≡ Spent
  bodies-spent S bs cs n e = body_pairs-bodies S bs cs n ∙ ap judged e

  pub bodies-refused : (S : Store) (bs cs : Arms) (q : Reason) (n l : ℕ) → bodies E S bs cs n ≡ Refused q l → body_pairs E S bs cs n ≡ Refused (Unbound []) l
  bodies-refused S bs cs q n l e = body_pairs-bodies S bs cs n ∙ ap judged e

  pub bodies-within : (S : Store) (bs cs : Arms) (n : ℕ) → rest (body_pairs E S bs cs n) ≤ rest (bodies E S bs cs n)
  bodies-within S bs cs n =
      by-outcome (bodies E S bs cs n) (rest (body_pairs E S bs cs n)) (λ z. rw (bodies-spent S bs cs n z) (omega arith)) (λ q l z. rw (bodies-refused S bs cs q n l z) (omega arith)) (λ same l e. by-bool same (λ z. rw (bodies-no S bs cs n l (e ∙ ap (λ o. Done o l) z)) (omega arith)) (λ z. rw (bodies-yes S bs cs n l (e ∙ ap (λ o. Done o l) z)) (omega arith)))

  -- two matches, with the bodies of their branches as the comparison has them
  pub match_parts-compared_yes : (ms : Metas) (Γ : List Hypothesis) (c d : Tree) (bs cs : Arms) (ms' : Metas) (n l1 k : ℕ) → unify E H ms Γ Equal c d n ≡ Done ms' l1 → bodies E (store_of ms') bs cs l1 ≡ Done true k → match_parts E H ms Γ c d bs cs n ≡ Done ms' k
  match_parts-compared_yes ms Γ c d bs cs ms' n l1 k e z = match_parts-done ms Γ c d bs cs ms' tt n l1 k e (bodies-yes (store_of ms') bs cs l1 k z)

  pub match_parts-compared_no : (ms : Metas) (Γ : List Hypothesis) (c d : Tree) (bs cs : Arms) (ms' : Metas) (n l1 k : ℕ) → unify E H ms Γ Equal c d n ≡ Done ms' l1 → bodies E (store_of ms') bs cs l1 ≡ Done false k → match_parts E H ms Γ c d bs cs n ≡ Refused (Unbound []) k
  match_parts-compared_no ms Γ c d bs cs ms' n l1 k e z =
      match_parts-bodies_refused ms Γ c d bs cs ms' (Unbound []) n l1 k e (bodies-no (store_of ms') bs cs l1 k z)

  pub match_parts-compared_spent : (ms : Metas) (Γ : List Hypothesis) (c d : Tree) (bs cs : Arms) (ms' : Metas) (n l1 : ℕ) → unify E H ms Γ Equal c d n ≡ Done ms' l1 → bodies E (store_of ms') bs cs l1 ≡ Spent → match_parts E H ms Γ c d bs cs n ≡ Spent
  match_parts-compared_spent ms Γ c d bs cs ms' n l1 e z = match_parts-bodies_spent ms Γ c d bs cs ms' n l1 e (bodies-spent (store_of ms') bs cs l1 z)

  pub match_parts-compared_refused : (ms : Metas) (Γ : List Hypothesis) (c d : Tree) (bs cs : Arms) (ms' : Metas) (q : Reason) (n l1 k : ℕ) → unify E H ms Γ Equal c d n ≡ Done ms' l1 → bodies E (store_of ms') bs cs l1 ≡ Refused q k → match_parts E H ms Γ c d bs cs n ≡ Refused (Unbound []) k
  match_parts-compared_refused ms Γ c d bs cs ms' q n l1 k e z =
      match_parts-bodies_refused ms Γ c d bs cs ms' (Unbound []) n l1 k e (bodies-refused (store_of ms') bs cs q l1 k z)

  pub match_parts-compared_within : (ms : Metas) (Γ : List Hypothesis) (c d : Tree) (bs cs : Arms) (ms' : Metas) (n l1 : ℕ) → unify E H ms Γ Equal c d n ≡ Done ms' l1 → rest (match_parts E H ms Γ c d bs cs n) ≤ rest (bodies E (store_of ms') bs cs l1)
  match_parts-compared_within ms Γ c d bs cs ms' n l1 e =
      omega (arith, match_parts-bodies_within ms Γ c d bs cs ms' n l1 e, bodies-within (store_of ms') bs cs l1)

pub ruleset parts_rules = (unify-rest, parts-rest, match_parts-rest, term_pairs-rest, parts-app_fun_spent, parts-app_fun_refused, parts-app_arg_done, parts-app_arg_refused, parts-app_arg_spent, parts-app_arg_within, parts-app_fun_within, parts-lam_type_spent, parts-lam_type_refused, parts-lam_body_done, parts-lam_body_refused, parts-lam_body_spent, parts-lam_body_within, parts-lam_type_within, parts-match_apart, parts-match_return_spent, parts-match_return_refused, parts-match, parts-match_return_within, parts-meta_apart, parts-meta)

pub ruleset match_parts_rules = (unify-rest, match_parts-rest, body_pairs-rest, match_parts-matched_spent, match_parts-matched_refused, match_parts-bodies_spent, match_parts-bodies_refused, match_parts-done, match_parts-bodies_within, match_parts-matched_within)

pub ruleset term_pairs_rules = (unify-rest, term_pairs-rest, term_pairs-end, term_pairs-item_term_spent, term_pairs-item_term_refused, term_pairs-item, term_pairs-item_term_within, term_pairs-longer, term_pairs-shorter)

pub ruleset body_pairs_rules = (convert-rest, body_pairs-rest, body_pairs-end, body_pairs-arm_body_spent, body_pairs-arm_body_refused, body_pairs-arm_no, body_pairs-arm_yes, body_pairs-arm_body_within, body_pairs-longer, body_pairs-shorter)

pub ruleset bodies_rules = (bodies-rest, body_pairs-rest, bodies-yes, bodies-no, bodies-spent, bodies-refused, bodies-within)

pub ruleset compared_match_rules = (unify-rest, match_parts-rest, bodies-rest, match_parts-matched_spent, match_parts-matched_refused, match_parts-matched_within, match_parts-compared_yes, match_parts-compared_no, match_parts-compared_spent, match_parts-compared_refused, match_parts-compared_within)
