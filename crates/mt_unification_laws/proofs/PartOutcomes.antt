-- What the parts of unification leave, and outcomes in sequence without the reasons of refusals.
use Rattle.std.specs.Prelude.{ℕ, suc, ◌≡◌, ◌-◌, ◌<◌, ◌≤◌, refl, List, [], Bool, true, false, Option, Some, None, if◌then◌else◌, reverse}
use Rattle.std.proofs.Common.{◌∙◌, ap, arith}
use Rattle.mt_term.specs.States.{Equation, Hint}
use Rattle.mt_term.specs.Trees.{Tree, Trees, Arms}
use Rattle.mt_term.specs.Declarations.{Hypothesis, Environment}
use Rattle.mt_term.specs.Reasons.{Reason, Unbound}
use Rattle.mt_rules.specs.Charges.{Outcome, Done, Refused, Spent, Charged, charge, refuse, and_then, or_else, rest}
use Rattle.mt_term.specs.Stores.{Store, store_of}
use Rattle.mt_rules.specs.Inference.{infer}
use Rattle.mt_term.specs.declared.modes.Mode.{Mode}
use Rattle.mt_term.specs.declared.modes.Mode.TheVariants.{Equal, AtMost}
use Rattle.mt_rules_laws.proofs.Charged.{Agree, give-agree, then-agree, tried-agree, agree-rest}
use Rattle.mt_rules_laws.proofs.WeakHeadLaws.{step-agree}
use Rattle.mt_rules_laws.proofs.InferenceLaws.{infer-agree}
use Rattle.mt_unification_rules.specs.Hints.{Candidate}
use Rattle.mt_unification_rules.specs.Placeholders.{Metas}
use Rattle.mt_unification_rules.specs.Unification.{Question, known, only_if, by_step, by_types, unified, unify}
use Rattle.mt_unification_rules.specs.UnificationParts.{plain, attempt, attempt_unassigned, assignment, side_assignment, meta_assignment, typed_assignment, body_given, parts, match_parts, term_pairs, body_pairs, types, hinted, candidate_met, sides_met, equations_met, left_step, right_step, stepped, left_step_first, right_step_first, left_step_last, right_step_last}
use Rattle.mt_unification_laws.proofs.UnificationAllowance.{same_bodies-agree, given-agree, assign-agree, assign_side-agree, by_assignment-agree, by_terms-agree, by_parts-agree, by_equations-agree, by_sides-agree, by_hint-agree, by_hints-agree, on_step-agree, by_step-agree, by_types-agree, by_rules-agree, unified-agree, unify-agree}

-- a sequence goes on, or ends
pub on-done : {A B : Type 0} (o : Outcome A) (f : A → Charged B) {a : A} {l : ℕ} {r : Outcome B} → o ≡ Done a l → plain (f a l) ≡ r → plain (and_then o f) ≡ r
on-done o f e g = ap (λ o. plain (and_then o f)) e ∙ g

pub on-spent : {A B : Type 0} (o : Outcome A) (f : A → Charged B) → o ≡ Spent → plain (and_then o f) ≡ Spent
on-spent o f e = ap (λ o. plain (and_then o f)) e

pub on-refused : {A B : Type 0} (o : Outcome A) (f : A → Charged B) {q : Reason} {l : ℕ} → o ≡ Refused q l → plain (and_then o f) ≡ Refused (Unbound []) l
on-refused o f e = ap (λ o. plain (and_then o f)) e

-- after a part whose refusals give no reason
plain-then : {A B : Type 0} (o : Outcome A) (f : A → Charged B) → plain (and_then o f) ≡ plain (and_then (plain o) f)
plain-then (Done a l) f = refl
plain-then (Refused q l) f = refl
plain-then Spent f = refl

pub on-plain-done : {A B : Type 0} (o : Outcome A) (f : A → Charged B) {a : A} {l : ℕ} {r : Outcome B} → plain o ≡ Done a l → plain (f a l) ≡ r → plain (and_then o f) ≡ r
on-plain-done o f e g = plain-then o f ∙ on-done (plain o) f e g

pub on-plain-spent : {A B : Type 0} (o : Outcome A) (f : A → Charged B) → plain o ≡ Spent → plain (and_then o f) ≡ Spent
on-plain-spent o f e = plain-then o f ∙ on-spent (plain o) f e

pub on-plain-refused : {A B : Type 0} (o : Outcome A) (f : A → Charged B) {q : Reason} {l : ℕ} → plain o ≡ Refused q l → plain (and_then o f) ≡ Refused (Unbound []) l
on-plain-refused o f e = plain-then o f ∙ on-refused (plain o) f e

-- the last part of a sequence
pub at-end : {A : Type 0} (o : Outcome A) {r : Outcome A} → o ≡ r → plain o ≡ plain r
at-end o e = ap plain e

-- what is there, and what is not
pub on-some : {A B : Type 0} (o : Option A) (f : A → Charged B) (n : ℕ) {a : A} {r : Outcome B} → o ≡ Some a → plain (f a n) ≡ r → plain (and_then (known o n) f) ≡ r
on-some o f n e g = ap (λ o. plain (and_then (known o n) f)) e ∙ g

pub on-none : {A B : Type 0} (o : Option A) (f : A → Charged B) (n : ℕ) → o ≡ None → plain (and_then (known o n) f) ≡ Refused (Unbound []) n
on-none o f n e = ap (λ o. plain (and_then (known o n) f)) e

-- a condition
pub on-true : {B : Type 0} (b : Bool) (f : Unit {0} → Charged B) (n : ℕ) {r : Outcome B} → b ≡ true → plain (f tt n) ≡ r → plain (and_then (only_if b n) f) ≡ r
on-true b f n e g = ap (λ b. plain (and_then (only_if b n) f)) e ∙ g

pub on-false : {B : Type 0} (b : Bool) (f : Unit {0} → Charged B) (n : ℕ) → b ≡ false → plain (and_then (only_if b n) f) ≡ Refused (Unbound []) n
on-false b f n e = ap (λ b. plain (and_then (only_if b n) f)) e

-- a choice
pub if-true : {A : Type 0} (b : Bool) (m m' : Charged A) (n : ℕ) → b ≡ true → (if b then m else m') n ≡ m n
if-true b m m' n e = ap (λ (b : Bool). (if b then m else m') n) e

pub if-false : {A : Type 0} (b : Bool) (m m' : Charged A) (n : ℕ) → b ≡ false → (if b then m else m') n ≡ m' n
if-false b m m' n e = ap (λ (b : Bool). (if b then m else m') n) e

-- a tried part, and the next
plain-tried : {A : Type 0} (o : Outcome A) (m : Charged A) → plain (or_else o m) ≡ or_else (plain o) (λ l. plain (m l))
plain-tried (Done a l) m = refl
plain-tried (Refused q l) m = refl
plain-tried Spent m = refl

pub try-done : {A : Type 0} (o : Outcome A) (m : Charged A) {a : A} {l : ℕ} → plain o ≡ Done a l → plain (or_else o m) ≡ Done a l
try-done o m e = plain-tried o m ∙ ap (λ o. or_else o (λ l. plain (m l))) e

pub try-spent : {A : Type 0} (o : Outcome A) (m : Charged A) → plain o ≡ Spent → plain (or_else o m) ≡ Spent
try-spent o m e = plain-tried o m ∙ ap (λ o. or_else o (λ l. plain (m l))) e

pub try-refused : {A : Type 0} (o : Outcome A) (m : Charged A) {q : Reason} {l : ℕ} {r : Outcome A} → plain o ≡ Refused q l → plain (m l) ≡ r → plain (or_else o m) ≡ r
try-refused o m e g = plain-tried o m ∙ (ap (λ o. or_else o (λ l. plain (m l))) e ∙ g)

-- the reason is given in the end
pub explained : {A : Type 0} (o : Outcome A) (q : Reason) → or_else o (refuse q) ≡ or_else (plain o) (refuse q)
explained (Done a l) q = refl
explained (Refused r l) q = refl
explained Spent q = refl

pub paid : {A : Type 0} (m : Charged A) (n : ℕ) → 0 < n → charge m n ≡ m (n - 1)
paid m n h =
    let p : n ≡ suc (n - 1) = omega (arith, h) in
    ap (charge m) p

-- by what an outcome is, a number is at most what it leaves
pub by-outcome : {A : Type 0} (o : Outcome A) (r : ℕ) → (o ≡ Spent → r ≤ 0) → ((q : Reason) (l : ℕ) → o ≡ Refused q l → r ≤ l) → ((a : A) (l : ℕ) → o ≡ Done a l → r ≤ l) → r ≤ rest o
by-outcome (Done a l) r f g h = h a l refl
by-outcome (Refused q l) r f g h = g q l refl
by-outcome Spent r f g h = f refl

pub by-option : {A P : Type 0} (o : Option A) → (o ≡ None → P) → ((a : A) → o ≡ Some a → P) → P
by-option None f g = f refl
by-option (Some a) f g = g a refl

pub by-bool : {P : Type 0} (b : Bool) → (b ≡ false → P) → (b ≡ true → P) → P
by-bool false f g = f refl
by-bool true f g = g refl

plain-rest : {A : Type 0} (o : Outcome A) → rest (plain o) ≡ rest o
plain-rest (Done a l) = refl
plain-rest (Refused q l) = refl
plain-rest Spent = refl

leaves : {A : Type 0} (m : Charged A) (n : ℕ) → Agree n 0 m m → rest (plain (m n)) ≤ n
leaves m n h = rw (plain-rest (m n)) (agree-rest m n h)

-- no part leaves more than was given
pub body_given-rest : (ms : Metas) (n : ℕ) (v : Tree) (k : ℕ) → rest (body_given ms n v k) ≤ k
unfolding body_given
body_given-rest ms n v k = leaves _ k (given-agree k 0 ms n v)

pub body_pairs-rest : (E : Environment) (S : Store) (bs cs : Arms) (n : ℕ) → rest (body_pairs E S bs cs n) ≤ n
unfolding body_pairs
body_pairs-rest E S bs cs n = leaves _ n (same_bodies-agree n 0 E S bs cs)

module _ (E : Environment) (H : List Hint) (ms : Metas) where
  pub unify-rest : (Γ : List Hypothesis) (mode : Mode) (t u : Tree) (n : ℕ) → rest (unify E H ms Γ mode t u n) ≤ n
  unify-rest Γ mode t u n = agree-rest _ n (unify-agree E H n 0 ms Γ mode t u)

  itself : (n : ℕ) (q : Question) → Agree n 0 (unified E H q) (unified E H q)
  itself n q = unified-agree E H n 0 q

  pub side_assignment-rest : (t u : Tree) (n : ℕ) → rest (side_assignment E H ms t u n) ≤ n
  unfolding side_assignment
  side_assignment-rest t u n = leaves _ n (assign_side-agree E n 0 _ _ (itself n) ms t u)

  pub assignment-rest : (t u : Tree) (n : ℕ) → rest (assignment E H ms t u n) ≤ n
  unfolding assignment
  assignment-rest t u n = leaves _ n (by_assignment-agree E n 0 _ _ (itself n) ms t u)

  pub meta_assignment-rest : (n : ℕ) (s : Trees) (u : Tree) (k : ℕ) → rest (meta_assignment E H ms n s u k) ≤ k
  unfolding meta_assignment
  meta_assignment-rest n s u k = leaves _ k (assign-agree E k 0 _ _ (itself k) ms n s u)

  pub typed_assignment-rest : (n : ℕ) (Δ : List Hypothesis) (a v : Tree) (k : ℕ) → rest (typed_assignment E H ms n Δ a v k) ≤ k
  unfolding typed_assignment
  typed_assignment-rest n Δ a v k =
      let own = infer E (store_of ms) (reverse Δ) v in
      leaves _ k (then-agree k 0 own own _ _ (infer-agree E (store_of ms) k 0 (reverse Δ) v) (λ t.
      let q : Question = (ms, reverse Δ, AtMost, t, a) in
      then-agree k 0 (unified E H q) (unified E H q) _ _ (itself k q) (λ ms'. given-agree k 0 ms' n v)))

  pub term_pairs-rest : (Γ : List Hypothesis) (s r : Trees) (n : ℕ) → rest (term_pairs E H ms Γ s r n) ≤ n
  unfolding term_pairs
  term_pairs-rest Γ s r n = leaves _ n (by_terms-agree E n 0 _ _ (itself n) ms Γ s r)

  pub parts-rest : (Γ : List Hypothesis) (t u : Tree) (n : ℕ) → rest (parts E H ms Γ t u n) ≤ n
  unfolding parts
  parts-rest Γ t u n = leaves _ n (by_parts-agree E n 0 _ _ (itself n) ms Γ t u)

  pub match_parts-rest : (Γ : List Hypothesis) (c d : Tree) (bs cs : Arms) (n : ℕ) → rest (match_parts E H ms Γ c d bs cs n) ≤ n
  unfolding match_parts
  match_parts-rest Γ c d bs cs n =
      let q : Question = (ms, Γ, Equal, c, d) in
      leaves _ n (then-agree n 0 (unified E H q) (unified E H q) _ _ (itself n q) (λ ms'.
      then-agree n 0 _ _ _ _ (same_bodies-agree n 0 E (store_of ms') bs cs) (λ z. give-agree n 0 ms')))

  pub equations_met-rest : (Γ : List Hypothesis) (us : Trees) (es : List Equation) (n : ℕ) → rest (equations_met E H Γ us es ms n) ≤ n
  unfolding equations_met
  equations_met-rest Γ us es n = leaves _ n (by_equations-agree n 0 _ _ (itself n) Γ us es ms)

  pub sides_met-rest : (Γ : List Hypothesis) (h : Hint) (v : Metas × Trees) (t u : Tree) (n : ℕ) → rest (sides_met E H Γ h v t u n) ≤ n
  unfolding sides_met
  sides_met-rest Γ h v t u n = leaves _ n (by_sides-agree n 0 _ _ (itself n) Γ h v t u)

  pub candidate_met-rest : (Γ : List Hypothesis) (t u : Tree) (c : Candidate) (n : ℕ) → rest (candidate_met E H ms Γ t u c n) ≤ n
  unfolding candidate_met
  candidate_met-rest Γ t u c n = leaves _ n (by_hint-agree n 0 _ _ (itself n) ms Γ t u c)

  pub hinted-rest : (Γ : List Hypothesis) (t u : Tree) (cs : List Candidate) (n : ℕ) → rest (hinted E H ms Γ t u cs n) ≤ n
  unfolding hinted
  hinted-rest Γ t u cs n = leaves _ n (by_hints-agree n 0 _ _ (itself n) ms Γ t u cs)

  module _ (Γ : List Hypothesis) (mode : Mode) (t u : Tree) where
    types-agree : (n : ℕ) → Agree n 0 (by_types E (unified E H) ms Γ mode t u) (by_types E (unified E H) ms Γ mode t u)
    types-agree n = by_types-agree E n 0 _ _ (itself n) ms Γ mode t u

    left-agree : (n : ℕ) (m : Charged Metas) → Agree n 0 m m → Agree n 0 (left_step E H ms Γ mode t u m) (left_step E H ms Γ mode t u m)
    left-agree n m h = then-agree n 0 _ _ _ _ (step-agree E (store_of ms) n 0 t) (on_step-agree E n 0 _ _ (itself n) _ _ _ h)

    right-agree : (n : ℕ) (m : Charged Metas) → Agree n 0 m m → Agree n 0 (right_step E H ms Γ mode t u m) (right_step E H ms Γ mode t u m)
    right-agree n m h = then-agree n 0 _ _ _ _ (step-agree E (store_of ms) n 0 u) (on_step-agree E n 0 _ _ (itself n) _ _ _ h)

    pub types-rest : (n : ℕ) → rest (types E H ms Γ mode t u n) ≤ n
    unfolding types
    types-rest n = leaves _ n (types-agree n)

    pub left_step_last-rest : (n : ℕ) → rest (left_step_last E H ms Γ mode t u n) ≤ n
    unfolding left_step_last
    left_step_last-rest n = leaves _ n (left-agree n _ (types-agree n))

    pub right_step_last-rest : (n : ℕ) → rest (right_step_last E H ms Γ mode t u n) ≤ n
    unfolding right_step_last
    right_step_last-rest n = leaves _ n (right-agree n _ (types-agree n))

    pub left_step_first-rest : (n : ℕ) → rest (left_step_first E H ms Γ mode t u n) ≤ n
    unfolding left_step_first
    left_step_first-rest n = leaves _ n (left-agree n _ (right-agree n _ (types-agree n)))

    pub right_step_first-rest : (n : ℕ) → rest (right_step_first E H ms Γ mode t u n) ≤ n
    unfolding right_step_first
    right_step_first-rest n = leaves _ n (right-agree n _ (left-agree n _ (types-agree n)))

    step-tried : (n : ℕ) → Agree n 0 (by_step E (unified E H) ms Γ mode t u (by_types E (unified E H) ms Γ mode t u)) (by_step E (unified E H) ms Γ mode t u (by_types E (unified E H) ms Γ mode t u))
    step-tried n = by_step-agree E n 0 _ _ (itself n) ms Γ mode t u _ _ (types-agree n)

    pub stepped-rest : (n : ℕ) → rest (stepped E H ms Γ mode t u n) ≤ n
    unfolding stepped
    stepped-rest n = leaves _ n (step-tried n)

    pub attempt_unassigned-rest : (n : ℕ) → rest (attempt_unassigned E H ms Γ mode t u n) ≤ n
    unfolding attempt_unassigned
    attempt_unassigned-rest n =
        leaves _ n (tried-agree n 0 _ _ _ _ (by_assignment-agree E n 0 _ _ (itself n) ms t u) (tried-agree n 0 _ _ _ _ (by_parts-agree E n 0 _ _ (itself n) ms Γ t u) (tried-agree n 0 _ _ _ _ (by_hints-agree n 0 _ _ (itself n) ms Γ t u _) (step-tried n))))

    pub attempt-rest : (n : ℕ) → rest (attempt E H ms Γ mode t u n) ≤ n
    unfolding attempt
    attempt-rest n = leaves _ n (by_rules-agree E n 0 _ _ (itself n) H ms Γ mode t u)
